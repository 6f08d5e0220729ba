use Rattle.cut_certificate.specs.Chain.{ProveUnserved}
use Rattle.cut_certificate.proofs.rows.prove_unserved.Given as goal

abbrev pub invariant-loop-z : goal.invariant-loop-z
invariant-loop-z l = ProveUnserved l.net l.outcome l.chain l.z
