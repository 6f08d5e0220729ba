use Rattle.cut_certificate.specs.Chain.{ProveCharge}
use Rattle.cut_certificate.proofs.rows.prove_charge.Given as goal

abbrev pub invariant-loop-k : goal.invariant-loop-k
invariant-loop-k l = ProveCharge l.net l.outcome l.chain l.k
