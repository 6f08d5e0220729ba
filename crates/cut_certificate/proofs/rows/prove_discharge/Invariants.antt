use Rattle.cut_certificate.specs.Chain.{ProveDischarge}
use Rattle.cut_certificate.proofs.rows.prove_discharge.Given as goal

abbrev pub invariant-loop-k : goal.invariant-loop-k
invariant-loop-k l = ProveDischarge l.net l.outcome l.chain l.k
