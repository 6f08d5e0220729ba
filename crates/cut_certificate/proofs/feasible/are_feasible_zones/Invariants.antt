use Rattle.std.proofs.Common.{ℕ, ◌<◌}
use Rattle.cut_certificate.specs.Parts.{IsFeasibleZone}
use Rattle.cut_certificate.proofs.feasible.are_feasible_zones.Given as goal

abbrev pub invariant-loop-z : goal.invariant-loop-z
invariant-loop-z l = (z : ℕ) → z < l.z → IsFeasibleZone l.net l.outcome l.chain z
