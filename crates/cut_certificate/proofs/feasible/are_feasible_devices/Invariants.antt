use Rattle.std.proofs.Common.{ℕ, ◌<◌}
use Rattle.cut_certificate.specs.Parts.{IsFeasibleDevice}
use Rattle.cut_certificate.proofs.feasible.are_feasible_devices.Given as goal

abbrev pub invariant-loop-k : goal.invariant-loop-k
invariant-loop-k l = (k : ℕ) → k < l.k → IsFeasibleDevice l.net l.outcome k
