use Rattle.std.proofs.Common.{ℕ, ◌<◌}
use Rattle.cut_certificate.specs.Parts.{IsFeasibleLink}
use Rattle.cut_certificate.proofs.feasible.are_feasible_links.Given as goal

abbrev pub invariant-loop-l : goal.invariant-loop-l
invariant-loop-l l = (i : ℕ) → i < l.l → IsFeasibleLink l.net l.flows i
