use Rattle.std.proofs.Common.{ℕ, ◌<◌, get_or}
use Rattle.sample_totals.specs.CutRows.{no_row}
use Rattle.sample_totals.proofs.cut_rows.place_of.Given as goal

-- each row so far has a lesser mask
abbrev pub invariant-loop-at : goal.invariant-loop-at
invariant-loop-at l = (k : ℕ) → k < l.at → (get_or l.rows k no_row).mask < l.mask
