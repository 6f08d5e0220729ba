use Rattle.std.proofs.Common.{◌≤◌, ◌+◌, ◌-◌, length, vec_len, vec_capacity}
use Rattle.sample_totals.proofs.CutRowsLemmas.{AddsFirst}
use Rattle.sample_totals.proofs.cut_rows.add_rows.Given as goal

-- the rows so far are added, and there is room for the others
abbrev pub invariant-loop-row : goal.invariant-loop-row
invariant-loop-row l = AddsFirst l.initial.rows.items l.more l.row-index l.rows.items × (vec_len l.rows + (length l.more - l.row-index) ≤ vec_capacity l.rows)
