use Rattle.std.proofs.Common.{◌≡◌, ℕ, ◌<◌, get_or}
use Rattle.decimal_text.proofs.scaling.first_not_zero.Given as goal

-- each digit so far is 0
abbrev pub invariant-loop-i : goal.invariant-loop-i
invariant-loop-i l = (k : ℕ) → k < l.i → get_or l.digits k 0 ≡ 48
