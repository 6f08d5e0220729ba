use Rattle.std.proofs.Common.{◌≡◌, take}
use Rattle.std.specs.Str.Parse.{digits_value_after}
use Rattle.decimal_text.specs.Scanning.{capped}
use Rattle.decimal_text.proofs.scaling.with_digits.Given as goal

-- the number that the digits so far write, capped
abbrev pub invariant-loop-digit : goal.invariant-loop-digit
invariant-loop-digit l = l.number ≡ capped (digits_value_after 10 l.start (take l.digit-index l.digits))
