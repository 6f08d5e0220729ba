use Rattle.std.proofs.Common.{◌≡◌, ◌++◌, map, take}
use Rattle.report_text.specs.TotalsText.{shown_byte}
use Rattle.report_text.proofs.names.put_name.Given as goal

-- what was appended so far
abbrev pub invariant-loop-byte : goal.invariant-loop-byte
invariant-loop-byte l = l.out ≡ l.initial.out ++ map shown_byte (take l.byte-index l.name)
