use Rattle.std.proofs.Common.{◌≡◌, ◌++◌, take}
use Rattle.result_recorders.specs.Lines.{amounts_text}
use Rattle.result_recorders.proofs.lines.put_amounts.Given as goal

-- the amounts so far were appended behind the word
abbrev pub invariant-loop-at : goal.invariant-loop-at
invariant-loop-at l = l.out ≡ l.fn.out ++ l.word ++ amounts_text (take l.at l.amounts)
