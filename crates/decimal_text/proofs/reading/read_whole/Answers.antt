use Rattle.std.proofs.Common.{ℕ, Result, sym, subst, ◌∙◌}
use Rattle.decimal_text.specs.declared.fault.NumberFault.{NumberFault}
use Rattle.decimal_text.specs.Faults.{IsWholeAnswer}
use Rattle.decimal_text.proofs.Laws.{whole_answers, whole_only}
use Rattle.decimal_text.proofs.reading.read_whole.Goals as goal

pub returns-clause-answer : goal.returns-clause-answer
returns-clause-answer c = subst (λ (r : Result ℕ NumberFault). IsWholeAnswer c.args.field.now r) (sym c.whole.ensures) (whole_answers c.args.field.now)

pub returns-clause-only : goal.returns-clause-only
returns-clause-only c = λ r a. c.whole.ensures ∙ whole_only c.args.field.now r a
