use Rattle.std.proofs.Common.{ℕ, Result, sym, subst, ◌∙◌}
use Rattle.decimal_text.specs.declared.fault.NumberFault.{NumberFault}
use Rattle.decimal_text.specs.Faults.{IsBillionthsAnswer}
use Rattle.decimal_text.proofs.Laws.{billionths_answers, billionths_only}
use Rattle.decimal_text.proofs.reading.read_billionths.Goals as goal

pub returns-clause-answer : goal.returns-clause-answer
returns-clause-answer c = subst (λ (r : Result ℕ NumberFault). IsBillionthsAnswer c.args.field.now r) (sym c.billionths.ensures) (billionths_answers c.args.field.now)

pub returns-clause-only : goal.returns-clause-only
returns-clause-only c = λ r a. c.billionths.ensures ∙ billionths_only c.args.field.now r a
