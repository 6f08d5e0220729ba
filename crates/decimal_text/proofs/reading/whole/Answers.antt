use Rattle.std.proofs.Common.{ℕ, Result, Err, Option, ◌∙◌, sym, ap}
use Rattle.std.proofs.lemmas.Result.{err_from_is_err_and}
use Rattle.decimal_text.specs.declared.fault.NumberFault.{NumberFault}
use Rattle.decimal_text.specs.Reading.{numeral_of, up_to_limit, if_whole}
use Rattle.decimal_text.proofs.Laws.{read_whole_is, fault_whole, capped_limit, numeral_from}
use Rattle.decimal_text.proofs.reading.whole.Goals as goal

pub returns-in_err-parts : goal.returns-in_err-parts
returns-in_err-parts c =
    let p = err_from_is_err_and c.from_residual.result c.from_residual.ensures.1 in
    p.1 ∙ ap (λ (f : NumberFault). let r : Result ℕ NumberFault = Err f in r) p.2 ∙ sym (fault_whole c.args.field.now c.in_err-parts.field-0.0 c.in_err-parts.ensures.err)

pub returns-in-Some : goal.returns-in-Some
returns-in-Some c =
    let p = c.in_ok-parts.parts in
    let (n, e, a) = numeral_from (numeral_of c.args.field.now) p.whole.now p.behind.now p.raised p.lowered c.in_ok-parts.ensures.ok in
    sym (read_whole_is c.args.field.now n e ∙ ap (λ (o : Option ℕ). if_whole o n) (sym (c.in-Some.ensures n a)))

pub returns : goal.returns
returns c =
    let p = c.in_ok-parts.parts in
    let (n, e, a) = numeral_from (numeral_of c.args.field.now) p.whole.now p.behind.now p.raised p.lowered c.in_ok-parts.ensures.ok in
    c.within_limit.ensures ∙ ap up_to_limit (c.scaled.ensures n a) ∙ capped_limit _
    ∙ sym (read_whole_is c.args.field.now n e ∙ ap (λ (o : Option ℕ). if_whole o n) (sym (c.in_default.ensures n a)))
