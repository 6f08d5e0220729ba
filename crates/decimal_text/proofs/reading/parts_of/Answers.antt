use Rattle.std.proofs.Common.{ap, ◌∙◌}
use Rattle.std.proofs.lemmas.List.{nil_from_length}
use Rattle.decimal_text.specs.Faults.{HasLength}
use Rattle.decimal_text.specs.Reading.{or_no_number}
use Rattle.decimal_text.proofs.Fronts.{fault_is_within}
use Rattle.decimal_text.proofs.ScanLaws.{none_there, some_there}
use Rattle.decimal_text.proofs.Laws.{empty_read, long_read, short_read, numeral_parts}
use Rattle.decimal_text.proofs.reading.parts_of.Goals as goal

pub returns-then-is_empty-clause-err : goal.returns-then-is_empty-clause-err
returns-then-is_empty-clause-err c = empty_read c.args.field.now (nil_from_length _ (none_there _ c.if-is_empty.ensures))

pub returns-then-field-gt-MOST_BYTES-clause-err : goal.returns-then-field-gt-MOST_BYTES-clause-err
returns-then-field-gt-MOST_BYTES-clause-err c = long_read c.args.field.now c.if-field-gt-MOST_BYTES.true

pub overflow_sub-result : goal.overflow_sub-result
overflow_sub-result c = fault_is_within c.args.field.now c.in-Err.unread.now c.in-Err.ensures.err

pub returns-in-Ok-clause-ok : goal.returns-in-Ok-clause-ok
returns-in-Ok-clause-ok c =
    let len : HasLength c.args.field.now = record { some = some_there _ c.if-is_empty.ensures; few = c.if-field-gt-MOST_BYTES.false } in
    let p = c.in-Ok.parts in
    numeral_parts c.args.field.now p.whole.now p.behind.now p.raised p.lowered len c.in-Ok.ensures.read

pub returns-in-Err-clause-err : goal.returns-in-Err-clause-err
returns-in-Err-clause-err c =
    let len : HasLength c.args.field.now = record { some = some_there _ c.if-is_empty.ensures; few = c.if-field-gt-MOST_BYTES.false } in
    short_read c.args.field.now len ∙ ap (or_no_number _) c.in-Err.ensures.err
