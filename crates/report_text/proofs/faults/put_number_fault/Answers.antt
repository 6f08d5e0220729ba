use Rattle.std.proofs.Common.{◌∙◌, append_assoc}
use Rattle.std.specs.Prelude.{codes}
use Rattle.std.proofs.lemmas.Result.{on_ok_weaker}
use Rattle.decimal_text.specs.DecimalText.{whole_text}
use Rattle.report_text.proofs.faults.put_number_fault.Goals as goal

pub returns-in-NotANumber : goal.returns-in-NotANumber
returns-in-NotANumber c =
    rw (c.in-NotANumber.is, ← c.from.ensures) (on_ok_weaker c.put_counted.result (λ e. e ∙ append_assoc c.args.out.now (codes "not a number at ") (whole_text c.from.result)) c.put_counted.ensures)

pub returns-in-NotWhole : goal.returns-in-NotWhole
returns-in-NotWhole c =
    rw (c.in-NotWhole.is, ← c.from-in-NotWhole.ensures) (on_ok_weaker c.put_counted-in-NotWhole.result (λ e. e ∙ append_assoc c.args.out.now (codes "not whole at ") (whole_text c.from-in-NotWhole.result)) c.put_counted-in-NotWhole.ensures)
