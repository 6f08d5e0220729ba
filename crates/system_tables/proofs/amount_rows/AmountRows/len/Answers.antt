use Rattle.std.proofs.Common.{length, sym, ap, ◌∙◌}
use Rattle.system_tables.specs.AmountRows.{HeldRows}
use Rattle.system_tables.proofs.AmountRowLaws.{length-rows_of}
use Rattle.system_tables.proofs.amount_rows.AmountRows.len.Goals as goal

pub returns : goal.returns
returns c =
    sym (length-rows_of c.self.inside.width c.self.inside.count c.self.inside.amounts.items)
    ∙ ap (λ (held : HeldRows). length held.rows) c.self.view_is
