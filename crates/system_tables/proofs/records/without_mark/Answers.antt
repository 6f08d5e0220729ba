use Rattle.std.proofs.Common.{◌∙◌, sym, arith}
use Rattle.std.proofs.lemmas.List.{take_all, length-drop}
use Rattle.system_tables.proofs.TextLaws.{strip_marked}
use Rattle.system_tables.proofs.records.without_mark.Goals as goal

pub returns-then-has_mark : goal.returns-then-has_mark
returns-then-has_mark c =
    take_all _ _ (omega (arith, length-drop 3 c.args.table.now)) ∙ sym (strip_marked c.args.table.now (sym c.if-has_mark.ensures))
