use Rattle.std.proofs.Common.{refl}
use Rattle.outage_table.proofs.TableLaws.{table_none}
use Rattle.outage_table.proofs.table.OutageTable.empty.Goals as goal

pub invariant_of-result : goal.invariant_of-result
invariant_of-result c =
    table_none _ _ _ _ c.in_ok-push.ensures.items c.new-entries.ensures.items c.new.ensures.items refl refl
