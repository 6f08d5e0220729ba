use Rattle.std.proofs.Common.{ap, subst, sym, arith}
use Rattle.outage_table.specs.States.{total_capacity}
use Rattle.outage_table.specs.Table.{AreFallingEntries}
use Rattle.outage_table.proofs.TableLaws.{filled_falling_entries, table_added}
use Rattle.outage_table.proofs.table.OutageTable.add_unit.Goals as goal

pub mix_all-requires : goal.mix_all-requires
mix_all-requires c =
    subst AreFallingEntries (sym c.deref_mut.ensures.value) (filled_falling_entries _ _ _ _ c.self.invariant c.in-Ok.ensures.ok)

pub invariant_of-self-in-Ok : goal.invariant_of-self-in-Ok
invariant_of-self-in-Ok c =
    table_added c.self.inside.entries.items c.lengthen.new.entries.items c.deref_mut.result.now c.mix_all.new.entries
    c.self.inside.units.items _ (record { capacity = c.args.capacity; rates = c.args.rates }) _ _ c.new-share.result.out c.new-share.result.all
    c.self.invariant c.requires (omega (arith, ap total_capacity c.self.view_is)) (omega (arith, ap total_capacity c.self.view_is)) (omega arith) c.in-Ok.ensures.ok c.deref_mut.ensures.value (omega arith) c.mix_all.ensures
    (omega (arith, c.new-share.ensures.out)) (omega (arith, c.new-share.ensures.all)) (omega arith) c.in_ok-push.ensures.items
