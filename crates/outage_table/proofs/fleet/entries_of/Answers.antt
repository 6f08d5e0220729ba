use Rattle.std.proofs.Common.{◌+◌, get_or, take, sym, subst, ◌∙◌, arith}
use Rattle.std.proofs.lemmas.Result.{IfOk-weaker}
use Rattle.std.proofs.lemmas.List.Elements.{All-take}
use Rattle.std.proofs.lemmas.List.Sums.{sum_by_more}
use Rattle.fixed_interval.specs.Rounding.{floor_div}
use Rattle.system_model.specs.Rates.{AreRates}
use Rattle.outage_table.specs.declared.units.PooledUnit.{PooledUnit}
use Rattle.outage_table.specs.Table.{AreEntries}
use Rattle.outage_table.specs.Fleet.{AreJoined, end_of}
use Rattle.outage_table.proofs.FleetLaws.{AreEnds, low_falling, high_falling, low_more, high_more, high_written, joined_ordered, joined_entries, no_pooled}
use Rattle.outage_table.proofs.fleet.entries_of.Goals as goal

pub add_low-requires-clause-falling : goal.add_low-requires-clause-falling
add_low-requires-clause-falling c =
    low_falling _ _ (All-take (λ unit. AreRates unit.rates) c.loop-unit.unit-index c.args.units.now c.requires.rated) c.loop-unit.invariant.low

pub add_high-requires-clause-falling : goal.add_high-requires-clause-falling
add_high-requires-clause-falling c =
    high_falling _ _ (All-take (λ unit. AreRates unit.rates) c.loop-unit.unit-index c.args.units.now c.requires.rated) c.loop-unit.invariant.high

pub loop-unit-preserved : goal.loop-unit-preserved
loop-unit-preserved c = record {
  low = low_more (λ x. get_or c.loop-unit.low.items x 0) (λ x. get_or c.add_low.new.ends.items x 0) c.args.units.now c.loop-unit.unit-index _ c.new-share.result.out c.new-share.result.all c.requires.rated c.loop-unit-test.true c.loop-unit.invariant.low
      (c.new-share.ensures.out ∙ c.from.ensures) (omega (arith, c.new-share.ensures.all, c.from.ensures, c.from-in-loop-unit.ensures)) c.in_ok-add_low.ensures.ok;
  high = high_more (end_of c.loop-unit.high.near.items c.loop-unit.high.far.items) (end_of c.add_high.new.ends.near.items c.add_high.new.ends.far.items) c.args.units.now c.loop-unit.unit-index _ c.new-share.result.out c.new-share.result.all c.requires.rated c.loop-unit-test.true c.loop-unit.invariant.high
      (c.new-share.ensures.out ∙ c.from.ensures) (omega (arith, c.new-share.ensures.all, c.from.ensures, c.from-in-loop-unit.ensures)) c.in_ok-add_high.ensures.ok;
  total = omega (arith, c.loop-unit.invariant.total, sum_by_more (λ (u : PooledUnit). u.capacity) c.args.units.now c.loop-unit.unit-index no_pooled c.loop-unit-test.true);
  few_low = omega (arith, c.in_ok-add_low.ensures.len, c.loop-unit.invariant.few_low);
  descending = c.in_ok-add_high.ensures.descending;
  few_high = omega (arith, c.in_ok-add_high.ensures.few (c.loop-unit.total + 1) c.loop-unit.invariant.few_high c.loop-unit.invariant.within);
  within = λ i. omega (arith, c.in_ok-add_high.ensures.within (c.loop-unit.total + 1) c.loop-unit.invariant.few_high c.loop-unit.invariant.within i);
}

pub joined-requires : goal.joined-requires
joined-requires c x h =
    rw (c.deref-2.ensures.value, c.deref-3.ensures.value)
    (joined_ordered c.loop-unit.low.items c.fill.new.near.items c.args.units.now c.loop-unit.unit-index (c.loop-unit.total + 1) x c.requires.rated (omega arith) c.loop-unit.invariant.low
    (λ y l. high_written c.loop-unit.high.near.items c.fill.new.near.items c.loop-unit.high.far.items c.deref.result.now (take c.loop-unit.unit-index c.args.units.now) (c.loop-unit.total + 1) y c.loop-unit.invariant.high
    c.deref.ensures.value c.in_ok-fill.ensures.ok (omega (arith, c.in_ok-fill.ensures.len)) l) h)

pub returns : goal.returns
returns c =
    IfOk-weaker c.joined.result
    (λ entries. AreJoined entries.items c.deref-2.result.now c.deref-3.result.now (c.loop-unit.total + 1)) (λ entries. AreEntries entries.items c.args.units.now)
    (λ entries joins. joined_entries c.deref-2.result.now c.deref-3.result.now c.args.units.now c.loop-unit.unit-index entries.items (omega arith)
    (subst (λ es. AreEnds floor_div (λ x. get_or es x 0) (take c.loop-unit.unit-index c.args.units.now)) (sym c.deref-2.ensures.value) c.loop-unit.invariant.low)
    (λ y l. rw c.deref-3.ensures.value
    (high_written c.loop-unit.high.near.items c.fill.new.near.items c.loop-unit.high.far.items c.deref.result.now (take c.loop-unit.unit-index c.args.units.now) (c.loop-unit.total + 1) y c.loop-unit.invariant.high
    c.deref.ensures.value c.in_ok-fill.ensures.ok (omega (arith, c.in_ok-fill.ensures.len)) (omega (arith, c.loop-unit.invariant.total))))
    (rw (← c.loop-unit.invariant.total) joins))
    c.joined.ensures
