use Rattle.std.proofs.Common.{◌≡◌, subst, arith}
use Rattle.fixed_interval.specs.Rounding.{floor_div, ceil_div}
use Rattle.outage_table.specs.Grid.{unserved_grid}
use Rattle.outage_table.proofs.StateLaws.{AreRated, all_weight-pos}
use Rattle.outage_table.proofs.UnservedLaws.{unserved-below, unserved-above, unserved-width, unserved_grid-rises}
use Rattle.outage_table.proofs.table.OutageTable.unserved.Goals as goal

pub returns-clause-encloses : goal.returns-clause-encloses
returns-clause-encloses c =
    let whole : c.loop-most.most ≡ c.args.need = omega arith in
    let low : c.loop-most.sum.0 ≡ unserved_grid floor_div c.args.self.now c.args.need = rw (← whole) c.loop-most.invariant.low in
    let high : c.loop-most.sum.1.0 ≡ unserved_grid ceil_div c.args.self.now c.args.need = rw (← whole) c.loop-most.invariant.high in
    let rated : AreRated c.args.self.now = subst AreRated c.self.view_is c.self.invariant.rated in
    record {
      below = rw low (unserved-below c.args.self.now rated c.args.need);
      above = rw high (unserved-above c.args.self.now rated c.args.need);
    }

pub returns-clause-possible : goal.returns-clause-possible
returns-clause-possible c = all_weight-pos c.args.self.now (subst AreRated c.self.view_is c.self.invariant.rated)

pub returns-clause-width : goal.returns-clause-width
returns-clause-width c =
    let whole : c.loop-most.most ≡ c.args.need = omega arith in
    let low : c.loop-most.sum.0 ≡ unserved_grid floor_div c.args.self.now c.args.need = rw (← whole) c.loop-most.invariant.low in
    let high : c.loop-most.sum.1.0 ≡ unserved_grid ceil_div c.args.self.now c.args.need = rw (← whole) c.loop-most.invariant.high in
    let rated : AreRated c.args.self.now = subst AreRated c.self.view_is c.self.invariant.rated in
    rw (low, high) (unserved-width c.args.self.now rated c.args.need)

pub returns-clause-rises : goal.returns-clause-rises
returns-clause-rises c more h =
    let whole : c.loop-most.most ≡ c.args.need = omega arith in
    let low : c.loop-most.sum.0 ≡ unserved_grid floor_div c.args.self.now c.args.need = rw (← whole) c.loop-most.invariant.low in
    let high : c.loop-most.sum.1.0 ≡ unserved_grid ceil_div c.args.self.now c.args.need = rw (← whole) c.loop-most.invariant.high in (
      rw low (unserved_grid-rises floor_div c.args.self.now c.args.need more h),
      rw high (unserved_grid-rises ceil_div c.args.self.now c.args.need more h),
    )
