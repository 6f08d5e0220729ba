use Rattle.std.proofs.Common.{◌≡◌, ◌+◌, ◌-◌, ap, ◌∙◌, arith}
use Rattle.fixed_interval.specs.Rounding.{floor_div, ceil_div}
use Rattle.outage_table.specs.Grid.{grid}
use Rattle.outage_table.specs.States.{total_capacity, outage_weight, short_weight}
use Rattle.outage_table.proofs.LackLaws.{short_weight-outage}
use Rattle.outage_table.proofs.StateLaws.{all_weight-pos}
use Rattle.outage_table.proofs.GridLaws.{grid_ends, part-high}
use Rattle.outage_table.proofs.table.OutageTable.at_least.Goals as goal

pub returns-clause-encloses : goal.returns-clause-encloses
returns-clause-encloses c = record {
  below = rw c.entry.ensures.low ((grid_ends _ c.entry.ensures.rated).below c.args.x);
  above = rw c.entry.ensures.high ((grid_ends _ c.entry.ensures.rated).above c.args.x);
}

pub returns-clause-possible : goal.returns-clause-possible
returns-clause-possible c = all_weight-pos _ c.entry.ensures.rated

pub returns-clause-width : goal.returns-clause-width
returns-clause-width c =
    rw (c.entry.ensures.low, c.entry.ensures.high) ((grid_ends _ c.entry.ensures.rated).width c.args.x)

pub returns-clause-certain : goal.returns-clause-certain
returns-clause-certain c none = (
  c.entry.ensures.low ∙ ap (grid floor_div c.args.self.now) none ∙ (grid_ends _ c.entry.ensures.rated).certain_low,
  c.entry.ensures.high ∙ ap (grid ceil_div c.args.self.now) none ∙ (grid_ends _ c.entry.ensures.rated).certain_high,
)

pub returns-clause-past : goal.returns-clause-past
returns-clause-past c more = (
  c.entry.ensures.low ∙ (grid_ends _ c.entry.ensures.rated).past_low c.args.x more,
  c.entry.ensures.high ∙ (grid_ends _ c.entry.ensures.rated).past_high c.args.x more,
)

pub returns-clause-part : goal.returns-clause-part
returns-clause-part c = rw c.entry.ensures.high (part-high c.args.self.now c.args.x c.entry.ensures.rated)

pub returns-clause-falls : goal.returns-clause-falls
returns-clause-falls c y more = (
  rw c.entry.ensures.low ((grid_ends _ c.entry.ensures.rated).falls_low c.args.x y more),
  rw c.entry.ensures.high ((grid_ends _ c.entry.ensures.rated).falls_high c.args.x y more),
)

pub returns-clause-short : goal.returns-clause-short
returns-clause-short c need spared =
    let weight : short_weight c.args.self.now 0 need ≡ outage_weight c.args.self.now 0 c.args.x
    = short_weight-outage c.args.self.now 0 need
    ∙ ap (λ n. outage_weight c.args.self.now 0 n)
    (let same : total_capacity c.args.self.now + 0 + 1 - need ≡ c.args.x = omega arith in same) in
    record {
      below = rw (c.entry.ensures.low, weight) ((grid_ends _ c.entry.ensures.rated).below c.args.x);
      above = rw (c.entry.ensures.high, weight) ((grid_ends _ c.entry.ensures.rated).above c.args.x);
    }
