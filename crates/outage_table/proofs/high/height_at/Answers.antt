use Rattle.std.proofs.Common.{◌-◌, arith}
use Rattle.outage_table.proofs.HeightLaws.{height-le, height-more}
use Rattle.outage_table.proofs.high.height_at.Goals as goal

pub near-preserved : goal.near-preserved
near-preserved c = record {
  within = omega arith;
  enough = height-le c.args.bounds.now (c.near.count - 1) c.args.x c.requires.descending (omega arith);
}

pub returns-then-bounds-count : goal.returns-then-bounds-count
returns-then-bounds-count c =
    omega (arith, height-more c.args.bounds.now (c.near.count - 1) c.args.x c.requires.descending (omega arith))
