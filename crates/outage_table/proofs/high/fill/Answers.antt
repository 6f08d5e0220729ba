use Rattle.std.proofs.Common.{◌+◌, sym, ap, ◌∙◌, arith}
use Rattle.outage_table.specs.Fleet.{height}
use Rattle.outage_table.proofs.HeightLaws.{height-falls, height-le-length}
use Rattle.outage_table.proofs.FarLaws.{end_of-push}
use Rattle.outage_table.proofs.high.fill.Goals as goal

pub loop-x-preserved : goal.loop-x-preserved
loop-x-preserved c = record {
  len = omega (arith, c.in_ok-push.ensures.len, c.loop-x.invariant.len);
  most = omega arith;
  within = omega (arith, c.height_at-end.ensures, height-le-length c.args.bounds.now c.loop-x.x);
  enough = omega (arith, c.height_at-end.ensures, height-falls c.args.bounds.now c.loop-x.x (c.loop-x.x + 1) (omega arith));
  same = λ k.
      end_of-push c.loop-x.near.items c.push.new.self.items c.args.bounds.now c.height_at-end.result k c.in_ok-push.ensures.items
      (c.height_at-end.ensures ∙ ap (height c.args.bounds.now) (sym c.loop-x.invariant.len))
      ∙ c.loop-x.invariant.same k;
}

pub returns-clause-len : goal.returns-clause-len
returns-clause-len c = omega (arith, c.loop-x.invariant.len)
