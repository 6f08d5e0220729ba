use Rattle.std.proofs.Common.{◌-◌, arith}
use Rattle.std.proofs.lemmas.List.{get_or_read}
use Rattle.outage_table.proofs.FarLaws.{take_more}
use Rattle.outage_table.proofs.high.take_over.Goals as goal

pub last-preserved : goal.last-preserved
last-preserved c = record {
  within = omega arith;
  taken = take_more c.args.near.now.items c.args.bounds.now.items c.last.bounds.items c.resize.new.self.items c.last.len _ _ c.requires.falling
      c.last.invariant.taken (omega arith) c.last.invariant.within (get_or_read c.args.near.now.items (c.last.len - 1) c.index-end.result.now (omega (arith, c.last.invariant.within)) c.index-end.ensures 0) c.in_ok-resize.ensures.items (omega (arith, c.in_ok-resize.ensures.len));
}
