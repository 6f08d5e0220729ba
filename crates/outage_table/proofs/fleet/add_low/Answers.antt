use Rattle.std.proofs.Common.{◌+◌, arith}
use Rattle.outage_table.proofs.FleetLaws.{low_added}
use Rattle.outage_table.proofs.fleet.add_low.Goals as goal

pub returns-clause-ok : goal.returns-clause-ok
returns-clause-ok c =
    low_added c.args.ends.now.items c.resize.new.self.items c.deref_mut.result.now c.mix_low.new.ends c.trim.new.ends.items
    c.resize.new.self.len (c.len.result + c.args.capacity) _ c.args.capacity c.args.share.out c.args.share.all c.args.share.weighed
    (omega arith) c.in_ok-resize.ensures.items (omega (arith, c.in_ok-resize.ensures.len)) (omega (arith, c.in_ok-resize.ensures.len)) c.deref_mut.ensures.value (omega arith) c.mix_low.ensures c.trim.ensures.same
