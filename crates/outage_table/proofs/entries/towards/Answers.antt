use Rattle.std.proofs.Common.{arith}
use Rattle.outage_table.proofs.MixLaws.{made_ordered}
use Rattle.outage_table.proofs.entries.towards.Goals as goal

pub invariant_of-result : goal.invariant_of-result
invariant_of-result c = record {
  ordered = omega (
    arith,
    made_ordered c.args.share.out c.args.share.all c.args.up_end.low c.args.out_end.low c.args.up_end.high c.args.out_end.high
        c.args.share.weighed c.args.share.part c.requires.low c.requires.high c.args.up_end.ordered c.args.out_end.ordered,
    c.floor-low.ensures.value,
    c.ceil-high.ensures.value,
  );
  bounded = omega arith;
}
