use Rattle.std.proofs.Common.{sym}
use Rattle.fixed_interval.proofs.ShareLaws.{small_ceil_min}
use Rattle.fixed_interval.proofs.share.Share.small.Goals as goal

pub returns : goal.returns
returns c d h =
    sym (small_ceil_min c.args.self.out c.args.self.small c.args.self.all d c.args.self.weighed c.args.self.less c.args.self.none h)
