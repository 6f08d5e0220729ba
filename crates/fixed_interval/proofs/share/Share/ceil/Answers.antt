use Rattle.std.proofs.Common.{◌≡◌, ◌*◌, ◌/◌, ◌%◌, ◌^◌, refl, arith}
use Rattle.fixed_interval.proofs.ShareLaws.{share_ceil, small_ceil_min}
use Rattle.fixed_interval.proofs.share.Share.ceil.Goals as goal

pub returns-then-rest-from-lt-WORD-clause-value : goal.returns-then-rest-from-lt-WORD-clause-value
returns-then-rest-from-lt-WORD-clause-value c =
    let product : c.from.result * c.from-2.result ≡ c.args.difference * c.args.self.reciprocal = rw (c.from.ensures, c.from-2.ensures) refl in
    share_ceil (2 ^ 64) c.args.self.out c.args.self.all c.args.difference c.args.self.reciprocal
    ((c.from.result * c.from-2.result) / 18446744073709551616) ((c.from.result * c.from-2.result) % 18446744073709551616)
    (omega arith) c.args.self.weighed c.args.self.below c.args.self.above (omega arith) (omega arith) (omega arith)

pub returns-then-difference-self-clause-value : goal.returns-then-difference-self-clause-value
returns-then-difference-self-clause-value c =
    rw c.min.ensures (small_ceil_min c.args.self.out c.args.self.small c.args.self.all c.args.difference c.args.self.weighed c.args.self.less c.args.self.none (omega arith))
