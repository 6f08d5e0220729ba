use Rattle.std.proofs.Common.{◌≡◌, ◌*◌, ◌/◌, ◌%◌, ◌^◌, refl, arith}
use Rattle.fixed_interval.proofs.ShareLaws.{share_floor}
use Rattle.fixed_interval.proofs.share.Share.floor.Goals as goal

pub returns-then-rest-from-lt-WORD-clause-value : goal.returns-then-rest-from-lt-WORD-clause-value
returns-then-rest-from-lt-WORD-clause-value c =
    let product : c.from.result * c.from-2.result ≡ c.args.difference * c.args.self.reciprocal = rw (c.from.ensures, c.from-2.ensures) refl in
    share_floor (2 ^ 64) c.args.self.out c.args.self.all c.args.difference c.args.self.reciprocal
    ((c.from.result * c.from-2.result) / 18446744073709551616) ((c.from.result * c.from-2.result) % 18446744073709551616)
    (omega arith) c.args.self.weighed c.args.self.below c.args.self.above (omega arith) (omega arith)
