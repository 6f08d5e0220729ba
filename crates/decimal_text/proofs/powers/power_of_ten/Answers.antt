use Rattle.std.proofs.Common.{arith}
use Rattle.decimal_text.proofs.TenPowers.{ten_some, ten_fits}
use Rattle.decimal_text.proofs.powers.power_of_ten.Goals as goal

pub pow-requires : goal.pow-requires
pow-requires c = ten_fits c.from.result (omega arith)

pub returns-clause-some : goal.returns-clause-some
returns-clause-some c = omega (arith, ten_some c.from.result)
