use Rattle.std.proofs.Common.{arith}
use Rattle.decimal_text.proofs.Caps.{past_limit}
use Rattle.decimal_text.proofs.scaling.with_zeros.Goals as goal

pub returns-then-zeros-gt18 : goal.returns-then-zeros-gt18
returns-then-zeros-gt18 c = past_limit c.args.number c.args.zeros (omega arith) (omega arith)
