use Rattle.std.proofs.Common.{arith}
use Rattle.result_recorders.proofs.lines.total_of.Goals as goal

pub overflow_add-total : goal.overflow_add-total
overflow_add-total c = omega arith
