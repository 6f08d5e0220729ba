use Rattle.std.proofs.Common.{length}
use Rattle.adequacy.proofs.tables.+read_tables.Given as goal

abbrev pub decreases-read_tables : goal.decreases-read_tables
decreases-read_tables g l = length l.order.now
