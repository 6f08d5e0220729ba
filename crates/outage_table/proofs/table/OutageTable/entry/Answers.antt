use Rattle.std.proofs.Common.{arith}
use Rattle.outage_table.proofs.TableLaws.{low_past, high_past}
use Rattle.outage_table.proofs.table.OutageTable.entry.Goals as goal

pub returns-then-x-len-clause-low : goal.returns-then-x-len-clause-low
returns-then-x-len-clause-low c = rw (← c.self.view_is) (low_past c.self.inside.entries.items _ c.args.x c.self.invariant (omega arith))

pub returns-then-x-len-clause-high : goal.returns-then-x-len-clause-high
returns-then-x-len-clause-high c = rw (← c.self.view_is) (high_past c.self.inside.entries.items _ c.args.x c.self.invariant (omega arith))
