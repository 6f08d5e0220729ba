use Rattle.system_tables.proofs.ColumnLaws.{AreSoFar}
use Rattle.system_tables.proofs.columns.find.Given as goal

abbrev pub invariant-loop-at : goal.invariant-loop-at
invariant-loop-at l = AreSoFar l.header.row l.name l.at l.first
