use Rattle.std.proofs.Common.{◌≡◌, drop}
use Rattle.ra_base.specs.MemoryShelf.{shelved}
use Rattle.ra_base.proofs.memory_shelf.find.Given as goal

-- the entries looked at so far hold no such table
abbrev pub invariant-loop-entry : goal.invariant-loop-entry
invariant-loop-entry l = shelved l.entries l.folder l.table ≡ shelved (drop l.entry-index l.entries) l.folder l.table
