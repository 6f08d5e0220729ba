-- Folders of tables in memory, as their users see them.
use Rattle.std.specs.Prelude.{ℕ, List, [], ◌∷◌, Bool, ◌==◌, ◌&&◌, Some, None, if◌then◌else◌}
use Rattle.std.specs.Str.{bytes_eq}
use Rattle.ra_base.specs.Outside.{Tables}
use Rattle.ra_base.specs.Reading.{Reading}
use Rattle.ra_base.specs.declared.shelf_counts.ShelfCounts.{ShelfCounts}
use Rattle.ra_base.specs.declared.table.TableName.{TableName}
use Rattle.ra_base.specs.declared.table.TableName.TheVariants.{Zones, Units, Interfaces, Lines, Storages, Load, Variable}
use Rattle.ra_base.specs.declared.memory_shelf.Entry.{Entry}
use Rattle.ra_base.specs.declared.memory_shelf.MemoryShelf.{MemoryShelf}

-- the place of a table in their order, which tells them apart
abbrev pub table_number : TableName → ℕ
table_number Zones = 0
table_number Units = 1
table_number Interfaces = 2
table_number Lines = 3
table_number Storages = 4
table_number Load = 5
table_number Variable = 6

-- whether two folders and tables are the same
abbrev pub is_same : List ℕ → TableName → List ℕ → TableName → Bool
is_same folder table f t = (table_number table == table_number t) && bytes_eq folder f

-- the tables where one of them has other bytes, and all else stays
abbrev pub with_table : Tables → List ℕ → TableName → List ℕ → Tables
with_table tables folder table bytes f t = if is_same folder table f t then Some bytes else tables f t

-- what entries hold, the newest first
abbrev pub shelved : List Entry → Tables
shelved [] f t = None
shelved (e ∷ es) f t = with_table (shelved es) e.folder e.table e.bytes f t

-- what a shelf in memory holds
abbrev pub tables_of : MemoryShelf → Tables
tables_of shelf = shelved shelf.entries.items

-- the numbers of the calls that are to fail
abbrev pub failing_of : MemoryShelf → List ℕ
failing_of shelf = shelf.failing.items

-- how many reads there were
abbrev pub calls_of : MemoryShelf → ℕ
calls_of shelf = shelf.calls

-- how often a table was missing, was too long, and how often a read failed
abbrev pub counts_of : MemoryShelf → ShelfCounts
counts_of shelf = shelf.counts

-- nothing was counted yet
abbrev pub no_counts : ShelfCounts
no_counts = record { misses = 0; overlong = 0; faults = 0 }

-- what the reads have answered
abbrev pub reads_of : MemoryShelf → List Reading
reads_of shelf = shelf.log.items
