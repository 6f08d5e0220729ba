-- The plain tables of a system are read as the system.
use Rattle.system_model.specs.System.{SystemParts}
use Rattle.system_tables.specs.Tables.{where_there, system_of, Reads}
use Rattle.system_maker.specs.PlainTables.{plain_tables}
use Rattle.system_maker.proofs.PlainSystems.{IsPlainSystem}
use Rattle.system_maker.proofs.ZonesRead.{zones_read}
use Rattle.system_maker.proofs.UnitsRead.{units_read}
use Rattle.system_maker.proofs.InterfacesRead.{interfaces_read}
use Rattle.system_maker.proofs.LinesRead.{lines_read}
use Rattle.system_maker.proofs.StoragesRead.{storages_read}
use Rattle.system_maker.proofs.HoursRead.{hours_read}

pub plain_read : (s : SystemParts) → IsPlainSystem s → Reads (plain_tables s) s
unfolding system_of where_there
plain_read s p =
    rw (zones_read s p, units_read s p, interfaces_read s p, lines_read s p, storages_read s p) (hours_read s p)
