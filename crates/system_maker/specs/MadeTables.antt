-- The tables that are made from a number: those of its system.
use Rattle.std.specs.Prelude.{ℕ}
use Rattle.ra_base.specs.declared.table.TableBytes.{TableBytes}
use Rattle.system_maker.specs.MadeSystem.{made_system}
use Rattle.system_maker.specs.PlainTables.{plain_tables}

abbrev pub made_tables : ℕ → TableBytes
made_tables number = plain_tables (made_system number)
