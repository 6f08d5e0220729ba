-- The table of storages.
use Rattle.std.specs.Prelude.{ℕ, ◌+◌, List, [], ◌∷◌, ◌++◌, length, nat_lt, Ok, codes}
use Rattle.ra_base.specs.declared.limits.TheConstants.{MOST_ENERGY_KWH, MOST_POOLED_MW, MOST_STORAGES}
use Rattle.ra_base.specs.declared.table.TableName.TheVariants.{Storages}
use Rattle.system_model.specs.declared.components.Storage.{Storage}
use Rattle.system_model.specs.Components.{pooled_charge, pooled_discharge}
use Rattle.system_model.specs.System.{SystemParts, storage_count}
use Rattle.system_tables.specs.declared.faults.Cause.TheVariants.{OutOfRange}
use Rattle.system_tables.specs.declared.faults.Column.TheVariants.{Fixed}
use Rattle.system_tables.specs.declared.faults.Place.{Place}
use Rattle.system_tables.specs.declared.storages.StorageColumns.{StorageColumns}
use Rattle.system_tables.specs.Columns.{column_in}
use Rattle.system_tables.specs.Faults.{Read, ◌>>=◌, fault_at, below, refuse, in_turn, table_in, shape_in}
use Rattle.system_tables.specs.Fields.{whole_in, value_in, share_in, rates_in, some_rate_in, name_in, reference_in}
use Rattle.system_tables.specs.Names.{Names}
use Rattle.system_tables.specs.Records.{Row, Rows, records_of}

-- the columns in the order of the definition
unfoldable pub storage_columns_in : Row → Read StorageColumns
storage_columns_in header = do
  name ← column_in Storages (Fixed 0) header (codes "name")
  zone ← column_in Storages (Fixed 1) header (codes "zone")
  charge ← column_in Storages (Fixed 2) header (codes "charge")
  discharge ← column_in Storages (Fixed 3) header (codes "discharge")
  energy ← column_in Storages (Fixed 4) header (codes "energy_kwh")
  start ← column_in Storages (Fixed 5) header (codes "start_kwh")
  charge_eff ← column_in Storages (Fixed 6) header (codes "charge_efficiency")
  discharge_eff ← column_in Storages (Fixed 7) header (codes "discharge_efficiency")
  carry ← column_in Storages (Fixed 8) header (codes "carryover")
  failure ← column_in Storages (Fixed 9) header (codes "failure")
  repair ← column_in Storages (Fixed 10) header (codes "repair")
  Ok (record {
    name = name;
    zone = zone;
    charge = charge;
    discharge = discharge;
    energy = energy;
    start = start;
    charge_eff = charge_eff;
    discharge_eff = discharge_eff;
    carry = carry;
    rates = record { failure = failure; repair = repair };
  })

-- The storage of a row. What it starts with is compared with what it holds behind the last column.
unfoldable pub storage_of : Place → StorageColumns → Names → Row → Read Storage
storage_of place columns zones row = do
  zone ← reference_in place columns.zone zones row
  charge ← whole_in place columns.charge 0 MOST_POOLED_MW row
  discharge ← whole_in place columns.discharge 0 MOST_POOLED_MW row
  energy ← whole_in place columns.energy 0 MOST_ENERGY_KWH row
  start ← value_in place columns.start row
  charge_eff ← share_in place columns.charge_eff row
  discharge_eff ← share_in place columns.discharge_eff row
  carry ← share_in place columns.carry row
  rates ← rates_in place columns.rates row
  _ ← refuse (nat_lt energy start) (fault_at place columns.start.column (OutOfRange start energy))
  _ ← some_rate_in place columns.rates rates
  Ok (record {
    zone = zone;
    charge = charge;
    discharge = discharge;
    energy = energy;
    start = start;
    charge_eff = charge_eff;
    discharge_eff = discharge_eff;
    carry = carry;
    rates = rates;
  })

abbrev pub with_storage : SystemParts → List ℕ → Storage → SystemParts
with_storage above name storage =
    record above {
      storages = above.storages ++ storage ∷ [];
      storage_names = above.storage_names ++ name ∷ [];
    }

-- a row, below the storages above it
unfoldable pub storage_in : StorageColumns → ℕ → SystemParts → Row → Read SystemParts
storage_in columns width above row = do
  _ ← shape_in (below Storages (storage_count above)) MOST_STORAGES (storage_count above) width row
  name ← name_in (below Storages (storage_count above)) columns.name above.storage_names row
  storage ← storage_of (below Storages (storage_count above)) columns above.zone_names row
  _ ← refuse (nat_lt MOST_POOLED_MW (pooled_charge above.storages + storage.charge))
      (fault_at (below Storages (storage_count above)) columns.charge.column
      (OutOfRange (pooled_charge above.storages + storage.charge) MOST_POOLED_MW))
  _ ← refuse (nat_lt MOST_POOLED_MW (pooled_discharge above.storages + storage.discharge))
      (fault_at (below Storages (storage_count above)) columns.discharge.column
      (OutOfRange (pooled_discharge above.storages + storage.discharge) MOST_POOLED_MW))
  Ok (with_storage above name storage)

-- the header, then the rows in turn
unfoldable pub storage_rows_in : SystemParts → Row → Rows → Read SystemParts
storage_rows_in above header rows = do
  columns ← storage_columns_in header
  in_turn (storage_in columns (length header)) above rows

-- the storages of the table behind those that are there
abbrev pub with_storages : SystemParts → List ℕ → Read SystemParts
with_storages above bytes = table_in Storages (records_of bytes) (storage_rows_in above)
