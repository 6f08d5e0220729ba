use Rattle.std.specs.Prelude.{◌≡◌, ℕ, ◌+◌, ◌<◌, ◌≤◌, ◌^◌, List, length, slice_index_or, All}
use Rattle.ra_base.specs.declared.limits.TheConstants.{MOST_TABLE_MW}
use Rattle.fixed_interval.specs.declared.enclosure.Enclosure.{Enclosure}
use Rattle.fixed_interval.specs.Enclosure.{one}
use Rattle.fixed_interval.specs.Rounding.{floor_div, ceil_div}
use Rattle.system_model.specs.Rates.{AreRates}
use Rattle.outage_table.specs.declared.units.PooledUnit.{PooledUnit}
use Rattle.outage_table.specs.States.{total_capacity}
use Rattle.outage_table.specs.Grid.{grid}
use Rattle.outage_table.specs.Fleet.{moved}

-- the entries are those that are written for the units, for each MW of outage from 0 to the whole capacity
pub record AreEntries (entries : List Enclosure) (units : List PooledUnit) : Type 0 where
  pub count : length entries ≡ total_capacity units + 1
  pub low : (x : ℕ) (d : Enclosure) → x < length entries → (slice_index_or entries x d).low ≡ grid floor_div units x
  pub high : (x : ℕ) (d : Enclosure) → x < length entries → (slice_index_or entries x d).high ≡ grid ceil_div units x

-- the entries, followed by zeros up to `n` entries
pub record IsFilledUp (entries longer : List Enclosure) (n : ℕ) : Type 0 where
  pub count : length longer ≡ n
  pub kept : (x : ℕ) (d : Enclosure) → x < length entries → slice_index_or longer x d ≡ slice_index_or entries x d
  pub low : (x : ℕ) (d : Enclosure) → length entries ≤ x → x < n → (slice_index_or longer x d).low ≡ 0
  pub high : (x : ℕ) (d : Enclosure) → length entries ≤ x → x < n → (slice_index_or longer x d).high ≡ 0

-- the entries fall from at most 1
pub record AreFallingEntries (entries : List Enclosure) : Type 0 where
  pub low : (x y : ℕ) (d : Enclosure) → x ≤ y → y < length entries → (slice_index_or entries y d).low ≤ (slice_index_or entries x d).low
  pub high : (x y : ℕ) (d : Enclosure) → x ≤ y → y < length entries → (slice_index_or entries y d).high ≤ (slice_index_or entries x d).high
  pub part : (x : ℕ) (d : Enclosure) → x < length entries → (slice_index_or entries x d).high ≤ one

-- Each entry is what it was, and the share `out / all` of what the entry so many places before it, or the first one,
-- had more, each end rounded outward.
pub record AreMixed (entries mixed : List Enclosure) (capacity out all : ℕ) : Type 0 where
  pub low : (x : ℕ) (d : Enclosure) → x < length entries
      → (slice_index_or mixed x d).low ≡ moved floor_div out all capacity (λ y. (slice_index_or entries y d).low) x
  pub high : (x : ℕ) (d : Enclosure) → x < length entries
      → (slice_index_or mixed x d).high ≡ moved ceil_div out all capacity (λ y. (slice_index_or entries y d).high) x

-- what a table keeps
pub record IsTable (entries : List Enclosure) (units : List PooledUnit) : Type 0 where
  pub written : AreEntries entries units
  pub small : total_capacity units ≤ MOST_TABLE_MW
  pub countable : length units < 2 ^ 32
  pub rated : All (λ unit. AreRates unit.rates) units
