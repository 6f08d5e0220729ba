-- Up states: a component is in service or out of it, hour by hour.
use Rattle.std.specs.Prelude.{ℕ, zero, suc, ◌+◌, ◌*◌, ◌^◌, Bool, true, not, nat_lt, if◌then◌else◌, List, ◌++◌, map, filter, slice_index_or}
use Rattle.std.specs.List.{range_with_len}
use Rattle.ra_base.specs.declared.limits.TheConstants.{BILLION}
use Rattle.system_model.specs.declared.components.Rates.{Rates}
use Rattle.system_model.specs.declared.components.Unit.{Unit as UnitPart}
use Rattle.system_model.specs.declared.components.Line.{Line}
use Rattle.system_model.specs.declared.components.Storage.{Storage}
use Rattle.system_model.specs.Rates.{out_weight, up_weight}
use Rattle.system_model.specs.System.{SystemParts, unit_count, storage_count, line_count, no_unit}
use Rattle.sample_streams.specs.Draw.{draw}

-- how many components a system has: its units, storages and lines
abbrev pub component_count : SystemParts → ℕ
component_count system = unit_count system + storage_count system + line_count system

-- the rates of the components: the units come first, then the storages, then the lines, each kind in
-- the order of its table
abbrev pub all_rates : SystemParts → List Rates
all_rates system =
    map (λ (unit : UnitPart). unit.rates) system.units
    ++ map (λ (storage : Storage). storage.rates) system.storages
    ++ map (λ (line : Line). line.rates) system.lines

unfoldable pub component_rates : SystemParts → ℕ → Rates
component_rates system component = slice_index_or (all_rates system) component no_unit.rates

-- the place among the components of a storage and of a line; that of a unit is its own
abbrev pub storage_component : SystemParts → ℕ → ℕ
storage_component system storage = unit_count system + storage

abbrev pub line_component : SystemParts → ℕ → ℕ
line_component system line = unit_count system + storage_count system + line

-- whether a component is out at hour 0, which it is with its unavailability in the long run
abbrev pub starts_out : Rates → ℕ → Bool
starts_out rates word = nat_lt (word * (out_weight rates + up_weight rates)) (out_weight rates * 2 ^ 32)

-- whether a component that was up goes out
abbrev pub fails : Rates → ℕ → Bool
fails rates word = nat_lt (word * BILLION) (rates.f * 2 ^ 32)

-- whether a component that was out returns
abbrev pub is_repaired : Rates → ℕ → Bool
is_repaired rates word = nat_lt (word * BILLION) (rates.r * 2 ^ 32)

-- whether a component with these rates and a draw for each hour is up in an hour
unfoldable pub is_up_with : Rates → (ℕ → ℕ) → ℕ → Bool
is_up_with rates draws zero = not (starts_out rates (draws 0))
is_up_with rates draws (suc hour) =
    if is_up_with rates draws hour then not (fails rates (draws (suc hour))) else is_repaired rates (draws (suc hour))

-- whether a component of a system is up in an hour of a sample
unfoldable pub is_up : SystemParts → ℕ → ℕ → ℕ → ℕ → Bool
is_up system seed sample hour component =
    is_up_with (component_rates system component) (λ h. draw (component_count system) seed sample h component) hour

-- whether it was up before that hour: in the hour before, and before hour 0 each is
abbrev pub was_up : SystemParts → ℕ → ℕ → ℕ → ℕ → Bool
was_up system seed sample zero component = true
was_up system seed sample (suc hour) component = is_up system seed sample hour component

-- whether two states differ
abbrev pub differ : Bool → Bool → Bool
differ one other = if one then not other else other

-- whether its state changes with that hour
abbrev pub changes : SystemParts → ℕ → ℕ → ℕ → ℕ → Bool
changes system seed sample hour component =
    differ (was_up system seed sample hour component) (is_up system seed sample hour component)

-- the components whose states change with that hour, ascending
abbrev pub changes_in : SystemParts → ℕ → ℕ → ℕ → List ℕ
changes_in system seed sample hour =
    filter (changes system seed sample hour) (range_with_len 0 (component_count system))
