-- The network of an hour: what zones have and ask, what links carry and what devices may do, by which components
-- are up and by what the storages hold.
use Rattle.std.specs.Prelude.{◌≡◌, ℕ, ◌+◌, ◌==◌, ◌&&◌, List, map, min, slice_index, if◌then◌else◌}
use Rattle.std.specs.List.{range_with_len}
use Rattle.system_model.specs.declared.components.Interface.{Interface}
use Rattle.system_model.specs.declared.components.Line.{Line}
use Rattle.system_model.specs.declared.components.Storage.{Storage}
use Rattle.system_model.specs.System.{SystemParts, zone_count, unit_count, interface_count, line_count, storage_count, unit_capacity, unit_zone, interface_at, line_at, storage_at, hourly_load, hourly_variable}
use Rattle.outage_chronology.specs.Outages.{storage_component, line_component}
use Rattle.storage_state.specs.declared.storages.Caps.{Caps}
use Rattle.storage_state.specs.Energy.{caps_if}
use Rattle.zone_network.specs.declared.links.Link.{Link}
use Rattle.zone_network.specs.Sums.{NumberSet, sum_where}
use Rattle.zone_network.specs.Network.{ShapeParts, NetworkParts}

-- the link of an interface
abbrev pub link_of : Interface → Link
link_of interface = record { from = interface.from; to = interface.to }

-- the shape of a system's networks: its zones, a link for each interface, a device for each storage
abbrev pub shape_of : SystemParts → ShapeParts
shape_of system =
    record {
      zones = zone_count system;
      ends = map link_of system.interfaces;
      device_zones = map (λ (storage : Storage). storage.zone) system.storages;
    }

-- the units of a zone that are up, where `up` says which components are
abbrev pub up_units_of : SystemParts → NumberSet → ℕ → NumberSet
up_units_of system up zone = λ unit. up unit && (unit_zone system unit == zone)

-- their capacity in MW
abbrev pub up_capacity : SystemParts → NumberSet → ℕ → ℕ
up_capacity system up zone = sum_where (up_units_of system up zone) (unit_capacity system) (unit_count system)

-- what a zone has in an hour, in MW: its units that are up and its variable generation
abbrev pub zone_supply : SystemParts → NumberSet → ℕ → ℕ → ℕ
zone_supply system up hour zone = up_capacity system up zone + hourly_variable system hour zone

-- the lines of an interface
abbrev pub lines_of : SystemParts → ℕ → NumberSet
lines_of system interface = λ line. (line_at system line).interface == interface

-- how many it has
abbrev pub lines_count : SystemParts → ℕ → ℕ
lines_count system interface = sum_where (lines_of system interface) (λ line. 1) (line_count system)

-- those that are up
abbrev pub up_lines_of : SystemParts → NumberSet → ℕ → NumberSet
up_lines_of system up interface = λ line. up (line_component system line) && lines_of system interface line

-- the sum over them, one way
abbrev pub up_lines_sum : SystemParts → NumberSet → (Line → ℕ) → ℕ → ℕ
up_lines_sum system up by_line interface =
    sum_where (up_lines_of system up interface) (λ line. by_line (line_at system line)) (line_count system)

-- the limit of an interface one way, in MW: its stated limit where it has no line, and else the lesser of that and of
-- the sum over its lines that are up
abbrev pub limit_of : SystemParts → NumberSet → (Line → ℕ) → ℕ → ℕ → ℕ
limit_of system up by_line stated interface =
    if lines_count system interface == 0
    then stated
    else min stated (up_lines_sum system up by_line interface)

abbrev pub forward_limit : SystemParts → NumberSet → ℕ → ℕ
forward_limit system up interface =
    limit_of system up (λ line. line.forward) (interface_at system interface).forward interface

abbrev pub backward_limit : SystemParts → NumberSet → ℕ → ℕ
backward_limit system up interface =
    limit_of system up (λ line. line.backward) (interface_at system interface).backward interface

-- the links carry what the lines that are up let them
pub record AreLinks (system : SystemParts) (up : NumberSet) (net : NetworkParts) : Type 0 where
  pub forwards : net.forwards ≡ map (forward_limit system up) (range_with_len 0 (interface_count system))
  pub backwards : net.backwards ≡ map (backward_limit system up) (range_with_len 0 (interface_count system))

-- the caps of a storage that is up or out, by what the storages hold
abbrev pub device_caps : SystemParts → NumberSet → List ℕ → ℕ → Caps
device_caps system up energies device =
    caps_if (up (storage_component system device)) (storage_at system device) (slice_index energies device)

-- the network of an hour of a system, where `up` says which components are up and the storages hold these energies
unfoldable pub network_of : SystemParts → NumberSet → List ℕ → ℕ → NetworkParts
network_of system up energies hour =
    record {
      shape = shape_of system;
      supplies = map (zone_supply system up hour) (range_with_len 0 (zone_count system));
      loads = map (hourly_load system hour) (range_with_len 0 (zone_count system));
      forwards = map (forward_limit system up) (range_with_len 0 (interface_count system));
      backwards = map (backward_limit system up) (range_with_len 0 (interface_count system));
      discharge_caps = map (λ device. (device_caps system up energies device).discharge) (range_with_len 0 (storage_count system));
      charge_caps = map (λ device. (device_caps system up energies device).charge) (range_with_len 0 (storage_count system));
    }
