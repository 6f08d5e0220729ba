use Rattle.std.proofs.Common.{◌≡◌, ℕ, ◌<◌, length, get_or}
use Rattle.system_model.specs.System.{zone_count, hourly_load}
use Rattle.outage_chronology.specs.Standing.{is_up_at}
use Rattle.sample_run.specs.HourNetwork.{zone_supply}
use Rattle.sample_run.proofs.network.set_zones.Given as goal

-- the zones so far have their supply and their load
abbrev pub invariant-loop-zone : goal.invariant-loop-zone
invariant-loop-zone l =
    record {
      supplies_size : length l.net.supplies ≡ zone_count l.system;
      loads_size : length l.net.loads ≡ zone_count l.system;
      supplies : (z : ℕ) → z < l.zone → get_or l.net.supplies z 0 ≡ zone_supply l.system (is_up_at l.chronology) l.chronology.hour z;
      loads : (z : ℕ) → z < l.zone → get_or l.net.loads z 0 ≡ hourly_load l.system l.chronology.hour z;
      rest : l.net ≡ record l.fn.net { supplies = l.net.supplies; loads = l.net.loads };
    }
