use Rattle.std.proofs.Common.{◌≡◌, ℕ, ◌<◌, length, get_or}
use Rattle.system_model.specs.System.{zone_count, storage_count}
use Rattle.outage_chronology.specs.Standing.{is_up_at}
use Rattle.hour_dispatch.proofs.AmpleLaws.{AreCovered}
use Rattle.sample_run.specs.HourNetwork.{network_of, device_caps}
use Rattle.sample_run.proofs.ample.is_ample.Given as goal

-- the loads of the zones so far are covered
abbrev pub invariant-loop-zone : goal.invariant-loop-zone
invariant-loop-zone l =
    AreCovered (network_of l.system (is_up_at l.chronology) l.storages.energies l.chronology.hour) l.needs l.zone 0

-- and so are the charge caps of the storages so far, which are written
abbrev pub invariant-loop-device : goal.invariant-loop-device
invariant-loop-device l =
    record {
      covered : AreCovered (network_of l.system (is_up_at l.chronology) l.storages.energies l.chronology.hour) l.needs (zone_count l.system) l.device;
      charge_size : length l.charge ≡ storage_count l.system;
      charge : (k : ℕ) → k < l.device → get_or l.charge k 0 ≡ (device_caps l.system (is_up_at l.chronology) l.storages.energies k).charge;
    }
