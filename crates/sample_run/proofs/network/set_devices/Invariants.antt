use Rattle.std.proofs.Common.{◌≡◌, ℕ, ◌<◌, length, get_or}
use Rattle.system_model.specs.System.{storage_count}
use Rattle.outage_chronology.specs.Standing.{is_up_at}
use Rattle.sample_run.specs.HourNetwork.{device_caps}
use Rattle.sample_run.proofs.network.set_devices.Given as goal

-- the devices so far have their caps
abbrev pub invariant-loop-device : goal.invariant-loop-device
invariant-loop-device l =
    record {
      discharge_size : length l.net.discharge_caps ≡ storage_count l.system;
      charge_size : length l.net.charge_caps ≡ storage_count l.system;
      discharge : (k : ℕ) → k < l.device → get_or l.net.discharge_caps k 0 ≡ (device_caps l.system (is_up_at l.chronology) l.storages.energies k).discharge;
      charge : (k : ℕ) → k < l.device → get_or l.net.charge_caps k 0 ≡ (device_caps l.system (is_up_at l.chronology) l.storages.energies k).charge;
      rest : l.net ≡ record l.fn.net { discharge_caps = l.net.discharge_caps; charge_caps = l.net.charge_caps };
    }
