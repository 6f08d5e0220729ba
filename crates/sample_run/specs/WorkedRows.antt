-- Hours that the definitions compute, each known by hand.
use Rattle.std.specs.Prelude.{◌≡◌, ◌==◌, true, false, not, [], ◌∷◌, refl}
use Rattle.zone_network.specs.Sums.{sum_where}
use Rattle.system_model.specs.System.{SystemParts, no_parts}
use Rattle.storage_state.specs.Holdings.{start_energies, carried_energies}
use Rattle.sample_run.specs.HourNetwork.{network_of}
use Rattle.sample_run.specs.Run.{energies_after}

-- two zones; 70 MW in the first, which never is out; loads of 40 and 50; 30 MW forward and none backward between them
abbrev pair : SystemParts
pair =
    record no_parts {
      zone_names = (65 ∷ []) ∷ (66 ∷ []) ∷ [];
      units = record { zone = 0; capacity = 70; rates = record { f = 0; r = 1 } } ∷ [];
      interfaces = record { from = 0; to = 1; forward = 30; backward = 0 } ∷ [];
      hours = record { load = 40 ∷ 50 ∷ []; variable = 0 ∷ 0 ∷ [] } ∷ [];
    }

pub pair_network : network_of pair (λ k. true) [] 0 ≡ record {
  shape = record { zones = 2; ends = record { from = 0; to = 1 } ∷ []; device_zones = [] };
  supplies = 70 ∷ 0 ∷ [];
  loads = 40 ∷ 50 ∷ [];
  forwards = 30 ∷ [];
  backwards = 0 ∷ [];
  discharge_caps = [];
  charge_caps = [];
}
unfolding network_of sum_where
pair_network = refl

-- with three lines, of which the second is out: 10 and 15 MW forward, 5 and 5 MW backward are up, and nothing backward
-- is what is stated. The components are the unit and then the lines
abbrev with_lines : SystemParts
with_lines =
    record pair {
      lines =
          record { interface = 0; forward = 10; backward = 5; rates = record { f = 1; r = 1 } }
          ∷ record { interface = 0; forward = 20; backward = 5; rates = record { f = 1; r = 1 } }
          ∷ record { interface = 0; forward = 15; backward = 5; rates = record { f = 1; r = 1 } }
          ∷ [];
    }

pub lines_network : (network_of with_lines (λ k. not (k == 2)) [] 0).forwards ≡ 25 ∷ []
unfolding network_of sum_where
lines_network = refl

pub lines_backward : (network_of with_lines (λ k. not (k == 2)) [] 0).backwards ≡ 0 ∷ []
unfolding network_of sum_where
lines_backward = refl

-- all lines out, and the unit too
pub all_out : (network_of with_lines (λ k. false) [] 0).forwards ≡ 0 ∷ []
unfolding network_of sum_where
all_out = refl

pub none_supplied : (network_of with_lines (λ k. false) [] 0).supplies ≡ 0 ∷ 0 ∷ []
unfolding network_of sum_where
none_supplied = refl

-- one zone with a load of 30 MW and a storage of 20 MW each way and 60,000 kWh, full at the start, that gives nine
-- tenths of what it loses and keeps all from hour to hour
abbrev lossy : SystemParts
lossy =
    record no_parts {
      zone_names = (65 ∷ []) ∷ [];
      storages =
          record {
            zone = 0;
            charge = 20;
            discharge = 20;
            energy = 60000;
            start = 60000;
            charge_eff = 1000;
            discharge_eff = 900;
            carry = 1000;
            rates = record { f = 0; r = 1000000000 };
          }
          ∷ [];
      hours = record { load = 30 ∷ []; variable = 0 ∷ [] } ∷ record { load = 30 ∷ []; variable = 0 ∷ [] } ∷ record { load = 30 ∷ []; variable = 0 ∷ [] } ∷ [];
    }

-- the caps of its first and of its third hour
pub first_caps : (network_of lossy (λ k. true) (start_energies lossy) 0).discharge_caps ≡ 20 ∷ []
unfolding network_of
first_caps = refl

pub third_caps : (network_of lossy (λ k. true) (carried_energies lossy (15554 ∷ [])) 2).discharge_caps ≡ 13 ∷ []
unfolding network_of
third_caps = refl

pub caps_while_out : (network_of lossy (λ k. false) (start_energies lossy) 0).discharge_caps ≡ 0 ∷ []
unfolding network_of
caps_while_out = refl

-- 20 MW, 20 MW and then the last 13 MW
pub first_energies : energies_after lossy (start_energies lossy) (0 ∷ []) (20 ∷ []) ≡ 37777 ∷ []
first_energies = refl

pub second_energies : energies_after lossy (carried_energies lossy (37777 ∷ [])) (0 ∷ []) (20 ∷ []) ≡ 15554 ∷ []
second_energies = refl

pub third_energies : energies_after lossy (carried_energies lossy (15554 ∷ [])) (0 ∷ []) (13 ∷ []) ≡ 1109 ∷ []
third_energies = refl
