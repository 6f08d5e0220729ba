-- The run of a sample: the outcome of each of its hours, in order.
use Rattle.std.specs.Prelude.{◌≡◌, ℕ, zero, suc, ◌<◌, List, [], length, map, slice_index, slice_index_or}
use Rattle.std.specs.List.{range_with_len}
use Rattle.system_model.specs.System.{SystemParts, zone_count, storage_count, hour_count, storage_at}
use Rattle.outage_chronology.specs.Outages.{is_up}
use Rattle.storage_state.specs.Energy.{energy_after}
use Rattle.storage_state.specs.Holdings.{start_energies, carried_energies}
use Rattle.zone_network.specs.Sums.{NumberSet}
use Rattle.zone_network.specs.Cut.{IsCut}
use Rattle.sample_totals.specs.declared.outcomes.HourOutcome.{HourOutcome}
use Rattle.sample_totals.specs.Results.{Figures, figures_of, no_outcome}
use Rattle.cut_certificate.specs.Chain.{IsBestOutcome, all_unserved}
use Rattle.cut_certificate.specs.Least.{IsLeastUnserved}
use Rattle.sample_run.specs.HourNetwork.{network_of}

-- the energies after an hour, in kWh and by storage, from those before it: by what each storage charges and discharges
-- in MW
abbrev pub energies_after : SystemParts → List ℕ → List ℕ → List ℕ → List ℕ
energies_after system energies charges discharges =
    map
    (λ device.
    energy_after (storage_at system device) (slice_index energies device) (slice_index charges device) (slice_index discharges device))
    (range_with_len 0 (storage_count system))

-- an hour in which these components are up and the storages hold these energies may have this outcome: it has an
-- amount for each zone and storage, what is unserved, discharged and charged is that of a best dispatch of the hour's
-- network, the energies are those after the hour, and the cut is the greatest tight set of zones
pub record IsHour (system : SystemParts) (up : NumberSet) (energies : List ℕ) (hour : ℕ) (outcome : HourOutcome) : Type 0 where
  pub number : outcome.hour ≡ hour
  pub zones : length outcome.unserved ≡ zone_count system
  pub discharges : length outcome.discharge ≡ storage_count system
  pub charges : length outcome.charge ≡ storage_count system
  pub best : IsBestOutcome (network_of system up energies hour) outcome
  pub energy : outcome.energy ≡ energies_after system energies outcome.charge outcome.discharge
  pub cut : IsCut (network_of system up energies hour) (all_unserved (network_of system up energies hour) outcome) outcome.cut

-- the outcome of an hour of a run
abbrev pub outcome_at : List HourOutcome → ℕ → HourOutcome
outcome_at run hour = slice_index_or run hour no_outcome

-- the energies before an hour of a run: at first those of the start, and later what is kept of those after the hour
-- before
abbrev pub energies_before : SystemParts → List HourOutcome → ℕ → List ℕ
energies_before system run zero = start_energies system
energies_before system run (suc hour) = carried_energies system (outcome_at run hour).energy

-- a list of outcomes is a run of a sample: it has an outcome for each hour, each the one of its hour by the up states
-- that the sample's draws give and by the energies that the hours before left
pub record IsRun (system : SystemParts) (seed sample : ℕ) (run : List HourOutcome) : Type 0 where
  pub hours : length run ≡ hour_count system
  pub each :
      (hour : ℕ)
      → hour < hour_count system
      → IsHour system (is_up system seed sample hour) (energies_before system run hour) hour (outcome_at run hour)

-- a list is the one run of a sample
pub record IsOnlyRun (system : SystemParts) (seed sample : ℕ) (run : List HourOutcome) : Type 0 where
  pub is_run : IsRun system seed sample run
  pub only : (other : List HourOutcome) → IsRun system seed sample other → other ≡ run

-- in each hour of a run no feasible dispatch of the hour's network leaves less load unserved
pub record IsLeast (system : SystemParts) (seed sample : ℕ) (run : List HourOutcome) : Type 0 where
  pub each :
      (hour : ℕ)
      → hour < hour_count system
      → let network = network_of system (is_up system seed sample hour) (energies_before system run hour) hour in
      IsLeastUnserved network (all_unserved network (outcome_at run hour))

-- a sample has one run, and these are its figures
abbrev pub HasFigures : SystemParts → ℕ → ℕ → Figures → Type 0
HasFigures system seed sample figures =
    (run : List HourOutcome) × IsOnlyRun system seed sample run × (figures ≡ figures_of (zone_count system) run)

-- the runs of the samples 0, 1, .. under a seed, so many of them
pub record AreFirstRuns (system : SystemParts) (seed samples : ℕ) (runs : List (List HourOutcome)) : Type 0 where
  pub size : length runs ≡ samples
  pub each : (sample : ℕ) → sample < samples → IsRun system seed sample (slice_index_or runs sample [])

-- what a contract sees of a runner: its system and its seed
pub record Simulation : Type 0 where
  pub system : SystemParts
  pub seed : ℕ
