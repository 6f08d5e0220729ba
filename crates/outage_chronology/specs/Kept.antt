-- What a chronology keeps.
use Rattle.std.specs.Prelude.{◌≡◌, ℕ, ◌<◌, ◌≤◌, List, length, slice_index}
use Rattle.system_model.specs.System.{SystemParts, IsValid, hour_count}
use Rattle.sample_streams.specs.HourDraws.{DrawnHour}
use Rattle.outage_chronology.specs.declared.thresholds.Thresholds.{Thresholds}
use Rattle.outage_chronology.specs.Outages.{component_count, is_up, changes_in}
use Rattle.outage_chronology.specs.Masks.{up_mask, AreOfStates}
use Rattle.outage_chronology.specs.Thresholds.{AreThresholds}

-- each component of a system has a mask, which says whether it is up in this hour of a sample
pub record AreUpMasks (system : SystemParts) (seed sample hour : ℕ) (masks : List ℕ) : Type 0 where
  pub len : length masks ≡ component_count system
  pub each : (k : ℕ) → k < component_count system → slice_index masks k ≡ up_mask (is_up system seed sample hour k)

-- the draws are those of hour 0, and there is room for all components
pub record AreFresh (system : SystemParts) (draws : DrawnHour) (thresholds : Thresholds) (masks of_states : List ℕ) (space : ℕ) : Type 0 where
  pub valid : IsValid system
  pub components : draws.components ≡ component_count system
  pub first : draws.hour ≡ 0
  pub decided : AreThresholds system thresholds
  pub masks_room : length masks ≡ component_count system
  pub states_room : length of_states ≡ component_count system
  pub room_for_all : component_count system ≤ space

-- the draws and the masks are those of the hour, each component has the threshold of its state, and what changed with
-- the hour is listed; the list has room for all components
pub record IsKept (system : SystemParts) (hour : ℕ) (draws : DrawnHour) (thresholds : Thresholds) (masks of_states changed : List ℕ) (space : ℕ) : Type 0 where
  pub valid : IsValid system
  pub in_range : hour < hour_count system
  pub components : draws.components ≡ component_count system
  pub drawn : draws.hour ≡ hour
  pub decided : AreThresholds system thresholds
  pub up : AreUpMasks system draws.seed draws.sample hour masks
  pub states_room : length of_states ≡ component_count system
  pub states : AreOfStates masks thresholds.fails.items thresholds.is_repaired.items of_states (component_count system)
  pub changes : changed ≡ changes_in system draws.seed draws.sample hour
  pub room_for_all : component_count system ≤ space
