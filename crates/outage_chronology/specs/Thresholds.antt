-- Thresholds: a rate as the least word that doesn't change the state.
use Rattle.std.specs.Prelude.{◌≡◌, ℕ, ◌+◌, ◌*◌, ◌^◌, ◌<◌, ◌↔◌, length, slice_index}
use Rattle.ra_base.specs.declared.limits.TheConstants.{BILLION}
use Rattle.system_model.specs.declared.components.Rates.{Rates}
use Rattle.system_model.specs.Rates.{out_weight, up_weight}
use Rattle.system_model.specs.System.{SystemParts}
use Rattle.outage_chronology.specs.declared.thresholds.Thresholds.{Thresholds}
use Rattle.outage_chronology.specs.Outages.{component_count, component_rates}
use Rattle.outage_chronology.specs.Masks.{compared}

-- of all words of 32 bits, those below the threshold are those for which word * whole is below part * 2^32
abbrev pub IsThreshold : ℕ → ℕ → ℕ → Type 0
IsThreshold threshold part whole =
    (word : ℕ) → word < 2 ^ 32 → (compared word < threshold) ↔ (word * whole < part * 2 ^ 32)

-- the three thresholds of a component with these rates
pub record AreOfRates (rates : Rates) (starts_out fails is_repaired : ℕ) : Type 0 where
  pub start : IsThreshold starts_out (out_weight rates) (out_weight rates + up_weight rates)
  pub failure : IsThreshold fails rates.f BILLION
  pub repair : IsThreshold is_repaired rates.r BILLION

-- the first thresholds are those of the first components of a system
pub record AreOfFirst (count : ℕ) (system : SystemParts) (thresholds : Thresholds) : Type 0 where
  pub starts : length thresholds.starts_out.items ≡ count
  pub failures : length thresholds.fails.items ≡ count
  pub repairs : length thresholds.is_repaired.items ≡ count
  pub each : (k : ℕ) → k < count → AreOfRates (component_rates system k)
      (slice_index thresholds.starts_out.items k) (slice_index thresholds.fails.items k) (slice_index thresholds.is_repaired.items k)

-- each component has its thresholds
abbrev pub AreThresholds : SystemParts → Thresholds → Type 0
AreThresholds system thresholds = AreOfFirst (component_count system) system thresholds
