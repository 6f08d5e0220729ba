-- What callers need to know of components: their rates are those of the part at their place.
use Rattle.std.proofs.Common.{◌≡◌, ℕ, ◌+◌, ◌-◌, ◌<◌, arith, ap, ◌∙◌}
use Rattle.system_model.specs.System.{SystemParts, unit_count, storage_count, line_count, unit_at, storage_at, line_at}
use Rattle.outage_chronology.specs.Outages.{component_rates, storage_component, line_component}
use Rattle.outage_chronology.proofs.RatesByKind.{rates-unit, rates-storage, rates-line}

pub law_rates_of_unit : (s : SystemParts) (k : ℕ) → k < unit_count s → component_rates s k ≡ (unit_at s k).rates
law_rates_of_unit s k l = rates-unit s k l

pub law_rates_of_storage : (s : SystemParts) (k : ℕ) → k < storage_count s → component_rates s (storage_component s k) ≡ (storage_at s k).rates
law_rates_of_storage s k l =
    let back : unit_count s + k - unit_count s ≡ k = omega arith in
    rates-storage s (storage_component s k) (omega arith) (omega arith) ∙ ap (λ j. (storage_at s j).rates) back

pub law_rates_of_line : (s : SystemParts) (k : ℕ) → k < line_count s → component_rates s (line_component s k) ≡ (line_at s k).rates
law_rates_of_line s k l =
    let back : unit_count s + storage_count s + k - (unit_count s + storage_count s) ≡ k = omega arith in
    rates-line s (line_component s k) (omega arith) (omega arith) ∙ ap (λ j. (line_at s j).rates) back
