-- The rates of components by kind.
use Rattle.std.proofs.Common.{◌≡◌, ℕ, ◌+◌, ◌-◌, ◌<◌, ◌≤◌, ◌++◌, length, map, arith, ◌∙◌}
use Rattle.std.proofs.lemmas.List.{get_or-map, get_or_append_left, get_or-append_right, length-map, length-append}
use Rattle.system_model.specs.declared.components.Unit.{Unit as UnitPart}
use Rattle.system_model.specs.declared.components.Line.{Line}
use Rattle.system_model.specs.declared.components.Storage.{Storage}
use Rattle.system_model.specs.System.{SystemParts, unit_count, storage_count, unit_at, storage_at, line_at, no_unit, no_storage, no_line}
use Rattle.outage_chronology.specs.Outages.{component_count, component_rates}

pub rates-unit : (s : SystemParts) (k : ℕ) → k < unit_count s → component_rates s k ≡ (unit_at s k).rates
unfolding component_rates
rates-unit s k l =
    let units = map (λ (unit : UnitPart). unit.rates) s.units in
    let storages = map (λ (storage : Storage). storage.rates) s.storages in
    let lines = map (λ (line : Line). line.rates) s.lines in
    let count : length units ≡ unit_count s = length-map s.units (λ (unit : UnitPart). unit.rates) in
    get_or_append_left (units ++ storages) lines no_unit.rates k (omega (arith, length-append units storages))
    ∙ get_or_append_left units storages no_unit.rates k (omega arith)
    ∙ get_or-map (λ (unit : UnitPart). unit.rates) s.units k no_unit no_unit.rates l

pub rates-storage : (s : SystemParts) (k : ℕ) → unit_count s ≤ k → k < unit_count s + storage_count s → component_rates s k ≡ (storage_at s (k - unit_count s)).rates
unfolding component_rates
rates-storage s k g l =
    let units = map (λ (unit : UnitPart). unit.rates) s.units in
    let storages = map (λ (storage : Storage). storage.rates) s.storages in
    let lines = map (λ (line : Line). line.rates) s.lines in
    let count : length units ≡ unit_count s = length-map s.units (λ (unit : UnitPart). unit.rates) in
    let count_2 : length storages ≡ storage_count s = length-map s.storages (λ (storage : Storage). storage.rates) in
    get_or_append_left (units ++ storages) lines no_unit.rates k (omega (arith, length-append units storages))
    ∙ get_or-append_right units storages (unit_count s) k no_unit.rates count g
    ∙ get_or-map (λ (storage : Storage). storage.rates) s.storages (k - unit_count s) no_storage no_unit.rates (omega arith)

pub rates-line : (s : SystemParts) (k : ℕ) → unit_count s + storage_count s ≤ k → k < component_count s → component_rates s k ≡ (line_at s (k - (unit_count s + storage_count s))).rates
unfolding component_rates
rates-line s k g l =
    let units = map (λ (unit : UnitPart). unit.rates) s.units in
    let storages = map (λ (storage : Storage). storage.rates) s.storages in
    let lines = map (λ (line : Line). line.rates) s.lines in
    let count : length units ≡ unit_count s = length-map s.units (λ (unit : UnitPart). unit.rates) in
    let count_2 : length storages ≡ storage_count s = length-map s.storages (λ (storage : Storage). storage.rates) in
    let both : length (units ++ storages) ≡ unit_count s + storage_count s = omega (arith, length-append units storages) in
    get_or-append_right (units ++ storages) lines (unit_count s + storage_count s) k no_unit.rates both g
    ∙ get_or-map (λ (line : Line). line.rates) s.lines (k - (unit_count s + storage_count s)) no_line no_unit.rates (omega arith)
