-- Lists of made parts that grow by one place, and what they have together.
use Rattle.std.proofs.Common.{◌≡◌, ℕ, ◌+◌, ◌<◌, ◌^◌, [], ◌∷◌, ◌++◌, length, refl, arith}
use Rattle.std.proofs.lemmas.Fmt.{length-decimal-le}
use Rattle.std.proofs.lemmas.List.FromFn.{length-map-range_with_len, map-range_with_len_more, sum_by-map-range_with_len_more}
use Rattle.system_model.specs.declared.components.Unit.{Unit as UnitPart}
use Rattle.system_model.specs.declared.components.Storage.{Storage}
use Rattle.system_model.specs.Components.{pooled_capacity, pooled_charge, pooled_discharge}
use Rattle.system_model.specs.System.{IsName}
use Rattle.system_maker.specs.MadeSystem.{made_name, made_names, made_unit, made_units, made_line, made_lines, made_storage, made_storages, made_hour, made_hours}

pub names-none : (letter : ℕ) → made_names letter 0 ≡ []
unfolding made_names
names-none letter = refl

pub names-more : (letter n : ℕ) → made_names letter (n + 1) ≡ made_names letter n ++ made_name letter n ∷ []
unfolding made_names
names-more letter n = map-range_with_len_more (made_name letter) 0 n n (omega arith)

pub names-counted : (letter n : ℕ) → length (made_names letter n) ≡ n
unfolding made_names
names-counted letter n = length-map-range_with_len (made_name letter) 0 n

pub units-none : (variant : ℕ) → made_units variant 0 ≡ []
unfolding made_units
units-none variant = refl

pub units-more : (variant n : ℕ) → made_units variant (n + 1) ≡ made_units variant n ++ made_unit variant n ∷ []
unfolding made_units
units-more variant n = map-range_with_len_more (made_unit variant) 0 n n (omega arith)

pub units-counted : (variant n : ℕ) → length (made_units variant n) ≡ n
unfolding made_units
units-counted variant n = length-map-range_with_len (made_unit variant) 0 n

pub lines-none : made_lines 0 ≡ []
unfolding made_lines
lines-none = refl

pub lines-more : (n : ℕ) → made_lines (n + 1) ≡ made_lines n ++ made_line n ∷ []
unfolding made_lines
lines-more n = map-range_with_len_more made_line 0 n n (omega arith)

pub lines-counted : (n : ℕ) → length (made_lines n) ≡ n
unfolding made_lines
lines-counted n = length-map-range_with_len made_line 0 n

pub storages-none : made_storages 0 ≡ []
unfolding made_storages
storages-none = refl

pub storages-more : (n : ℕ) → made_storages (n + 1) ≡ made_storages n ++ made_storage n ∷ []
unfolding made_storages
storages-more n = map-range_with_len_more made_storage 0 n n (omega arith)

pub storages-counted : (n : ℕ) → length (made_storages n) ≡ n
unfolding made_storages
storages-counted n = length-map-range_with_len made_storage 0 n

pub hours-none : (variant : ℕ) → made_hours variant 0 ≡ []
unfolding made_hours
hours-none variant = refl

pub hours-more : (variant n : ℕ) → made_hours variant (n + 1) ≡ made_hours variant n ++ made_hour variant n ∷ []
unfolding made_hours
hours-more variant n = map-range_with_len_more (made_hour variant) 0 n n (omega arith)

pub hours-counted : (variant n : ℕ) → length (made_hours variant n) ≡ n
unfolding made_hours
hours-counted variant n = length-map-range_with_len (made_hour variant) 0 n

-- what the units, the storages have together
pub capacity-more : (variant n : ℕ)
    → pooled_capacity (made_units variant (n + 1)) ≡ pooled_capacity (made_units variant n) + (made_unit variant n).capacity
unfolding made_units
capacity-more variant n =
    sum_by-map-range_with_len_more (λ (unit : UnitPart). unit.capacity) (made_unit variant) 0 n n (omega arith)

pub charge-more : (n : ℕ) → pooled_charge (made_storages (n + 1)) ≡ pooled_charge (made_storages n) + 100
unfolding made_storages
charge-more n =
    sum_by-map-range_with_len_more (λ (storage : Storage). storage.charge) made_storage 0 n n (omega arith)

pub discharge-more : (n : ℕ) → pooled_discharge (made_storages (n + 1)) ≡ pooled_discharge (made_storages n) + 120
unfolding made_storages
discharge-more n =
    sum_by-map-range_with_len_more (λ (storage : Storage). storage.discharge) made_storage 0 n n (omega arith)

-- a made name has no more than 64 bytes
pub name_fits : (letter at : ℕ) → at < 2 ^ 32 → IsName (made_name letter at)
name_fits letter at small =
    let digits = length-decimal-le 10 at (omega arith) (omega arith) (omega arith) in
    record { some = omega arith; short = omega (arith, digits) }

-- the lemmas of loops that add parts
pub ruleset name_steps = (names-none, names-more, names-counted)

pub ruleset unit_steps = (names-none, names-more, names-counted, units-none, units-more, units-counted, capacity-more)

pub ruleset line_steps = (names-none, names-more, names-counted, lines-none, lines-more, lines-counted)

pub ruleset storage_steps = (names-none, names-more, names-counted, storages-none, storages-more, storages-counted, charge-more, discharge-more)

pub ruleset hour_steps = (hours-none, hours-more, hours-counted)

pub ruleset made_counts = (names-counted, units-counted, lines-counted, storages-counted, hours-counted)
