-- How the storages go through an hour, one after another.
use Rattle.std.proofs.Common.{◌≡◌, ℕ, ◌+◌, ◌<◌, ◌≤◌, inl, inr, List, length, get_or, ap, sym, ◌∙◌, arith}
use Rattle.std.specs.Prelude.{slice_set}
use Rattle.std.proofs.lemmas.List.{get_or-set_same, get_or-set_other, length-set, ext_get_or}
use Rattle.std.proofs.lemmas.List.FromFn.{fill_by_all}
use Rattle.std.proofs.lemmas.Bool.{cases_eq}
use Rattle.system_model.specs.System.{SystemParts, storage_count, storage_at}
use Rattle.storage_state.specs.Energy.{energy_after}
use Rattle.storage_state.specs.Holdings.{Holdings}
use Rattle.sample_run.specs.Run.{energies_after}

-- the first so many storages hold what they hold after the hour, and the others what they held
pub record HasHeld (system : SystemParts) (before charges discharges : List ℕ) (holdings : Holdings) (energies : List ℕ) (count : ℕ) : Type 0 where
  pub system_is : holdings.system ≡ system
  pub held_size : length holdings.energies ≡ storage_count system
  pub size : length energies ≡ storage_count system
  pub done : (k : ℕ) → k < count → get_or holdings.energies k 0 ≡ energy_after (storage_at system k) (get_or before k 0) (get_or charges k 0) (get_or discharges k 0)
  pub written : (k : ℕ) → k < count → get_or energies k 0 ≡ get_or holdings.energies k 0
  pub rest : (k : ℕ) → count ≤ k → get_or holdings.energies k 0 ≡ get_or before k 0

pub held-more : (system : SystemParts) (before charges discharges : List ℕ) (holdings holdings' : Holdings) (energies energies' : List ℕ) (device charge discharge value : ℕ)
    → device < storage_count system
    → charge ≡ get_or charges device 0
    → discharge ≡ get_or discharges device 0
    → holdings' ≡ record holdings { energies = slice_set holdings.energies device (energy_after (storage_at holdings.system device) (get_or holdings.energies device 0) charge discharge) }
    → value ≡ get_or holdings'.energies device 0
    → energies' ≡ slice_set energies device value
    → HasHeld system before charges discharges holdings energies device
    → HasHeld system before charges discharges holdings' energies' (device + 1)
held-more system before charges discharges holdings holdings' energies energies' device charge discharge value below charge_is discharge_is applied value_is set_is has =
    let after = energy_after (storage_at holdings.system device) (get_or holdings.energies device 0) charge discharge in
    let held_is : holdings'.energies ≡ slice_set holdings.energies device after = ap (λ (h : Holdings). h.energies) applied in
    let here_is : get_or holdings'.energies device 0 ≡ energy_after (storage_at system device) (get_or before device 0) (get_or charges device 0) (get_or discharges device 0) =
    ap (λ (xs : List ℕ). get_or xs device 0) held_is
    ∙ get_or-set_same holdings.energies device after 0 (omega (arith, has.held_size))
    ∙ ap (λ (s : SystemParts). energy_after (storage_at s device) (get_or holdings.energies device 0) charge discharge) has.system_is
    ∙ ap (λ (e : ℕ). energy_after (storage_at system device) e charge discharge) (has.rest device (omega arith))
    ∙ ap (λ (x : ℕ). energy_after (storage_at system device) (get_or before device 0) x discharge) charge_is
    ∙ ap (λ (x : ℕ). energy_after (storage_at system device) (get_or before device 0) (get_or charges device 0) x) discharge_is in
    let other_is : (k : ℕ) → (k ≡ device → ⊥) → get_or holdings'.energies k 0 ≡ get_or holdings.energies k 0 =
    λ k other. ap (λ (xs : List ℕ). get_or xs k 0) held_is ∙ get_or-set_other holdings.energies device k after 0 other in
    record {
      system_is = ap (λ (h : Holdings). h.system) applied ∙ has.system_is;
      held_size = ap length held_is ∙ length-set holdings.energies device after ∙ has.held_size;
      size = ap length set_is ∙ length-set energies device value ∙ has.size;
      done =
          λ k less.
          elim (cases_eq k device) [
            | inl here ↦
                ap (λ (j : ℕ). get_or holdings'.energies j 0) here ∙ here_is
                ∙ ap (λ (j : ℕ). energy_after (storage_at system j) (get_or before j 0) (get_or charges j 0) (get_or discharges j 0)) (sym here)
            | inr other ↦ other_is k other ∙ has.done k (omega arith)
          ];
      written =
          λ k less.
          elim (cases_eq k device) [
            | inl here ↦
                ap (λ (xs : List ℕ). get_or xs k 0) set_is
                ∙ ap (λ (j : ℕ). get_or (slice_set energies device value) j 0) here
                ∙ get_or-set_same energies device value 0 (omega (arith, has.size))
                ∙ value_is
                ∙ ap (λ (j : ℕ). get_or holdings'.energies j 0) (sym here)
            | inr other ↦
                ap (λ (xs : List ℕ). get_or xs k 0) set_is
                ∙ get_or-set_other energies device k value 0 other
                ∙ has.written k (omega arith)
                ∙ sym (other_is k other)
          ];
      rest = λ k less. other_is k (λ e. omega arith) ∙ has.rest k (omega arith);
    }

pub held-all : (system : SystemParts) (before charges discharges : List ℕ) (holdings : Holdings) (energies : List ℕ) (count : ℕ)
    → count ≡ storage_count system
    → HasHeld system before charges discharges holdings energies count
    → energies ≡ energies_after system before charges discharges
held-all system before charges discharges holdings energies count all has =
    fill_by_all (λ k. energy_after (storage_at system k) (get_or before k 0) (get_or charges k 0) (get_or discharges k 0)) energies (storage_count system) 0 has.size
    (λ k below. has.written k (omega arith) ∙ has.done k (omega arith))

held_as : SystemParts → List ℕ → Holdings
held_as system energies = record { system = system; energies = energies }

pub held-same : (system : SystemParts) (before charges discharges : List ℕ) (holdings first : Holdings) (energies : List ℕ) (count : ℕ)
    → count ≡ storage_count system
    → first.system ≡ system
    → HasHeld system before charges discharges holdings energies count
    → holdings ≡ record first { energies = energies }
unfolding held_as
held-same system before charges discharges holdings first energies count all same has =
    ap (λ (s : SystemParts). held_as s holdings.energies) (has.system_is ∙ sym same)
    ∙ ap (held_as first.system) (ext_get_or 0 holdings.energies energies (has.held_size ∙ sym has.size) (λ k below. sym (has.written k (omega (arith, has.held_size)))))
