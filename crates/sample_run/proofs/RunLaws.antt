-- A sample has at most one run.
use Rattle.std.proofs.Common.{◌≡◌, ℕ, zero, suc, ◌^◌, ◌<◌, ◌⊎◌, inl, inr, Bool, true, false, List, refl, ap, sym, ◌∙◌, subst, arith}
use Rattle.std.specs.Int.{bit_at}
use Rattle.std.proofs.lemmas.List.{ext_get_or}
use Rattle.std.proofs.lemmas.Bool.{cases_Bool, eq-eqb, eqb-true, false≢true}
use Rattle.std.proofs.lemmas.Nat.Bits.{same_from_bits_below, bit_at-lt}
use Rattle.system_model.specs.System.{SystemParts, zone_count, storage_count, hour_count}
use Rattle.outage_chronology.specs.Outages.{is_up}
use Rattle.storage_state.specs.Holdings.{start_energies, carried_energies}
use Rattle.zone_network.specs.Sums.{NumberSet, inside}
use Rattle.zone_network.specs.Network.{ShapeParts, NetworkParts, device_count}
use Rattle.zone_network.specs.Cut.{IsCut}
use Rattle.sample_totals.specs.declared.outcomes.HourOutcome.{HourOutcome}
use Rattle.sample_totals.specs.Results.{no_outcome}
use Rattle.cut_certificate.specs.Chain.{all_unserved, HaveSameLists}
use Rattle.cut_certificate.proofs.UniqueLemmas.{only_best}
use Rattle.sample_run.specs.HourNetwork.{network_of}
use Rattle.sample_run.specs.Run.{IsHour, IsRun, IsOnlyRun, energies_after, outcome_at}
use Rattle.sample_run.proofs.HoursLemmas.{network-shape, devices-count}

-- two tests that imply each other are the same
same_tests : (a b : Bool) → (a ≡ true → b ≡ true) → (b ≡ true → a ≡ true) → a ≡ b
same_tests true b f g = sym (f refl)
same_tests false true f g = g refl
same_tests false false f g = refl

-- two masks that hold the same zones are the same
same_masks : (count a b : ℕ) → a < 2 ^ count → b < 2 ^ count → ((z : ℕ) → z < count → inside a z ≡ inside b z) → a ≡ b
same_masks count a b low_a low_b same =
    same_from_bits_below count a b low_a low_b (λ i below. same_bits i (same i below))
  where
    not_one : (m i : ℕ) → inside m i ≡ false → bit_at m i ≡ 1 → ⊥
    not_one m i fails one = false≢true (sym fails ∙ eq-eqb (bit_at m i) 1 one)

    same_bits : (i : ℕ) → inside a i ≡ inside b i → bit_at a i ≡ bit_at b i
    same_bits i e =
        elim (cases_Bool (inside b i)) [
          | inl holds ↦ eqb-true (bit_at a i) 1 (e ∙ holds) ∙ sym (eqb-true (bit_at b i) 1 holds)
          | inr fails ↦ omega (arith, bit_at-lt a i, bit_at-lt b i, not_one a i (e ∙ fails), not_one b i fails)
        ]

-- a network has one cut
cut-only : (n : NetworkParts) (unserved unserved' a b : ℕ) → unserved ≡ unserved' → IsCut n unserved a → IsCut n unserved' b → a ≡ b
cut-only n unserved unserved' a b same is_a is_b' =
    let is_b = subst (λ (u : ℕ). IsCut n u b) (sym same) is_b' in
    elim (some unserved) [
      | inl none ↦ is_a.none none ∙ sym (is_b.none none)
      | inr short ↦
          same_masks n.shape.zones a b is_a.among is_b.among
          (λ z below.
          same_tests (inside a z) (inside b z)
          (is_b.greatest short (inside a) (is_a.tight short) z below)
          (is_a.greatest short (inside b) (is_b.tight short) z below))
    ]
  where
    some : (u : ℕ) → (u ≡ 0) ⊎ (0 < u)
    some zero = inl refl
    some (suc u) = inr (omega arith)

-- an outcome from its parts
parts : ℕ → List ℕ → List ℕ → List ℕ → List ℕ → ℕ → HourOutcome
parts hour unserved discharge charge energy cut =
    record { hour = hour; unserved = unserved; discharge = discharge; charge = charge; energy = energy; cut = cut }

parts-same : (a b : HourOutcome) → a.hour ≡ b.hour → a.unserved ≡ b.unserved → a.discharge ≡ b.discharge → a.charge ≡ b.charge → a.energy ≡ b.energy → a.cut ≡ b.cut → a ≡ b
unfolding parts
parts-same a b hour unserved discharge charge energy cut =
    ap (λ (x : ℕ). parts x a.unserved a.discharge a.charge a.energy a.cut) hour
    ∙ ap (λ (x : List ℕ). parts b.hour x a.discharge a.charge a.energy a.cut) unserved
    ∙ ap (λ (x : List ℕ). parts b.hour b.unserved x a.charge a.energy a.cut) discharge
    ∙ ap (λ (x : List ℕ). parts b.hour b.unserved b.discharge x a.energy a.cut) charge
    ∙ ap (λ (x : List ℕ). parts b.hour b.unserved b.discharge b.charge x a.cut) energy
    ∙ ap (λ (x : ℕ). parts b.hour b.unserved b.discharge b.charge b.energy x) cut

-- an hour has one outcome
pub hour-only : (system : SystemParts) (up : NumberSet) (energies : List ℕ) (hour : ℕ) (a b : HourOutcome)
    → IsHour system up energies hour a
    → IsHour system up energies hour b
    → a ≡ b
hour-only system up energies hour a b is_a is_b =
    let n = network_of system up energies hour in
    let same : HaveSameLists n a b = (only_best n a is_a.best).only b is_b.best in
    let zones : n.shape.zones ≡ zone_count system = ap (λ (s : ShapeParts). s.zones) (network-shape system up energies hour) in
    let devices : device_count n.shape ≡ storage_count system = devices-count system n (network-shape system up energies hour) in
    let unserved : a.unserved ≡ b.unserved =
    ext_get_or 0 a.unserved b.unserved (is_a.zones ∙ sym is_b.zones) (λ z below. same.unserved z (omega (arith, zones, is_a.zones))) in
    let discharge : a.discharge ≡ b.discharge =
    ext_get_or 0 a.discharge b.discharge (is_a.discharges ∙ sym is_b.discharges) (λ k below. same.discharge k (omega (arith, devices, is_a.discharges))) in
    let charge : a.charge ≡ b.charge =
    ext_get_or 0 a.charge b.charge (is_a.charges ∙ sym is_b.charges) (λ k below. same.charge k (omega (arith, devices, is_a.charges))) in
    let energy : a.energy ≡ b.energy =
    is_a.energy ∙ ap (λ (c : List ℕ). energies_after system energies c a.discharge) charge
    ∙ ap (λ (d : List ℕ). energies_after system energies b.charge d) discharge ∙ sym is_b.energy in
    let cut : a.cut ≡ b.cut =
    cut-only n (all_unserved n a) (all_unserved n b) a.cut b.cut
    (ap (λ (u : List ℕ). all_unserved n (record a { unserved = u })) unserved) is_a.cut is_b.cut in
    parts-same a b (is_a.number ∙ sym is_b.number) unserved discharge charge energy cut

-- two runs of a sample have the same outcome in each hour
same-hour : (system : SystemParts) (seed sample : ℕ) (run other : List HourOutcome)
    → IsRun system seed sample run
    → IsRun system seed sample other
    → (hour : ℕ)
    → hour < hour_count system
    → outcome_at other hour ≡ outcome_at run hour
same-hour system seed sample run other is is' zero below =
    hour-only system (is_up system seed sample 0) (start_energies system) 0 (outcome_at other 0) (outcome_at run 0) (is'.each 0 below) (is.each 0 below)
same-hour system seed sample run other is is' (suc hour) below =
    let before : outcome_at other hour ≡ outcome_at run hour = same-hour system seed sample run other is is' hour (omega arith) in
    let theirs =
    subst (λ (o : HourOutcome). IsHour system (is_up system seed sample (suc hour)) (carried_energies system o.energy) (suc hour) (outcome_at other (suc hour))) before
    (is'.each (suc hour) below) in
    hour-only system (is_up system seed sample (suc hour)) (carried_energies system (outcome_at run hour).energy) (suc hour) (outcome_at other (suc hour)) (outcome_at run (suc hour)) theirs
    (is.each (suc hour) below)

-- so there is no second run
pub run-only : (system : SystemParts) (seed sample : ℕ) (run : List HourOutcome) → IsRun system seed sample run → IsOnlyRun system seed sample run
run-only system seed sample run is =
    record {
      is_run = is;
      only =
          λ other is'.
          ext_get_or no_outcome other run (is'.hours ∙ sym is.hours)
          (λ hour below. same-hour system seed sample run other is is' hour (omega (arith, is'.hours)));
    }
