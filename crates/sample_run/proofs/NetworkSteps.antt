-- The network of an hour, put together.
use Rattle.std.proofs.Common.{◌≡◌, ℕ, zero, suc, ◌+◌, ◌<◌, ◌==◌, inl, inr, List, ◌∷◌, length, refl, get_or, cond, ap, sym, ◌∙◌, arith}
use Rattle.std.specs.Prelude.{map, min, slice_set}
use Rattle.std.proofs.lemmas.List.{get_or-set_same, get_or-set_other}
use Rattle.std.proofs.lemmas.Bool.{cases_eq}
use Rattle.system_model.specs.declared.components.Line.{Line}
use Rattle.std.specs.List.{range_with_len}
use Rattle.system_model.specs.System.{SystemParts, zone_count, interface_count, interface_at, storage_count, hourly_load}
use Rattle.zone_network.specs.Sums.{NumberSet}
use Rattle.zone_network.specs.Network.{ShapeParts, NetworkParts}
use Rattle.sample_run.specs.HourNetwork.{zone_supply, forward_limit, backward_limit, shape_of, device_caps, network_of, limit_of, lines_count, up_lines_sum, AreLinks}
use Rattle.sample_run.specs.UpSums.{AreSums, CarrySame}
use Rattle.sample_run.specs.declared.up_sums.UpSums.{UpSums}

-- a network from its parts
parts : ShapeParts → List ℕ → List ℕ → List ℕ → List ℕ → List ℕ → List ℕ → NetworkParts
parts shape supplies loads forwards backwards discharge_caps charge_caps =
    record {
      shape = shape;
      supplies = supplies;
      loads = loads;
      forwards = forwards;
      backwards = backwards;
      discharge_caps = discharge_caps;
      charge_caps = charge_caps;
    }

pub network-made : (system : SystemParts) (up : NumberSet) (energies : List ℕ) (hour : ℕ) (n a d : NetworkParts)
    → n.shape ≡ shape_of system
    → a.supplies ≡ map (zone_supply system up hour) (range_with_len 0 (zone_count system))
    → a.loads ≡ map (hourly_load system hour) (range_with_len 0 (zone_count system))
    → a ≡ record n { supplies = a.supplies; loads = a.loads }
    → AreLinks system up n
    → d.discharge_caps ≡ map (λ k. (device_caps system up energies k).discharge) (range_with_len 0 (storage_count system))
    → d.charge_caps ≡ map (λ k. (device_caps system up energies k).charge) (range_with_len 0 (storage_count system))
    → d ≡ record a { discharge_caps = d.discharge_caps; charge_caps = d.charge_caps }
    → d ≡ network_of system up energies hour
unfolding network_of parts
network-made system up energies hour n a d shape supplies loads a_is links discharges charges d_is =
    let sh : d.shape ≡ shape_of system =
    ap (λ (m : NetworkParts). m.shape) d_is ∙ ap (λ (m : NetworkParts). m.shape) a_is ∙ shape in
    let su = ap (λ (m : NetworkParts). m.supplies) d_is ∙ supplies in
    let lo = ap (λ (m : NetworkParts). m.loads) d_is ∙ loads in
    let fo = ap (λ (m : NetworkParts). m.forwards) d_is ∙ ap (λ (m : NetworkParts). m.forwards) a_is ∙ links.forwards in
    let ba = ap (λ (m : NetworkParts). m.backwards) d_is ∙ ap (λ (m : NetworkParts). m.backwards) a_is ∙ links.backwards in
    ap (λ (x : ShapeParts). parts x d.supplies d.loads d.forwards d.backwards d.discharge_caps d.charge_caps) sh
    ∙ ap (λ (x : List ℕ). parts (shape_of system) x d.loads d.forwards d.backwards d.discharge_caps d.charge_caps) su
    ∙ ap (λ (x : List ℕ). parts (shape_of system) (map (zone_supply system up hour) (range_with_len 0 (zone_count system))) x d.forwards d.backwards d.discharge_caps d.charge_caps) lo
    ∙ ap (λ (x : List ℕ). parts (shape_of system) (map (zone_supply system up hour) (range_with_len 0 (zone_count system))) (map (hourly_load system hour) (range_with_len 0 (zone_count system))) x d.backwards d.discharge_caps d.charge_caps) fo
    ∙ ap (λ (x : List ℕ). parts (shape_of system) (map (zone_supply system up hour) (range_with_len 0 (zone_count system))) (map (hourly_load system hour) (range_with_len 0 (zone_count system))) (map (forward_limit system up) (range_with_len 0 (interface_count system))) x d.discharge_caps d.charge_caps) ba
    ∙ ap (λ (x : List ℕ). parts (shape_of system) (map (zone_supply system up hour) (range_with_len 0 (zone_count system))) (map (hourly_load system hour) (range_with_len 0 (zone_count system))) (map (forward_limit system up) (range_with_len 0 (interface_count system))) (map (backward_limit system up) (range_with_len 0 (interface_count system))) x d.charge_caps) discharges
    ∙ ap (λ (x : List ℕ). parts (shape_of system) (map (zone_supply system up hour) (range_with_len 0 (zone_count system))) (map (hourly_load system hour) (range_with_len 0 (zone_count system))) (map (forward_limit system up) (range_with_len 0 (interface_count system))) (map (backward_limit system up) (range_with_len 0 (interface_count system))) (map (λ k. (device_caps system up energies k).discharge) (range_with_len 0 (storage_count system))) x) charges

-- one way of the links, after the next one was set
pub linked-more : (system : SystemParts) (up : NumberSet) (amounts amounts' : List ℕ) (by_line : Line → ℕ) (stated : ℕ → ℕ) (link value lines carried : ℕ)
    → length amounts ≡ interface_count system
    → link < interface_count system
    → lines ≡ lines_count system link
    → carried ≡ up_lines_sum system up by_line link
    → value ≡ cond (lines == 0) (stated link) (min (stated link) carried)
    → amounts' ≡ slice_set amounts link value
    → ((i : ℕ) → i < link → get_or amounts i 0 ≡ limit_of system up by_line (stated i) i)
    → (i : ℕ)
    → i < link + 1
    → get_or amounts' i 0 ≡ limit_of system up by_line (stated i) i
linked-more system up amounts amounts' by_line stated link value lines carried size among lines_are carried_is value_is is so_far i below =
    elim (cases_eq i link) [
      | inl here ↦
          ap (λ (xs : List ℕ). get_or xs i 0) is
          ∙ ap (λ (w : ℕ). get_or (slice_set amounts link value) w 0) here
          ∙ get_or-set_same amounts link value 0 (omega arith)
          ∙ value_is
          ∙ ap (λ (n : ℕ). cond (n == 0) (stated link) (min (stated link) carried)) lines_are
          ∙ ap (λ (m : ℕ). cond (lines_count system link == 0) (stated link) (min (stated link) m)) carried_is
          ∙ ap (λ (w : ℕ). limit_of system up by_line (stated w) w) (sym here)
      | inr other ↦ ap (λ (xs : List ℕ). get_or xs i 0) is ∙ get_or-set_other amounts link i value 0 other ∙ so_far i (omega arith)
    ]

-- links that carry what the sums over lines say are those of any other hour with the same sums
pub links-same : (system : SystemParts) (up up' : NumberSet) (sums sums' : UpSums) (n : NetworkParts)
    → AreSums system up sums
    → AreSums system up' sums'
    → CarrySame sums sums'
    → AreLinks system up n
    → AreLinks system up' n
links-same system up up' sums sums' n are are' same links =
    record {
      forwards = links.forwards ∙ alike _ _ 0 (interface_count system) (λ i below. forward i (omega arith));
      backwards = links.backwards ∙ alike _ _ 0 (interface_count system) (λ i below. backward i (omega arith));
    }
  where
    forward : (i : ℕ) → i < interface_count system → forward_limit system up i ≡ forward_limit system up' i
    forward i among =
        ap (λ (m : ℕ). cond (lines_count system i == 0) (interface_at system i).forward (min (interface_at system i).forward m))
        (sym (are.forward_sums i among) ∙ ap (λ (xs : List ℕ). get_or xs i 0) (sym same.forward) ∙ are'.forward_sums i among)

    backward : (i : ℕ) → i < interface_count system → backward_limit system up i ≡ backward_limit system up' i
    backward i among =
        ap (λ (m : ℕ). cond (lines_count system i == 0) (interface_at system i).backward (min (interface_at system i).backward m))
        (sym (are.backward_sums i among) ∙ ap (λ (xs : List ℕ). get_or xs i 0) (sym same.backward) ∙ are'.backward_sums i among)

    alike : (f g : ℕ → ℕ) (from count : ℕ) → ((i : ℕ) → i < from + count → f i ≡ g i) → map f (range_with_len from count) ≡ map g (range_with_len from count)
    alike f g from zero each = refl
    alike f g from (suc count) each = λ k. each from (omega arith) k ∷ alike f g (from + 1) count (λ i below. each i (omega arith)) k
