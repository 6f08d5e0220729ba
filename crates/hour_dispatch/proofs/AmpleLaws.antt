use Rattle.std.proofs.Common.{◌≡◌, ◌≢◌, ℕ, pos, ◌+◌, ◌<◌, ◌≤◌, ◌^◌, ◌==◌, inl, inr, true, List, length, get_or, refl, ap, sym, ◌∙◌, arith}
use Rattle.std.specs.Prelude.{slice_set}
use Rattle.std.proofs.lemmas.Bool.{cases_eq, cond-true, cond-false, eq-eqb, ne_eqb}
use Rattle.std.proofs.lemmas.List.{get_or-set_same, get_or-set_other, get_or-replicate, length-set, length-replicate}
use Rattle.std.proofs.lemmas.List.Elements.{All-from_get_or}
use Rattle.std.proofs.lemmas.Nat.{pow_pos}
use Rattle.zone_network.specs.Sums.{sum_where}
use Rattle.zone_network.specs.Network.{NetworkParts, IsShape, zone_of_device, link_count, device_count, forward_of, backward_of, supply_at, load_at, charge_cap_at}
use Rattle.zone_network.specs.Cut.{IsCut}
use Rattle.zone_network.proofs.SumLemmas.{sum_where-zero, sum_where-more, sum_where-none}
use Rattle.transfer_flow.proofs.Laws.{flow_at_no_flow}
use Rattle.sample_totals.specs.declared.outcomes.HourOutcome.{HourOutcome}
use Rattle.cut_certificate.specs.declared.chains.Chain.{Chain}
use Rattle.cut_certificate.specs.Chain.{Fit, IsFeasibleBy, IsProvedBy, IsOnlyBestOutcome, all_unserved, flow_in}
use Rattle.cut_certificate.specs.Least.{IsLeastUnserved}
use Rattle.hour_dispatch.specs.Stages.{set_count}
use Rattle.hour_dispatch.specs.Ample.{IsAmple, AreNeeds, zeros, ample_outcome, ample_chain}
use Rattle.hour_dispatch.proofs.StartLemmas.{still-in, still-out}
use Rattle.hour_dispatch.specs.Settled.{IsSettled}
use Rattle.hour_dispatch.proofs.CutLemmas.{cut-least, served-cut}
use Rattle.hour_dispatch.proofs.BestLemmas.{accepted-best}

-- the charge caps that the first so many devices have in a zone
abbrev pub caps_before : NetworkParts → ℕ → ℕ → ℕ
caps_before n devices z = sum_where (λ k. zone_of_device n.shape k == z) (charge_cap_at n) devices

-- the list has the load of each of the first so many zones with the charge caps of the first so many devices there,
-- and supply covers them
pub record AreCovered (n : NetworkParts) (needs : List ℕ) (zones devices : ℕ) : Type 0 where
  pub size : length needs ≡ n.shape.zones
  pub each : (z : ℕ) → z < zones → get_or needs z 0 ≡ load_at n z + caps_before n devices z
  pub covered : (z : ℕ) → z < zones → get_or needs z 0 ≤ supply_at n z

-- a list with one number set
record IsPut (old new : List ℕ) (at value : ℕ) : Type 0 where
  size : length new ≡ length old
  here : (i : ℕ) → i ≡ at → get_or new i 0 ≡ value
  there : (i : ℕ) → i ≢ at → get_or new i 0 ≡ get_or old i 0

put-at : (old new : List ℕ) (at value : ℕ) → at < length old → new ≡ slice_set old at value → IsPut old new at value
put-at old new at value below set =
    let read : (i : ℕ) → get_or new i 0 ≡ get_or (slice_set old at value) i 0 =
    λ i. ap (λ (xs : List ℕ). get_or xs i 0) set in
    record {
      size = ap (λ (xs : List ℕ). length xs) set ∙ length-set old at value;
      here = λ i e.
          read i ∙ ap (λ (k : ℕ). get_or (slice_set old at value) k 0) e ∙ get_or-set_same old at value 0 below;
      there = λ i other. read i ∙ get_or-set_other old at i value 0 other;
    }

pub covered-zone : (n : NetworkParts) (needs needs' : List ℕ) (zone load : ℕ)
    → AreCovered n needs zone 0
    → zone < n.shape.zones
    → load ≡ load_at n zone
    → load ≤ supply_at n zone
    → needs' ≡ slice_set needs zone load
    → AreCovered n needs' (zone + 1) 0
covered-zone n needs needs' zone load before below is covers set =
    let put : IsPut needs needs' zone load = put-at needs needs' zone load (omega (arith, before.size)) set in
    record {
      size = put.size ∙ before.size;
      each =
          λ z less.
          elim (cases_eq z zone) [
            | inl e ↦
                omega (
                  arith,
                  put.here z e,
                  is,
                  ap (load_at n) e,
                  sum_where-zero (λ k. zone_of_device n.shape k == z) (charge_cap_at n),
                )
            | inr other ↦ put.there z other ∙ before.each z (omega arith)
          ];
      covered =
          λ z less.
          elim (cases_eq z zone) [
            | inl e ↦ omega (arith, put.here z e, covers, ap (supply_at n) e)
            | inr other ↦ omega (arith, put.there z other, before.covered z (omega arith))
          ];
    }

pub covered-device : (n : NetworkParts) (needs needs' : List ℕ) (k zone need : ℕ)
    → AreCovered n needs n.shape.zones k
    → zone < n.shape.zones
    → zone ≡ zone_of_device n.shape k
    → need ≡ get_or needs zone 0 + charge_cap_at n k
    → need ≤ supply_at n zone
    → needs' ≡ slice_set needs zone need
    → AreCovered n needs' n.shape.zones (k + 1)
covered-device n needs needs' k zone need before below at is covers set =
    let put : IsPut needs needs' zone need = put-at needs needs' zone need (omega (arith, before.size)) set in
    record {
      size = put.size ∙ before.size;
      each =
          λ z less.
          elim (cases_eq z zone) [
            | inl e ↦
                omega (
                  arith,
                  put.here z e,
                  is,
                  before.each z less,
                  ap (λ (w : ℕ). get_or needs w 0) e,
                  sum_where-more (λ i. zone_of_device n.shape i == z) (charge_cap_at n) k,
                  cond-true (zone_of_device n.shape k == z) (charge_cap_at n k) 0
                      (eq-eqb (zone_of_device n.shape k) z (sym at ∙ sym e)),
                )
            | inr other ↦
                omega (
                  arith,
                  put.there z other,
                  before.each z less,
                  sum_where-more (λ i. zone_of_device n.shape i == z) (charge_cap_at n) k,
                  cond-false (zone_of_device n.shape k == z) (charge_cap_at n k) 0
                      (ne_eqb (zone_of_device n.shape k) z (λ e. other (sym e ∙ sym at))),
                )
          ];
      covered =
          λ z less.
          elim (cases_eq z zone) [
            | inl e ↦ omega (arith, put.here z e, covers, ap (supply_at n) e)
            | inr other ↦ omega (arith, put.there z other, before.covered z less)
          ];
    }

-- what is covered so far is all, once every device is: the network is ample, and these are its needs
pub covered-ample : (n : NetworkParts) (needs : List ℕ) → AreCovered n needs n.shape.zones (device_count n.shape) → IsAmple n
covered-ample n needs h = record { covered = λ z below. omega (arith, h.each z below, h.covered z below) }

pub covered-needs : (n : NetworkParts) (needs : List ℕ) → AreCovered n needs n.shape.zones (device_count n.shape) → AreNeeds n needs
covered-needs n needs h = record { size = h.size; each = h.each }

zero-at : (count i : ℕ) → i < count → get_or (zeros count) i 0 ≡ 0
zero-at count i below = get_or-replicate count i 0 0 below

length-zeros : (count : ℕ) → length (zeros count) ≡ count
length-zeros count = let none : ℕ = 0 in length-replicate count none

no-flow : (n : NetworkParts) (needs : List ℕ) (l : ℕ) → flow_in (ample_chain n needs) l ≡ pos 0
no-flow n needs l = flow_at_no_flow n.shape l

-- nothing is unserved
none-unserved : (n : NetworkParts) (outcome : HourOutcome) → all_unserved n (ample_outcome n outcome) ≡ 0
none-unserved n outcome =
    sum_where-none (λ z. true) (λ z. get_or (zeros n.shape.zones) z 0) n.shape.zones
    (λ z below at. zero-at n.shape.zones z below)

-- what an ample hour comes to and its chain, where each zone generates what it needs
module _ (n : NetworkParts) (outcome : HourOutcome) (needs : List ℕ) where
  ample-fits : length outcome.energy ≡ device_count n.shape
      → length n.charge_caps ≡ device_count n.shape
      → AreNeeds n needs
      → Fit n (ample_outcome n outcome) (ample_chain n needs)
  ample-fits energy caps are =
      record {
        sizes =
            record {
              unserved = length-zeros n.shape.zones;
              discharge = length-zeros (device_count n.shape);
              charge = caps;
              energy = energy;
              flows = length-replicate (link_count n.shape) (pos 0);
              generation = are.size;
              sets = length-zeros (set_count n.shape);
            };
        masks =
            All-from_get_or (λ mask. mask < 2 ^ n.shape.zones) (zeros (set_count n.shape)) 0
            (λ i below.
            omega (arith, zero-at (set_count n.shape) i (omega (arith, length-zeros (set_count n.shape))), pow_pos n.shape.zones));
      }

  ample-feasible : IsAmple n → AreNeeds n needs → IsFeasibleBy n (ample_outcome n outcome) (ample_chain n needs)
  ample-feasible ample are =
      record {
        within = λ z below. omega (arith, zero-at n.shape.zones z below);
        feasible =
            record {
              generation = λ z below. omega (arith, are.each z below, ample.covered z below);
              served = λ z below. omega arith;
              discharge = λ k below. omega (arith, zero-at (device_count n.shape) k below);
              charge = λ k below. omega arith;
              forward = λ l below. omega (arith, ap forward_of (no-flow n needs l));
              backward = λ l below. omega (arith, ap backward_of (no-flow n needs l));
              balance =
                  λ z below.
                  omega (
                    arith,
                    are.each z below,
                    zero-at n.shape.zones z below,
                    still-in n.shape (flow_in (ample_chain n needs)) z (no-flow n needs),
                    still-out n.shape (flow_in (ample_chain n needs)) z (no-flow n needs),
                    sum_where-none (λ k. zone_of_device n.shape k == z) (λ k. get_or (zeros (device_count n.shape)) k 0)
                        (device_count n.shape) (λ k less at. zero-at (device_count n.shape) k less),
                  );
            };
      }

  ample-proved : IsProvedBy n (ample_outcome n outcome) (ample_chain n needs)
  ample-proved =
      let empty : (i : ℕ) → i < set_count n.shape → get_or (zeros (set_count n.shape)) i 0 ≡ 0 =
      zero-at (set_count n.shape) in
      let devices : ℕ = device_count n.shape in
      record {
        unserved =
            λ z below.
            record {
              bound = λ none. zero-at n.shape.zones z below;
              member = λ some. absurd (some (empty z (omega arith)));
              used = λ some. absurd (some (empty z (omega arith)));
            };
        discharge =
            λ k below.
            record {
              bound = λ none. zero-at (device_count n.shape) k below;
              member = λ some. absurd (some (empty (n.shape.zones + k) (omega arith)));
              used = λ some. absurd (some (empty (n.shape.zones + k) (omega arith)));
            };
        charge =
            λ k below.
            record {
              bound = λ none. refl;
              member = λ some. absurd (some (empty (n.shape.zones + devices + k) (omega arith)));
              used = λ some. absurd (some (empty (n.shape.zones + devices + k) (omega arith)));
            };
      }

  ample-cut : IsCut n (all_unserved n (ample_outcome n outcome)) 0
  ample-cut = served-cut n (all_unserved n (ample_outcome n outcome)) (none-unserved n outcome)

-- an ample hour is settled so
pub ample-settled : (n : NetworkParts) (outcome : HourOutcome) (needs : List ℕ)
    → length outcome.energy ≡ device_count n.shape
    → length n.charge_caps ≡ device_count n.shape
    → IsAmple n
    → AreNeeds n needs
    → IsSettled n (ample_outcome n outcome) (ample_chain n needs)
ample-settled n outcome needs energy caps ample are =
    record {
      fit = ample-fits n outcome needs energy caps are;
      accepted = (ample-feasible n outcome needs ample are, ample-proved n outcome needs);
      cut = ample-cut n outcome needs;
    }

-- what is settled is the only best, and leaves the least unserved
pub settled-best : (n : NetworkParts) (outcome : HourOutcome) (chain : Chain) → IsShape n.shape → IsSettled n outcome chain → IsOnlyBestOutcome n outcome
settled-best n outcome chain valid is = accepted-best n outcome chain valid is.accepted

pub settled-least : (n : NetworkParts) (outcome : HourOutcome) (chain : Chain) → IsShape n.shape → IsSettled n outcome chain → IsLeastUnserved n (all_unserved n outcome)
settled-least n outcome chain valid is = cut-least n (all_unserved n outcome) outcome.cut valid is.cut
