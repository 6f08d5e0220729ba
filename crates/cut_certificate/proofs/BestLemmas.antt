use Rattle.std.proofs.Common.{◌≡◌, ℕ, ◌<◌, List, [], ◌++◌, map, reverse, refl, sym, ◌∙◌, arith}
use Rattle.std.specs.List.{range_with_len}
use Rattle.zone_network.specs.Network.{NetworkParts, IsShape, device_count}
use Rattle.zone_network.specs.Dispatch.{Dispatch, IsBest, unserved_at, uncharged_at}
use Rattle.sample_totals.specs.declared.outcomes.HourOutcome.{HourOutcome}
use Rattle.cut_certificate.specs.declared.chains.Chain.{Chain}
use Rattle.cut_certificate.specs.Chain.{IsFeasibleBy, IsProvedBy, ProvesUnserved, AreListsOf, IsBestOutcome, dispatch_of, served_in, unserved_in, zone_set, discharge_set, charge_set}
use Rattle.cut_certificate.proofs.OrderLemmas.{not_precedes-range, not_precedes-reversed, not_precedes-three}
use Rattle.cut_certificate.proofs.RowLemmas.{unserved_is_least, discharge_is_least, charge_is_greatest}

-- what isn't served of a zone's load is what the outcome says
unserved_is : (n : NetworkParts) (outcome : HourOutcome) (chain : Chain) (z : ℕ)
    → IsFeasibleBy n outcome chain
    → z < n.shape.zones
    → unserved_in outcome z ≡ unserved_at n (dispatch_of n outcome chain) z
unserved_is n outcome chain z feasible below = omega (arith, feasible.within z below)

proves_unserved : (n : NetworkParts) (outcome : HourOutcome) (chain : Chain) (z : ℕ)
    → IsFeasibleBy n outcome chain
    → IsProvedBy n outcome chain
    → z < n.shape.zones
    → ProvesUnserved n (served_in n outcome) (unserved_at n (dispatch_of n outcome chain)) z (zone_set chain z)
proves_unserved n outcome chain z feasible proved below =
    let row : ProvesUnserved n (served_in n outcome) (unserved_in outcome) z (zone_set chain z) = proved.unserved z below in
    record {
      bound = λ none. sym (unserved_is n outcome chain z feasible below) ∙ row.bound none;
      member = row.member;
      used = row.used;
    }

-- a chain that is accepted proves its outcome the best
pub chain_is_best : (n : NetworkParts) (outcome : HourOutcome) (chain : Chain)
    → IsShape n.shape
    → IsFeasibleBy n outcome chain
    → IsProvedBy n outcome chain
    → IsBest n (dispatch_of n outcome chain)
chain_is_best n outcome chain valid feasible proved =
    let d : Dispatch = dispatch_of n outcome chain in
    let zones : List ℕ = range_with_len 0 n.shape.zones in
    let devices : List ℕ = range_with_len 0 (device_count n.shape) in
    record {
      feasible = feasible.feasible;
      none_better = λ other feasible'.
          not_precedes-three (map (unserved_at n other) zones) (map other.discharge (reverse devices)) (map (uncharged_at n other) devices)
          (map (unserved_at n d) zones) (map d.discharge (reverse devices)) (map (uncharged_at n d) devices)
          (not_precedes-range (unserved_at n other) (unserved_at n d) 0 n.shape.zones
          (map other.discharge (reverse devices) ++ (map (uncharged_at n other) devices ++ []))
          (map d.discharge (reverse devices) ++ (map (uncharged_at n d) devices ++ []))
          (λ z from below before.
          unserved_is_least n d other z (zone_set chain z) valid feasible.feasible feasible' (omega arith)
          (proves_unserved n outcome chain z feasible proved (omega arith))
          (λ j less. before j (omega arith) less))
          (λ served.
          not_precedes-reversed other.discharge d.discharge (device_count n.shape) (device_count n.shape)
          (map (uncharged_at n other) devices ++ []) (map (uncharged_at n d) devices ++ []) (omega arith)
          (λ k below after.
          discharge_is_least n d other k (discharge_set n chain k) valid feasible.feasible feasible' below (proved.discharge k below)
          (λ z less. served z (omega arith) (omega arith))
          after)
          (λ i past less. absurd (omega arith))
          (λ discharged.
          not_precedes-range (uncharged_at n other) (uncharged_at n d) 0 (device_count n.shape) [] []
          (λ k from below before.
          charge_is_greatest n d other k (charge_set n chain k) valid feasible.feasible feasible' (omega arith) (proved.charge k (omega arith))
          (λ z less. served z (omega arith) (omega arith))
          discharged
          (λ i less. before i (omega arith) less))
          (λ charged before. before))));
    }

-- and so the outcome itself
pub chain_is_best_outcome : (n : NetworkParts) (outcome : HourOutcome) (chain : Chain)
    → IsShape n.shape
    → IsFeasibleBy n outcome chain
    → IsProvedBy n outcome chain
    → IsBestOutcome n outcome
chain_is_best_outcome n outcome chain valid feasible proved =
    let lists : AreListsOf n (dispatch_of n outcome chain) outcome =
    record {
      unserved = λ z below. unserved_is n outcome chain z feasible below;
      discharge = λ k below. refl;
      charge = λ k below. refl;
    } in
    (dispatch_of n outcome chain, chain_is_best n outcome chain valid feasible proved, lists)
