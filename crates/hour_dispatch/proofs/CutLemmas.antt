use Rattle.std.proofs.Common.{◌≡◌, ◌≢◌, ℕ, ◌+◌, ◌<◌, ◌≤◌, ◌&&◌, inl, inr, Bool, true, false, not, nat_lt, cond, List, get_or, refl, sym, ◌∙◌, arith}
use Rattle.std.specs.Prelude.{IsTrue}
use Rattle.std.proofs.lemmas.Bool.{cases_eq, cases_lt, cond-true, false≢true, ltb-true, lt-ltb, not_from_false}
use Rattle.std.proofs.lemmas.Nat.{pow_pos}
use Rattle.zone_network.specs.Sums.{NumberSet, inside}
use Rattle.zone_network.specs.Network.{NetworkParts, IsShape, over_zones, over_devices, zone_of_device, device_count, load_at, discharge_cap_at}
use Rattle.zone_network.specs.Dispatch.{not_after}
use Rattle.zone_network.specs.Cut.{load_of, IsTight, IsCut}
use Rattle.zone_network.proofs.SumLemmas.{sum_where-same, sum_where-equal, sum_where-none, sum_where-part, sum_where-add}
use Rattle.zone_network.proofs.FlowLemmas.{tight_is_least}
use Rattle.transfer_flow.specs.Flow.{FlowParts, spare_at}
use Rattle.transfer_flow.specs.Reach.{IsClosed, IsReachFrom, start_of, end_of}
use Rattle.transfer_flow.proofs.Laws.{closed-outside}
use Rattle.transfer_flow.proofs.WayLemmas.{start_among, end_among}
use Rattle.cut_certificate.specs.Chain.{served_but, ProvesUnserved}
use Rattle.cut_certificate.specs.Least.{IsLeastUnserved}
use Rattle.hour_dispatch.specs.Stages.{nothing, IsServed, IsMaskOf}
use Rattle.hour_dispatch.proofs.OrderLemmas.{served-all}
use Rattle.hour_dispatch.proofs.BalanceLemmas.{IsSpent, closed-used, used-closed, spent-missed}
use Rattle.hour_dispatch.proofs.ServeLemmas.{serve-end}

-- while nothing is charged
charged-nothing : (n : NetworkParts) (zones : NumberSet) → over_devices n.shape nothing zones ≡ 0
charged-nothing n zones =
    sum_where-none (λ k. zones (zone_of_device n.shape k)) nothing (device_count n.shape) (λ k below at. refl)

-- the load of a set is what is served and what isn't
load-split : (n : NetworkParts) (f : FlowParts) (unserved sets : List ℕ) (zones : NumberSet)
    → IsServed n f unserved sets n.shape.zones
    → load_of n zones ≡ over_zones n.shape (λ z. get_or unserved z 0) zones + over_zones n.shape (served_but n unserved) zones
load-split n f unserved sets zones h =
    sum_where-same zones (load_at n) (λ z. get_or unserved z 0 + served_but n unserved z) n.shape.zones
    (λ z below at. omega (arith, h.within z (served-all n.shape z below)))
    ∙ sum_where-add zones (λ z. get_or unserved z 0) (served_but n unserved) n.shape.zones

-- a tight set is spent
tight-spent : (n : NetworkParts) (f : FlowParts) (unserved sets : List ℕ) (zones : NumberSet)
    → IsShape n.shape
    → IsServed n f unserved sets n.shape.zones
    → IsTight n (over_zones n.shape (λ z. get_or unserved z 0) (λ z. true)) zones
    → IsSpent n f zones
tight-spent n f unserved sets zones valid h tight =
    let part : over_zones n.shape (λ z. get_or unserved z 0) zones ≤ over_zones n.shape (λ z. get_or unserved z 0) (λ z. true) =
    sum_where-part zones (λ z. true) (λ z. get_or unserved z 0) n.shape.zones (λ z below at. refl) in
    used-closed n f (served_but n unserved) (discharge_cap_at n) nothing zones valid (serve-end n f unserved sets h)
    (omega (arith, load-split n f unserved sets zones h, charged-nothing n zones))

-- and so is a set that proves unserved load
proved-spent : (n : NetworkParts) (f : FlowParts) (unserved sets : List ℕ) (z mask : ℕ)
    → IsShape n.shape
    → IsServed n f unserved sets n.shape.zones
    → ProvesUnserved n (served_but n unserved) (λ i. get_or unserved i 0) z mask
    → mask ≢ 0
    → IsSpent n f (inside mask)
proved-spent n f unserved sets z mask valid h proves some =
    let part : over_zones n.shape (served_but n unserved) (λ j. inside mask j && not_after n.shape z j) ≤ over_zones n.shape (served_but n unserved) (inside mask) =
    sum_where-part (λ j. inside mask j && not_after n.shape z j) (inside mask) (served_but n unserved) n.shape.zones
    (λ j below at. first (inside mask j) (not_after n.shape z j) at) in
    used-closed n f (served_but n unserved) (discharge_cap_at n) nothing (inside mask) valid (serve-end n f unserved sets h)
    (omega (arith, proves.used some))
  where
    first : (a b : Bool) → (a && b) ≡ true → a ≡ true
    first true b e = refl
    first false b e = e

-- the zones that no spare reaches, as a mask: they are the greatest tight set
pub unreached-cut : (n : NetworkParts) (f : FlowParts) (unserved sets : List ℕ) (start reached mask : ℕ)
    → IsShape n.shape
    → IsServed n f unserved sets n.shape.zones
    → IsMaskOf n.shape.zones (λ z. nat_lt 0 (spare_at f z)) start
    → IsReachFrom n f start reached
    → IsMaskOf n.shape.zones (λ z. not (inside reached z)) mask
    → 0 < over_zones n.shape (λ z. get_or unserved z 0) (λ z. true)
    → IsCut n (over_zones n.shape (λ z. get_or unserved z 0) (λ z. true)) mask
unreached-cut n f unserved sets start reached mask valid h starts reach masks some =
    let total : ℕ = over_zones n.shape (λ z. get_or unserved z 0) (λ z. true) in
    let from : (z : ℕ) → IsTrue (inside start z) → (z < n.shape.zones) × (0 < spare_at f z) =
    λ z at.
    elim (cases_lt z n.shape.zones) [
      | inl below ↦ (below, ltb-true 0 (spare_at f z) (sym (starts.same z below) ∙ at))
      | inr past ↦ absurd (false≢true (sym (starts.past z past) ∙ at))
    ] in
    let missed : (zones : NumberSet) → IsSpent n f zones → (z : ℕ) → z < n.shape.zones → IsTrue (zones z) → IsTrue (inside mask z) =
    λ zones spent z below at.
    masks.same z below ∙ not_from_false (inside reached z) (spent-missed n f start reached zones from reach spent z at) in
    let outside : IsClosed n f true (λ z. not (inside reached z)) = closed-outside n f false (inside reached) reach.closed in
    let closed : IsClosed n f true (inside mask) =
    record {
      through =
          λ l forward below room at.
          masks.same (start_of n.shape l forward) (start_among n.shape l forward valid below)
          ∙ outside.through l forward below room
          (sym (masks.same (end_of n.shape l forward) (end_among n.shape l forward valid below)) ∙ at);
    } in
    let spare : (z : ℕ) → z < n.shape.zones → IsTrue (inside mask z) → spare_at f z ≡ 0 =
    λ z below at.
    elim (cases_eq (spare_at f z) 0) [
      | inl nothing' ↦ nothing'
      | inr left ↦
          let there : IsTrue (inside reached z) = reach.itself z (starts.same z below ∙ lt-ltb 0 (spare_at f z) (omega arith)) in
          absurd (false≢true (sym (not_of (inside reached z) there) ∙ sym (masks.same z below) ∙ at))
    ] in
    let whole : over_zones n.shape (λ z. get_or unserved z 0) (λ z. true) ≡ over_zones n.shape (λ z. get_or unserved z 0) (inside mask) =
    sum_where-equal (λ z. true) (inside mask) (λ z. get_or unserved z 0) (λ z. get_or unserved z 0) n.shape.zones
    (λ z below.
    elim (cases_eq (get_or unserved z 0) 0) [
      | inl served ↦ omega (arith, cond_zero (inside mask z) (get_or unserved z 0) served)
      | inr lacks ↦
          let proves : ProvesUnserved n (served_but n unserved) (λ i. get_or unserved i 0) z (get_or sets z 0) =
          h.proved z (served-all n.shape z below) in
          let set : get_or sets z 0 ≢ 0 = λ none. lacks (proves.bound none) in
          let there : IsTrue (inside mask z) =
          missed (inside (get_or sets z 0)) (proved-spent n f unserved sets z (get_or sets z 0) valid h proves set) z below (proves.member set) in
          omega (arith, cond-true (inside mask z) (get_or unserved z 0) 0 there)
    ]) in
    record {
      among = masks.among;
      none = λ nothing'. absurd (omega arith);
      tight =
          λ lacks.
          omega (
            arith,
            closed-used n f (served_but n unserved) (discharge_cap_at n) nothing (inside mask) valid (serve-end n f unserved sets h) closed spare,
            load-split n f unserved sets (inside mask) h,
            charged-nothing n (inside mask),
          );
      greatest = λ lacks zones tight z below at. missed zones (tight-spent n f unserved sets zones valid h tight) z below at;
    }
  where
    not_of : (b : Bool) → b ≡ true → not b ≡ false
    not_of true e = refl
    not_of false e = absurd (false≢true e)

    cond_zero : (b : Bool) (x : ℕ) → x ≡ 0 → cond b x 0 ≡ 0
    cond_zero true x e = e
    cond_zero false x e = refl

-- where all load is served
pub served-cut : (n : NetworkParts) (unserved : ℕ) → unserved ≡ 0 → IsCut n unserved 0
served-cut n unserved none =
    record {
      among = pow_pos n.shape.zones;
      none = λ nothing'. refl;
      tight = λ lacks. absurd (omega arith);
      greatest = λ lacks zones tight z below at. absurd (omega arith);
    }

-- the cut proves the total the least
pub cut-least : (n : NetworkParts) (unserved mask : ℕ) → IsShape n.shape → IsCut n unserved mask → IsLeastUnserved n unserved
cut-least n unserved mask valid cut other feasible =
    elim (cases_eq unserved 0) [
      | inl none ↦ omega arith
      | inr some ↦ tight_is_least n unserved (inside mask) other valid (cut.tight (omega arith)) feasible
    ]
