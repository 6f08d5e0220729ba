use Rattle.std.proofs.Common.{◌≡◌, ◌≢◌, ℕ, ℤ, pos, negsuc, ◌+◌, ◌-◌, ◌<◌, ◌≤◌, ◌==◌, ◌⊎◌, inl, inr, Bool, true, false, not, cond, length, List, get_or, refl, ap, sym, arith, subst}
use Rattle.std.proofs.lemmas.List.{get_or-set_same, get_or-set_other}
use Rattle.std.proofs.lemmas.Bool.{eq-eqb, ne_eqb, cases_eq, cond-true, cond-false}
use Rattle.std.specs.Prelude.{slice_set}
use Rattle.zone_network.specs.Network.{ShapeParts, NetworkParts, IsShape, link_count, from_zone, to_zone, forward_of, backward_of, inflow, outflow}
use Rattle.zone_network.proofs.SumLemmas.{sum_where-at}
use Rattle.transfer_flow.specs.Flow.{FlowParts, flow_at, spare_at, carried, limit_at, IsWithinLimits, Moves}
use Rattle.transfer_flow.specs.Draw.{Carries}
use Rattle.transfer_flow.specs.Reach.{room, start_of, end_of}
use Rattle.transfer_flow.proofs.WayLemmas.{ends_apart}

-- of a signed flow one part is 0
carried_one_way : (flow : ℤ) (forward : Bool) → (carried flow forward ≡ 0) ⊎ (carried flow (not forward) ≡ 0)
carried_one_way (pos mw) true = inr refl
carried_one_way (pos mw) false = inl refl
carried_one_way (negsuc below) true = inl refl
carried_one_way (negsuc below) false = inr refl

-- of two flows that differ at one link alone, where the second goes so much more forward: what leaves the link's
-- first zone, net, is so much more, and what enters its second
shifts-forward : (s : ShapeParts) (f g : ℕ → ℤ) (link by z : ℕ)
    → link < link_count s
    → ((l : ℕ) → l ≢ link → f l ≡ g l)
    → forward_of (g link) + backward_of (f link) ≡ forward_of (f link) + backward_of (g link) + by
    → outflow s g z + inflow s f z + cond (to_zone s link == z) by 0 ≡ outflow s f z + inflow s g z + cond (from_zone s link == z) by 0
shifts-forward s f g link by z among others here =
    let forwards : (l : ℕ) → l ≢ link → forward_of (f l) ≡ forward_of (g l) = λ l other. ap forward_of (others l other) in
    let backwards : (l : ℕ) → l ≢ link → backward_of (f l) ≡ backward_of (g l) = λ l other. ap backward_of (others l other) in
    let a : Bool = from_zone s link == z in
    let b : Bool = to_zone s link == z in
    let terms : cond b (forward_of (g link)) 0 + cond b (backward_of (f link)) 0 + (cond a (forward_of (f link)) 0 + cond a (backward_of (g link)) 0) + cond a by 0
    ≡ cond b (forward_of (f link)) 0 + cond b (backward_of (g link)) 0 + (cond a (forward_of (g link)) 0 + cond a (backward_of (f link)) 0) + cond b by 0 =
    at_ends a b (forward_of (f link)) (forward_of (g link)) (backward_of (f link)) (backward_of (g link)) by here in
    omega (
      arith,
      sum_where-at (λ l. from_zone s l == z) (λ l. forward_of (f l)) (λ l. forward_of (g l)) (link_count s) link among forwards,
      sum_where-at (λ l. to_zone s l == z) (λ l. backward_of (f l)) (λ l. backward_of (g l)) (link_count s) link among backwards,
      sum_where-at (λ l. to_zone s l == z) (λ l. forward_of (f l)) (λ l. forward_of (g l)) (link_count s) link among forwards,
      sum_where-at (λ l. from_zone s l == z) (λ l. backward_of (f l)) (λ l. backward_of (g l)) (link_count s) link among backwards,
    )
  where
    at_ends : (a b : Bool) (ff fg bf bg by : ℕ)
        → fg + bf ≡ ff + bg + by
        → cond b fg 0 + cond b bf 0 + (cond a ff 0 + cond a bg 0) + cond a by 0
        ≡ cond b ff 0 + cond b bg 0 + (cond a fg 0 + cond a bf 0) + cond b by 0
    at_ends true true ff fg bf bg by h = omega arith
    at_ends true false ff fg bf bg by h = omega arith
    at_ends false true ff fg bf bg by h = omega arith
    at_ends false false ff fg bf bg by h = omega arith

-- the same each way
shifts : (s : ShapeParts) (f g : ℕ → ℤ) (link : ℕ) (forward : Bool) (by z : ℕ)
    → link < link_count s
    → ((l : ℕ) → l ≢ link → f l ≡ g l)
    → carried (g link) forward + carried (f link) (not forward) ≡ carried (f link) forward + carried (g link) (not forward) + by
    → outflow s g z + inflow s f z + cond (end_of s link forward == z) by 0 ≡ outflow s f z + inflow s g z + cond (start_of s link forward == z) by 0
shifts s f g link true by z among others here = shifts-forward s f g link by z among others here
shifts s f g link false by z among others here =
    omega (arith, shifts-forward s g f link by z among (λ l other. sym (others l other)) (omega arith))

-- nothing moved
pub moves-none : (s : ShapeParts) (f : FlowParts) (goal : ℕ) → Moves s f f goal 0
moves-none s f goal = record { others = λ z other. omega arith; arrives = omega arith; fell = λ z. omega arith }

-- one move after another
pub moves-then : (s : ShapeParts) (old mid new : FlowParts) (goal a b : ℕ)
    → Moves s old mid goal a
    → Moves s mid new goal b
    → Moves s old new goal (a + b)
moves-then s old mid new goal a b first second =
    record {
      others = λ z other. omega (arith, first.others z other, second.others z other);
      arrives = omega (arith, first.arrives, second.arrives);
      fell = λ z. omega (arith, first.fell z, second.fell z);
    }

-- what came to a zone goes on along one link
pub moves-along : (s : ShapeParts) (old mid new : FlowParts) (link : ℕ) (forward : Bool) (by : ℕ)
    → IsShape s
    → link < link_count s
    → Moves s old mid (start_of s link forward) by
    → Carries mid new link forward by
    → Moves s old new (end_of s link forward) by
moves-along s old mid new link forward by valid among move carry =
    let start : ℕ = start_of s link forward in
    let end : ℕ = end_of s link forward in
    let apart : start_of s link forward ≢ end_of s link forward = ends_apart s link forward valid among in
    let net : (z : ℕ)
    → outflow s (flow_at new) z + inflow s (flow_at mid) z + cond (end_of s link forward == z) by 0
    ≡ outflow s (flow_at mid) z + inflow s (flow_at new) z + cond (start_of s link forward == z) by 0 =
    λ z.
    shifts s (flow_at mid) (flow_at new) link forward by z among (λ l other. sym (carry.others l other))
    (omega (arith, carry.along, carry.against)) in
    let spares : (z : ℕ) → spare_at new z ≡ spare_at mid z = λ z. ap (λ (xs : List ℕ). get_or xs z 0) carry.spares in
    let is : (w z : ℕ) → w ≡ z → cond (w == z) by 0 ≡ by = λ w z e. cond-true (w == z) by 0 (eq-eqb w z e) in
    let isnt : (w z : ℕ) → w ≢ z → cond (w == z) by 0 ≡ 0 = λ w z e. cond-false (w == z) by 0 (ne_eqb w z e) in
    record {
      others =
          λ z other.
          elim (cases_eq z (start_of s link forward)) [
            | inl here ↦
                subst (λ (w : ℕ). outflow s (flow_at new) w + inflow s (flow_at old) w + spare_at new w ≡ outflow s (flow_at old) w + inflow s (flow_at new) w + spare_at old w)
                (sym here)
                (omega (
                  arith,
                  move.arrives,
                  net (start_of s link forward),
                  spares (start_of s link forward),
                  is (start_of s link forward) (start_of s link forward) refl,
                  isnt (end_of s link forward) (start_of s link forward) (λ e. apart (sym e)),
                ))
            | inr elsewhere ↦
                omega (
                  arith,
                  move.others z elsewhere,
                  net z,
                  spares z,
                  isnt (start_of s link forward) z (λ e. elsewhere (sym e)),
                  isnt (end_of s link forward) z (λ e. other (sym e)),
                )
          ];
      arrives =
          omega (
            arith,
            move.others (end_of s link forward) (λ e. apart (sym e)),
            net (end_of s link forward),
            spares (end_of s link forward),
            is (end_of s link forward) (end_of s link forward) refl,
            isnt (start_of s link forward) (end_of s link forward) apart,
          );
      fell = λ z. omega (arith, move.fell z, spares z);
    }

-- a zone's own spare
pub moves-spare : (s : ShapeParts) (old new : FlowParts) (goal given : ℕ)
    → goal < length old.spares
    → given ≤ spare_at old goal
    → new ≡ record old { spares = slice_set old.spares goal (spare_at old goal - given) }
    → Moves s old new goal given
moves-spare s old new goal given among most e =
    let P : FlowParts → Type 0 = λ f. Moves s old f goal given in
    let same : get_or (slice_set old.spares goal (get_or old.spares goal 0 - given)) goal 0 ≡ get_or old.spares goal 0 - given =
    get_or-set_same old.spares goal (get_or old.spares goal 0 - given) 0 among in
    let rest : (z : ℕ) → z ≢ goal → get_or (slice_set old.spares goal (get_or old.spares goal 0 - given)) z 0 ≡ get_or old.spares z 0 =
    λ z other. get_or-set_other old.spares goal z (get_or old.spares goal 0 - given) 0 other in
    subst P (sym e)
    record {
      others = λ z other. omega (arith, rest z other);
      arrives = omega (arith, same);
      fell =
          λ z.
          elim (cases_eq z goal) [
            | inl here ↦
                subst (λ (w : ℕ). get_or (slice_set old.spares goal (get_or old.spares goal 0 - given)) w 0 ≤ get_or old.spares w 0) (sym here)
                (omega (arith, same))
            | inr other ↦ omega (arith, rest z other)
          ];
    }

-- a flow that carries more by at most its room stays within its limits
pub carries-within : (n : NetworkParts) (old mid new : FlowParts) (link : ℕ) (forward : Bool) (by : ℕ)
    → IsWithinLimits n old
    → IsWithinLimits n mid
    → link < link_count n.shape
    → flow_at mid link ≡ flow_at old link
    → by ≤ room n old link forward
    → Carries mid new link forward by
    → IsWithinLimits n new
carries-within n old mid new link forward by before within among kept most carry =
    let same : (way : Bool) → carried (flow_at mid link) way ≡ carried (flow_at old link) way =
    λ way. ap (λ (flow : ℤ). carried flow way) kept in
    let along : carried (flow_at new link) forward ≤ limit_at n link forward =
    elim (carried_one_way (flow_at old link) forward) [
      | inl nothing ↦ omega (arith, carry.along, same forward, same (not forward), before.ways link forward among)
      | inr nothing ↦ omega (arith, carry.along, same forward, same (not forward), before.ways link forward among)
    ] in
    let against : carried (flow_at new link) (not forward) ≤ limit_at n link (not forward) =
    omega (arith, carry.against, same (not forward), before.ways link (not forward) among) in
    record {
      ways =
          λ l way below.
          elim (cases_eq l link) [
            | inl here ↦
                subst (λ (k : ℕ). carried (flow_at new k) way ≤ limit_at n k way) (sym here) (each n new link forward way along against)
            | inr other ↦ omega (arith, ap (λ (flow : ℤ). carried flow way) (carry.others l other), within.ways l way below)
          ];
    }
  where
    each : (n : NetworkParts) (new : FlowParts) (link : ℕ) (forward way : Bool)
        → carried (flow_at new link) forward ≤ limit_at n link forward
        → carried (flow_at new link) (not forward) ≤ limit_at n link (not forward)
        → carried (flow_at new link) way ≤ limit_at n link way
    each n new link true true a b = a
    each n new link true false a b = b
    each n new link false true a b = b
    each n new link false false a b = a
