use Rattle.std.proofs.Common.{◌≡◌, ◌≢◌, ℕ, ◌+◌, ◌-◌, ◌<◌, ◌≤◌, ◌^◌, ◌==◌, ◌&&◌, inl, inr, Bool, true, false, cond, List, length, get_or, refl, ap, sym, ◌∙◌, subst, arith}
use Rattle.std.specs.Prelude.{slice_set, IsTrue}
use Rattle.std.proofs.lemmas.List.{get_or-set_same, get_or-set_other, length-set}
use Rattle.std.proofs.lemmas.Bool.{cases_eq, cases_lt, cond-true, cond-false, eq-eqb, ne_eqb, false≢true}
use Rattle.std.proofs.lemmas.Nat.{pow_pos}
use Rattle.zone_network.specs.Sums.{NumberSet, inside}
use Rattle.zone_network.specs.Network.{NetworkParts, IsShape, over_zones, into, load_at, discharge_cap_at, zone_of_device, device_count, ShapeParts}
use Rattle.zone_network.specs.Dispatch.{not_after, first_served}
use Rattle.zone_network.specs.Cut.{supply_of, discharge_caps_of}
use Rattle.zone_network.proofs.SumLemmas.{sum_where-same, sum_where-equal, sum_where-none}
use Rattle.zone_network.proofs.MaskLemmas.{inside_zero}
use Rattle.transfer_flow.specs.Flow.{FlowParts, IsWithinLimits, Moves}
use Rattle.transfer_flow.specs.Reach.{IsUsedUp}
use Rattle.cut_certificate.specs.Chain.{served_but, ProvesUnserved}
use Rattle.hour_dispatch.specs.Balance.{IsInBalance}
use Rattle.hour_dispatch.specs.Stages.{nothing, served_by, IsUnused, IsServed, set_count}
use Rattle.hour_dispatch.proofs.OrderLemmas.{served-itself, served-not_yet, served-other, served-upto, served-earlier, served-none, served-all}
use Rattle.hour_dispatch.proofs.BalanceLemmas.{balance-moved, closed-used}

-- what a pull has done, of what a component asked
pub record IsPulled (n : NetworkParts) (old new : FlowParts) (zone asked moved searched : ℕ) : Type 0 where
  pub shape : new.shape ≡ n.shape
  pub limits : IsWithinLimits n new
  pub moves : Moves n.shape old new zone moved
  pub most : moved ≤ asked
  pub short : moved < asked → IsUsedUp n new zone searched
  pub enough : moved ≡ asked → searched ≡ 0

-- the mask 0 stands for a pull that came to its end
pub pulled-all : (n : NetworkParts) (old new : FlowParts) (zone asked moved searched : ℕ)
    → IsPulled n old new zone asked moved searched
    → searched ≡ 0
    → moved ≡ asked
pulled-all n old new zone asked moved searched h none =
    elim (cases_lt moved asked) [
      | inl less ↦
          absurd (false≢true (sym (inside_zero zone) ∙ ap (λ (m : ℕ). inside m zone) (sym none) ∙ (h.short less).itself))
      | inr enough ↦ omega (arith, h.most)
    ]

-- and another one for one that fell short
pub pulled-short : (n : NetworkParts) (old new : FlowParts) (zone asked moved searched : ℕ)
    → IsPulled n old new zone asked moved searched
    → searched ≢ 0
    → IsUsedUp n new zone searched
pulled-short n old new zone asked moved searched h some =
    elim (cases_lt moved asked) [
      | inl less ↦ h.short less
      | inr enough ↦ absurd (some (h.enough (omega (arith, h.most))))
    ]

pub pulled-mask : (n : NetworkParts) (old new : FlowParts) (zone asked moved searched : ℕ)
    → IsPulled n old new zone asked moved searched
    → searched < 2 ^ n.shape.zones
pulled-mask n old new zone asked moved searched h =
    elim (cases_eq searched 0) [
      | inl none ↦ omega (arith, pow_pos n.shape.zones)
      | inr some ↦ (pulled-short n old new zone asked moved searched h some).among
    ]

-- a mask goes on proving what it proved while nothing changes that it speaks of
kept-unserved : (n : NetworkParts) (unserved unserved' : List ℕ) (j mask mask' : ℕ)
    → ((i : ℕ) → IsTrue (not_after n.shape j i) → get_or unserved' i 0 ≡ get_or unserved i 0)
    → get_or unserved' j 0 ≡ get_or unserved j 0
    → mask' ≡ mask
    → ProvesUnserved n (served_but n unserved) (λ i. get_or unserved i 0) j mask
    → ProvesUnserved n (served_but n unserved') (λ i. get_or unserved' i 0) j mask'
kept-unserved n unserved unserved' j mask mask' same here is h =
    let P : ℕ → Type 0 = λ m. ProvesUnserved n (served_but n unserved') (λ i. get_or unserved' i 0) j m in
    subst P (sym is)
    record {
      bound = λ none. here ∙ h.bound none;
      member = h.member;
      used =
          λ some.
          sum_where-same (λ i. inside mask i && not_after n.shape j i) (served_but n unserved') (served_but n unserved) n.shape.zones
          (λ i below at. omega (arith, same i (second (inside mask i) (not_after n.shape j i) at)))
          ∙ h.used some;
    }
  where
    second : (a b : Bool) → (a && b) ≡ true → b ≡ true
    second true b e = e
    second false b e = absurd (false≢true e)

-- before any zone is served
pub serve-start : (n : NetworkParts) (f : FlowParts) (unserved sets : List ℕ)
    → length unserved ≡ n.shape.zones
    → length sets ≡ set_count n.shape
    → IsInBalance n f nothing (discharge_cap_at n) nothing
    → IsUnused n f (discharge_cap_at n)
    → IsServed n f unserved sets 0
serve-start n f unserved sets size sets_size h unused =
    record {
      size = size;
      sets_size = sets_size;
      balance =
          record {
            shape = h.shape;
            limits = h.limits;
            balance =
                λ z below.
                omega (arith, h.balance z below, cond-false (first_served n.shape 0 z) (served_but n unserved z) 0 (served-none n.shape z));
          };
      within = λ j done. absurd (false≢true (sym (served-none n.shape j) ∙ done));
      proved = λ j done. absurd (false≢true (sym (served-none n.shape j) ∙ done));
      masks = λ j done. absurd (false≢true (sym (served-none n.shape j) ∙ done));
      unused = unused;
    }

-- one zone more is served
pub serve-step : (n : NetworkParts) (old new : FlowParts) (unserved unserved' sets sets' : List ℕ) (zone moved searched : ℕ)
    → IsShape n.shape
    → zone < n.shape.zones
    → IsServed n old unserved sets zone
    → IsPulled n old new zone (load_at n zone) moved searched
    → unserved' ≡ slice_set unserved zone (load_at n zone - moved)
    → sets' ≡ slice_set sets zone searched
    → IsServed n new unserved' sets' (zone + 1)
serve-step n old new unserved unserved' sets sets' zone moved searched valid below before pulled is sets_is =
    let here : get_or unserved' zone 0 ≡ load_at n zone - moved =
    ap (λ (xs : List ℕ). get_or xs zone 0) is
    ∙ get_or-set_same unserved zone (load_at n zone - moved) 0 (omega (arith, before.size)) in
    let others : (j : ℕ) → j ≢ zone → get_or unserved' j 0 ≡ get_or unserved j 0 =
    λ j other. ap (λ (xs : List ℕ). get_or xs j 0) is ∙ get_or-set_other unserved zone j (load_at n zone - moved) 0 other in
    let set_here : get_or sets' zone 0 ≡ searched =
    ap (λ (xs : List ℕ). get_or xs zone 0) sets_is ∙ get_or-set_same sets zone searched 0 (omega (arith, before.sets_size)) in
    let set_others : (j : ℕ) → j ≢ zone → get_or sets' j 0 ≡ get_or sets j 0 =
    λ j other. ap (λ (xs : List ℕ). get_or xs j 0) sets_is ∙ get_or-set_other sets zone j searched 0 other in
    let done : NumberSet = first_served n.shape zone in
    let done' : NumberSet = first_served n.shape (zone + 1) in
    let added : (z : ℕ) → served_by n unserved' (first_served n.shape (zone + 1)) z ≡ served_by n unserved (first_served n.shape zone) z + cond (zone == z) moved 0 =
    λ z.
    elim (cases_eq zone z) [
      | inl at ↦
          subst (λ (w : ℕ). served_by n unserved' (first_served n.shape (zone + 1)) w ≡ served_by n unserved (first_served n.shape zone) w + cond (zone == w) moved 0) at
          (omega (
            arith,
            cond-true (first_served n.shape (zone + 1) zone) (served_but n unserved' zone) 0 (served-itself n.shape zone),
            cond-false (first_served n.shape zone zone) (served_but n unserved zone) 0 (served-not_yet n.shape zone),
            cond-true (zone == zone) moved 0 (eq-eqb zone zone refl),
            pulled.most,
          ))
      | inr apart ↦
          omega (
            arith,
            ap (λ (b : Bool). cond b (served_but n unserved' z) 0) (served-other n.shape zone z (λ e. apart (sym e))),
            ap (λ (u : ℕ). cond (first_served n.shape zone z) (load_at n z - u) 0) (others z (λ e. apart (sym e))),
            cond-false (zone == z) moved 0 (ne_eqb zone z apart),
          )
    ] in
    let balance : IsInBalance n new (served_by n unserved' (first_served n.shape (zone + 1))) (discharge_cap_at n) nothing =
    balance-moved n old new (served_by n unserved (first_served n.shape zone)) (served_by n unserved' (first_served n.shape (zone + 1)))
    (discharge_cap_at n) (discharge_cap_at n) nothing nothing zone moved before.balance pulled.shape pulled.limits pulled.moves
    (λ z less. omega (arith, added z)) in
    let used : searched ≢ 0
    → over_zones n.shape (served_but n unserved') (λ j. inside searched j && not_after n.shape zone j)
    ≡ supply_of n (inside searched) + discharge_caps_of n (inside searched) + into n (inside searched) =
    λ some.
    let spent : IsUsedUp n new zone searched = pulled-short n old new zone (load_at n zone) moved searched pulled some in
    let alike : over_zones n.shape (served_but n unserved') (λ j. inside searched j && not_after n.shape zone j)
    ≡ over_zones n.shape (served_by n unserved' (first_served n.shape (zone + 1))) (inside searched) =
    sum_where-equal (λ j. inside searched j && not_after n.shape zone j) (inside searched) (served_but n unserved')
    (served_by n unserved' (first_served n.shape (zone + 1))) n.shape.zones
    (λ j less. both_conds (inside searched j) (not_after n.shape zone j) (first_served n.shape (zone + 1) j) (served_but n unserved' j) (served-upto n.shape zone j)) in
    omega (
      arith,
      closed-used n new (served_by n unserved' (first_served n.shape (zone + 1))) (discharge_cap_at n) nothing (inside searched)
          valid balance spent.closed (λ z less at. spent.spare z at),
      sum_where-none (λ k. inside searched (zone_of_device n.shape k)) nothing (device_count n.shape) (λ k less at. refl),
    ) in
    let row : ProvesUnserved n (served_but n unserved') (λ i. get_or unserved' i 0) zone searched =
    record {
      bound = λ none. omega (arith, here, pulled-all n old new zone (load_at n zone) moved searched pulled none);
      member = λ some. (pulled-short n old new zone (load_at n zone) moved searched pulled some).itself;
      used = used;
    } in
    record {
      size = ap length is ∙ length-set unserved zone (load_at n zone - moved) ∙ before.size;
      sets_size = ap length sets_is ∙ length-set sets zone searched ∙ before.sets_size;
      balance = balance;
      within =
          λ j at.
          elim (cases_eq j zone) [
            | inl is_zone ↦
                subst (λ (w : ℕ). get_or unserved' w 0 ≤ load_at n w) (sym is_zone) (omega (arith, here))
            | inr other ↦ omega (arith, others j other, before.within j (was_served n.shape zone j other at))
          ];
      proved =
          λ j at.
          elim (cases_eq j zone) [
            | inl is_zone ↦
                subst (λ (w : ℕ). ProvesUnserved n (served_but n unserved') (λ i. get_or unserved' i 0) w (get_or sets' w 0)) (sym is_zone)
                (subst (λ (m : ℕ). ProvesUnserved n (served_but n unserved') (λ i. get_or unserved' i 0) zone m) (sym set_here) row)
            | inr other ↦
                let earlier : IsTrue (first_served n.shape zone j) = was_served n.shape zone j other at in
                kept-unserved n unserved unserved' j (get_or sets j 0) (get_or sets' j 0)
                (λ i up.
                others i
                (λ is_zone.
                let late : IsTrue (first_served n.shape zone i) = served-earlier n.shape zone j i earlier up in
                false≢true (sym (served-not_yet n.shape zone) ∙ subst (λ (w : ℕ). IsTrue (first_served n.shape zone w)) is_zone late)))
                (others j other) (set_others j other) (before.proved j earlier)
          ];
      masks =
          λ j at.
          elim (cases_eq j zone) [
            | inl is_zone ↦
                subst (λ (w : ℕ). get_or sets' w 0 < 2 ^ n.shape.zones) (sym is_zone)
                (omega (arith, set_here, pulled-mask n old new zone (load_at n zone) moved searched pulled))
            | inr other ↦ omega (arith, set_others j other, before.masks j (was_served n.shape zone j other at))
          ];
      unused = record { most = λ z less. omega (arith, before.unused.most z less, pulled.moves.fell z) };
    }
  where
    was_served : (s : ShapeParts) (zone j : ℕ) → j ≢ zone → IsTrue (first_served s (zone + 1) j) → IsTrue (first_served s zone j)
    was_served s zone j other at = sym (served-other s zone j other) ∙ at

    both_conds : (a b c : Bool) (x : ℕ) → c ≡ b → cond (a && b) x 0 ≡ cond a (cond c x 0) 0
    both_conds true b c x e = ap (λ (d : Bool). cond d x 0) (sym e)
    both_conds false b c x e = refl

-- in the end what is served is what isn't unserved
pub serve-end : (n : NetworkParts) (f : FlowParts) (unserved sets : List ℕ)
    → IsServed n f unserved sets n.shape.zones
    → IsInBalance n f (served_but n unserved) (discharge_cap_at n) nothing
serve-end n f unserved sets h =
    record {
      shape = h.balance.shape;
      limits = h.balance.limits;
      balance =
          λ z below.
          omega (
            arith,
            h.balance.balance z below,
            cond-true (first_served n.shape n.shape.zones z) (served_but n unserved z) 0 (served-all n.shape z below),
          );
    }

-- the same pull, where its zone and what it asks are called otherwise
pub pulled-as : (n : NetworkParts) (old new : FlowParts) (zone zone' asked asked' moved searched : ℕ)
    → zone ≡ zone'
    → asked ≡ asked'
    → IsPulled n old new zone asked moved searched
    → IsPulled n old new zone' asked' moved searched
pulled-as n old new zone zone' asked asked' moved searched same_zone same_asked h =
    subst (λ (x : ℕ). IsPulled n old new zone' x moved searched) same_asked
    (subst (λ (z : ℕ). IsPulled n old new z asked moved searched) same_zone h)
