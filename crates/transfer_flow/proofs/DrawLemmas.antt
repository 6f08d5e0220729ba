use Rattle.std.proofs.Common.{◌≡◌, ◌≢◌, ℕ, ◌+◌, ◌-◌, ◌<◌, ◌≤◌, ◌⊎◌, inl, inr, Bool, true, false, length, List, get_or, refl, ap, sym, ◌∙◌, arith, subst}
use Rattle.std.specs.Prelude.{slice_set, min, IsTrue, Contains}
use Rattle.std.proofs.lemmas.List.{set-get_or, get_or_default, get_or-set_same}
use Rattle.std.proofs.lemmas.Bool.{cases_eq, cases_lt, false≢true}
use Rattle.zone_network.specs.Sums.{inside}
use Rattle.zone_network.specs.Network.{ShapeParts, NetworkParts, IsShape, link_count, from_zone, to_zone, links_of}
use Rattle.zone_network.proofs.LinkLists.{links_of-start, links_of-end}
use Rattle.zone_network.specs.Masks.{AddsNumber}
use Rattle.transfer_flow.specs.Flow.{FlowParts, flow_at, spare_at, IsWithinLimits, Moves}
use Rattle.transfer_flow.specs.Reach.{room, start_of, end_of, IsUsedUp}
use Rattle.transfer_flow.specs.Draw.{IsEntered, IsDry, IsUnbound, CanDraw, Draws, Carries}
use Rattle.zone_network.proofs.MaskLemmas.{inside_zero}
use Rattle.transfer_flow.proofs.MoveLemmas.{moves-none, moves-then, moves-along, moves-spare, carries-within}
use Rattle.transfer_flow.proofs.WayLemmas.{both_ends, start_there}

-- how far the search of a zone has come: it took the zone's own spare, and went along the first so many of the links listed
pub record DrawsSoFar (n : NetworkParts) (old new : FlowParts) (steps : List ℕ) (zone before after asked drawn : ℕ) (listed : List ℕ) (upto : ℕ) : Type 0 where
  pub draws : Draws n old new steps zone before after asked drawn
  pub spare : drawn ≡ 0 → spare_at old zone ≡ 0
  pub entered : IsUnbound steps → drawn ≡ 0 → (k : ℕ) → k < upto → IsEntered n old true after zone (get_or listed k 0)

-- a zone that was entered from zones that were seen stays so as more are seen
pub entered-grown : (n : NetworkParts) (f : FlowParts) (towards : Bool) (before after z l : ℕ)
    → ((w : ℕ) → IsTrue (inside before w) → IsTrue (inside after w))
    → IsEntered n f towards before z l
    → IsEntered n f towards after z l
entered-grown n f towards before after z l grown h =
    record { ways = λ forward end room'. grown (start_of n.shape l forward) (h.ways forward end room') }

dry-grown : (n : NetworkParts) (f : FlowParts) (before after z : ℕ)
    → ((w : ℕ) → IsTrue (inside before w) → IsTrue (inside after w))
    → IsDry n f before z
    → IsDry n f after z
dry-grown n f before after z grown h =
    record { spare = h.spare; links = λ l below. entered-grown n f true before after z l grown (h.links l below) }

-- a zone's own spare is taken first
pub draws-spare : (n : NetworkParts) (old new : FlowParts) (steps : List ℕ) (zone seen asked given : ℕ) (listed : List ℕ)
    → CanDraw n old zone seen asked
    → zone < length old.spares
    → given ≡ min (spare_at old zone) asked
    → new ≡ record old { spares = slice_set old.spares zone (spare_at old zone - given) }
    → DrawsSoFar n old new steps zone seen seen asked given listed 0
draws-spare n old new steps zone seen asked given listed can among is after =
    let flows : (l : ℕ) → flow_at new l ≡ flow_at old l = λ l. ap (λ (f : FlowParts). flow_at f l) after in
    let limits : IsWithinLimits n new =
    let P : FlowParts → Type 0 = λ f. IsWithinLimits n f in
    subst P (sym after) record { ways = can.limits.ways } in
    let still : given ≡ 0 → new ≡ old =
    λ nothing.
    let left : spare_at old zone - given ≡ get_or old.spares zone 0 = omega arith in
    after ∙ ap (λ (x : ℕ). record old { spares = slice_set old.spares zone x }) left
    ∙ ap (λ (xs : List ℕ). record old { spares = xs }) (set-get_or old.spares zone 0) in
    record {
      draws =
          record {
            shape = ap (λ (f : FlowParts). f.shape) after ∙ can.shape;
            limits = limits;
            moves = moves-spare n.shape old new zone given among (omega arith) after;
            most = omega arith;
            grown = λ z h. h;
            above = omega arith;
            among = can.among;
            kept = λ l below a b. flows l;
            still = still;
            dry = λ unbound e z h. inl h;
          };
      spare = λ nothing. omega (arith, can.some);
      entered = λ unbound nothing k below. absurd (omega arith);
    }

-- a search of one link after the searches before it
pub draws-then : (n : NetworkParts) (old mid new : FlowParts) (steps : List ℕ) (zone before between after asked first second : ℕ)
    → Draws n old mid steps zone before between asked first
    → Draws n mid new steps zone between after (asked - first) second
    → Draws n old new steps zone before after asked (first + second)
draws-then n old mid new steps zone before between after asked first second a b =
    record {
      shape = b.shape;
      limits = b.limits;
      moves = moves-then n.shape old mid new zone first second a.moves b.moves;
      most = omega (arith, a.most, b.most);
      grown = λ z h. b.grown z (a.grown z h);
      above = omega (arith, a.above, b.above);
      among = b.among;
      kept =
          λ l below p q.
          b.kept l below (a.grown (from_zone n.shape l) p) (a.grown (to_zone n.shape l) q) ∙ a.kept l below p q;
      still = λ nothing. b.still (omega arith) ∙ a.still (omega arith);
      dry =
          λ unbound nothing z h.
          elim (b.dry unbound (omega arith) z h) [
            | inl earlier ↦
                elim (a.dry unbound (omega arith) z earlier) [
                  | inl first' ↦ inl first'
                  | inr dry' ↦ inr (dry-grown n old between after z b.grown dry')
                ]
            | inr dry' ↦ inr (subst (λ (f : FlowParts). IsDry n f after z) (a.still (omega arith)) dry')
          ];
    }

pub draws-more : (n : NetworkParts) (old mid new : FlowParts) (steps : List ℕ) (zone before between after asked first second : ℕ) (listed : List ℕ) (upto : ℕ)
    → DrawsSoFar n old mid steps zone before between asked first listed upto
    → Draws n mid new steps zone between after (asked - first) second
    → (IsUnbound steps → second ≡ 0 → IsEntered n mid true after zone (get_or listed upto 0))
    → DrawsSoFar n old new steps zone before after asked (first + second) listed (upto + 1)
draws-more n old mid new steps zone before between after asked first second listed upto a b entered =
    record {
      draws = draws-then n old mid new steps zone before between after asked first second a.draws b;
      spare = λ nothing. a.spare (omega arith);
      entered =
          λ unbound nothing k below.
          elim (cases_eq k upto) [
            | inl here ↦
                let at : IsEntered n old true after zone (get_or listed upto 0) =
                subst (λ (f : FlowParts). IsEntered n f true after zone (get_or listed upto 0)) (a.draws.still (omega arith)) (entered unbound (omega arith)) in
                subst (λ (i : ℕ). IsEntered n old true after zone (get_or listed i 0)) (sym here) at
            | inr other ↦
                entered-grown n old true between after zone (get_or listed k 0) b.grown (a.entered unbound (omega arith) k (omega arith))
          ];
    }

-- where each link that is listed for a zone was searched, each of its links was
pub entered-listed : (n : NetworkParts) (f : FlowParts) (towards : Bool) (seen zone l : ℕ)
    → ((k : ℕ) → k < length (links_of n.shape zone) → IsEntered n f towards seen zone (get_or (links_of n.shape zone) k 0))
    → l < link_count n.shape
    → IsEntered n f towards seen zone l
entered-listed n f towards seen zone l each below =
    record { ways = λ forward end room'. (at n f towards seen zone l each (listed n.shape zone l forward below end)).ways forward end room' }
  where
    at : (n : NetworkParts) (f : FlowParts) (towards : Bool) (seen zone l : ℕ)
        → ((k : ℕ) → k < length (links_of n.shape zone) → IsEntered n f towards seen zone (get_or (links_of n.shape zone) k 0))
        → Contains (links_of n.shape zone) l
        → IsEntered n f towards seen zone l
    at n f towards seen zone l each (k, below, is) =
        subst (λ (i : ℕ). IsEntered n f towards seen zone i) (get_or_default (links_of n.shape zone) k 0 l below ∙ is) (each k below)

    listed : (s : ShapeParts) (zone l : ℕ) (forward : Bool) → l < link_count s → end_of s l forward ≡ zone → Contains (links_of s zone) l
    listed s zone l true below end = links_of-end s zone l below end
    listed s zone l false below end = links_of-start s zone l below end

-- at the zone's last link
pub draws-own : (n : NetworkParts) (old new : FlowParts) (steps : List ℕ) (zone before after asked drawn upto : ℕ)
    → DrawsSoFar n old new steps zone before after asked drawn (links_of n.shape zone) upto
    → length (links_of n.shape zone) ≤ upto
    → IsUnbound steps
    → drawn ≡ 0
    → IsDry n old after zone
draws-own n old new steps zone before after asked drawn upto h all unbound nothing =
    record {
      spare = h.spare nothing;
      links =
          λ l below.
          entered-listed n old true after zone l (λ k less. h.entered unbound nothing k (omega arith)) below;
    }

-- what was seen before a zone was marked is seen after it
pub marked-grown : (seen other marked : ℕ) → AddsNumber seen other marked → (z : ℕ) → IsTrue (inside seen z) → IsTrue (inside marked z)
marked-grown seen other marked adds z h =
    elim (cases_eq z other) [
      | inl here ↦ subst (λ (w : ℕ). IsTrue (inside marked w)) (sym here) adds.itself
      | inr apart ↦ adds.others z apart ∙ h
    ]

-- what the search of the far end found dry
far-dry : (n : NetworkParts) (old mid : FlowParts) (steps : List ℕ) (other seen marked after asked drawn : ℕ)
    → AddsNumber seen other marked
    → Draws n old mid steps other marked after asked drawn
    → (IsUnbound steps → drawn ≡ 0 → IsDry n old after other)
    → IsUnbound steps
    → drawn ≡ 0
    → (z : ℕ)
    → IsTrue (inside after z)
    → IsTrue (inside seen z) ⊎ IsDry n old after z
far-dry n old mid steps other seen marked after asked drawn adds draws own unbound nothing z h =
    elim (draws.dry unbound nothing z h) [
      | inl earlier ↦
          elim (cases_eq z other) [
            | inl here ↦ inr (subst (λ (w : ℕ). IsDry n old after w) (sym here) (own unbound nothing))
            | inr apart ↦ inl (sym (adds.others z apart) ∙ earlier)
          ]
      | inr dry' ↦ inr dry'
    ]

-- a link's search where nothing came
pub draws-still : (n : NetworkParts) (old mid : FlowParts) (steps : List ℕ) (near far seen marked after asked asked' drawn : ℕ)
    → CanDraw n old near seen asked
    → AddsNumber seen far marked
    → Draws n old mid steps far marked after asked' drawn
    → (IsUnbound steps → drawn ≡ 0 → IsDry n old after far)
    → drawn ≡ 0
    → Draws n old mid steps near seen after asked drawn
draws-still n old mid steps near far seen marked after asked asked' drawn can adds draws own nothing =
    let same : mid ≡ old = draws.still nothing in
    record {
      shape = draws.shape;
      limits = draws.limits;
      moves =
          subst (λ (f : FlowParts). Moves n.shape old f near drawn) (sym same)
          (subst (λ (k : ℕ). Moves n.shape old old near k) (sym nothing) (moves-none n.shape old near));
      most = omega arith;
      grown = λ z h. draws.grown z (marked-grown seen far marked adds z h);
      above = omega (arith, adds.above, draws.above);
      among = draws.among;
      kept = λ l below p q. ap (λ (f : FlowParts). flow_at f l) same;
      still = λ e. same;
      dry = λ unbound e z h. far-dry n old mid steps far seen marked after asked' drawn adds draws own unbound nothing z h;
    }

-- a link's search, where something came, which goes on along the link
pub draws-along : (n : NetworkParts) (old mid new : FlowParts) (steps : List ℕ) (link : ℕ) (forward : Bool) (seen marked after asked asked' drawn : ℕ)
    → IsShape n.shape
    → link < link_count n.shape
    → CanDraw n old (end_of n.shape link forward) seen asked
    → inside seen (start_of n.shape link forward) ≡ false
    → AddsNumber seen (start_of n.shape link forward) marked
    → asked' ≤ asked
    → asked' ≤ room n old link forward
    → 0 < drawn
    → Draws n old mid steps (start_of n.shape link forward) marked after asked' drawn
    → Carries mid new link forward drawn
    → Draws n old new steps (end_of n.shape link forward) seen after asked drawn
draws-along n old mid new steps link forward seen marked after asked asked' drawn valid among can unseen adds less roomy some draws moved =
    let start : ℕ = start_of n.shape link forward in
    let grown : (z : ℕ) → IsTrue (inside seen z) → IsTrue (inside marked z) = marked-grown seen (start_of n.shape link forward) marked adds in
    let ends : IsTrue (inside marked (from_zone n.shape link)) × IsTrue (inside marked (to_zone n.shape link)) =
    both_ends n.shape link forward (inside marked) adds.itself (grown (end_of n.shape link forward) can.zone_seen) in
    let kept : flow_at mid link ≡ flow_at old link = draws.kept link among ends.0 ends.1 in
    record {
      shape = moved.shape ∙ draws.shape;
      limits = carries-within n old mid new link forward drawn can.limits draws.limits among kept (omega (arith, draws.most)) moved;
      moves = moves-along n.shape old mid new link forward drawn valid among draws.moves moved;
      most = omega (arith, draws.most);
      grown = λ z h. draws.grown z (grown z h);
      above = omega (arith, adds.above, draws.above);
      among = draws.among;
      kept =
          λ l below p q.
          let other : l ≢ link =
          λ here.
          let P : ℕ → Type 0 = λ k. IsTrue (inside seen (start_of n.shape k forward)) in
          false≢true (sym unseen ∙ subst P here (start_there n.shape l forward (inside seen) p q)) in
          moved.others l other ∙ draws.kept l below (grown (from_zone n.shape l) p) (grown (to_zone n.shape l) q);
      still = λ nothing. absurd (omega arith);
      dry = λ unbound nothing. absurd (omega arith);
    }

-- how far a pull has come: the goal's own spare was taken, and searches brought more
pub record PullsSoFar (n : NetworkParts) (old new : FlowParts) (goal asked moved : ℕ) : Type 0 where
  pub shape : new.shape ≡ n.shape
  pub limits : IsWithinLimits n new
  pub moves : Moves n.shape old new goal moved
  pub most : moved ≤ asked
  pub own : spare_at new goal ≡ 0 ⊎ (spare_at new goal + asked ≤ spare_at old goal)

pub pulls-own : (n : NetworkParts) (old new : FlowParts) (goal asked given : ℕ)
    → old.shape ≡ n.shape
    → IsWithinLimits n old
    → goal < length old.spares
    → given ≡ min (spare_at old goal) asked
    → new ≡ record old { spares = slice_set old.spares goal (spare_at old goal - given) }
    → PullsSoFar n old new goal asked given
pulls-own n old new goal asked given shape limits among is after =
    let within : IsWithinLimits n new =
    let P : FlowParts → Type 0 = λ f. IsWithinLimits n f in
    subst P (sym after) record { ways = limits.ways } in
    let left : spare_at new goal ≡ spare_at old goal - given =
    ap (λ (f : FlowParts). spare_at f goal) after
    ∙ get_or-set_same old.spares goal (spare_at old goal - given) 0 among in
    record {
      shape = ap (λ (f : FlowParts). f.shape) after ∙ shape;
      limits = within;
      moves = moves-spare n.shape old new goal given among (omega arith) after;
      most = omega arith;
      own =
          elim (cases_lt (spare_at old goal) asked) [
            | inl less ↦ inl (omega arith)
            | inr enough ↦ inr (omega arith)
          ];
    }

-- one pull more
pub pulls-then : (n : NetworkParts) (old mid new : FlowParts) (goal asked moved more : ℕ)
    → PullsSoFar n old mid goal asked moved
    → new.shape ≡ n.shape
    → IsWithinLimits n new
    → Moves n.shape mid new goal more
    → more ≤ asked - moved
    → PullsSoFar n old new goal asked (moved + more)
pulls-then n old mid new goal asked moved more before shape limits move most =
    record {
      shape = shape;
      limits = limits;
      moves = moves-then n.shape old mid new goal moved more before.moves move;
      most = omega (arith, before.most);
      own =
          elim before.own [
            | inl none ↦ inl (omega (arith, move.fell goal))
            | inr enough ↦ inr (omega (arith, move.fell goal))
          ];
    }

-- where a search from the goal alone moves nothing, what it saw is used up
pub pull-short : (n : NetworkParts) (old new : FlowParts) (steps : List ℕ) (goal seen after asked drawn : ℕ)
    → IsShape n.shape
    → AddsNumber 0 goal seen
    → Draws n old new steps goal seen after asked drawn
    → IsUnbound steps
    → (IsUnbound steps → drawn ≡ 0 → IsDry n old after goal)
    → drawn ≡ 0
    → IsUsedUp n new goal after
pull-short n old new steps goal seen after asked drawn valid adds draws unbound own nothing =
    let same : new ≡ old = draws.still nothing in
    let dry : (w : ℕ) → IsTrue (inside after w) → IsDry n old after w =
    λ w h.
    elim (draws.dry unbound nothing w h) [
      | inl first ↦
          elim (cases_eq w goal) [
            | inl here ↦ subst (λ (x : ℕ). IsDry n old after x) (sym here) (own unbound nothing)
            | inr apart ↦ absurd (false≢true (sym (inside_zero w) ∙ sym (adds.others w apart) ∙ first))
          ]
      | inr found ↦ found
    ] in
    let P : FlowParts → Type 0 = λ f. IsUsedUp n f goal after in
    subst P (sym same)
    record {
      among = draws.among;
      itself = draws.grown goal adds.itself;
      closed =
          record {
            through = λ l forward below room' at. ((dry (end_of n.shape l forward) at).links l below).ways forward refl room';
          };
      spare = λ z at. (dry z at).spare;
    }
