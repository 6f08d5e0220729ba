use Rattle.std.proofs.Common.{◌≡◌, ◌≢◌, ℕ, ◌<◌, ◌==◌, ◌||◌, inl, inr, Bool, true, false, not, List, length, get_or, refl, ap, sym, ◌∙◌, subst, arith}
use Rattle.std.specs.Prelude.{IsTrue}
use Rattle.std.proofs.lemmas.Bool.{cases_Bool, cond-true, cond-false, eqb-true}
use Rattle.std.proofs.lemmas.List.Elements.{All-get_or}
use Rattle.zone_network.specs.Sums.{NumberSet}
use Rattle.zone_network.specs.Network.{ShapeParts, IsShape, link_count, from_zone, to_zone, touches_at, links_of}
use Rattle.zone_network.proofs.FlowLemmas.{link_among}
use Rattle.zone_network.proofs.LinkLists.{links_of-below, links_of-touch}
use Rattle.transfer_flow.specs.Reach.{start_of, end_of}

-- the ends of a link are zones, and differ
pub start_among : (s : ShapeParts) (l : ℕ) (forward : Bool) → IsShape s → l < link_count s → start_of s l forward < s.zones
start_among s l true valid below = (link_among s l valid below).start
start_among s l false valid below = (link_among s l valid below).end

pub end_among : (s : ShapeParts) (l : ℕ) (forward : Bool) → IsShape s → l < link_count s → end_of s l forward < s.zones
end_among s l true valid below = (link_among s l valid below).end
end_among s l false valid below = (link_among s l valid below).start

pub ends_apart : (s : ShapeParts) (l : ℕ) (forward : Bool) → IsShape s → l < link_count s → start_of s l forward ≢ end_of s l forward
ends_apart s l true valid below = (link_among s l valid below).apart
ends_apart s l false valid below = λ e. (link_among s l valid below).apart (sym e)

-- one way starts where the other ends
pub end_other : (s : ShapeParts) (l : ℕ) (forward : Bool) → end_of s l (not forward) ≡ start_of s l forward
end_other s l true = refl
end_other s l false = refl

pub start_other : (s : ShapeParts) (l : ℕ) (forward : Bool) → start_of s l (not forward) ≡ end_of s l forward
start_other s l true = refl
start_other s l false = refl

-- a set has both ends of a link where it has those of one way
pub both_ends : (s : ShapeParts) (l : ℕ) (forward : Bool) (set : NumberSet)
    → IsTrue (set (start_of s l forward))
    → IsTrue (set (end_of s l forward))
    → IsTrue (set (from_zone s l)) × IsTrue (set (to_zone s l))
both_ends s l true set start end = (start, end)
both_ends s l false set start end = (end, start)

pub start_there : (s : ShapeParts) (l : ℕ) (forward : Bool) (set : NumberSet)
    → IsTrue (set (from_zone s l))
    → IsTrue (set (to_zone s l))
    → IsTrue (set (start_of s l forward))
start_there s l true set from to = from
start_there s l false set from to = to

-- of a link that touches a zone, the way into it
pub way_into : (s : ShapeParts) (zone l : ℕ) → touches_at s.ends zone l ≡ true → end_of s l (to_zone s l == zone) ≡ zone
way_into s zone l touches =
    elim (cases_Bool (to_zone s l == zone)) [
      | inl ends ↦
          cond-true (to_zone s l == zone) (to_zone s l) (from_zone s l) ends ∙ eqb-true (to_zone s l) zone ends
      | inr apart ↦
          cond-false (to_zone s l == zone) (to_zone s l) (from_zone s l) apart
          ∙ eqb-true (from_zone s l) zone (first_holds (from_zone s l == zone) (to_zone s l == zone) touches apart)
    ]
  where
    first_holds : (a b : Bool) → (a || b) ≡ true → b ≡ false → a ≡ true
    first_holds true b e h = refl
    first_holds false b e h = cc

-- the links that are listed for a zone are links
pub listed_link : (s : ShapeParts) (zone k : ℕ) (items : List ℕ) → items ≡ links_of s zone → k < length items → get_or items k 0 < link_count s
listed_link s zone k items is below =
    let P : List ℕ → Type 0 = λ xs. get_or xs k 0 < link_count s in
    subst P (sym is) (All-get_or (λ l. l < link_count s) (links_of s zone) k 0 (omega (arith, ap length is)) (links_of-below s zone))

-- and each goes into it
pub listed_way : (s : ShapeParts) (zone k to : ℕ) (items : List ℕ)
    → items ≡ links_of s zone
    → k < length items
    → to ≡ to_zone s (get_or items k 0)
    → end_of s (get_or items k 0) (to == zone) ≡ zone
listed_way s zone k to items is below value =
    let P : List ℕ → Type 0 = λ xs. touches_at s.ends zone (get_or xs k 0) ≡ true in
    let touches : touches_at s.ends zone (get_or items k 0) ≡ true =
    subst P (sym is) (All-get_or (λ l. touches_at s.ends zone l ≡ true) (links_of s zone) k 0 (omega (arith, ap length is)) (links_of-touch s zone)) in
    ap (λ (x : ℕ). end_of s (get_or items k 0) (x == zone)) value ∙ way_into s zone (get_or items k 0) touches
