-- The two entries that a mean is made of, read from entries of which the last are made already.
use Rattle.std.proofs.Common.{◌≡◌, ℕ, ◌+◌, ◌-◌, ◌*◌, ◌<◌, ◌≤◌, List, length, get_or, sym, subst, ◌∙◌, arith}
use Rattle.std.proofs.lemmas.List.{get_or_default}
use Rattle.fixed_interval.specs.declared.enclosure.Enclosure.{Enclosure}
use Rattle.fixed_interval.specs.Rounding.{floor_div, ceil_div}
use Rattle.fixed_interval.specs.Enclosure.{one}
use Rattle.fixed_interval.proofs.Rounds.{floor_div-more, ceil_div-more}
use Rattle.outage_table.proofs.Ends.{mean-le, floor-le-ceil}
use Rattle.outage_table.specs.Table.{AreFallingEntries}
use Rattle.outage_table.specs.Fleet.{moved}

-- up to place k the entries are as they were, and `a` and `b` are those at k and at k - c
pub record ReadsTwo (entries old : List Enclosure) (k c : ℕ) (a b : Enclosure) : Type 0 where
  pub within : k < length entries
  pub still : (j : ℕ) (d : Enclosure) → j ≤ k → get_or entries j d ≡ get_or old j d
  pub first : a ≡ get_or entries k a
  pub second : b ≡ get_or entries (k - c) b

here : (entries old : List Enclosure) (k c : ℕ) (a b d : Enclosure) → ReadsTwo entries old k c a b
    → get_or old k d ≡ a
here entries old k c a b d reads =
    sym (reads.still k d (omega arith)) ∙ get_or_default entries k d a reads.within ∙ sym reads.first

there : (entries old : List Enclosure) (k c : ℕ) (a b d : Enclosure) → ReadsTwo entries old k c a b
    → get_or old (k - c) d ≡ b
there entries old k c a b d reads =
    let within : k - c < length entries = omega (arith, reads.within) in
    sym (reads.still (k - c) d (omega arith)) ∙ get_or_default entries (k - c) d b within ∙ sym reads.second

-- the entry so many places before is not less
pub reads_falls : (entries old : List Enclosure) (k c : ℕ) (a b : Enclosure) → ReadsTwo entries old k c a b → AreFallingEntries old
    → length entries ≡ length old → (a.low ≤ b.low) × ((a.high ≤ b.high) × (b.high ≤ one))
reads_falls entries old k c a b reads falls same =
    let within : k < length old = omega (arith, reads.within) in
    let low = falls.low (k - c) k a (omega arith) within in
    let high = falls.high (k - c) k a (omega arith) within in
    let part = falls.part (k - c) a (omega arith) in
    let p = here entries old k c a b a reads in
    let q = there entries old k c a b a reads in
    (rw (p, q) at low, (rw (p, q) at high, rw q at part))

-- and what is made of both
pub low_made : (entries old : List Enclosure) (k c out all : ℕ) (a b e d : Enclosure) → ReadsTwo entries old k c a b
    → e.low ≡ a.low + floor_div (out * (b.low - a.low)) all → e.low ≡ moved floor_div out all c (λ y. (get_or old y d).low) k
low_made entries old k c out all a b e d reads made =
    rw (here entries old k c a b d reads, there entries old k c a b d reads) made

pub high_made : (entries old : List Enclosure) (k c out all : ℕ) (a b e d : Enclosure) → ReadsTwo entries old k c a b
    → e.high ≡ a.high + ceil_div (out * (b.high - a.high)) all → e.high ≡ moved ceil_div out all c (λ y. (get_or old y d).high) k
high_made entries old k c out all a b e d reads made =
    rw (here entries old k c a b d reads, there entries old k c a b d reads) made

-- its low end is not above its high end
mean_ordered : (f r a b c d : ℕ) → 0 < f + r → a ≤ b → c ≤ d → a ≤ c → b ≤ d
    → a + floor_div (f * (b - a)) (f + r) ≤ c + ceil_div (f * (d - c)) (f + r)
mean_ordered f r a b c d some h k l m =
    let whole : floor_div (r * a + f * b) (f + r) ≤ ceil_div (r * c + f * d) (f + r)
    = floor-le-ceil _ _ (f + r) some (mean-le f r a b c d l m) in
    rw (floor_div-more f r a b some h, ceil_div-more f r c d some k) whole

pub made_ordered : (f w a b c d : ℕ) → 0 < w → f ≤ w → a ≤ b → c ≤ d → a ≤ c → b ≤ d
    → a + floor_div (f * (b - a)) w ≤ c + ceil_div (f * (d - c)) w
made_ordered f w a b c d some part h k l m =
    let whole : f + (w - f) ≡ w = omega arith in
    subst (λ n. a + floor_div (f * (b - a)) n ≤ c + ceil_div (f * (d - c)) n) whole (mean_ordered f (w - f) a b c d (omega arith) h k l m)
