-- Numbers of zones, joined by `+`, and lists of amounts, one more at a time.
use Rattle.std.proofs.Common.{◌≡◌, ℕ, ◌+◌, ◌<◌, Bool, List, [], ◌++◌, length, take, get_or, ap, ◌∙◌, append_assoc, refl}
use Rattle.std.specs.Prelude.{codes}
use Rattle.std.specs.List.{flat_map}
use Rattle.std.proofs.lemmas.List.{take_more}
use Rattle.zone_network.specs.Sums.{inside}
use Rattle.decimal_text.specs.DecimalText.{whole_text}
use Rattle.decimal_text.proofs.Growing.{Joined, flat_map-more}
use Rattle.result_recorders.specs.Lines.{amounts_text, zones_in, joined_text}

-- the numbers of all zones of a mask below `end` were appended
pub zones_joined : (mask end : ℕ) (before now : List ℕ) (first : Bool) → Joined whole_text (inside mask) end before now first → now ≡ before ++ joined_text (zones_in mask end)
unfolding zones_in joined_text
zones_joined mask end before now first joined = joined.text

-- ---- amounts
pub amounts-none : amounts_text [] ≡ []
unfolding amounts_text
amounts-none = refl

-- one more amount behind a word
pub amounts-more : (amounts : List ℕ) (i : ℕ) (before word now new : List ℕ) → i < length amounts → now ≡ before ++ word ++ amounts_text (take i amounts) → new ≡ now ++ codes " " ++ whole_text (get_or amounts i 0) → new ≡ before ++ word ++ amounts_text (take (i + 1) amounts)
unfolding amounts_text
amounts-more amounts i before word now new h is more =
    let piece = λ (amount : ℕ). codes " " ++ whole_text amount in
    let grown : flat_map piece (take (i + 1) amounts) ≡ flat_map piece (take i amounts) ++ piece (get_or amounts i 0) = ap (flat_map piece) (take_more amounts i 0 h) ∙ flat_map-more piece (take i amounts) (get_or amounts i 0) in
    rw (more, is, grown) (simp append_assoc)
