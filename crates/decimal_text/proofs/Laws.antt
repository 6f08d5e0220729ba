-- What is read from a field is what the grammar answers to it, and nothing else is.
use Rattle.std.proofs.Common.{◌≡◌, ℕ, ◌+◌, ◌^◌, ◌<◌, ◌≤◌, inl, inr, Bool, true, false, cond, ltb, List, [], ◌∷◌, length, Option, None, Some, Result, Ok, Err, refl, sym, ap, subst, ◌∙◌, arith}
use Rattle.std.proofs.lemmas.Bool.{cases_lt, ltb-true, ltb-false, lt-ltb, le-ltb}
use Rattle.decimal_text.specs.declared.fault.NumberFault.{NumberFault}
use Rattle.decimal_text.specs.declared.fault.NumberFault.TheVariants.{Empty, NotANumber, NotWhole, TooLarge}
use Rattle.decimal_text.specs.Numeral.{Numeral, IsWorth, IsWhole, IsBillionths}
use Rattle.decimal_text.specs.Faults.{HasLength, IsFirstBelowOne, IsNoNumber, IsNumber, IsWholeAnswer, IsBillionthsAnswer}
use Rattle.decimal_text.specs.Reading.{◌>>=◌, nothing, read_on, or_no_number, numeral_of, scaled, first_below_one, up_to_limit, if_whole, whole_of, billionths_of}
use Rattle.decimal_text.specs.Scanning.{AreParts, ReadsAs, NumeralAs, capped}
use Rattle.decimal_text.proofs.Spelled.{nothing_begun, read_is_spelled, spelled_is_read, err_is_not}
use Rattle.decimal_text.proofs.Fronts.{fault_is_longest, one_longest}
use Rattle.decimal_text.proofs.Below.{BelowOne, below_one_is, billionths_are, one_billionths, one_worth, one_first}

-- ---- the numeral of a field

abbrev pub IsNumeralAnswer : List ℕ → Result Numeral NumberFault → Type 0
IsNumeralAnswer field (Ok n) = IsNumber field n
IsNumeralAnswer field (Err Empty) = field ≡ []
IsNumeralAnswer field (Err (NotANumber at)) = IsNoNumber field at
IsNumeralAnswer field (Err (NotWhole at)) = ⊥
IsNumeralAnswer field (Err TooLarge) = 40 < length field

read_answers : (field : List ℕ) (r : Result Numeral (List ℕ)) → HasLength field → read_on nothing field ≡ r → IsNumeralAnswer field (or_no_number (length field) r)
read_answers field (Ok n) h e =
    let s = read_is_spelled field nothing n nothing_begun e in
    record { length = h; spells = record { is_numeral = s.0; bytes = s.1 } }
read_answers field (Err rest) h e = record {
  length = h;
  none = λ n sp. err_is_not rest n (sym e ∙ spelled_is_read n field sp);
  place = fault_is_longest field rest e;
}

length_answers : (b : ℕ) (bs : List ℕ) (t : Bool) → ltb 40 (length (b ∷ bs)) ≡ t → IsNumeralAnswer (b ∷ bs) (cond t (Err TooLarge) (or_no_number (length (b ∷ bs)) (read_on nothing (b ∷ bs))))
length_answers b bs true e = ltb-true _ _ e
length_answers b bs false e = read_answers (b ∷ bs) (read_on nothing (b ∷ bs)) (record { some = omega arith; few = ltb-false _ _ e }) refl

pub numeral_answers : (field : List ℕ) → IsNumeralAnswer field (numeral_of field)
unfolding numeral_of
numeral_answers [] = refl
numeral_answers (b ∷ bs) = length_answers b bs (ltb 40 (length (b ∷ bs))) refl

pub short_read : (field : List ℕ) → HasLength field → numeral_of field ≡ or_no_number (length field) (read_on nothing field)
unfolding numeral_of
short_read [] h = absurd (omega (arith, h.some))
short_read (b ∷ bs) h = rw (le-ltb 40 (length (b ∷ bs)) h.few) refl

pub number_read : (field : List ℕ) (n : Numeral) → IsNumber field n → numeral_of field ≡ Ok n
number_read field n h = short_read field h.length ∙ ap (or_no_number (length field)) (spelled_is_read n field h.spells)

pub long_read : (field : List ℕ) → 40 < length field → numeral_of field ≡ Err TooLarge
unfolding numeral_of
long_read [] lt = absurd (omega arith)
long_read (b ∷ bs) lt = rw (lt-ltb 40 (length (b ∷ bs)) lt) refl

pub empty_read : (field : List ℕ) → field ≡ [] → numeral_of field ≡ Err Empty
unfolding numeral_of
empty_read field e = rw e refl

none_at : (field : List ℕ) (at : ℕ) (r : Result Numeral NumberFault) → IsNoNumber field at → IsNumeralAnswer field r → r ≡ Err (NotANumber at)
none_at field at (Ok n) h a = absurd (h.none n a.spells)
none_at field at (Err Empty) h a = let len = h.length.some in absurd (omega (arith, ap (λ (t : List ℕ). length t) a))
none_at field at (Err (NotANumber place)) h a = ap (λ (p : ℕ). Err (NotANumber p)) (one_longest field place at a.place h.place)
none_at field at (Err (NotWhole place)) h a = absurd a
none_at field at (Err TooLarge) h a = let len = h.length.few in absurd (omega arith)

pub none_read : (field : List ℕ) (at : ℕ) → IsNoNumber field at → numeral_of field ≡ Err (NotANumber at)
none_read field at h = none_at field at (numeral_of field) h (numeral_answers field)

-- ---- whole numbers

whole_limit : (field : List ℕ) (n : Numeral) (t : Bool) → ltb (10 ^ 18) (scaled 0 n) ≡ t → IsNumber field n → IsWorth n (scaled 0 n) → IsWholeAnswer field (cond t (Err TooLarge) (Ok (scaled 0 n)))
whole_limit field n true e h w = inr (n, h, scaled 0 n, w, ltb-true _ _ e)
whole_limit field n false e h w = (n, h, w, ltb-false _ _ e)

if_whole_answers : (field : List ℕ) (n : Numeral) (o : Option ℕ) → IsNumber field n → BelowOne n o → IsWholeAnswer field (if_whole o n)
if_whole_answers field n None h w = whole_limit field n (ltb (10 ^ 18) (scaled 0 n)) refl h w
if_whole_answers field n (Some at) h w = (n, h, w.0, w.1, w.2)

whole_from : (field : List ℕ) (r : Result Numeral NumberFault) → IsNumeralAnswer field r → IsWholeAnswer field (r >>= λ n. if_whole (first_below_one n) n)
whole_from field (Ok n) a = if_whole_answers field n (first_below_one n) a (below_one_is n a.spells.is_numeral)
whole_from field (Err Empty) a = a
whole_from field (Err (NotANumber at)) a = a
whole_from field (Err (NotWhole at)) a = absurd a
whole_from field (Err TooLarge) a = inl a

-- What is read is an answer of the grammar.
pub whole_answers : (field : List ℕ) → IsWholeAnswer field (whole_of field)
unfolding whole_of
whole_answers field = whole_from field (numeral_of field) (numeral_answers field)

abbrev gives : ℕ → Result ℕ NumberFault
gives v = Ok v

-- what a numeral is read as
pub read_whole_is : (field : List ℕ) (n : Numeral) → numeral_of field ≡ Ok n → whole_of field ≡ if_whole (first_below_one n) n
unfolding whole_of
read_whole_is field n e = rw e refl

pub read_billionths_is : (field : List ℕ) (n : Numeral) → numeral_of field ≡ Ok n → billionths_of field ≡ up_to_limit (scaled 9 n)
unfolding billionths_of
read_billionths_is field n e = rw e refl

number_whole : (field : List ℕ) (n : Numeral) → IsNumber field n → whole_of field ≡ if_whole (first_below_one n) n
unfolding whole_of
number_whole field n h = rw (number_read field n h) refl

pub fault_whole : (field : List ℕ) (f : NumberFault) → numeral_of field ≡ Err f → whole_of field ≡ Err f
unfolding whole_of
fault_whole field f e = rw e refl

worth_read : (n : Numeral) (o : Option ℕ) (v : ℕ) → BelowOne n o → IsWorth n v → if_whole o n ≡ up_to_limit v
worth_read n None v b w = ap up_to_limit (one_worth n (scaled 0 n) v b w)
worth_read n (Some at) v b w = absurd (b.0 (v, w))

unwhole_read : (n : Numeral) (o : Option ℕ) (i at : ℕ) → BelowOne n o → (IsWhole n → ⊥) → IsFirstBelowOne n i at → if_whole o n ≡ Err (NotWhole at)
unwhole_read n None i at b un f = absurd (un (scaled 0 n, b))
unwhole_read n (Some place) i at b un f = ap (λ (p : ℕ). Err (NotWhole p)) (one_first n b.1 i place at b.2 f)

pub within_limit : (v : ℕ) → v ≤ 10 ^ 18 → up_to_limit v ≡ Ok v
within_limit v le = rw (le-ltb (10 ^ 18) v le) refl

pub past_limit : (v : ℕ) → 10 ^ 18 < v → up_to_limit v ≡ Err TooLarge
past_limit v lt = rw (lt-ltb (10 ^ 18) v lt) refl

-- Each answer of the grammar is what is read.
pub whole_only : (field : List ℕ) (r : Result ℕ NumberFault) → IsWholeAnswer field r → whole_of field ≡ r
whole_only field (Ok v) (n, h, w, le) = number_whole field n h ∙ worth_read n (first_below_one n) v (below_one_is n h.spells.is_numeral) w ∙ within_limit v le
whole_only field (Err Empty) a = fault_whole field Empty (empty_read field a)
whole_only field (Err (NotANumber at)) a = fault_whole field (NotANumber at) (none_read field at a)
whole_only field (Err (NotWhole at)) (n, h, un, i, f) = number_whole field n h ∙ unwhole_read n (first_below_one n) i at (below_one_is n h.spells.is_numeral) un f
whole_only field (Err TooLarge) (inl lt) = fault_whole field TooLarge (long_read field lt)
whole_only field (Err TooLarge) (inr (n, h, v, w, lt)) = number_whole field n h ∙ worth_read n (first_below_one n) v (below_one_is n h.spells.is_numeral) w ∙ past_limit v lt

-- ---- billionths

billionths_limit : (field : List ℕ) (n : Numeral) (t : Bool) → ltb (10 ^ 18) (scaled 9 n) ≡ t → IsNumber field n → IsBillionthsAnswer field (cond t (Err TooLarge) (Ok (scaled 9 n)))
billionths_limit field n true e h = inr (n, h, scaled 9 n, billionths_are n h.spells.is_numeral, ltb-true _ _ e)
billionths_limit field n false e h = (n, h, billionths_are n h.spells.is_numeral, ltb-false _ _ e)

billionths_from : (field : List ℕ) (r : Result Numeral NumberFault) → IsNumeralAnswer field r → IsBillionthsAnswer field (r >>= λ n. up_to_limit (scaled 9 n))
billionths_from field (Ok n) a = billionths_limit field n (ltb (10 ^ 18) (scaled 9 n)) refl a
billionths_from field (Err Empty) a = a
billionths_from field (Err (NotANumber at)) a = a
billionths_from field (Err (NotWhole at)) a = absurd a
billionths_from field (Err TooLarge) a = inl a

-- What is read is an answer of the grammar.
pub billionths_answers : (field : List ℕ) → IsBillionthsAnswer field (billionths_of field)
unfolding billionths_of
billionths_answers field = billionths_from field (numeral_of field) (numeral_answers field)

number_billionths : (field : List ℕ) (n : Numeral) (v : ℕ) → IsNumber field n → IsBillionths n v → billionths_of field ≡ up_to_limit v
unfolding billionths_of
number_billionths field n v h w = rw (number_read field n h) (ap up_to_limit (one_billionths n (scaled 9 n) v (billionths_are n h.spells.is_numeral) w))

pub fault_billionths : (field : List ℕ) (f : NumberFault) → numeral_of field ≡ Err f → billionths_of field ≡ Err f
unfolding billionths_of
fault_billionths field f e = rw e refl

-- Each answer of the grammar is what is read.
pub billionths_only : (field : List ℕ) (r : Result ℕ NumberFault) → IsBillionthsAnswer field r → billionths_of field ≡ r
billionths_only field (Ok v) (n, h, w, le) = number_billionths field n v h w ∙ within_limit v le
billionths_only field (Err Empty) a = fault_billionths field Empty (empty_read field a)
billionths_only field (Err (NotANumber at)) a = fault_billionths field (NotANumber at) (none_read field at a)
billionths_only field (Err (NotWhole at)) a = absurd a
billionths_only field (Err TooLarge) (inl lt) = fault_billionths field TooLarge (long_read field lt)
billionths_only field (Err TooLarge) (inr (n, h, v, w, lt)) = number_billionths field n v h w ∙ past_limit v lt

-- ---- numbers that are capped, and parts of a numeral

pub capped_limit : (v : ℕ) → up_to_limit (capped v) ≡ up_to_limit v
capped_limit v = elim (cases_lt (10 ^ 18) v) [
  | inl lt ↦ let same : capped v ≡ 10 ^ 18 + 1 = omega arith in ap up_to_limit same ∙ past_limit (10 ^ 18 + 1) (omega arith) ∙ sym (past_limit v lt)
  | inr le ↦ let same : capped v ≡ v = omega arith in ap up_to_limit same
]

parts_read : (len : ℕ) (r : Result Numeral (List ℕ)) (w b : List ℕ) (up low : ℕ) → ReadsAs r w b up low → NumeralAs (or_no_number len r) w b up low
parts_read len (Ok n) w b up low h = h
parts_read len (Err rest) w b up low h = h

pub numeral_parts : (field w b : List ℕ) (up low : ℕ) → HasLength field → ReadsAs (read_on nothing field) w b up low → NumeralAs (numeral_of field) w b up low
numeral_parts field w b up low len h = subst (λ (r : Result Numeral NumberFault). NumeralAs r w b up low) (sym (short_read field len)) (parts_read (length field) (read_on nothing field) w b up low h)

pub numeral_from : (r : Result Numeral NumberFault) (w b : List ℕ) (up low : ℕ) → NumeralAs r w b up low → (n : Numeral) × (r ≡ Ok n) × AreParts n w b up low
numeral_from (Ok n) w b up low h = (n, refl, h)
numeral_from (Err fault) w b up low h = absurd h
