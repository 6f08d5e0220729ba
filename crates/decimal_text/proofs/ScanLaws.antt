-- Each way in which taking a field apart ends, against reading on byte by byte.
use Rattle.std.proofs.Common.{◌≡◌, ℕ, zero, suc, ◌+◌, ◌<◌, ◌≤◌, ◌⊎◌, inl, inr, true, false, eqb, ◌&&◌, ◌||◌, List, [], ◌∷◌, ◌++◌, length, Option, None, Some, Result, Ok, Err, refl, sym, ap, subst, ◌∙◌, arith}
use Rattle.std.specs.Prelude.{unwrap_or}
use Rattle.std.specs.Char.{is_digit, digit_value}
use Rattle.std.specs.Option.{option_map}
use Rattle.std.proofs.lemmas.Bool.{le-ltb, lt-ltb, ne_eqb, eqb-true, eqb-false, and_left, and_right, or_from}
use Rattle.decimal_text.specs.Numeral.{Sign, Unsigned, Plus, Minus, Numeral, sign_bytes, raised_by, lowered_by, raised, lowered}
use Rattle.decimal_text.specs.Reading.{numeral, exponent, has_digit, more_exponent, more, read_on, nothing}
use Rattle.decimal_text.specs.Scanning.{NoDigitFirst, OtherFirst, SplitsDigits, SplitsPoint, SplitsSign, ReadsAs}
use Rattle.decimal_text.proofs.Spelled.{whole_is_read, behind_is_read, exponent_is_read, stops, completes, lacks}

-- the digits before and behind a point are read
pub front_read : (field whole after rest : List ℕ) (f : Option (List ℕ)) → SplitsDigits field whole after → SplitsPoint after f rest → read_on nothing field ≡ read_on (numeral whole f None) rest
front_read field whole after rest None d p = ap (read_on nothing) (d.parts ∙ ap (λ (t : List ℕ). whole ++ t) p.0) ∙ whole_is_read whole rest d.digits
front_read field whole after rest (Some behind) d p =
    ap (read_on nothing) (d.parts ∙ ap (λ (t : List ℕ). whole ++ t) p.0) ∙ whole_is_read whole (46 ∷ (behind ++ rest)) d.digits ∙ behind_is_read whole behind rest p.1

-- no digit, no point where one may stand, and no exponent go on
no_more : (whole after rest : List ℕ) (f : Option (List ℕ)) (b : ℕ) → NoDigitFirst after → SplitsPoint after f (b ∷ rest) → ((eqb b 101 || eqb b 69) && has_digit whole f) ≡ false → more None whole f b ≡ None
no_more whole after rest None b d p h =
    let digit : is_digit b 10 ≡ false = le-ltb (digit_value b) 10 (subst NoDigitFirst p.0 d) in
    let point : eqb b 46 ≡ false = ne_eqb b 46 p.1 in
    rw (digit, point, h) refl
no_more whole after rest (Some behind) b d p h =
    let digit : is_digit b 10 ≡ false = le-ltb (digit_value b) 10 p.2 in
    rw (digit, h) refl

-- without a digit nothing more is read
lacks_at : (whole after rest : List ℕ) (f : Option (List ℕ)) → NoDigitFirst after → SplitsPoint after f rest → has_digit whole f ≡ false → read_on (numeral whole f None) rest ≡ Err rest
lacks_at whole after [] f d p h = lacks (numeral whole f None) h
lacks_at whole after (b ∷ rest) f d p h = stops (numeral whole f None) b rest (no_more whole after rest f b d p (and_right (eqb b 101 || eqb b 69) (has_digit whole f) h))

pub without_digit : (field whole after behind rest : List ℕ) (f : Option (List ℕ)) → SplitsDigits field whole after → SplitsPoint after f rest → behind ≡ unwrap_or f [] → (0 < length whole + length behind → ⊥)
    → read_on nothing field ≡ Err rest
without_digit field whole after behind rest f d p b h =
    front_read field whole after rest f d p ∙ lacks_at whole after rest f d.ends p (le-ltb 0 (length whole + length (unwrap_or f [])) (none_over _ (λ lt. h (subst (λ (t : List ℕ). 0 < length whole + length t) (sym b) lt))))
  where
    none_over : (n : ℕ) → (0 < n → ⊥) → n ≤ 0
    none_over zero g = omega arith
    none_over (suc n) g = absurd (g (omega arith))

pub without_letter : (field whole after rest : List ℕ) (letter : ℕ) (f : Option (List ℕ)) → SplitsDigits field whole after → SplitsPoint after f (letter ∷ rest) → ((letter ≡ 101) ⊎ (letter ≡ 69) → ⊥)
    → read_on nothing field ≡ Err (letter ∷ rest)
without_letter field whole after rest letter f d p h =
    front_read field whole after (letter ∷ rest) f d p
    ∙ stops (numeral whole f None) letter rest (no_more whole after rest f letter d.ends p (and_left (eqb letter 101 || eqb letter 69) (has_digit whole f)
    (or_from _ _ (ne_eqb letter 101 (λ e. h (inl e))) (ne_eqb letter 69 (λ e. h (inr e))))))

some_digit : (whole behind : List ℕ) (f : Option (List ℕ)) → behind ≡ unwrap_or f [] → 0 < length whole + length behind → has_digit whole f ≡ true
some_digit whole behind f b h = lt-ltb 0 (length whole + length (unwrap_or f [])) (subst (λ (t : List ℕ). 0 < length whole + length t) b h)

pub digits_alone : (field whole after behind rest : List ℕ) (f : Option (List ℕ)) → SplitsDigits field whole after → SplitsPoint after f rest → behind ≡ unwrap_or f [] → 0 < length whole + length behind → rest ≡ []
    → ReadsAs (read_on nothing field) whole behind 0 0
digits_alone field whole after behind rest f d p b h e =
    let read : read_on nothing field ≡ Ok (numeral whole f None) =
    front_read field whole after rest f d p ∙ ap (read_on (numeral whole f None)) e ∙ completes (numeral whole f None) (some_digit whole behind f b h) in
    subst (λ (r : Result Numeral (List ℕ)). ReadsAs r whole behind 0 0) (sym read) (record { whole-is = refl; behind-is = b; up-is = refl; low-is = refl })

-- the sign and the digits of an exponent are read
sign_parts : (after_letter after_sign : List ℕ) (s : Sign) → SplitsSign after_letter s after_sign → after_letter ≡ sign_bytes s ++ after_sign
sign_parts after_letter after_sign Unsigned p = p.0
sign_parts after_letter after_sign Plus p = p
sign_parts after_letter after_sign Minus p = p

exponent_read : (field whole after behind after_letter after_sign digits unread : List ℕ) (letter : ℕ) (f : Option (List ℕ)) (s : Sign)
    → SplitsDigits field whole after → SplitsPoint after f (letter ∷ after_letter) → behind ≡ unwrap_or f [] → 0 < length whole + length behind → (letter ≡ 101) ⊎ (letter ≡ 69)
    → SplitsSign after_letter s after_sign → SplitsDigits after_sign digits unread
    → read_on nothing field ≡ read_on (numeral whole f (Some (exponent letter s digits))) unread
exponent_read field whole after behind after_letter after_sign digits unread letter f s d p b h l sp ds =
    front_read field whole after (letter ∷ after_letter) f d p
    ∙ ap (λ (t : List ℕ). read_on (numeral whole f None) (letter ∷ t)) (sign_parts after_letter after_sign s sp ∙ ap (λ (t : List ℕ). sign_bytes s ++ t) ds.parts)
    ∙ exponent_is_read whole f letter s digits unread l (some_digit whole behind f b h) ds.digits

-- no sign behind a sign or a digit, and no other byte, goes on
no_more_exponent : (l : ℕ) (after_letter after_sign digits unread : List ℕ) (s : Sign) (b : ℕ) → SplitsSign after_letter s after_sign → after_sign ≡ digits ++ (b ∷ unread) → 10 ≤ digit_value b → more_exponent l s digits b ≡ None
no_more_exponent l after_letter after_sign [] unread Unsigned b sp e ge =
    let signs : OtherFirst 43 (b ∷ unread) × OtherFirst 45 (b ∷ unread) = subst (λ (t : List ℕ). OtherFirst 43 t × OtherFirst 45 t) e (sp.1, sp.2) in
    rw (le-ltb (digit_value b) 10 ge, ne_eqb b 43 signs.0, ne_eqb b 45 signs.1) refl
no_more_exponent l after_letter after_sign (d ∷ digits) unread Unsigned b sp e ge = rw (le-ltb (digit_value b) 10 ge) refl
no_more_exponent l after_letter after_sign digits unread Plus b sp e ge = rw (le-ltb (digit_value b) 10 ge) refl
no_more_exponent l after_letter after_sign digits unread Minus b sp e ge = rw (le-ltb (digit_value b) 10 ge) refl

-- an exponent without digits, or with bytes behind it
abbrev pub IsCut : List ℕ → List ℕ → Type 0
IsCut digits unread = (length digits ≡ 0) ⊎ (0 < length unread)

stuck_exponent : (whole after_letter after_sign digits unread : List ℕ) (letter : ℕ) (f : Option (List ℕ)) (s : Sign) → SplitsSign after_letter s after_sign → SplitsDigits after_sign digits unread → IsCut digits unread
    → read_on (numeral whole f (Some (exponent letter s digits))) unread ≡ Err unread
stuck_exponent whole after_letter after_sign digits [] letter f s sp ds (inl z) = lacks (numeral whole f (Some (exponent letter s digits))) (le-ltb 0 (length digits) (omega arith))
stuck_exponent whole after_letter after_sign digits [] letter f s sp ds (inr lt) = absurd (omega arith)
stuck_exponent whole after_letter after_sign digits (b ∷ unread) letter f s sp ds cut =
    stops (numeral whole f (Some (exponent letter s digits))) b unread (ap (option_map (λ y. numeral whole f (Some y))) (no_more_exponent letter after_letter after_sign digits unread s b sp ds.parts ds.ends))

pub cut_exponent : (field whole after behind after_letter after_sign digits unread : List ℕ) (letter : ℕ) (f : Option (List ℕ)) (s : Sign)
    → SplitsDigits field whole after → SplitsPoint after f (letter ∷ after_letter) → behind ≡ unwrap_or f [] → 0 < length whole + length behind → (letter ≡ 101) ⊎ (letter ≡ 69)
    → SplitsSign after_letter s after_sign → SplitsDigits after_sign digits unread → IsCut digits unread → read_on nothing field ≡ Err unread
cut_exponent field whole after behind after_letter after_sign digits unread letter f s d p b h l sp ds cut =
    exponent_read field whole after behind after_letter after_sign digits unread letter f s d p b h l sp ds
    ∙ stuck_exponent whole after_letter after_sign digits unread letter f s sp ds cut

pub whole_exponent : (field whole after behind after_letter after_sign digits unread : List ℕ) (letter : ℕ) (f : Option (List ℕ)) (s : Sign) (up low : ℕ)
    → SplitsDigits field whole after → SplitsPoint after f (letter ∷ after_letter) → behind ≡ unwrap_or f [] → 0 < length whole + length behind → (letter ≡ 101) ⊎ (letter ≡ 69)
    → SplitsSign after_letter s after_sign → SplitsDigits after_sign digits unread → 0 < length digits → unread ≡ []
    → up ≡ raised (Some (exponent letter s digits)) → low ≡ lowered (Some (exponent letter s digits))
    → ReadsAs (read_on nothing field) whole behind up low
whole_exponent field whole after behind after_letter after_sign digits unread letter f s up low d p b h l sp ds some e up-is low-is =
    let read : read_on nothing field ≡ Ok (numeral whole f (Some (exponent letter s digits))) =
    exponent_read field whole after behind after_letter after_sign digits unread letter f s d p b h l sp ds
    ∙ ap (read_on (numeral whole f (Some (exponent letter s digits)))) e
    ∙ completes (numeral whole f (Some (exponent letter s digits))) (lt-ltb 0 (length digits) some) in
    subst (λ (r : Result Numeral (List ℕ)). ReadsAs r whole behind up low) (sym read) (record { whole-is = refl; behind-is = b; up-is = up-is; low-is = low-is })

-- an exponent either way
pub minus_exponent : (s : Sign) (e n : ℕ) → s ≡ Minus → n ≡ e → (0 ≡ raised_by s e) × (n ≡ lowered_by s e)
minus_exponent s e n m h = rw m (refl, h)

pub plus_exponent : (s : Sign) (e n : ℕ) → (s ≡ Minus → ⊥) → n ≡ e → (n ≡ raised_by s e) × (0 ≡ lowered_by s e)
plus_exponent Unsigned e n m h = (h, refl)
plus_exponent Plus e n m h = (h, refl)
plus_exponent Minus e n m h = absurd (m refl)

-- what `is_empty` tells
pub none_there : (n : ℕ) → true ≡ eqb n 0 → n ≡ 0
none_there n e = eqb-true n 0 (sym e)

pub some_there : (n : ℕ) → false ≡ eqb n 0 → 0 < n
some_there zero e = absurd (eqb-false 0 0 (sym e) refl)
some_there (suc n) e = omega arith
