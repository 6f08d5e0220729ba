-- Reading on, byte by byte, against the spelling: what is spelled is read, what is read is spelled, and
-- where it stops nothing longer begins a numeral.
use Rattle.std.proofs.Common.{◌≡◌, ℕ, ◌⊎◌, inl, inr, Bool, true, false, cond, eqb, ◌||◌, List, [], ◌∷◌, ◌++◌, Option, None, Some, Result, Ok, Err, refl, sym, ap, subst, ◌∙◌, append_assoc, arith}
use Rattle.std.specs.Char.{is_digit}
use Rattle.std.specs.Option.{option_map}
use Rattle.std.specs.Str.Parse.{AllDigits}
use Rattle.std.proofs.lemmas.Bool.{lt-ltb, ltb-true, eqb-true, or_cases, and_parts}
use Rattle.std.proofs.lemmas.Int.Digits.{digits_push}
use Rattle.std.proofs.lemmas.List.{append-nil, length-append}
use Rattle.decimal_text.specs.Numeral.{Sign, Unsigned, Plus, Minus, Exponent, Numeral, sign_bytes, spelling, behind_point, IsNumeral, Spells}
use Rattle.decimal_text.specs.Faults.{Begins}
use Rattle.decimal_text.specs.Reading.{numeral, exponent, has_digit, is_complete, more_exponent, begun_exponent, more, read_on, nothing}

-- one result or the other, at these types
abbrev done : Numeral → Result Numeral (List ℕ)
done n = Ok n

abbrev stuck : List ℕ → Result Numeral (List ℕ)
stuck rest = Err rest

-- ---- one byte

pub takes : (n m : Numeral) (b : ℕ) (bs : List ℕ) → more n.exponent n.whole n.fraction b ≡ Some m → read_on n (b ∷ bs) ≡ read_on m bs
unfolding read_on
takes n m b bs e = rw (e, read_on) refl

pub stops : (n : Numeral) (b : ℕ) (bs : List ℕ) → more n.exponent n.whole n.fraction b ≡ None → read_on n (b ∷ bs) ≡ Err (b ∷ bs)
unfolding read_on
stops n b bs e = rw (e, read_on) refl

pub completes : (n : Numeral) → is_complete n.whole n.fraction n.exponent ≡ true → read_on n [] ≡ Ok n
unfolding read_on
completes n e = rw e refl

pub lacks : (n : Numeral) → is_complete n.whole n.fraction n.exponent ≡ false → read_on n [] ≡ Err []
unfolding read_on
lacks n e = rw e refl

-- ---- what is spelled is read

digits_go_on : (st : List ℕ → Numeral) → ((w : List ℕ) (b : ℕ) → is_digit b 10 ≡ true → more (st w).exponent (st w).whole (st w).fraction b ≡ Some (st (w ++ b ∷ [])))
    → (w ds rest : List ℕ) → AllDigits 10 ds → read_on (st w) (ds ++ rest) ≡ read_on (st (w ++ ds)) rest
digits_go_on st one w [] rest h = rw append-nil refl
digits_go_on st one w (d ∷ ds) rest h =
    takes (st w) (st (w ++ d ∷ [])) d (ds ++ rest) (one w d (lt-ltb _ _ h.0))
    ∙ digits_go_on st one (w ++ d ∷ []) ds rest h.1
    ∙ ap (λ (x : List ℕ). read_on (st x) rest) (append_assoc w (d ∷ []) ds)

whole_goes_on : (w : List ℕ) (b : ℕ) → is_digit b 10 ≡ true → more None w None b ≡ Some (numeral (w ++ b ∷ []) None None)
whole_goes_on w b e = rw e refl

behind_goes_on : (w f : List ℕ) (b : ℕ) → is_digit b 10 ≡ true → more None w (Some f) b ≡ Some (numeral w (Some (f ++ b ∷ [])) None)
behind_goes_on w f b e = rw e refl

exponent_goes_on : (l : ℕ) (s : Sign) (ds : List ℕ) (b : ℕ) → is_digit b 10 ≡ true → more_exponent l s ds b ≡ Some (exponent l s (ds ++ b ∷ []))
exponent_goes_on l Unsigned [] b e = rw e refl
exponent_goes_on l Unsigned (d ∷ ds) b e = rw e refl
exponent_goes_on l Plus ds b e = rw e refl
exponent_goes_on l Minus ds b e = rw e refl

pub whole_is_read : (w rest : List ℕ) → AllDigits 10 w → read_on nothing (w ++ rest) ≡ read_on (numeral w None None) rest
whole_is_read w rest h = digits_go_on (λ w. numeral w None None) whole_goes_on [] w rest h

pub behind_is_read : (w f rest : List ℕ) → AllDigits 10 f → read_on (numeral w None None) (46 ∷ f ++ rest) ≡ read_on (numeral w (Some f) None) rest
behind_is_read w f rest h =
    takes (numeral w None None) (numeral w (Some []) None) 46 (f ++ rest) refl
    ∙ digits_go_on (λ f. numeral w (Some f) None) (behind_goes_on w) [] f rest h

is_letter : ℕ → Bool
is_letter b = eqb b 101 || eqb b 69

letter_is_read : (w : List ℕ) (f : Option (List ℕ)) (l : ℕ) → (l ≡ 101) ⊎ (l ≡ 69) → has_digit w f ≡ true → more None w f l ≡ Some (numeral w f (Some (exponent l Unsigned [])))
letter_is_read w None l (inl e) h = rw (e, h) refl
letter_is_read w None l (inr e) h = rw (e, h) refl
letter_is_read w (Some f) l (inl e) h = rw (e, h) refl
letter_is_read w (Some f) l (inr e) h = rw (e, h) refl

sign_is_read : (w : List ℕ) (f : Option (List ℕ)) (l : ℕ) (s : Sign) (rest : List ℕ) → read_on (numeral w f (Some (exponent l Unsigned []))) (sign_bytes s ++ rest) ≡ read_on (numeral w f (Some (exponent l s []))) rest
sign_is_read w f l Unsigned rest = refl
sign_is_read w f l Plus rest = takes _ (numeral w f (Some (exponent l Plus []))) 43 rest refl
sign_is_read w f l Minus rest = takes _ (numeral w f (Some (exponent l Minus []))) 45 rest refl

pub exponent_is_read : (w : List ℕ) (f : Option (List ℕ)) (l : ℕ) (s : Sign) (ds rest : List ℕ) → (l ≡ 101) ⊎ (l ≡ 69) → has_digit w f ≡ true → AllDigits 10 ds
    → read_on (numeral w f None) (l ∷ (sign_bytes s ++ (ds ++ rest))) ≡ read_on (numeral w f (Some (exponent l s ds))) rest
exponent_is_read w f l s ds rest letter some h =
    takes (numeral w f None) (numeral w f (Some (exponent l Unsigned []))) l (sign_bytes s ++ (ds ++ rest)) (letter_is_read w f l letter some)
    ∙ sign_is_read w f l s (ds ++ rest)
    ∙ digits_go_on (λ ds. numeral w f (Some (exponent l s ds))) (λ ds b e. ap (option_map (λ y. numeral w f (Some y))) (exponent_goes_on l s ds b e)) [] ds rest h

-- ---- what is read is spelled

-- an exponent that is begun has its letter, behind some digit
abbrev pub BegunExponent : List ℕ → Option (List ℕ) → Option Exponent → Type 0
BegunExponent w f None = Unit {0}
BegunExponent w f (Some x) = ((x.letter ≡ 101) ⊎ (x.letter ≡ 69)) × AllDigits 10 x.digits × (has_digit w f ≡ true)

-- what may be read of a numeral so far
pub record IsBegun (n : Numeral) : Type 0 where
  pub whole : AllDigits 10 n.whole
  pub behind : AllDigits 10 (behind_point n)
  pub exponent : BegunExponent n.whole n.fraction n.exponent

-- m is n and one byte more
pub record Grows (n : Numeral) (b : ℕ) (m : Numeral) : Type 0 where
  pub begun : IsBegun m
  pub bytes : spelling m ≡ spelling n ++ b ∷ []

pub nothing_begun : IsBegun nothing
nothing_begun = record { whole = tt; behind = tt; exponent = tt }

pub ok_is : (n m : Numeral) → done n ≡ done m → n ≡ m
ok_is n m e = cc

pub err_is_not : (rest : List ℕ) (m : Numeral) → stuck rest ≡ done m → ⊥
err_is_not rest m e = cc

picks : (t : Bool) (x y : Option Numeral) (m : Numeral) (P : Numeral → Type 0) → cond t x y ≡ Some m → (t ≡ true → x ≡ Some m → P m) → (t ≡ false → y ≡ Some m → P m) → P m
picks true x y m P e first second = first refl e
picks false x y m P e first second = second refl e

holds_at : (k m : Numeral) (P : Numeral → Type 0) → P k → Some k ≡ Some m → P m
holds_at k m P h e = let s : k ≡ m = cc in subst P s h

none_at : (m : Numeral) (P : Numeral → Type 0) → None ≡ Some m → P m
none_at m P e = absurd cc

begun_grows : (w : List ℕ) (f : Option (List ℕ)) (b : ℕ) (m : Numeral) → IsBegun (numeral w f None) → begun_exponent w f b ≡ Some m → Grows (numeral w f None) b m
begun_grows w f b m h e = picks _ (Some (numeral w f (Some (exponent b Unsigned [])))) None m (Grows (numeral w f None) b) e
    (λ t s. let p = and_parts _ _ t in holds_at (numeral w f (Some (exponent b Unsigned []))) m (Grows (numeral w f None) b) (record {
      begun = record { whole = h.whole; behind = h.behind; exponent = (letter_of b p.0, tt, p.1) };
      bytes = simp (append_assoc, append-nil);
    }) s)
    (λ t s. none_at m (Grows (numeral w f None) b) s)
  where
    letter_of : (b : ℕ) → (eqb b 101 || eqb b 69) ≡ true → (b ≡ 101) ⊎ (b ≡ 69)
    letter_of b e = elim (or_cases _ _ e) [ inl x ↦ inl (eqb-true _ _ x) | inr x ↦ inr (eqb-true _ _ x) ]

whole_grows : (w : List ℕ) (b : ℕ) (m : Numeral) → IsBegun (numeral w None None) → more None w None b ≡ Some m → Grows (numeral w None None) b m
whole_grows w b m h e = picks (is_digit b 10) _ _ m (Grows (numeral w None None) b) e
    (λ t s. holds_at (numeral (w ++ b ∷ []) None None) m (Grows (numeral w None None) b) (record {
      begun = record { whole = digits_push 10 w b h.whole (ltb-true _ _ t); behind = tt; exponent = tt };
      bytes = simp (append_assoc, append-nil);
    }) s)
    (λ t s. picks (eqb b 46) _ _ m (Grows (numeral w None None) b) s
    (λ t s. let p : b ≡ 46 = eqb-true _ _ t in holds_at (numeral w (Some []) None) m (Grows (numeral w None None) b) (record {
      begun = record { whole = h.whole; behind = tt; exponent = tt };
      bytes = rw p (simp append-nil);
    }) s)
    (λ t s. begun_grows w None b m h s))

behind_grows : (w f : List ℕ) (b : ℕ) (m : Numeral) → IsBegun (numeral w (Some f) None) → more None w (Some f) b ≡ Some m → Grows (numeral w (Some f) None) b m
behind_grows w f b m h e = picks (is_digit b 10) _ _ m (Grows (numeral w (Some f) None) b) e
    (λ t s. holds_at (numeral w (Some (f ++ b ∷ [])) None) m (Grows (numeral w (Some f) None) b) (record {
      begun = record { whole = h.whole; behind = digits_push 10 f b h.behind (ltb-true _ _ t); exponent = tt };
      bytes = simp (append_assoc, append-nil);
    }) s)
    (λ t s. begun_grows w (Some f) b m h s)

-- an exponent y is x and one byte more
record ExponentGrows (x : Exponent) (b : ℕ) (y : Exponent) : Type 0 where
  letter : y.letter ≡ x.letter
  digits : AllDigits 10 x.digits → AllDigits 10 y.digits
  bytes : sign_bytes y.sign ++ y.digits ≡ (sign_bytes x.sign ++ x.digits) ++ b ∷ []

picks_exponent : (t : Bool) (x y : Option Exponent) (m : Exponent) (P : Exponent → Type 0) → cond t x y ≡ Some m → (t ≡ true → x ≡ Some m → P m) → (t ≡ false → y ≡ Some m → P m) → P m
picks_exponent true x y m P e first second = first refl e
picks_exponent false x y m P e first second = second refl e

exponent_at : (k m : Exponent) (P : Exponent → Type 0) → P k → Some k ≡ Some m → P m
exponent_at k m P h e = let s : k ≡ m = cc in subst P s h

no_exponent_at : (m : Exponent) (P : Exponent → Type 0) → None ≡ Some m → P m
no_exponent_at m P e = absurd cc

digit_grows : (l : ℕ) (s : Sign) (ds : List ℕ) (b : ℕ) → is_digit b 10 ≡ true → ExponentGrows (exponent l s ds) b (exponent l s (ds ++ b ∷ []))
digit_grows l s ds b t = record { letter = refl; digits = λ h. digits_push 10 ds b h (ltb-true _ _ t); bytes = simp append_assoc }

only_digit : (l : ℕ) (s : Sign) (ds : List ℕ) (b : ℕ) (y : Exponent) → cond (is_digit b 10) (Some (exponent l s (ds ++ b ∷ []))) None ≡ Some y → ExponentGrows (exponent l s ds) b y
only_digit l s ds b y e = picks_exponent (is_digit b 10) _ _ y (ExponentGrows (exponent l s ds) b) e
    (λ t q. exponent_at _ y (ExponentGrows (exponent l s ds) b) (digit_grows l s ds b t) q)
    (λ t q. no_exponent_at y (ExponentGrows (exponent l s ds) b) q)

exponent_grows : (l : ℕ) (s : Sign) (ds : List ℕ) (b : ℕ) (y : Exponent) → more_exponent l s ds b ≡ Some y → ExponentGrows (exponent l s ds) b y
exponent_grows l Unsigned [] b y e = picks_exponent (is_digit b 10) _ _ y (ExponentGrows (exponent l Unsigned []) b) e
    (λ t s. exponent_at _ y (ExponentGrows (exponent l Unsigned []) b) (digit_grows l Unsigned [] b t) s)
    (λ t s. picks_exponent (eqb b 43) _ _ y (ExponentGrows (exponent l Unsigned []) b) s
    (λ t s. let p : b ≡ 43 = eqb-true _ _ t in exponent_at (exponent l Plus []) y (ExponentGrows (exponent l Unsigned []) b) (record { letter = refl; digits = λ h. h; bytes = rw p refl }) s)
    (λ t s. picks_exponent (eqb b 45) _ _ y (ExponentGrows (exponent l Unsigned []) b) s
    (λ t s. let p : b ≡ 45 = eqb-true _ _ t in exponent_at (exponent l Minus []) y (ExponentGrows (exponent l Unsigned []) b) (record { letter = refl; digits = λ h. h; bytes = rw p refl }) s)
    (λ t s. no_exponent_at y (ExponentGrows (exponent l Unsigned []) b) s)))
exponent_grows l Unsigned (d ∷ ds) b y e = only_digit l Unsigned (d ∷ ds) b y e
exponent_grows l Plus ds b y e = only_digit l Plus ds b y e
exponent_grows l Minus ds b y e = only_digit l Minus ds b y e

longer_exponent : (w : List ℕ) (f : Option (List ℕ)) (x : Exponent) (b : ℕ) (m : Numeral) (o : Option Exponent) → more_exponent x.letter x.sign x.digits b ≡ o
    → IsBegun (numeral w f (Some x)) → option_map (λ y. numeral w f (Some y)) o ≡ Some m → Grows (numeral w f (Some x)) b m
longer_exponent w f x b m None p h e = none_at m (Grows (numeral w f (Some x)) b) e
longer_exponent w f x b m (Some y) p h e =
    let g = exponent_grows x.letter x.sign x.digits b y p in
    holds_at (numeral w f (Some y)) m (Grows (numeral w f (Some x)) b) (record {
      begun = record { whole = h.whole; behind = h.behind; exponent = (subst (λ (l : ℕ). (l ≡ 101) ⊎ (l ≡ 69)) (sym g.letter) h.exponent.0, g.digits h.exponent.1, h.exponent.2) };
      bytes = rw (g.letter, g.bytes) (simp append_assoc);
    }) e

one_more : (x : Option Exponent) (w : List ℕ) (f : Option (List ℕ)) (b : ℕ) (m : Numeral) → IsBegun (numeral w f x) → more x w f b ≡ Some m → Grows (numeral w f x) b m
one_more None w None b m h e = whole_grows w b m h e
one_more None w (Some f) b m h e = behind_grows w f b m h e
one_more (Some x) w f b m h e = longer_exponent w f x b m (more_exponent x.letter x.sign x.digits b) refl h e

complete_is_numeral : (x : Option Exponent) (w : List ℕ) (f : Option (List ℕ)) → IsBegun (numeral w f x) → is_complete w f x ≡ true → IsNumeral (numeral w f x)
complete_is_numeral None w f h e = record { whole = h.whole; behind = h.behind; present = ltb-true _ _ e; exponent = tt }
complete_is_numeral (Some x) w f h e = record {
  whole = h.whole;
  behind = h.behind;
  present = ltb-true _ _ h.exponent.2;
  exponent = record { letter = h.exponent.0; digits = h.exponent.1; present = ltb-true _ _ e };
}

numeral_is_begun : (x : Option Exponent) (w : List ℕ) (f : Option (List ℕ)) → IsNumeral (numeral w f x) → IsBegun (numeral w f x) × (is_complete w f x ≡ true)
numeral_is_begun None w f h = (record { whole = h.whole; behind = h.behind; exponent = tt }, lt-ltb _ _ h.present)
numeral_is_begun (Some x) w f h = (record { whole = h.whole; behind = h.behind; exponent = (h.exponent.letter, h.exponent.digits, lt-ltb _ _ h.present) }, lt-ltb _ _ h.exponent.present)

ends_spelled : (n m : Numeral) (t : Bool) → is_complete n.whole n.fraction n.exponent ≡ t → IsBegun n → read_on n [] ≡ Ok m → IsNumeral m × (spelling m ≡ spelling n ++ [])
ends_spelled n m true p h e =
    let same : n ≡ m = ok_is n m (sym (completes n p) ∙ e) in
    subst (λ (k : Numeral). IsNumeral k × (spelling k ≡ spelling n ++ [])) same (complete_is_numeral n.exponent n.whole n.fraction h p, sym (append-nil (spelling n)))
ends_spelled n m false p h e = absurd (err_is_not [] m (sym (lacks n p) ∙ e))

goes_spelled : (b : ℕ) (bs : List ℕ) (n m : Numeral) (o : Option Numeral) → more n.exponent n.whole n.fraction b ≡ o → IsBegun n → read_on n (b ∷ bs) ≡ Ok m
    → ((k : Numeral) → IsBegun k → read_on k bs ≡ Ok m → IsNumeral m × (spelling m ≡ spelling k ++ bs)) → IsNumeral m × (spelling m ≡ spelling n ++ b ∷ bs)
goes_spelled b bs n m None p h e later = absurd (err_is_not (b ∷ bs) m (sym (stops n b bs p) ∙ e))
goes_spelled b bs n m (Some k) p h e later =
    let g = one_more n.exponent n.whole n.fraction b k h p in
    let rest = later k g.begun (sym (takes n k b bs p) ∙ e) in
    (rest.0, rest.1 ∙ ap (λ (t : List ℕ). t ++ bs) g.bytes ∙ append_assoc (spelling n) (b ∷ []) bs)

-- What is read is spelled.
pub read_is_spelled : (bs : List ℕ) (n m : Numeral) → IsBegun n → read_on n bs ≡ Ok m → IsNumeral m × (spelling m ≡ spelling n ++ bs)
read_is_spelled [] n m h e = ends_spelled n m (is_complete n.whole n.fraction n.exponent) refl h e
read_is_spelled (b ∷ bs) n m h e = goes_spelled b bs n m (more n.exponent n.whole n.fraction b) refl h e (λ k g r. read_is_spelled bs k m g r)

front_is_read : (w : List ℕ) (f : Option (List ℕ)) (rest : List ℕ) → IsBegun (numeral w f None) → read_on nothing (spelling (numeral w f None) ++ rest) ≡ read_on (numeral w f None) rest
front_is_read w None rest h = ap (read_on nothing) (simp append-nil) ∙ whole_is_read w rest h.whole
front_is_read w (Some f) rest h =
    ap (read_on nothing) (simp (append_assoc, append-nil)) ∙ whole_is_read w (46 ∷ f ++ rest) h.whole ∙ behind_is_read w f rest h.behind

-- What is begun is read as far as it goes.
pub begun_is_read : (x : Option Exponent) (w : List ℕ) (f : Option (List ℕ)) (rest : List ℕ) → IsBegun (numeral w f x) → read_on nothing (spelling (numeral w f x) ++ rest) ≡ read_on (numeral w f x) rest
begun_is_read None w f rest h = front_is_read w f rest h
begun_is_read (Some x) w f rest h =
    let front : IsBegun (numeral w f None) = record { whole = h.whole; behind = h.behind; exponent = tt } in
    ap (read_on nothing) (simp (append_assoc, append-nil))
    ∙ front_is_read w f (x.letter ∷ (sign_bytes x.sign ++ (x.digits ++ rest))) front
    ∙ exponent_is_read w f x.letter x.sign x.digits rest h.exponent.0 h.exponent.2 h.exponent.1

-- What is spelled is read.
pub spelled_is_read : (n : Numeral) (field : List ℕ) → Spells n field → read_on nothing field ≡ Ok n
spelled_is_read n field h =
    let b = numeral_is_begun n.exponent n.whole n.fraction h.is_numeral in
    ap (read_on nothing) (sym h.bytes ∙ sym (append-nil (spelling n))) ∙ begun_is_read n.exponent n.whole n.fraction [] b.0 ∙ completes n b.1

-- ---- where reading stops

-- nothing that is read goes on with these bytes
abbrev pub IsStuck : Numeral → List ℕ → Type 0
IsStuck m [] = is_complete m.whole m.fraction m.exponent ≡ false
IsStuck m (b ∷ bs) = more m.exponent m.whole m.fraction b ≡ None

-- reading on from n stops at rest, behind what m is
pub record StopsAt (n : Numeral) (bs rest : List ℕ) (m : Numeral) (front : List ℕ) : Type 0 where
  pub split : bs ≡ front ++ rest
  pub begun : IsBegun m
  pub bytes : spelling m ≡ spelling n ++ front
  pub goes : (ys : List ℕ) → read_on n (front ++ ys) ≡ read_on m ys
  pub is_stuck : IsStuck m rest

abbrev pub Stops : Numeral → List ℕ → List ℕ → Type 0
Stops n bs rest = (m : Numeral) × (front : List ℕ) × StopsAt n bs rest m front

pub stuck_is : (a b : List ℕ) → stuck a ≡ stuck b → a ≡ b
stuck_is a b e = cc

stops_here : (n : Numeral) (bs rest : List ℕ) → IsBegun n → IsStuck n bs → stuck bs ≡ stuck rest → Stops n bs rest
stops_here n bs rest h s e =
    subst (λ (r : List ℕ). Stops n bs r) (stuck_is bs rest e) (n, [], record { split = refl; begun = h; bytes = sym (append-nil (spelling n)); goes = λ ys. refl; is_stuck = s })

stops_ended : (n : Numeral) (rest : List ℕ) (t : Bool) → is_complete n.whole n.fraction n.exponent ≡ t → IsBegun n → read_on n [] ≡ Err rest → Stops n [] rest
stops_ended n rest true p h e = absurd (err_is_not rest n (sym e ∙ completes n p))
stops_ended n rest false p h e = stops_here n [] rest h p (sym (lacks n p) ∙ e)

stops_later : (b : ℕ) (bs : List ℕ) (n : Numeral) (rest : List ℕ) (o : Option Numeral) → more n.exponent n.whole n.fraction b ≡ o → IsBegun n → read_on n (b ∷ bs) ≡ Err rest
    → ((k : Numeral) → IsBegun k → read_on k bs ≡ Err rest → Stops k bs rest) → Stops n (b ∷ bs) rest
stops_later b bs n rest None p h e later = stops_here n (b ∷ bs) rest h p (sym (stops n b bs p) ∙ e)
stops_later b bs n rest (Some k) p h e later =
    let g = one_more n.exponent n.whole n.fraction b k h p in
    let (m, front, s) = later k g.begun (sym (takes n k b bs p) ∙ e) in (
      m,
      b ∷ front,
      record {
        split = ap (λ (t : List ℕ). b ∷ t) s.split;
        begun = s.begun;
        bytes = s.bytes ∙ ap (λ (t : List ℕ). t ++ front) g.bytes ∙ append_assoc (spelling n) (b ∷ []) front;
        goes = λ ys. takes n k b (front ++ ys) p ∙ s.goes ys;
        is_stuck = s.is_stuck;
      },
    )

-- A fault stands behind bytes that are begun, and nothing goes on there.
pub fault_stops : (bs : List ℕ) (n : Numeral) (rest : List ℕ) → IsBegun n → read_on n bs ≡ Err rest → Stops n bs rest
fault_stops [] n rest h e = stops_ended n rest (is_complete n.whole n.fraction n.exponent) refl h e
fault_stops (b ∷ bs) n rest h e = stops_later b bs n rest (more n.exponent n.whole n.fraction b) refl h e (λ k g r. fault_stops bs k rest g r)

-- A `0` (48) completes what is begun.
zero_completes : (x : Option Exponent) (w : List ℕ) (f : Option (List ℕ)) → IsBegun (numeral w f x) → (m : Numeral) × (more x w f 48 ≡ Some m) × (is_complete m.whole m.fraction m.exponent ≡ true)
zero_completes None w None h = (numeral (w ++ 48 ∷ []) None None, refl, lt-ltb _ _ (omega (arith, length-append w (48 ∷ []))))
zero_completes None w (Some f) h = (numeral w (Some (f ++ 48 ∷ [])) None, refl, lt-ltb _ _ (omega (arith, length-append f (48 ∷ []))))
zero_completes (Some x) w f h =
    (numeral w f (Some (exponent x.letter x.sign (x.digits ++ 48 ∷ []))), ap (option_map (λ y. numeral w f (Some y))) (exponent_goes_on x.letter x.sign x.digits 48 refl), lt-ltb _ _ (omega (arith, length-append x.digits (48 ∷ []))))

pub begun_begins : (m : Numeral) → IsBegun m → Begins (spelling m)
begun_begins m h =
    let (k, p, done) = zero_completes m.exponent m.whole m.fraction h in
    let g = one_more m.exponent m.whole m.fraction 48 k h p in
    (48 ∷ [], k, record { is_numeral = complete_is_numeral k.exponent k.whole k.fraction g.begun done; bytes = g.bytes })
