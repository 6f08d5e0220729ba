-- Reading as a function on lists, for definitions above that compute. That it answers what the grammar
-- says, and that alone, is the law on `read_whole` and `read_billionths`.
use Rattle.std.specs.Prelude.{ℕ, suc, ◌+◌, ◌-◌, ◌*◌, ◌^◌, Bool, ◌&&◌, ◌||◌, List, [], ◌∷◌, ◌++◌, length, take, drop, Option, None, Some, Result, Ok, Err, if◌then◌else◌, ◌==◌, nat_lt, unwrap_or}
use Rattle.std.specs.Option.{option_map}
use Rattle.std.specs.Char.{is_digit}
use Rattle.std.specs.Str.Parse.{digits_value}
use Rattle.decimal_text.specs.declared.fault.NumberFault.{NumberFault}
use Rattle.decimal_text.specs.declared.fault.NumberFault.TheVariants.{Empty, NotANumber, NotWhole, TooLarge}
use Rattle.decimal_text.specs.Numeral.{Sign, Unsigned, Plus, Minus, Exponent, Numeral, digits_of, raised, lowered}
use Rattle.decimal_text.specs.Faults.{place_of}

infixl 10 ◌>>=◌
abbrev pub ◌>>=◌ : {A B : Type 0} → Result A NumberFault → (A → Result B NumberFault) → Result B NumberFault
(Ok x) >>= f = f x
(Err e) >>= f = Err e

abbrev pub numeral : List ℕ → Option (List ℕ) → Option Exponent → Numeral
numeral w f x = record { whole = w; fraction = f; exponent = x }

abbrev pub exponent : ℕ → Sign → List ℕ → Exponent
exponent l s ds = record { letter = l; sign = s; digits = ds }

abbrev pub has_digit : List ℕ → Option (List ℕ) → Bool
has_digit w f = nat_lt 0 (length w + length (unwrap_or f []))

-- what is begun needs no more bytes
abbrev pub is_complete : List ℕ → Option (List ℕ) → Option Exponent → Bool
is_complete w f None = has_digit w f
is_complete w f (Some x) = nat_lt 0 (length x.digits)

-- One more byte of an exponent, where it can go on so.
abbrev pub more_exponent : ℕ → Sign → List ℕ → ℕ → Option Exponent
more_exponent l Unsigned [] b =
    if is_digit b 10 then Some (exponent l Unsigned (b ∷ []))
    else (if b == 43 then Some (exponent l Plus [])
    else (if b == 45 then Some (exponent l Minus []) else None))
more_exponent l s ds b = if is_digit b 10 then Some (exponent l s (ds ++ b ∷ [])) else None

abbrev pub begun_exponent : List ℕ → Option (List ℕ) → ℕ → Option Numeral
begun_exponent w f b = if (b == 101 || b == 69) && has_digit w f then Some (numeral w f (Some (exponent b Unsigned []))) else None

-- One more byte of a numeral, where it can go on so.
abbrev pub more : Option Exponent → List ℕ → Option (List ℕ) → ℕ → Option Numeral
more None w None b =
    if is_digit b 10 then Some (numeral (w ++ b ∷ []) None None)
    else (if b == 46 then Some (numeral w (Some []) None) else begun_exponent w None b)
more None w (Some f) b = if is_digit b 10 then Some (numeral w (Some (f ++ b ∷ [])) None) else begun_exponent w (Some f) b
more (Some x) w f b = option_map (λ y. numeral w f (Some y)) (more_exponent x.letter x.sign x.digits b)

-- Reads on from what is begun: the whole numeral, or the bytes where it can't go on.
unfoldable pub read_on : Numeral → List ℕ → Result Numeral (List ℕ)
read_on n [] = if is_complete n.whole n.fraction n.exponent then Ok n else Err []
read_on n (b ∷ bs) = elim (more n.exponent n.whole n.fraction b) [ None ↦ Err (b ∷ bs) | Some m ↦ read_on m bs ]

abbrev pub nothing : Numeral
nothing = numeral [] None None

abbrev pub or_no_number : ℕ → Result Numeral (List ℕ) → Result Numeral NumberFault
or_no_number len (Ok n) = Ok n
or_no_number len (Err unread) = Err (NotANumber (len - length unread))

-- the numeral that the field spells
unfoldable pub numeral_of : List ℕ → Result Numeral NumberFault
numeral_of [] = Err Empty
numeral_of (b ∷ bs) =
    if nat_lt 40 (length (b ∷ bs)) then Err TooLarge
    else or_no_number (length (b ∷ bs)) (read_on nothing (b ∷ bs))

-- how many digits of the numeral by 10 ^ shift weigh one or more
abbrev pub kept : ℕ → Numeral → ℕ
kept shift n = (length n.whole + shift + raised n.exponent) - lowered n.exponent

-- the number of those digits, with zeros where the numeral has no more digits
unfoldable pub scaled : ℕ → Numeral → ℕ
scaled shift n = digits_value 10 (take (kept shift n) (digits_of n)) * 10 ^ (kept shift n - length (digits_of n))

-- how many zeros (48) stand in front, where another byte follows
abbrev pub first_not_zero : List ℕ → Option ℕ
first_not_zero [] = None
first_not_zero (b ∷ bs) = if b == 48 then option_map (λ k. suc k) (first_not_zero bs) else Some 0

unfoldable pub first_below_one : Numeral → Option ℕ
first_below_one n = option_map (λ k. place_of n (kept 0 n + k)) (first_not_zero (drop (kept 0 n) (digits_of n)))

abbrev pub up_to_limit : ℕ → Result ℕ NumberFault
up_to_limit v = if nat_lt (10 ^ 18) v then Err TooLarge else Ok v

abbrev pub if_whole : Option ℕ → Numeral → Result ℕ NumberFault
if_whole None n = up_to_limit (scaled 0 n)
if_whole (Some at) n = Err (NotWhole at)

-- what `read_whole` answers
unfoldable pub whole_of : List ℕ → Result ℕ NumberFault
whole_of field = do
  n ← numeral_of field
  if_whole (first_below_one n) n

-- what `read_billionths` answers
unfoldable pub billionths_of : List ℕ → Result ℕ NumberFault
billionths_of field = do
  n ← numeral_of field
  up_to_limit (scaled 9 n)
