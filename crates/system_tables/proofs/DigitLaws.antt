use Rattle.std.proofs.Common.{◌≡◌, ℕ, ◌+◌, ◌-◌, ◌*◌, ◌^◌, ◌<◌, ◌≤◌, List, [], ◌++◌, length, get_or, take, None, Ok, subst, arith}
use Rattle.std.specs.Char.{digit_value}
use Rattle.std.specs.Str.Parse.{AllDigits, digits_value}
use Rattle.std.proofs.lemmas.Int.Digits.{digits_more, digits_value-lt, digits_value_more}
use Rattle.std.proofs.lemmas.List.{append-nil, length-take-le}
use Rattle.std.proofs.lemmas.Str.{digit_value_digit}
use Rattle.std.proofs.lemmas.Str.Parse.{digit_from_value}
use Rattle.decimal_text.specs.Numeral.{Numeral, IsWorth}
use Rattle.decimal_text.specs.Reading.{whole_of, numeral}
use Rattle.decimal_text.proofs.Laws.{whole_only}
use Rattle.decimal_text.proofs.TenPowers.{ten_grows}

-- one digit more
pub record IsDigitMore (field : List ℕ) (i number : ℕ) : Type 0 where
  pub digits : AllDigits 10 (take (i + 1) field)
  pub low : 48 ≤ get_or field i 0
  pub value : number * 10 + (get_or field i 0 - 48) ≡ digits_value 10 (take (i + 1) field)
  pub small : number * 10 + (get_or field i 0 - 48) < 10 ^ 18

pub digit_more : (field : List ℕ) (i number : ℕ)
    → i < length field
    → length field ≤ 18
    → AllDigits 10 (take i field)
    → number ≡ digits_value 10 (take i field)
    → digit_value (get_or field i 0) < 10
    → IsDigitMore field i number
digit_more field i number below few all is digit =
    let r = digit_from_value (get_or field i 0) digit in
    let d : digit_value (get_or field i 0) + 48 ≡ get_or field i 0 = digit_value_digit (get_or field i 0) r in
    let digits : AllDigits 10 (take (i + 1) field) = digits_more 10 field i below all digit in
    let value : number * 10 + (get_or field i 0 - 48) ≡ digits_value 10 (take (i + 1) field) =
    omega (arith, digits_value_more 10 field i below, is, d) in
    let len : length (take (i + 1) field) ≡ i + 1 = length-take-le (i + 1) field (omega arith) in
    let small : digits_value 10 (take (i + 1) field) < 10 ^ (i + 1) =
    subst (λ (k : ℕ). digits_value 10 (take (i + 1) field) < 10 ^ k) len (digits_value-lt 10 (take (i + 1) field) digits) in
    let grown : 10 ^ (i + 1) ≤ 10 ^ 18 = ten_grows (i + 1) 18 (omega arith) in
    record { digits = digits; low = omega arith; value = value; small = omega (arith, value, small, grown) }

-- plain digits spell the number that they write
pub plain_whole : (field : List ℕ) (number : ℕ)
    → 0 < length field
    → length field ≤ 18
    → AllDigits 10 field
    → number ≡ digits_value 10 field
    → number ≤ 10 ^ 18
    → whole_of field ≡ Ok number
plain_whole field number some few digits is small =
    let n : Numeral = numeral field None None in
    whole_only field (Ok number) (
      numeral field None None,
      record {
        length = record { some = some; few = omega arith };
        spells = record {
          is_numeral = record { whole = digits; behind = tt; present = omega arith; exponent = tt };
          bytes = append-nil field;
        };
      },
      worth field number is,
      small,
    )
  where
    worth : (field : List ℕ) (number : ℕ) → number ≡ digits_value 10 field → IsWorth (numeral field None None) number
    worth field number is =
        let all : field ++ [] ≡ field = append-nil field in
        rw all (omega (arith, is))
