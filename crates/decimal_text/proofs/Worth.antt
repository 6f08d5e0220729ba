-- What a numeral is worth, by the digits that weigh one or more and those that weigh less.
use Rattle.std.proofs.Common.{◌≡◌, ℕ, zero, suc, ◌+◌, ◌-◌, ◌*◌, ◌^◌, ◌<◌, ◌≤◌, inl, inr, List, [], ◌∷◌, length, take, drop, sym, ap, subst, ◌∙◌, arith}
use Rattle.std.specs.Str.Parse.{AllDigits, digits_value}
use Rattle.std.proofs.Math.Nat.{mul-lt-mul_of_pos_right}
use Rattle.std.proofs.Math.ListN.{drop_of_length-le}
use Rattle.std.proofs.lemmas.Nat.{pow-add}
use Rattle.std.proofs.lemmas.Bool.{cases_lt}
use Rattle.std.proofs.lemmas.List.{take-append-drop, length-drop, take_all}
use Rattle.std.proofs.lemmas.Int.Digits.{digits_value-lt}
use Rattle.decimal_text.proofs.TenPowers.{ten_some, ten_grows}
use Rattle.decimal_text.proofs.Digits.{value_append}

-- top is v * bottom and less than one bottom more, of which what the digits below one write is a part
pub record Splits (top bottom v left unit : ℕ) : Type 0 where
  pub parts : top ≡ v * bottom + left * unit
  pub less : left * unit < bottom
  pub unit_some : 0 < unit

-- The digits ds as one number, raised and over bottom, where `keep` of them weigh one or more.
all_kept : (ds : List ℕ) (p f up low keep : ℕ) → length ds ≡ p + f → 0 < length ds → keep ≡ (p + up) - low → length ds ≤ keep
    → Splits (digits_value 10 ds * 10 ^ up) (10 ^ (f + low)) (digits_value 10 (take keep ds) * 10 ^ (keep - length ds)) (digits_value 10 (drop keep ds)) (10 ^ up)
all_kept ds p f up low keep len some k le =
    let whole : take keep ds ≡ ds = take_all keep ds le in
    let none : drop keep ds ≡ [] = drop_of_length-le ds le in
    let exponents : up ≡ (keep - length ds) + (f + low) = omega arith in
    let powers : 10 ^ up ≡ 10 ^ (keep - length ds) * 10 ^ (f + low) = ap (λ (e : ℕ). 10 ^ e) exponents ∙ pow-add 10 (keep - length ds) (f + low) in
    record { parts = rw (whole, none) (product (digits_value 10 ds) _ _ _ powers); less = rw none (omega (arith, ten_some (f + low))); unit_some = ten_some up }
  where
    product : (n a b c : ℕ) → a ≡ b * c → n * a ≡ n * b * c + 0 * a
    product n a b c e = rw e (omega arith)

below : (n v w left unit bottom : ℕ) → n ≡ v * w + left → left < w → 0 < unit → bottom ≡ w * unit → Splits (n * unit) bottom v left unit
below n v w left unit bottom e lt some b =
    record {
      parts = rw (e, b) (omega arith);
      less = let h : left * unit < w * unit = mul-lt-mul_of_pos_right lt some in rw b h;
      unit_some = some;
    }

pub digits_drop : (k : ℕ) (ds : List ℕ) → AllDigits 10 ds → AllDigits 10 (drop k ds)
digits_drop zero ds h = h
digits_drop (suc k) [] h = h
digits_drop (suc k) (d ∷ ds) h = digits_drop k ds h.1

one_times : (n e : ℕ) → e ≡ 0 → n ≡ n * 10 ^ e
one_times n e z = rw z (omega arith)

parted : (ds : List ℕ) (p f up low keep : ℕ) → AllDigits 10 ds → length ds ≡ p + f → keep ≡ (p + up) - low → keep < length ds → low ≤ p + up
    → Splits (digits_value 10 ds * 10 ^ up) (10 ^ (f + low)) (digits_value 10 (take keep ds) * 10 ^ (keep - length ds)) (digits_value 10 (drop keep ds)) (10 ^ up)
parted ds p f up low keep h len k lt le =
    let rest : length (drop keep ds) ≡ length ds - keep = length-drop keep ds in
    let parts : digits_value 10 ds ≡ digits_value 10 (take keep ds) * 10 ^ (length ds - keep) + digits_value 10 (drop keep ds) =
    ap (digits_value 10) (sym (take-append-drop keep ds)) ∙ value_append (take keep ds) (drop keep ds)
    ∙ ap (λ (e : ℕ). digits_value 10 (take keep ds) * 10 ^ e + digits_value 10 (drop keep ds)) rest in
    let small : digits_value 10 (drop keep ds) < 10 ^ (length ds - keep) = subst (λ (e : ℕ). digits_value 10 (drop keep ds) < 10 ^ e) rest (digits_value-lt 10 (drop keep ds) (digits_drop keep ds h)) in
    let exponents : f + low ≡ (length ds - keep) + up = omega arith in
    let powers : 10 ^ (f + low) ≡ 10 ^ (length ds - keep) * 10 ^ up = ap (λ (e : ℕ). 10 ^ e) exponents ∙ pow-add 10 (length ds - keep) up in
    let split = below (digits_value 10 ds) (digits_value 10 (take keep ds)) (10 ^ (length ds - keep)) (digits_value 10 (drop keep ds)) (10 ^ up) (10 ^ (f + low)) parts small (ten_some up) powers in
    subst (λ (v : ℕ). Splits (digits_value 10 ds * 10 ^ up) (10 ^ (f + low)) v (digits_value 10 (drop keep ds)) (10 ^ up)) (one_times (digits_value 10 (take keep ds)) (keep - length ds) (omega arith)) split

all_below : (ds : List ℕ) (p f up low keep : ℕ) → AllDigits 10 ds → length ds ≡ p + f → keep ≡ 0 → p + up < low
    → Splits (digits_value 10 ds * 10 ^ up) (10 ^ (f + low)) (digits_value 10 (take keep ds) * 10 ^ (keep - length ds)) (digits_value 10 (drop keep ds)) (10 ^ up)
all_below ds p f up low keep h len z lt =
    let small : digits_value 10 ds * 10 ^ up < 10 ^ length ds * 10 ^ up = mul-lt-mul_of_pos_right (digits_value-lt 10 ds h) (ten_some up) in
    let power : 10 ^ (length ds + up) ≡ 10 ^ length ds * 10 ^ up = pow-add 10 (length ds) up in
    let grown : 10 ^ (length ds + up) ≤ 10 ^ (f + low) = ten_grows (length ds + up) (f + low) (omega arith) in
    rw z (record { parts = omega arith; less = omega arith; unit_some = ten_some up })

pub splits : (ds : List ℕ) (p f up low keep : ℕ) → AllDigits 10 ds → length ds ≡ p + f → 0 < length ds → keep ≡ (p + up) - low
    → Splits (digits_value 10 ds * 10 ^ up) (10 ^ (f + low)) (digits_value 10 (take keep ds) * 10 ^ (keep - length ds)) (digits_value 10 (drop keep ds)) (10 ^ up)
splits ds p f up low keep h len some k =
    elim (cases_lt keep (length ds)) [
      | inr le ↦ all_kept ds p f up low keep len some k le
      | inl lt ↦ elim (cases_lt (p + up) low) [
        | inl under ↦ all_below ds p f up low keep h len (omega arith) under
        | inr over ↦ parted ds p f up low keep h len k lt over
      ]
    ]
