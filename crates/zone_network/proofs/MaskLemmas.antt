use Rattle.std.proofs.Common.{◌≡◌, ℕ, ◌*◌, ◌%◌, ◌<◌, ◌^◌, ◌==◌, inl, inr, true, false, ap, sym, ◌∙◌, subst, arith}
use Rattle.std.specs.Prelude.{bit_or}
use Rattle.std.specs.Int.{bit_at}
use Rattle.std.proofs.lemmas.Nat.{le_or_l, or_lt}
use Rattle.std.proofs.lemmas.Nat.Bits.{bit_at-zero, bit_at_set_same, bit_at_set_other}
use Rattle.std.proofs.lemmas.Bool.{eq-eqb, cases_lt, false≢true}
use Rattle.std.proofs.Math.Pow.{pow-lt}
use mir.Syntax.{w32}
use Rattle.zone_network.specs.Sums.{inside}
use Rattle.zone_network.specs.Masks.{AddsNumber}

pub inside_zero : (i : ℕ) → inside 0 i ≡ false
inside_zero i = ap (λ (b : ℕ). b == 1) (bit_at-zero i)

-- what the code computes
pub adds_number : (mask number : ℕ) → number < 32 → AddsNumber mask number (bit_or mask (1 * 2 ^ number % 2 ^ 32))
adds_number mask number small =
    let fits : 2 ^ number < 2 ^ 32 = pow-lt small in
    let bit : 1 * 2 ^ number % 2 ^ 32 ≡ 2 ^ number = omega arith in
    let same : inside (bit_or mask (1 * 2 ^ number % 2 ^ 32)) number ≡ true =
    eq-eqb (bit_at (bit_or mask (1 * 2 ^ number % 2 ^ 32)) number) 1 (bit_at_set_same w32 mask number small) in
    record {
      itself = same;
      others = λ i other. ap (λ (b : ℕ). b == 1) (bit_at_set_other w32 mask number small i other);
      above = le_or_l mask (1 * 2 ^ number % 2 ^ 32);
      more =
          λ absent.
          elim (cases_lt mask (bit_or mask (1 * 2 ^ number % 2 ^ 32))) [
            | inl below ↦ below
            | inr above ↦
                let equal : bit_or mask (1 * 2 ^ number % 2 ^ 32) ≡ mask = omega (arith, le_or_l mask (1 * 2 ^ number % 2 ^ 32)) in
                absurd (false≢true (sym absent ∙ sym (ap (λ (m : ℕ). inside m number) equal) ∙ same))
          ];
      among =
          λ count below among.
          or_lt count mask (1 * 2 ^ number % 2 ^ 32) below (subst (λ (x : ℕ). x < 2 ^ count) (sym bit) (pow-lt among));
    }
