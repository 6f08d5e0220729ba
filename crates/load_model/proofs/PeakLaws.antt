-- The greatest need of the hours so far and its first hour.
use Rattle.std.proofs.Common.{◌≡◌, ℕ, ◌+◌, ◌<◌, ◌≤◌, List, length, get_or, take, max, eqb, true, false, refl, ◌∙◌, ap, sym, arith, inl, inr}
use Rattle.std.proofs.lemmas.Bool.{cases_lt}
use Rattle.std.proofs.lemmas.Bool.Decides.{nat_tests}
use Rattle.std.proofs.lemmas.List.{take_all}
use Rattle.std.proofs.lemmas.List.Sums.{fold_more, position_or_len_is}
use Rattle.load_model.specs.declared.hours.NetHour.{NetHour}
use Rattle.load_model.specs.declared.hours.Peak.{Peak}
use Rattle.load_model.specs.Need.{need_of, greatest_need, peak_of, no_net_hour}

-- of the first `i` hours this is the first with the greatest need; before there is any hour it is hour 0
pub record IsPeakSoFar (hours : List NetHour) (i : ℕ) (peak : Peak) : Type 0 where
  pub greatest : peak.mw ≡ greatest_need (take i hours)
  pub most : (k : ℕ) → k < i → need_of (get_or hours k no_net_hour) ≤ peak.mw
  pub before : (k : ℕ) → k < peak.hour → need_of (get_or hours k no_net_hour) < peak.mw
  pub here : 0 < i → need_of (get_or hours peak.hour no_net_hour) ≡ peak.mw
  pub within : peak.hour ≤ i
  pub seen : 0 < i → peak.hour < i
  pub none : i ≡ 0 → peak.mw ≡ 0

pub peak_none : (hours : List NetHour) → IsPeakSoFar hours 0 (record { mw = 0; hour = 0 })
peak_none hours = record {
  greatest = refl;
  most = λ k h. absurd (omega arith);
  before = λ k h. absurd (omega arith);
  here = λ h. absurd (omega arith);
  within = omega arith;
  seen = λ h. absurd (omega arith);
  none = λ h. refl;
}

greatest_more : (hours : List NetHour) (i mw : ℕ) → i < length hours → mw ≡ greatest_need (take i hours)
    → max mw (need_of (get_or hours i no_net_hour)) ≡ greatest_need (take (i + 1) hours)
greatest_more hours i mw h e =
    ap (λ n. max n (need_of (get_or hours i no_net_hour))) e
    ∙ sym (fold_more (λ most hour. max most (need_of hour)) 0 hours i no_net_hour h)

pub peak_takes : (hours : List NetHour) (i mw : ℕ) (peak : Peak) → i < length hours → IsPeakSoFar hours i peak
    → mw ≡ need_of (get_or hours i no_net_hour) → peak.mw < mw
    → IsPeakSoFar hours (i + 1) (record { mw = mw; hour = i })
peak_takes hours i mw peak h so_far is more = record {
  greatest = (let e : mw ≡ max peak.mw (need_of (get_or hours i no_net_hour)) = omega arith in e) ∙ greatest_more hours i peak.mw h so_far.greatest;
  most = λ k l. elim (cases_lt k i) [
    | inl near ↦ omega (arith, so_far.most k near)
    | inr far ↦ (let same : k ≡ i = omega arith in rw same (omega arith))
  ];
  before = λ k l. omega (arith, so_far.most k l);
  here = λ _. sym is;
  within = omega arith;
  seen = λ _. omega arith;
  none = λ l. absurd (omega arith);
}

pub peak_keeps : (hours : List NetHour) (i mw : ℕ) (peak : Peak) → i < length hours → IsPeakSoFar hours i peak
    → mw ≡ need_of (get_or hours i no_net_hour) → mw ≤ peak.mw → IsPeakSoFar hours (i + 1) peak
peak_keeps hours i mw peak h so_far is no_more = record {
  greatest = (let e : peak.mw ≡ max peak.mw (need_of (get_or hours i no_net_hour)) = omega arith in e) ∙ greatest_more hours i peak.mw h so_far.greatest;
  most = λ k l. elim (cases_lt k i) [
    | inl near ↦ so_far.most k near
    | inr far ↦ (let same : k ≡ i = omega arith in rw same (omega arith))
  ];
  before = so_far.before;
  here = λ _. elim (cases_lt 0 i) [
    | inl some ↦ so_far.here some
    | inr none ↦ (
        let first : i ≡ 0 = omega arith in
        let at : peak.hour ≡ i = omega (arith, so_far.within) in
        let nothing : peak.mw ≡ 0 = so_far.none first in
        rw at (omega arith))
  ];
  within = omega (arith, so_far.within);
  seen = λ _. omega (arith, so_far.within);
  none = λ l. absurd (omega arith);
}

differs : (a b : ℕ) → a < b → eqb a b ≡ false
differs a b h = grind (arith, nat_tests)

agrees : (a b : ℕ) → a ≡ b → eqb a b ≡ true
agrees a b h = grind (arith, nat_tests)

pub peak_all : (hours : List NetHour) (i : ℕ) (peak : Peak) → i ≡ length hours → 0 < i → IsPeakSoFar hours i peak
    → peak ≡ peak_of hours
peak_all hours i peak all some so_far =
    let whole : peak.mw ≡ greatest_need hours
    = so_far.greatest ∙ ap (λ hs. greatest_need hs) (take_all i hours (omega arith)) in
    let place : peak.hour ≡ (peak_of hours).hour
    = sym (position_or_len_is (λ hour. eqb (need_of hour) (greatest_need hours)) hours peak.hour no_net_hour
    (omega (arith, so_far.seen some))
    (λ k h. differs _ _ (rw (← whole) (so_far.before k h)))
    (λ h. agrees _ _ (so_far.here some ∙ whole))) in
    ap (λ n. let p : Peak = record { mw = n; hour = peak.hour } in p) whole
    ∙ ap (λ n. let p : Peak = record { mw = greatest_need hours; hour = n } in p) place
