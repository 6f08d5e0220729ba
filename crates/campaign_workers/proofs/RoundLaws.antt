-- The rounds of a study, up to the one at which it ends.
use Rattle.std.proofs.Common.{◌≡◌, ℕ, ◌+◌, ◌-◌, ◌*◌, ◌<◌, ◌≤◌, inl, inr, ⊎_elim, Bool, true, false, min, ap, ◌∙◌, arith}
use Rattle.std.proofs.lemmas.Bool.{cases_lt}
use Rattle.std.proofs.lemmas.Nat.{mul-le}
use Rattle.campaign_workers.specs.Rounds.{IsStudyEnd}

-- the study has come to a round with so many samples, and they were enough at none before it
pub record IsRound (samples most : ℕ) (enough : ℕ → Bool) (goal : ℕ) : Type 0 where
  pub rounds : ℕ
  pub some : 0 < rounds
  pub is : goal ≡ min (samples * rounds) most
  pub goes_on : (before : ℕ) → 0 < before → samples * before < goal → enough (samples * before) ≡ false

once : (samples : ℕ) → samples * 1 ≡ samples
once samples = omega arith

once_more : (samples rounds : ℕ) → samples * (rounds + 1) ≡ samples * rounds + samples
once_more samples rounds = omega arith

pub first_round : (samples most : ℕ) (enough : ℕ → Bool) → samples ≤ most → IsRound samples most enough samples
first_round samples most enough le = record {
  rounds = 1;
  some = omega arith;
  is = omega (arith, once samples, le);
  goes_on = λ before some below. absurd (omega (arith, below, once samples, mul-le samples 1 samples before (omega arith) some));
}

pub next_round : (samples most : ℕ) (enough : ℕ → Bool) (goal more : ℕ) → IsRound samples most enough goal → goal ≤ most
    → enough goal ≡ false → (goal ≡ most → ⊥) → more ≡ min samples (most - goal) → IsRound samples most enough (goal + more)
next_round samples most enough goal more r le not off is =
    let here : goal ≡ samples * r.rounds = omega (arith, r.is, le, off) in
    record {
      rounds = r.rounds + 1;
      some = omega arith;
      is = omega (arith, here, le, is, once_more samples r.rounds);
      goes_on = λ before some below. ⊎_elim
          (λ (h : samples * before < goal). r.goes_on before some h)
          (λ (h : goal ≤ samples * before). ⊎_elim
          (λ (earlier : before < r.rounds + 1).
          let back : samples * before ≤ samples * r.rounds = mul-le samples before samples r.rounds (omega arith) (omega (arith, earlier)) in
          let same : samples * before ≡ goal = omega (arith, back, here, h) in
          ap enough same ∙ not)
          (λ (later : r.rounds + 1 ≤ before).
          absurd (omega (arith, below, is, here, once_more samples r.rounds, mul-le samples (r.rounds + 1) samples before (omega arith) later)))
          (cases_lt before (r.rounds + 1)))
          (cases_lt (samples * before) goal);
    }

-- a study ends at a round where its samples are enough, or the most
pub ends_enough : (samples most : ℕ) (enough : ℕ → Bool) (goal : ℕ) → IsRound samples most enough goal → goal ≤ most → enough goal ≡ true → IsStudyEnd samples most enough goal
ends_enough samples most enough goal r le passes = record {
  stops = ⊎_elim
      (λ (h : goal < most). inr (h, record { rounds = r.rounds; some = r.some; is = omega (arith, r.is, h); passes = passes }))
      (λ (h : most ≤ goal). inl (omega (arith, le, h)))
      (cases_lt goal most);
  goes_on = r.goes_on;
}

pub ends_most : (samples most : ℕ) (enough : ℕ → Bool) (goal : ℕ) → IsRound samples most enough goal → goal ≡ most → IsStudyEnd samples most enough goal
ends_most samples most enough goal r all = record { stops = inl all; goes_on = r.goes_on }
