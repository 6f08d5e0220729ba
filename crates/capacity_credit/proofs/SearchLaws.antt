-- Halving a range of candidates, from either side.
use Rattle.std.proofs.Common.{◌≡◌, ℕ, ◌+◌, ◌*◌, ◌^◌, ◌<◌, ◌≤◌, Option, Some, None, inl, inr, refl, arith, add-one}
use Rattle.std.proofs.lemmas.Bool.{cases_lt}
use Rattle.std.proofs.Math.Nat.{pow-suc, mul-le-mul_left}
use Rattle.std.proofs.Math.Pow.{pow_mono}
use Rattle.capacity_credit.specs.Bracket.{IsGreatest, IsLeast, RisesByFew}
use Rattle.capacity_credit.specs.Search.{SpendsFew}

-- all below `first` are decided, the last of them is the one that was found
abbrev pub IsLastBelow : (ℕ → Type 0) → ℕ → Option ℕ → Type 0
IsLastBelow P first None = first ≡ 0
IsLastBelow P first (Some c) = (first ≡ c + 1) × P c

-- all from `end` on are decided, the first of them is the one that was found
abbrev pub IsFirstFrom : (ℕ → Type 0) → ℕ → ℕ → Option ℕ → Type 0
IsFirstFrom P most end None = end ≡ most + 1
IsFirstFrom P most end (Some c) = (end ≡ c) × P c × (c ≤ most)

-- the greatest one stands before `end`, and is the one that was found or stands from `first` on
pub record SeeksGreatest (P : ℕ → Type 0) (most first end : ℕ) (found : Option ℕ) : Type 0 where
  pub order : first ≤ end
  pub within : end ≤ most + 1
  pub last : IsLastBelow P first found
  pub beyond : (k : ℕ) → end ≤ k → k ≤ most → P k → ⊥

-- the least one stands from `first` on, and is the one that was found or stands before `end`
pub record SeeksLeast (P : ℕ → Type 0) (most first end : ℕ) (found : Option ℕ) : Type 0 where
  pub order : first ≤ end
  pub within : end ≤ most + 1
  pub next : IsFirstFrom P most end found
  pub before : (k : ℕ) → k < first → P k → ⊥

pub greatest_none : (P : ℕ → Type 0) (most : ℕ) → SeeksGreatest P most 0 (most + 1) None
greatest_none P most = record { order = omega arith; within = omega arith; last = refl; beyond = λ k h l p. absurd (omega arith) }

pub greatest_yes : (P : ℕ → Type 0) (most first end middle : ℕ) (found : Option ℕ) → SeeksGreatest P most first end found
    → middle < end → P middle → SeeksGreatest P most (middle + 1) end (Some middle)
greatest_yes P most first end middle found seeks below here =
    record { order = omega arith; within = seeks.within; last = (refl, here); beyond = seeks.beyond }

pub greatest_no : (P : ℕ → Type 0) (most first end middle : ℕ) (found : Option ℕ) → SeeksGreatest P most first end found
    → first ≤ middle → middle < end → (P middle → ⊥) → ((j k : ℕ) → j ≤ k → P k → P j)
    → SeeksGreatest P most first middle found
greatest_no P most first end middle found seeks above below not_here lower = record {
  order = above;
  within = omega (arith, seeks.within);
  last = seeks.last;
  beyond = λ k h l p. not_here (lower middle k h p);
}

pub greatest_all : (P : ℕ → Type 0) (most first end : ℕ) (found : Option ℕ) → SeeksGreatest P most first end found
    → end ≤ first → IsGreatest P most found
greatest_all P most first end None seeks done = λ k l p. seeks.beyond k (omega (arith, seeks.last)) l p
greatest_all P most first end (Some c) seeks done =
    (omega (arith, seeks.last.0, seeks.within, seeks.order), seeks.last.1, λ k h l p. seeks.beyond k (omega (arith, seeks.last.0)) l p)

pub least_none : (P : ℕ → Type 0) (most : ℕ) → SeeksLeast P most 0 (most + 1) None
least_none P most = record { order = omega arith; within = omega arith; next = refl; before = λ k h p. absurd (omega arith) }

pub least_yes : (P : ℕ → Type 0) (most first end middle : ℕ) (found : Option ℕ) → SeeksLeast P most first end found
    → first ≤ middle → middle < end → P middle → SeeksLeast P most first middle (Some middle)
least_yes P most first end middle found seeks above below here =
    record { order = above; within = omega (arith, seeks.within); next = (refl, here, omega (arith, seeks.within)); before = seeks.before }

pub least_no : (P : ℕ → Type 0) (most first end middle : ℕ) (found : Option ℕ) → SeeksLeast P most first end found
    → middle < end → (P middle → ⊥) → ((j k : ℕ) → j ≤ k → P j → P k)
    → SeeksLeast P most (middle + 1) end found
least_no P most first end middle found seeks below not_here higher = record {
  order = omega arith;
  within = seeks.within;
  next = seeks.next;
  before = λ k h p. not_here (higher k middle (omega arith) p);
}

pub least_all : (P : ℕ → Type 0) (most first end : ℕ) (found : Option ℕ) → SeeksLeast P most first end found
    → end ≤ first → IsLeast P most found
least_all P most first end None seeks done = λ k l p. seeks.before k (omega (arith, seeks.next)) p
least_all P most first end (Some c) seeks done =
    (seeks.next.2, seeks.next.1, λ k h p. seeks.before k (omega (arith, seeks.next.0)) p)

-- 2 to the power of the steps, times what is left to look at, is within what there was
pub record Halves (most before now left : ℕ) : Type 0 where
  pub spent : ℕ
  pub steps : now ≡ before + spent
  pub rest : 2 ^ spent * left ≤ most + 1
  pub few : 2 ^ spent ≤ 2 * most + 2

pub halves_none : (most before left : ℕ) → left ≤ most + 1 → Halves most before before left
halves_none most before left h = record { spent = 0; steps = omega arith; rest = omega arith; few = omega arith }

pub halves_more : (most before now left now' left' : ℕ) → Halves most before now left → 0 < left → 2 * left' ≤ left
    → now' ≡ now + 1 → Halves most before now' left'
halves_more most before now left now' left' halves some half one =
    let power : 2 ^ (halves.spent + 1) ≡ 2 ^ halves.spent * 2 = rw (add-one halves.spent) (pow-suc 2 halves.spent) in
    let all : 2 ^ halves.spent * 1 ≤ 2 ^ halves.spent * left = mul-le-mul_left (2 ^ halves.spent) some in
    let halved : 2 ^ halves.spent * (2 * left') ≤ 2 ^ halves.spent * left = mul-le-mul_left (2 ^ halves.spent) half in
    record {
      spent = halves.spent + 1;
      steps = omega (arith, halves.steps);
      rest = rw power (omega (arith, halves.rest));
      few = rw power (omega (arith, halves.rest));
    }

pub halves_all : (most before now left : ℕ) → Halves most before now left → SpendsFew most before now
halves_all most before now left halves = record { spent = halves.spent; steps = halves.steps; few = halves.few }

-- as many steps as half of those that are allowed
spent-le : (spent d most : ℕ) → 2 ^ spent ≤ 2 * most + 2 → 2 * most + 2 < 2 ^ (d + 1) → spent ≤ d
spent-le spent d most few more = elim (cases_lt d spent) [
  | inl past ↦ (let power : 2 ^ (d + 1) ≤ 2 ^ spent = pow_mono (let h : d + 1 ≤ spent = omega arith in h) in absurd (omega arith))
  | inr within ↦ within
]

-- the target, and two searches
pub steps_of_all : (most before one_more between now : ℕ) → one_more ≡ before + 1 → SpendsFew most one_more between
    → SpendsFew most between now → RisesByFew most before now
steps_of_all most before one_more between now one first second = (
  omega (arith, first.steps, second.steps),
  λ d few more.
      let f = spent-le first.spent d most first.few more in
      let s = spent-le second.spent d most second.few more in
      omega (arith, first.steps, second.steps),
)
