-- The bracket of a unit's worth: the last candidate that enclosures decide on the one side of the target, and the
-- first that they decide on the other.
use Rattle.std.specs.Prelude.{ℕ, ◌+◌, ◌*◌, ◌^◌, ◌<◌, ◌≤◌, Option, Some, None}
use Rattle.fixed_interval.specs.declared.enclosure.Enclosure.{Enclosure}
use Rattle.system_model.specs.System.{SystemParts}
use Rattle.analytic_index.specs.declared.pool.NewUnit.{NewUnit}
use Rattle.analytic_index.specs.Pool.{Pool}
use Rattle.capacity_credit.specs.declared.questions.Kind.{Kind}
use Rattle.capacity_credit.specs.declared.questions.Measure.{Measure}
use Rattle.capacity_credit.specs.declared.questions.Side.{Side}
use Rattle.capacity_credit.specs.declared.brackets.Bracket.{Bracket}
use Rattle.capacity_credit.specs.Measures.{Ends, HasEnds, LiesWholly, LiesExactly, target_pool, candidate_pool, low_side, high_side, target_ends, candidate_ends, exact_target, exact_candidate}

-- the greatest number up to `most` of which P holds, if there is one
abbrev pub IsGreatest : (ℕ → Type 0) → ℕ → Option ℕ → Type 0
IsGreatest P most None = (k : ℕ) → k ≤ most → P k → ⊥
IsGreatest P most (Some c) = (c ≤ most) × P c × ((k : ℕ) → c < k → k ≤ most → P k → ⊥)

-- the least one
abbrev pub IsLeast : (ℕ → Type 0) → ℕ → Option ℕ → Type 0
IsLeast P most None = (k : ℕ) → k ≤ most → P k → ⊥
IsLeast P most (Some c) = (c ≤ most) × P c × ((k : ℕ) → k < c → P k → ⊥)

-- the enclosure that stands at a number, where there is one, has the ends at that number
abbrev pub StandsAt : (ℕ → Ends) → Option ℕ → Option Enclosure → Type 0
StandsAt ends None None = Unit {0}
StandsAt ends None (Some e) = ⊥
StandsAt ends (Some c) None = ⊥
StandsAt ends (Some c) (Some e) = HasEnds e (ends c)

-- a candidate lies wholly on this side of the target
abbrev pub IsDecided : Side → Kind → Measure → Pool → Ends → ℕ → Type 0
IsDecided side kind measure pool target c = LiesWholly side (candidate_ends kind measure pool c) target

-- the bracket of the candidates of one pool round the target of another
pub record IsBracketOf (kind : Kind) (measure : Measure) (target candidates : Pool) (most : ℕ) (bracket : Bracket) : Type 0 where
  pub aim : HasEnds bracket.target (target_ends measure target)
  pub low : IsGreatest (IsDecided (low_side kind) kind measure candidates (target_ends measure target)) most bracket.low
  pub high : IsLeast (IsDecided (high_side kind) kind measure candidates (target_ends measure target)) most bracket.high
  pub at_low : StandsAt (candidate_ends kind measure candidates) bracket.low bracket.at_low
  pub at_high : StandsAt (candidate_ends kind measure candidates) bracket.high bracket.at_high

-- the bracket of the unit's worth to the system
abbrev pub IsBracket : Kind → Measure → SystemParts → NewUnit → ℕ → Bracket → Type 0
IsBracket kind measure system unit most bracket =
    IsBracketOf kind measure (target_pool kind system unit) (candidate_pool kind system unit) most bracket

-- the exact index of that candidate, where there is one, lies on this side of the exact target
abbrev pub IsCertifiedEnd : Side → Kind → Measure → Pool → Pool → Option ℕ → Type 0
IsCertifiedEnd side kind measure target candidates None = Unit {0}
IsCertifiedEnd side kind measure target candidates (Some c) =
    LiesExactly side (exact_candidate kind measure candidates c) (exact_target measure target)

-- the one is less than the other, where both are there
abbrev pub AreInOrder : Option ℕ → Option ℕ → Type 0
AreInOrder None high = Unit {0}
AreInOrder (Some low) None = Unit {0}
AreInOrder (Some low) (Some high) = low < high

-- what a bracket certifies
pub record IsCertifiedOf (kind : Kind) (measure : Measure) (target candidates : Pool) (bracket : Bracket) : Type 0 where
  pub low : IsCertifiedEnd (low_side kind) kind measure target candidates bracket.low
  pub high : IsCertifiedEnd (high_side kind) kind measure target candidates bracket.high
  pub order : AreInOrder bracket.low bracket.high

abbrev pub IsCertified : Kind → Measure → SystemParts → NewUnit → Bracket → Type 0
IsCertified kind measure system unit bracket =
    IsCertifiedOf kind measure (target_pool kind system unit) (candidate_pool kind system unit) bracket

-- a count of steps rose by at most 2 * (d + 1), for the greatest d with 2 ^ d ≤ 2 * most + 2
abbrev pub RisesByFew : ℕ → ℕ → ℕ → Type 0
RisesByFew most before now =
    (before ≤ now) × ((d : ℕ) → 2 ^ d ≤ 2 * most + 2 → 2 * most + 2 < 2 ^ (d + 1) → now ≤ before + 2 * (d + 1))
