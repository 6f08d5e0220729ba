-- What is certain where enclosures don't meet: the exact indices lie so too, and the ends of a bracket are in order.
use Rattle.std.proofs.Common.{ℕ, ◌+◌, ◌*◌, ◌<◌, ◌≤◌, List, Option, Some, None, inl, inr, add-one, arith}
use Rattle.std.proofs.lemmas.Bool.{cases_lt}
use Rattle.std.proofs.Math.Nat.{mul-le-mul_left, lt_of_mul-lt-mul_right}
use Rattle.fixed_interval.specs.Enclosure.{one}
use Rattle.fixed_interval.specs.Rounding.{floor_div, ceil_div}
use Rattle.outage_table.specs.declared.units.PooledUnit.{PooledUnit}
use Rattle.outage_table.specs.States.{all_weight}
use Rattle.outage_table.proofs.StateLaws.{AreRated, all_weight-pos}
use Rattle.analytic_index.specs.Pool.{Pool}
use Rattle.analytic_index.specs.Index.{needs_of}
use Rattle.analytic_index.proofs.IndexLaws.{lole_end-below, lole_end-above, eue_end-below, eue_end-above, lole_end-ordered, eue_end-ordered}
use Rattle.capacity_credit.specs.declared.questions.Kind.{Kind}
use Rattle.capacity_credit.specs.declared.questions.Kind.TheVariants.{Efc, Elcc}
use Rattle.capacity_credit.specs.declared.questions.Measure.{Measure}
use Rattle.capacity_credit.specs.declared.questions.Measure.TheVariants.{Lole, Eue}
use Rattle.capacity_credit.specs.declared.questions.Side.{Side}
use Rattle.capacity_credit.specs.declared.questions.Side.TheVariants.{Above, Below}
use Rattle.capacity_credit.specs.declared.brackets.Bracket.{Bracket}
use Rattle.capacity_credit.specs.Measures.{measured_end, measured_weight, ends_of, exact_of, LiesWholly, LiesExactly, candidate_needs, target_ends, low_side, high_side}
use Rattle.capacity_credit.specs.Bracket.{IsGreatest, IsLeast, IsDecided, IsBracketOf, IsCertifiedEnd, AreInOrder, IsCertifiedOf}
use Rattle.capacity_credit.proofs.SideLaws.{lower_decided}

below : (measure : Measure) (units : List PooledUnit) (needs : List ℕ) → AreRated units
    → measured_end measure floor_div units needs * all_weight units ≤ measured_weight measure units needs * one
below Lole units needs rated = lole_end-below units needs rated
below Eue units needs rated = eue_end-below units needs rated

above : (measure : Measure) (units : List PooledUnit) (needs : List ℕ) → AreRated units
    → measured_weight measure units needs * one ≤ measured_end measure ceil_div units needs * all_weight units
above Lole units needs rated = lole_end-above units needs rated
above Eue units needs rated = eue_end-above units needs rated

ordered : (measure : Measure) (units : List PooledUnit) (needs : List ℕ) → AreRated units
    → measured_end measure floor_div units needs ≤ measured_end measure ceil_div units needs
ordered Lole units needs rated = lole_end-ordered units needs rated
ordered Eue units needs rated = eue_end-ordered units needs rated

-- two fractions, the first below `high` and the second above `low`
fractions_apart : (u a p high b q low : ℕ) → 0 < a → 0 < b → p * u ≤ high * a → low * b ≤ q * u → high < low
    → p * b < q * a
fractions_apart u a p high b q low some some' h k apart =
    let first : b * (p * u) ≤ b * (high * a) = mul-le-mul_left b h in
    let second : a * (low * b) ≤ a * (q * u) = mul-le-mul_left a k in
    let gap : a * b * (high + 1) ≤ a * b * low = rw (add-one high) (mul-le-mul_left (a * b) apart) in
    let positive : 1 * b ≤ a * b = omega (arith, mul-le-mul_left b some) in
    let under : (p * b) * u < (q * a) * u = omega arith in
    lt_of_mul-lt-mul_right u under

-- where enclosures lie apart the exact indices do
pub apart_exactly : (side : Side) (measure : Measure) (us vs : List PooledUnit) (ns ms : List ℕ) → AreRated us → AreRated vs
    → LiesWholly side (ends_of measure us ns) (ends_of measure vs ms)
    → LiesExactly side (exact_of measure us ns) (exact_of measure vs ms)
apart_exactly Above measure us vs ns ms rated rated' apart =
    fractions_apart one (all_weight vs) (measured_weight measure vs ms) (measured_end measure ceil_div vs ms)
    (all_weight us) (measured_weight measure us ns) (measured_end measure floor_div us ns)
    (all_weight-pos vs rated') (all_weight-pos us rated) (above measure vs ms rated') (below measure us ns rated) apart
apart_exactly Below measure us vs ns ms rated rated' apart =
    fractions_apart one (all_weight us) (measured_weight measure us ns) (measured_end measure ceil_div us ns)
    (all_weight vs) (measured_weight measure vs ms) (measured_end measure floor_div vs ms)
    (all_weight-pos us rated) (all_weight-pos vs rated') (above measure us ns rated) (below measure vs ms rated') apart

certified_low : (kind : Kind) (measure : Measure) (target candidates : Pool) (most : ℕ) (low : Option ℕ) → AreRated target.units → AreRated candidates.units
    → IsGreatest (IsDecided (low_side kind) kind measure candidates (target_ends measure target)) most low
    → IsCertifiedEnd (low_side kind) kind measure target candidates low
certified_low kind measure target candidates most None rated rated' is = tt
certified_low kind measure target candidates most (Some c) rated rated' is =
    apart_exactly (low_side kind) measure candidates.units target.units (candidate_needs kind c candidates.hours) (needs_of target.hours) rated' rated is.1

certified_high : (kind : Kind) (measure : Measure) (target candidates : Pool) (most : ℕ) (high : Option ℕ) → AreRated target.units → AreRated candidates.units
    → IsLeast (IsDecided (high_side kind) kind measure candidates (target_ends measure target)) most high
    → IsCertifiedEnd (high_side kind) kind measure target candidates high
certified_high kind measure target candidates most None rated rated' is = tt
certified_high kind measure target candidates most (Some c) rated rated' is =
    apart_exactly (high_side kind) measure candidates.units target.units (candidate_needs kind c candidates.hours) (needs_of target.hours) rated' rated is.1

-- no candidate lies on both sides
one_side : (kind : Kind) (measure : Measure) (target candidates : Pool) (c : ℕ) → AreRated target.units → AreRated candidates.units
    → IsDecided (low_side kind) kind measure candidates (target_ends measure target) c
    → IsDecided (high_side kind) kind measure candidates (target_ends measure target) c → ⊥
one_side Efc measure target candidates c rated rated' low high =
    absurd (omega (arith, low, high, ordered measure target.units (needs_of target.hours) rated, ordered measure candidates.units (candidate_needs Efc c candidates.hours) rated'))
one_side Elcc measure target candidates c rated rated' low high =
    absurd (omega (arith, low, high, ordered measure target.units (needs_of target.hours) rated, ordered measure candidates.units (candidate_needs Elcc c candidates.hours) rated'))

in_order : (kind : Kind) (measure : Measure) (target candidates : Pool) (most : ℕ) (low high : Option ℕ) → AreRated target.units → AreRated candidates.units
    → IsGreatest (IsDecided (low_side kind) kind measure candidates (target_ends measure target)) most low
    → IsLeast (IsDecided (high_side kind) kind measure candidates (target_ends measure target)) most high
    → AreInOrder low high
in_order kind measure target candidates most None high rated rated' is is' = tt
in_order kind measure target candidates most (Some c) None rated rated' is is' = tt
in_order kind measure target candidates most (Some c) (Some d) rated rated' is is' = elim (cases_lt c d) [
  | inl less ↦ less
  | inr more ↦ absurd (one_side kind measure target candidates d rated rated'
      (lower_decided kind measure candidates (target_ends measure target) d c rated' more is.1) is'.1)
]

pub certified : (kind : Kind) (measure : Measure) (target candidates : Pool) (most : ℕ) (bracket : Bracket) → AreRated target.units → AreRated candidates.units
    → IsBracketOf kind measure target candidates most bracket → IsCertifiedOf kind measure target candidates bracket
certified kind measure target candidates most bracket rated rated' is = record {
  low = certified_low kind measure target candidates most bracket.low rated rated' is.low;
  high = certified_high kind measure target candidates most bracket.high rated rated' is.high;
  order = in_order kind measure target candidates most bracket.low bracket.high rated rated' is.low is.high;
}
