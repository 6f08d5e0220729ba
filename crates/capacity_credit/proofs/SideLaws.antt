-- Candidates move to one side of the target as they grow.
use Rattle.std.specs.Prelude.{IsTrue, ◌↔◌}
use Rattle.std.proofs.Common.{◌≡◌, ℕ, ◌≤◌, List, Bool, true, false, sym, subst, ◌∙◌, arith}
use Rattle.std.proofs.lemmas.Bool.{false≢true}
use Rattle.fixed_interval.specs.declared.enclosure.Enclosure.{Enclosure}
use Rattle.fixed_interval.specs.Rounding.{floor_div, ceil_div}
use Rattle.outage_table.specs.declared.units.PooledUnit.{PooledUnit}
use Rattle.outage_table.proofs.StateLaws.{AreRated}
use Rattle.analytic_index.specs.declared.indices.Index.{Index}
use Rattle.analytic_index.specs.Pool.{Pool}
use Rattle.analytic_index.specs.Index.{IsIndex}
use Rattle.analytic_index.proofs.IndexLaws.{lole_low-falls, lole_high-falls, eue_end-falls}
use Rattle.capacity_credit.specs.declared.questions.Kind.{Kind}
use Rattle.capacity_credit.specs.declared.questions.Kind.TheVariants.{Efc, Elcc}
use Rattle.capacity_credit.specs.declared.questions.Measure.{Measure}
use Rattle.capacity_credit.specs.declared.questions.Measure.TheVariants.{Lole, Eue}
use Rattle.capacity_credit.specs.declared.questions.Side.{Side}
use Rattle.capacity_credit.specs.declared.questions.Side.TheVariants.{Above, Below}
use Rattle.capacity_credit.specs.Measures.{Ends, HasEnds, LiesWholly, ends_of, candidate_ends, low_side, high_side}
use Rattle.capacity_credit.specs.Bracket.{IsDecided}
use Rattle.capacity_credit.specs.Search.{ends, measured_in}

-- the measured one of two written indices
pub measured_ends : (measure : Measure) (index : Index) (units : List PooledUnit) (needs : List ℕ) (e : Enclosure)
    → IsIndex index units needs → e.low ≡ (measured_in measure index).low → e.high ≡ (measured_in measure index).high
    → HasEnds e (ends_of measure units needs)
measured_ends Lole index units needs e is low high = record { low = low ∙ is.lole_low; high = high ∙ is.lole_high }
measured_ends Eue index units needs e is low high = record { low = low ∙ is.eue_low; high = high ∙ is.eue_high }

-- a candidate is decided where the enclosure that has its ends lies so
lies_decided : (side : Side) (kind : Kind) (measure : Measure) (pool : Pool) (target : Ends) (c : ℕ) (e : Enclosure)
    → HasEnds e (candidate_ends kind measure pool c) → LiesWholly side (ends e) target → IsDecided side kind measure pool target c
lies_decided Above kind measure pool target c e has lies = rw (← has.low) lies
lies_decided Below kind measure pool target c e has lies = rw (← has.high) lies

decided_lies : (side : Side) (kind : Kind) (measure : Measure) (pool : Pool) (target : Ends) (c : ℕ) (e : Enclosure)
    → HasEnds e (candidate_ends kind measure pool c) → IsDecided side kind measure pool target c → LiesWholly side (ends e) target
decided_lies Above kind measure pool target c e has at = rw has.low at
decided_lies Below kind measure pool target c e has at = rw has.high at

-- what a test of that answers
pub test_yes : (asked side : Side) (kind : Kind) (measure : Measure) (pool : Pool) (target : Ends) (c : ℕ) (e : Enclosure) (answer : Bool)
    → asked ≡ side → HasEnds e (candidate_ends kind measure pool c) → (IsTrue answer ↔ LiesWholly asked (ends e) target) → answer ≡ true
    → IsDecided side kind measure pool target c
test_yes asked side kind measure pool target c e answer same has tells is =
    lies_decided side kind measure pool target c e has (subst (λ s. LiesWholly s (ends e) target) same (tells.0 is))

pub test_no : (asked side : Side) (kind : Kind) (measure : Measure) (pool : Pool) (target : Ends) (c : ℕ) (e : Enclosure) (answer : Bool)
    → asked ≡ side → HasEnds e (candidate_ends kind measure pool c) → (IsTrue answer ↔ LiesWholly asked (ends e) target) → answer ≡ false
    → IsDecided side kind measure pool target c → ⊥
test_no asked side kind measure pool target c e answer same has tells is at =
    let lies : LiesWholly asked (ends e) target
    = subst (λ s. LiesWholly s (ends e) target) (sym same) (decided_lies side kind measure pool target c e has at) in
    false≢true (sym is ∙ tells.1 lies)

-- up to a candidate on the lower side all are
pub lower_decided : (kind : Kind) (measure : Measure) (pool : Pool) (target : Ends) (j k : ℕ) → AreRated pool.units → j ≤ k
    → IsDecided (low_side kind) kind measure pool target k → IsDecided (low_side kind) kind measure pool target j
lower_decided Efc Lole pool target j k rated h at =
    omega (arith, at, lole_low-falls pool.units pool.hours j 0 k 0 rated h (omega arith))
lower_decided Efc Eue pool target j k rated h at =
    omega (arith, at, eue_end-falls floor_div pool.units pool.hours j 0 k 0 h (omega arith))
lower_decided Elcc Lole pool target j k rated h at =
    omega (arith, at, lole_high-falls pool.units pool.hours 0 k 0 j rated (omega arith) h)
lower_decided Elcc Eue pool target j k rated h at =
    omega (arith, at, eue_end-falls ceil_div pool.units pool.hours 0 k 0 j (omega arith) h)

-- from a candidate on the higher side on all are
pub higher_decided : (kind : Kind) (measure : Measure) (pool : Pool) (target : Ends) (j k : ℕ) → AreRated pool.units → j ≤ k
    → IsDecided (high_side kind) kind measure pool target j → IsDecided (high_side kind) kind measure pool target k
higher_decided Efc Lole pool target j k rated h at =
    omega (arith, at, lole_high-falls pool.units pool.hours j 0 k 0 rated h (omega arith))
higher_decided Efc Eue pool target j k rated h at =
    omega (arith, at, eue_end-falls ceil_div pool.units pool.hours j 0 k 0 h (omega arith))
higher_decided Elcc Lole pool target j k rated h at =
    omega (arith, at, lole_low-falls pool.units pool.hours 0 k 0 j rated (omega arith) h)
higher_decided Elcc Eue pool target j k rated h at =
    omega (arith, at, eue_end-falls floor_div pool.units pool.hours 0 k 0 j (omega arith) h)
