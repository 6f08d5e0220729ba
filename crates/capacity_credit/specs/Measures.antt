-- What is compared: an index of a pool over some needs, as the ends that are written for it and as the exact
-- fraction.
use Rattle.std.specs.Prelude.{◌≡◌, ℕ, ◌*◌, ◌<◌, List, Some, None}
use Rattle.fixed_interval.specs.declared.enclosure.Enclosure.{Enclosure}
use Rattle.fixed_interval.specs.Rounding.{floor_div, ceil_div}
use Rattle.system_model.specs.System.{SystemParts}
use Rattle.load_model.specs.declared.hours.NetHour.{NetHour}
use Rattle.outage_table.specs.declared.units.PooledUnit.{PooledUnit}
use Rattle.outage_table.specs.States.{all_weight}
use Rattle.analytic_index.specs.declared.pool.NewUnit.{NewUnit}
use Rattle.analytic_index.specs.Pool.{Pool, pool_of}
use Rattle.analytic_index.specs.Index.{needs_of, shifted_needs, lole_weight, eue_weight, lole_end, eue_end}
use Rattle.capacity_credit.specs.declared.questions.Kind.{Kind}
use Rattle.capacity_credit.specs.declared.questions.Kind.TheVariants.{Efc, Elcc}
use Rattle.capacity_credit.specs.declared.questions.Measure.{Measure}
use Rattle.capacity_credit.specs.declared.questions.Measure.TheVariants.{Lole, Eue}
use Rattle.capacity_credit.specs.declared.questions.Side.{Side}
use Rattle.capacity_credit.specs.declared.questions.Side.TheVariants.{Above, Below}

-- both ends of an enclosure, in units of 2^-60
pub record Ends : Type 0 where
  pub low : ℕ
  pub high : ℕ

-- an exact index: a weight of states over the weight of all
pub record Exact : Type 0 where
  pub part : ℕ
  pub whole : ℕ

-- the ends that are written for an index
abbrev pub measured_end : Measure → (ℕ → ℕ → ℕ) → List PooledUnit → List ℕ → ℕ
measured_end Lole round units needs = lole_end round units needs
measured_end Eue round units needs = eue_end round units needs

abbrev pub ends_of : Measure → List PooledUnit → List ℕ → Ends
ends_of measure units needs =
    record { low = measured_end measure floor_div units needs; high = measured_end measure ceil_div units needs }

-- the exact index
abbrev pub measured_weight : Measure → List PooledUnit → List ℕ → ℕ
measured_weight Lole units needs = lole_weight units needs
measured_weight Eue units needs = eue_weight units needs

abbrev pub exact_of : Measure → List PooledUnit → List ℕ → Exact
exact_of measure units needs = record { part = measured_weight measure units needs; whole = all_weight units }

-- the whole of the one lies on this side of the whole of the other
abbrev pub LiesWholly : Side → Ends → Ends → Type 0
LiesWholly Above here there = there.high < here.low
LiesWholly Below here there = here.high < there.low

-- the exact one lies on this side of the exact other
abbrev pub LiesExactly : Side → Exact → Exact → Type 0
LiesExactly Above here there = there.part * here.whole < here.part * there.whole
LiesExactly Below here there = here.part * there.whole < there.part * here.whole

-- The pool whose index is the target, and the one whose shifted indices are the candidates. For the firm capacity
-- the unit is in the target's, for the carried load in the candidates'.
abbrev pub target_pool : Kind → SystemParts → NewUnit → Pool
target_pool Efc system unit = pool_of system (Some unit)
target_pool Elcc system unit = pool_of system None

abbrev pub candidate_pool : Kind → SystemParts → NewUnit → Pool
candidate_pool Efc system unit = pool_of system None
candidate_pool Elcc system unit = pool_of system (Some unit)

-- the needs of candidate `c`: less by `c` for the firm capacity, more by `c` for the carried load
abbrev pub candidate_needs : Kind → ℕ → List NetHour → List ℕ
candidate_needs Efc c hours = shifted_needs c 0 hours
candidate_needs Elcc c hours = shifted_needs 0 c hours

-- on which side of the target the lower end of a bracket lies, and the higher one
abbrev pub low_side : Kind → Side
low_side Efc = Above
low_side Elcc = Below

abbrev pub high_side : Kind → Side
high_side Efc = Below
high_side Elcc = Above

-- the target and the candidates, as written
abbrev pub target_ends : Measure → Pool → Ends
target_ends measure pool = ends_of measure pool.units (needs_of pool.hours)

abbrev pub candidate_ends : Kind → Measure → Pool → ℕ → Ends
candidate_ends kind measure pool c = ends_of measure pool.units (candidate_needs kind c pool.hours)

-- and exactly
abbrev pub exact_target : Measure → Pool → Exact
exact_target measure pool = exact_of measure pool.units (needs_of pool.hours)

abbrev pub exact_candidate : Kind → Measure → Pool → ℕ → Exact
exact_candidate kind measure pool c = exact_of measure pool.units (candidate_needs kind c pool.hours)

-- an enclosure has these ends
pub record HasEnds (e : Enclosure) (ends : Ends) : Type 0 where
  pub low : e.low ≡ ends.low
  pub high : e.high ≡ ends.high
