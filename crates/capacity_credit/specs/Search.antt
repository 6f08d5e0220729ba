-- What a search spends.
use Rattle.std.specs.Prelude.{◌≡◌, ℕ, ◌+◌, ◌*◌, ◌^◌, ◌≤◌}
use Rattle.fixed_interval.specs.declared.enclosure.Enclosure.{Enclosure}
use Rattle.analytic_index.specs.declared.indices.Index.{Index}
use Rattle.capacity_credit.specs.declared.questions.Measure.{Measure}
use Rattle.capacity_credit.specs.declared.questions.Measure.TheVariants.{Lole, Eue}
use Rattle.capacity_credit.specs.Measures.{Ends}

-- the ends of an enclosure
abbrev pub ends : Enclosure → Ends
ends e = record { low = e.low; high = e.high }

-- the index that is measured
abbrev pub measured_in : Measure → Index → Enclosure
measured_in Lole index = index.lole
measured_in Eue index = index.eue

-- some steps were taken, and 2 to the power of their number is at most 2 * most + 2
pub record SpendsFew (most before now : ℕ) : Type 0 where
  pub spent : ℕ
  pub steps : now ≡ before + spent
  pub few : 2 ^ spent ≤ 2 * most + 2
