use Rattle.std.proofs.Common.{ℕ, [], List, refl, sym, ap, subst, ◌∙◌, arith}
use Rattle.system_model.specs.System.{zone_count}
use Rattle.sample_totals.specs.declared.outcomes.HourOutcome.{HourOutcome}
use Rattle.sample_totals.specs.Totals.{totals_of}
use Rattle.sample_run.specs.Run.{Simulation, IsRun, IsLeast, HasFigures}
use Rattle.sample_run.proofs.RangeSteps.{added-none, added-zones, added-count, added-more, added-all}
use Rattle.sample_run.proofs.runner.Runner.totals_of.Goals as goal

pub loop-sample-init : goal.loop-sample-init
loop-sample-init c =
    record {
      runner = refl;
      added = added-none _ _ _ _ (c.in_ok-totals.ensures.empty ∙ ap (λ (z : ℕ). totals_of z []) c.zones.ensures);
    }

pub add-requires-clause-zones : goal.add-requires-clause-zones
add-requires-clause-zones c =
    added-zones _ _ _ _ _ c.loop-sample.invariant.added
    ∙ ap (λ (s : Simulation). zone_count s.system) (sym c.loop-sample.invariant.runner)
    ∙ sym c.run.ensures.zones

pub add-requires-clause-few : goal.add-requires-clause-few
add-requires-clause-few c =
    omega (arith, added-count _ _ _ _ _ c.loop-sample.invariant.added)

pub loop-sample-preserved : goal.loop-sample-preserved
loop-sample-preserved c =
    let same = c.loop-sample.invariant.runner in
    record {
      runner = c.run.follows.holds-at-none ∙ same;
      added =
          added-more _ _ _ _ _ _ c.run.result.now.figures c.loop-sample.invariant.added
          (subst (λ (s : Simulation). HasFigures s.system s.seed c.loop-sample.sample c.run.result.now.figures) same c.run.ensures.figures)
          (subst (λ (s : Simulation). (run : List HourOutcome) → IsRun s.system s.seed c.loop-sample.sample run → IsLeast s.system s.seed c.loop-sample.sample run) same c.run.ensures.hours)
          c.in_ok-add.ensures.ok;
    }

pub returns-clause-sum : goal.returns-clause-sum
returns-clause-sum c =
    added-all _ _ _ _ c.loop-sample.sample _ c.loop-sample.invariant.added
    (omega (arith, c.loop-sample-test.false, c.loop-sample.auto.sample-end))
