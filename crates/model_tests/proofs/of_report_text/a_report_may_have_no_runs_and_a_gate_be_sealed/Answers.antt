use Rattle.std.proofs.Common.{List, [], map, sym, subst, arith}
use Rattle.campaign_core.specs.declared.run.Run.{Run}
use Rattle.campaign_core.specs.Ranges.{samples_of, AreDisjoint}
use Rattle.campaign_core.proofs.Totals.{times-nil}
use Rattle.model_tests.proofs.of_report_text.a_report_may_have_no_runs_and_a_gate_be_sealed.Goals as goal

none_apart : AreDisjoint []
none_apart n = (omega (arith, times-nil n), λ h. times-nil n)

pub of-runs-requires-clause-disjoint : goal.of-runs-requires-clause-disjoint
of-runs-requires-clause-disjoint g c = subst (λ (l : List Run). AreDisjoint (map samples_of l)) (sym c.new-2.ensures.items) none_apart
