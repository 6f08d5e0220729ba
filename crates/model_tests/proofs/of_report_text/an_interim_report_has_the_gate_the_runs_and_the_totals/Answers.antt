use Rattle.std.proofs.Common.{List, [], ◌∷◌, map, sym, subst, arith}
use Rattle.std.proofs.lemmas.Bool.Decides.{nat_tests}
use Rattle.campaign_core.specs.declared.run.Run.{Run}
use Rattle.campaign_core.specs.Ranges.{range, samples_of, AreDisjoint}
use Rattle.campaign_core.proofs.Totals.{times-nil, times-cons}
use Rattle.model_tests.proofs.of_report_text.an_interim_report_has_the_gate_the_runs_and_the_totals.Goals as goal

two_apart : AreDisjoint (range 5 1 ∷ range 0 1 ∷ [])
two_apart n =
    let t = times-cons n (range 5 1) (range 0 1 ∷ []) in
    let u = times-cons n (range 0 1) [] in
    let v = times-nil n in
    (grind (arith, nat_tests), λ h. grind (arith, nat_tests))

pub of-runs-requires-clause-disjoint : goal.of-runs-requires-clause-disjoint
of-runs-requires-clause-disjoint g c = subst (λ (l : List Run). AreDisjoint (map samples_of l)) (sym (c.in_ok-to_vec.ensures.items_if_clones_equal (λ x y e. e))) two_apart
