use Rattle.std.proofs.Common.{List, [], ◌∷◌, map, sym, subst, arith}
use Rattle.std.proofs.lemmas.Bool.Decides.{nat_tests}
use Rattle.campaign_core.specs.declared.run.Run.{Run}
use Rattle.campaign_core.specs.Ranges.{range, samples_of, AreDisjoint}
use Rattle.campaign_core.proofs.Totals.{times-nil, times-cons}
use Rattle.campaign_tests.proofs.of_campaign_core.shares_are_counted_and_ranges_joined.Goals as goal

three_apart : AreDisjoint (range 5 2 ∷ range 0 2 ∷ range 2 2 ∷ [])
three_apart n =
    let t = times-cons n (range 5 2) (range 0 2 ∷ range 2 2 ∷ []) in
    let u = times-cons n (range 0 2) (range 2 2 ∷ []) in
    let v = times-cons n (range 2 2) [] in
    let w = times-nil n in
    (grind (arith, nat_tests), λ h. grind (arith, nat_tests))

pub of-runs-requires-clause-disjoint : goal.of-runs-requires-clause-disjoint
of-runs-requires-clause-disjoint g c = subst (λ (l : List Run). AreDisjoint (map samples_of l)) (sym (c.in_ok-to_vec.ensures.items_if_clones_equal (λ x y e. e))) three_apart
