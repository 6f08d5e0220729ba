use Rattle.std.proofs.Common.{[], ◌∷◌, arith}
use Rattle.std.proofs.lemmas.Bool.Decides.{nat_tests}
use Rattle.campaign_core.specs.Ranges.{range, AreDisjoint}
use Rattle.campaign_core.proofs.Totals.{times-nil, times-cons, total-cons}
use Rattle.campaign_core.proofs.MachineLaws.{weight-ones}
use Rattle.sample_tests.proofs.of_sample_run.gathered.Goals as goal

one : AreDisjoint (range 2 2 ∷ [])
one n =
    let t = times-cons n (range 2 2) [] in
    let u = times-nil n in
    (grind (arith, nat_tests), λ h. grind (arith, nat_tests))

both : AreDisjoint (range 2 2 ∷ range 0 2 ∷ [])
both n =
    let t = times-cons n (range 2 2) (range 0 2 ∷ []) in
    let u = times-cons n (range 0 2) [] in
    let v = times-nil n in
    (grind (arith, nat_tests), λ h. grind (arith, nat_tests))

pub merge-requires : goal.merge-requires
merge-requires g c =
    ([], range 2 2 ∷ [], c.in_ok-sum.ensures, c.in_ok-later.ensures.sum c.args.work.now c.requires, one)

pub merge-requires-2 : goal.merge-requires-2
merge-requires-2 g c =
    let serves = c.in_ok-later.ensures.same c.args.work.now in (
      range 2 2 ∷ [],
      range 0 2 ∷ [],
      c.in_ok-merge.ensures.both [] (range 2 2 ∷ []) one c.in_ok-sum.ensures (c.in_ok-later.ensures.sum c.args.work.now c.requires),
      c.in_ok-earlier.ensures.sum c.args.work.now (serves.0 c.requires),
      both,
    )

pub enough-enough-requires : goal.enough-enough-requires
enough-enough-requires g c =
    let serves = c.in_ok-later.ensures.same c.args.work.now in
    let later = c.in_ok-merge.ensures.both [] (range 2 2 ∷ []) one c.in_ok-sum.ensures (c.in_ok-later.ensures.sum c.args.work.now c.requires) in
    let earlier = c.in_ok-earlier.ensures.sum c.args.work.now (serves.0 c.requires) in (
      range 2 2 ∷ range 0 2 ∷ [],
      c.in_ok-copy.ensures (range 2 2 ∷ range 0 2 ∷ []) (c.in_ok-merge-2.ensures.both (range 2 2 ∷ []) (range 0 2 ∷ []) both later earlier),
      omega (arith, total-cons (λ sample. 1) (range 2 2) (range 0 2 ∷ []), weight-ones 2 2),
    )
