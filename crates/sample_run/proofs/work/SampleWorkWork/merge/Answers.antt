use Rattle.std.proofs.Common.{◌++◌, sym, ◌∙◌, arith}
use Rattle.campaign_core.proofs.Totals.{total-append, few_disjoint}
use Rattle.sample_run.proofs.WorkLaws.{stands_zones, stands_count, stands_merged}
use Rattle.sample_run.proofs.work.SampleWorkWork.merge.Goals as goal

pub merge-requires-clause-zones : goal.merge-requires-clause-zones
merge-requires-clause-zones c =
    let r = c.requires in
    stands_zones _ _ _ r.0 r.2 ∙ sym (stands_zones _ _ _ r.1 r.3)

pub merge-requires-clause-few : goal.merge-requires-clause-few
merge-requires-clause-few c =
    let r = c.requires in
    omega (arith, stands_count _ _ _ r.0 r.2, stands_count _ _ _ r.1 r.3, total-append (λ sample. 1) r.0 r.1, few_disjoint (r.0 ++ r.1) r.4)

pub returns-clause-both : goal.returns-clause-both
returns-clause-both c =
    stands_merged _ _ _ _ _ _ c.merge.ensures.ok
