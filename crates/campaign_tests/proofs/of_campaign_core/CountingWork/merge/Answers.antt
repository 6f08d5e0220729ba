use Rattle.std.proofs.Common.{arith}
use Rattle.campaign_core.proofs.Totals.{total-append, few_disjoint}
use Rattle.campaign_tests.proofs.of_campaign_core.CountingWork.merge.Goals as goal

pub overflow_add-into : goal.overflow_add-into
overflow_add-into c =
    let r = c.requires in
    omega (arith, total-append (λ sample. 1) r.0 r.1, few_disjoint _ r.4, r.2, r.3)

pub returns-clause-both : goal.returns-clause-both
returns-clause-both c = λ xs ys d s t. omega (arith, total-append (λ sample. 1) xs ys, s, t)
