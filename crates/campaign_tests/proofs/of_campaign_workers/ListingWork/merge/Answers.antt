use Rattle.std.proofs.Common.{◌++◌, ap, ◌∙◌, arith}
use Rattle.campaign_core.specs.Ranges.{total}
use Rattle.campaign_core.proofs.Totals.{total-append, same_append, few_disjoint}
use Rattle.campaign_tests.proofs.of_campaign_workers.ListingWork.merge.Goals as goal

pub overflow_add-into : goal.overflow_add-into
overflow_add-into c =
    let r = c.requires in
    omega (arith, total-append (λ sample. 1) r.0 r.1, few_disjoint (r.0 ++ r.1) r.4, r.2.1, r.3.1)

pub returns-clause-both : goal.returns-clause-both
returns-clause-both c xs ys apart one two = (
  (λ weight.
      ap (total weight) (c.in_ok-extend_from_slice.ensures.items ∙ ap (λ l. c.args.into.now.ranges.items ++ l) c.as_slice.ensures.value)
      ∙ same_append c.args.into.now.ranges.items xs c.args.more.now.ranges.items ys one.0 two.0 weight),
  omega (arith, total-append (λ sample. 1) xs ys, one.1, two.1),
)
