use Rattle.std.proofs.Common.{◌++◌, ap, ◌∙◌}
use Rattle.campaign_core.specs.Ranges.{total}
use Rattle.campaign_core.proofs.Totals.{same_append}
use Rattle.campaign_tests.proofs.of_campaign.ListingWork.merge.Goals as goal

pub returns-clause-both : goal.returns-clause-both
returns-clause-both c xs ys apart one two weight =
    ap (total weight) (c.in_ok-extend_from_slice.ensures.items ∙ ap (λ l. c.args.into.now.items ++ l) c.as_slice.ensures.value) ∙ same_append c.args.into.now.items xs c.args.more.now.items ys one two weight
