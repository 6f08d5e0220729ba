use Rattle.std.proofs.Common.{ap, sym}
use Rattle.campaign_core.specs.Ranges.{total}
use Rattle.campaign_core.proofs.Totals.{total-nil}
use Rattle.campaign_tests.proofs.of_campaign_workers.ListingWork.empty.Goals as goal

pub returns : goal.returns
returns c = ((λ weight. ap (total weight) c.new.ensures.items), sym (total-nil (λ sample. 1)))
