use Rattle.std.proofs.Common.{sym}
use Rattle.campaign_core.proofs.Totals.{total-nil}
use Rattle.campaign_tests.proofs.of_campaign_core.CountingWork.empty.Goals as goal

pub returns : goal.returns
returns c = sym (total-nil (λ sample. 1))
