use Rattle.std.proofs.Common.{refl, lit≤}
use Rattle.campaign_core.specs.Ranges.{has_range, without}
use Rattle.campaign_core.proofs.PlayLaws.{may_be_called}
use Rattle.campaign_tests.proofs.of_campaign_core.campaigns_reply_as_worked_out.Goals as goal

pub replies-requires-clause-calls : goal.replies-requires-clause-calls
unfolding has_range without
replies-requires-clause-calls g c = may_be_called 5 2 (lit≤ tt, lit≤ tt) (lit≤ tt, lit≤ tt) _ refl

pub replies-requires-2-clause-calls : goal.replies-requires-2-clause-calls
unfolding has_range without
replies-requires-2-clause-calls g c = may_be_called 1000000 10000 (lit≤ tt, lit≤ tt) (lit≤ tt, lit≤ tt) _ refl

pub replies-requires-3-clause-calls : goal.replies-requires-3-clause-calls
unfolding has_range without
replies-requires-3-clause-calls g c = may_be_called 2 3 (lit≤ tt, lit≤ tt) (lit≤ tt, lit≤ tt) _ refl
