use Rattle.campaign_core.specs.declared.call.Call.TheVariants.{Cancel}
use Rattle.campaign_core.specs.declared.call.Reply.TheVariants.{Marked}
use Rattle.campaign_core.proofs.WithoutLaws.{has-nil}
use Rattle.turn_book.specs.Seated.{view_of}
use Rattle.campaign.proofs.PassLaws.{says_keeps}
use Rattle.campaign_tests.proofs.of_campaign.cancelled.Goals as goal

pub returns-clause-keeps : goal.returns-clause-keeps
returns-clause-keeps c = says_keeps (view_of c.args.pass.now.seat) Cancel Marked (view_of c.cancel.new.pass.seat) c.cancel.ensures.cancelled has-nil
