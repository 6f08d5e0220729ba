use Rattle.campaign_core.specs.declared.call.Call.TheVariants.{Interim as AskInterim}
use Rattle.campaign_core.specs.declared.call.Reply.TheVariants.{Interim}
use Rattle.campaign_core.proofs.WithoutLaws.{has-nil}
use Rattle.turn_book.specs.Seated.{view_of}
use Rattle.campaign.proofs.PassLaws.{says_keeps}
use Rattle.campaign_tests.proofs.of_campaign.reported.Goals as goal

pub returns-clause-keeps : goal.returns-clause-keeps
returns-clause-keeps g c = says_keeps (view_of c.args.pass.now.seat) AskInterim (Interim c.in-Ok.report.gate c.in-Ok.report.runs) (view_of c.interim.new.pass.seat) c.in-Ok.ensures.made has-nil
