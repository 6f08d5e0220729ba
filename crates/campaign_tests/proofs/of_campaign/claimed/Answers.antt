use Rattle.turn_book.specs.Seated.{view_of}
use Rattle.campaign.proofs.PassLaws.{claim_keeps}
use Rattle.campaign_tests.proofs.of_campaign.claimed.Goals as goal

pub returns-clause-keeps : goal.returns-clause-keeps
returns-clause-keeps g c = claim_keeps (view_of c.args.pass.now.seat) c.claim.result (view_of c.claim.new.pass.seat) c.claim.ensures.claimed
