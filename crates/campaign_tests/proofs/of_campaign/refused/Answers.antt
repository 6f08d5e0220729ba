use Rattle.turn_book.specs.Seated.{view_of}
use Rattle.campaign.proofs.PassLaws.{claim_keeps}
use Rattle.campaign_tests.proofs.of_campaign.refused.Goals as goal

pub returns-in-Range-clause-keeps : goal.returns-in-Range-clause-keeps
returns-in-Range-clause-keeps c = claim_keeps (view_of c.args.pass.now.seat) c.claim.result (view_of c.claim.new.pass.seat) c.claim.ensures.claimed

pub returns-in-Cancelled-clause-keeps : goal.returns-in-Cancelled-clause-keeps
returns-in-Cancelled-clause-keeps c = claim_keeps (view_of c.args.pass.now.seat) c.claim.result (view_of c.claim.new.pass.seat) c.claim.ensures.claimed

pub returns-in-Drained-clause-keeps : goal.returns-in-Drained-clause-keeps
returns-in-Drained-clause-keeps c = claim_keeps (view_of c.args.pass.now.seat) c.claim.result (view_of c.claim.new.pass.seat) c.claim.ensures.claimed

pub returns-in-Idle-clause-keeps : goal.returns-in-Idle-clause-keeps
returns-in-Idle-clause-keeps c = claim_keeps (view_of c.args.pass.now.seat) c.claim.result (view_of c.claim.new.pass.seat) c.claim.ensures.claimed
