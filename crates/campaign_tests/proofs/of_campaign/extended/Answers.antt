use Rattle.turn_book.specs.Seated.{view_of}
use Rattle.campaign.proofs.PassLaws.{extend_keeps}
use Rattle.campaign_tests.proofs.of_campaign.extended.Goals as goal

pub returns-clause-keeps : goal.returns-clause-keeps
returns-clause-keeps c = extend_keeps (view_of c.args.pass.now.seat) c.args.more c.extend.result (view_of c.extend.new.pass.seat) c.extend.ensures.extended
