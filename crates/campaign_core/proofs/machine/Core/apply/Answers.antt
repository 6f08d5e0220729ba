use Rattle.std.proofs.Common.{subst}
use Rattle.campaign_core.specs.Machine.{IsSound}
use Rattle.campaign_core.proofs.MachineLaws.{stands_result}
use Rattle.campaign_core.proofs.machine.Core.apply.Goals as goal

pub returns-clause-stands : goal.returns-clause-stands
returns-clause-stands c =
    stands_result c.args.self.now c.answer.new.self c.args.call c.answer.result (subst IsSound c.self.view_is c.self.invariant) c.requires c.answer.ensures.reply c.answer.ensures.after
