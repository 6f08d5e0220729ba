use Rattle.std.proofs.Common.{sym}
use Rattle.campaign_core.proofs.MachineLaws.{after_nothing}
use Rattle.campaign_core.proofs.machine.Core.progress.Goals as goal

pub returns-clause-after : goal.returns-clause-after
returns-clause-after c = sym (after_nothing c.args.self.now)
