use Rattle.std.proofs.Common.{sym}
use Rattle.campaign_core.specs.Cores.{machine_of}
use Rattle.campaign_core.proofs.MachineLaws.{after_cancel}
use Rattle.campaign_core.proofs.machine.Core.cancel.Goals as goal

pub returns-clause-after : goal.returns-clause-after
returns-clause-after c = rw (← c.self.view_is) (sym (after_cancel (machine_of c.self.inside)))
