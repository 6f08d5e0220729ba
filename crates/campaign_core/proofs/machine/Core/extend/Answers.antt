use Rattle.std.proofs.Common.{sym}
use Rattle.campaign_core.specs.Cores.{machine_of}
use Rattle.campaign_core.proofs.MachineLaws.{after_nothing, after_raised}
use Rattle.campaign_core.proofs.machine.Core.extend.Goals as goal

pub returns-then-gate-clause-after : goal.returns-then-gate-clause-after
returns-then-gate-clause-after c = sym (after_nothing c.args.self.now)

pub returns-then-gate-2-clause-after : goal.returns-then-gate-2-clause-after
returns-then-gate-2-clause-after c = sym (after_nothing c.args.self.now)

pub returns-then-target-gt-MOST_SAMPLES-clause-after : goal.returns-then-target-gt-MOST_SAMPLES-clause-after
returns-then-target-gt-MOST_SAMPLES-clause-after c = sym (after_nothing c.args.self.now)

pub returns-clause-after : goal.returns-clause-after
returns-clause-after c = rw (← c.self.view_is) (sym (after_raised (machine_of c.self.inside) c.args.more))
