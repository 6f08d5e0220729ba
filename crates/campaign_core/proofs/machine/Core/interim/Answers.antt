use Rattle.std.proofs.Common.{sym, ◌∙◌, subst}
use Rattle.campaign_core.specs.Ranges.{AreDisjoint}
use Rattle.campaign_core.specs.Cores.{machine_of}
use Rattle.campaign_core.specs.Joining.{AreRunnable}
use Rattle.campaign_core.proofs.MachineLaws.{sound_runnable, sound_deposits, after_nothing}
use Rattle.campaign_core.proofs.machine.Core.interim.Goals as goal

pub as_runs-requires : goal.as_runs-requires
as_runs-requires c = subst AreRunnable (sym c.as_slice.ensures.value) (sound_runnable (machine_of c.self.inside) c.self.invariant)

pub of-requires-clause-disjoint : goal.of-requires-clause-disjoint
of-requires-clause-disjoint c =
    subst AreDisjoint (sym (c.in_ok-list.ensures.samples ∙ c.as_slice.ensures.value)) (sound_deposits (machine_of c.self.inside) c.self.invariant)

pub returns-clause-after : goal.returns-clause-after
returns-clause-after c = sym (after_nothing c.args.self.now)
