use Rattle.std.proofs.Common.{sym}
use Rattle.campaign_core.specs.Cores.{machine_of}
use Rattle.campaign_core.proofs.MachineLaws.{after_nothing, after_claimed, sound_claimed}
use Rattle.campaign_core.proofs.machine.Core.claim.Goals as goal
use Rattle.campaign_core.proofs.machine.Core.claim.Goals.{then-gate-3, else-gate-3}

pub returns-then-gate-clause-after : goal.returns-then-gate-clause-after
returns-then-gate-clause-after c = sym (after_nothing c.args.self.now)

pub returns-then-gate-2-clause-after : goal.returns-then-gate-2-clause-after
returns-then-gate-2-clause-after c =
    elim c.if-gate-3.branch [
      | then-gate-3 w ↦ rw w.result-is (sym (after_nothing c.args.self.now))
      | else-gate-3 w ↦ rw w.result-is (sym (after_nothing c.args.self.now))
    ]

pub invariant_of-self-2 : goal.invariant_of-self-2
invariant_of-self-2 c =
    rw c.in_ok-push.ensures.items
    (sound_claimed (machine_of c.self.inside) c.self.invariant c.if-gate-2.false c.min-count.result c.min-count.ensures)

pub returns-clause-after : goal.returns-clause-after
returns-clause-after c =
    rw (c.in_ok-push.ensures.items, ← c.self.view_is) (sym (after_claimed (machine_of c.self.inside) c.self.inside.gate.next c.min-count.result))
