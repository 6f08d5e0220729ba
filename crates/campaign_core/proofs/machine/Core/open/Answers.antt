use Rattle.std.proofs.Common.{refl}
use Rattle.campaign_core.proofs.MachineLaws.{sound_empty, stands_start}
use Rattle.campaign_core.proofs.machine.Core.open.Goals as goal

pub invariant_of-result : goal.invariant_of-result
invariant_of-result c = rw (c.new.ensures.items, c.new-2.ensures.items) (sound_empty c.args.target c.args.block c.requires.target c.requires.block)

pub returns-clause-stands : goal.returns-clause-stands
returns-clause-stands c = stands_start _ c.args.target c.args.block (rw (c.new.ensures.items, c.new-2.ensures.items) refl)
