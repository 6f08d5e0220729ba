use Rattle.std.proofs.Common.{◌+◌, arith}
use Rattle.std.proofs.lemmas.List.{get_or_past}
use Rattle.outage_table.proofs.FarLaws.{calm_past}
use Rattle.outage_table.proofs.high.calm_from.Goals as goal

pub returns-then-bounds-at-clause-calm : goal.returns-then-bounds-at-clause-calm
returns-then-bounds-at-clause-calm c x h =
    calm_past c.args.bounds.now c.args.capacity c.args.small c.loop-at.at x c.requires.descending c.loop-at.invariant (omega arith)

pub returns-clause-calm : goal.returns-clause-calm
returns-clause-calm c x h =
    calm_past c.args.bounds.now c.args.capacity c.args.small c.loop-at.at x c.requires.descending c.loop-at.invariant
    (omega (arith, get_or_past c.args.bounds.now (c.loop-at.at + c.args.small) 0 (omega arith)))
