use Rattle.transfer_flow.proofs.SpreadLemmas.{SpreadsFrom}
use Rattle.transfer_flow.proofs.flows.Flow.reach_from.Given as goal

abbrev pub invariant-loop-zone : goal.invariant-loop-zone
invariant-loop-zone l = SpreadsFrom l.net l.self l.fn.from l.mask l.zone
