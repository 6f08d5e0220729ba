use Rattle.campaign_core.proofs.JoinSteps.{Joins}
use Rattle.campaign_core.proofs.runs.join_touching.Given as goal

abbrev pub invariant-loop-i : goal.invariant-loop-i
invariant-loop-i l = Joins l.initial.list l.list l.joined l.i
