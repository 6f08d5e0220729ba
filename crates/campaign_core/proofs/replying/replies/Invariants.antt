use Rattle.campaign_core.proofs.ReplyLaws.{Replied}
use Rattle.campaign_core.proofs.replying.replies.Given as goal

abbrev pub invariant-loop-call : goal.invariant-loop-call
invariant-loop-call l = Replied l.fn.target l.fn.block l.core l.calls l.replies.items l.call-index
