use Rattle.std.proofs.Common.{ap}
use Rattle.campaign_core.specs.declared.call.Call.TheVariants.{Claim}
use Rattle.campaign_core.specs.Machine.{Machine}
use Rattle.campaign_core.proofs.ReplyLaws.{replied_allowed, replied_push, replied_legal}
use Rattle.campaign_core.proofs.replying.replies.Goals as goal

pub apply-requires : goal.apply-requires
apply-requires c =
    replied_allowed c.args.target c.args.block c.loop-call.core c.args.calls.now c.loop-call.replies.items c.loop-call.call-index Claim c.loop-call.invariant c.loop-call-test.true c.requires.calls

pub loop-call-preserved : goal.loop-call-preserved
loop-call-preserved c =
    rw c.in_ok-push.ensures.items
    (replied_push c.args.target c.args.block c.loop-call.core c.apply.new.self c.args.calls.now c.loop-call.replies.items c.loop-call.call-index Claim c.in_ok-apply.field-0
    c.loop-call.invariant c.loop-call-test.true
    (ap (λ (m : Machine). m.opening) c.in_ok-apply.ensures.after, ap (λ (m : Machine). m.block) c.in_ok-apply.ensures.after)
    c.in_ok-apply.ensures.stands)

pub returns-clause-legal : goal.returns-clause-legal
returns-clause-legal c =
    λ h cs rs. replied_legal c.args.target c.args.block c.loop-call.core c.args.calls.now c.loop-call.replies.items c.loop-call.call-index c.loop-call.invariant c.loop-call-test.false h cs rs
