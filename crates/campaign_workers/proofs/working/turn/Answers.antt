use Rattle.std.proofs.Common.{refl}
use Rattle.campaign_core.specs.declared.call.Call.TheVariants.{Claim, Deposit}
use Rattle.campaign_core.specs.declared.call.Reply.TheVariants.{Range, Deposited, Idle, Drained, Cancelled}
use Rattle.campaign.specs.Passes.{pass_of}
use Rattle.campaign_workers.proofs.WorkLaws.{works_none, works_says, works_saw, moved_saw, out_says, out_saw, out_shared}
use Rattle.campaign_workers.proofs.working.turn.Goals as goal

pub returns-in-Ok-clause-work : goal.returns-in-Ok-clause-work
returns-in-Ok-clause-work g c =
    let v = pass_of c.args.pass.now in
    let u = pass_of c.claim.new.pass in
    let w = pass_of c.run_share.new.pass in
    let s = c.in-Range.share in
    let claimed = c.in-Range.ensures.claimed in
    let done = c.in-Ok.ensures.done in (
      works_says v u (Deposit s.first s.count) (Deposited done.0) w refl (works_says v v Claim (Range s.first s.count) u refl (works_none v) claimed) done.1,
      out_shared v u w s.first s.count done.0 c.in-Range.ensures.pass.seat.sound claimed done.1,
    )

pub returns-in-Moved-clause-work : goal.returns-in-Moved-clause-work
returns-in-Moved-clause-work g c =
    let v = pass_of c.args.pass.now in
    let w = pass_of c.claim.new.pass in
    let saw = moved_saw v c.in-Moved.before c.in-Moved.after w c.in-Moved.ensures.claimed in
    (works_saw v v w (works_none v) saw, out_saw v w saw)

pub returns-in-Idle-clause-work : goal.returns-in-Idle-clause-work
returns-in-Idle-clause-work g c =
    let v = pass_of c.args.pass.now in
    let claimed = c.in-Idle.ensures.claimed in
    record { last = v; worked = works_none v; claimed = claimed; out = out_says v Claim Idle (pass_of c.claim.new.pass) refl refl claimed }

pub returns-in-Drained-clause-work : goal.returns-in-Drained-clause-work
returns-in-Drained-clause-work g c =
    let v = pass_of c.args.pass.now in
    let claimed = c.in-Drained.ensures.claimed in
    record { last = v; worked = works_none v; claimed = claimed; out = out_says v Claim Drained (pass_of c.claim.new.pass) refl refl claimed }

pub returns-in-Cancelled-clause-work : goal.returns-in-Cancelled-clause-work
returns-in-Cancelled-clause-work g c =
    let v = pass_of c.args.pass.now in
    let claimed = c.in-Cancelled.ensures.claimed in
    record { last = v; worked = works_none v; claimed = claimed; out = out_says v Claim Cancelled (pass_of c.claim.new.pass) refl refl claimed }
