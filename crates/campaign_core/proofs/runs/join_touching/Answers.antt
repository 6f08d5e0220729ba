use Rattle.std.proofs.Common.{sym, map, subst, ◌∙◌, take, arith}
use Rattle.std.proofs.lemmas.List.{take_all}
use Rattle.campaign_core.specs.Ranges.{run, samples_of, AreSame}
use Rattle.campaign_core.proofs.JoinSteps.{joins_none, next_behind, step_first, step_push, step_longer}
use Rattle.campaign_core.proofs.runs.join_touching.Goals as goal
use Rattle.campaign_core.proofs.runs.join_touching.Goals.{then-joined-gt0+then-touches, else-joined-gt0, else-joined-gt0-via-then-joined-gt0+else-touches, else-joined-gt0-via-else-joined-gt0}

pub loop-i-init : goal.loop-i-init
loop-i-init c = joins_none c.args.list.now c.requires

pub touches-requires : goal.touches-requires
touches-requires c = next_behind (run 0 0) _ _ _ _ c.loop-i-test.true c.loop-i.invariant c.if-joined-gt0.true

pub loop-i-preserved : goal.loop-i-preserved
loop-i-preserved c =
    let here = c.loop-i.invariant in
    let more = c.loop-i-test.true in
    elim c.if-joined-gt0.branch [
      | then-joined-gt0+then-touches w ↦
          rw (w.list-is, w.joined-is) (step_longer (run 0 0) _ _ _ _ more here w.if-joined-gt0.true (sym w.touches.ensures ∙ w.if-touches.true))
      | else-joined-gt0 w ↦
          elim w.else-joined-gt0.branch [
            | else-joined-gt0-via-then-joined-gt0+else-touches v ↦
                rw (w.list-is, w.joined-is) (step_push (run 0 0) _ _ _ _ more here v.if-joined-gt0.true (sym v.touches.ensures ∙ v.if-touches.false))
            | else-joined-gt0-via-else-joined-gt0 v ↦ rw (w.list-is, w.joined-is) (step_first (run 0 0) _ _ _ _ more here v.if-joined-gt0.false)
          ]
    ]

pub returns : goal.returns
returns c =
    let here = c.loop-i.invariant in
    record { front = omega (arith, here.behind); joined = (here.spaced, subst (λ l. AreSame (map samples_of (take c.loop-i.joined c.loop-i.list)) (map samples_of l)) (take_all c.loop-i.i c.args.list.now c.loop-i-test.false) here.same) }
