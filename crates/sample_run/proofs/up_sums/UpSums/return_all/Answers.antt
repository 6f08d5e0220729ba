use Rattle.std.proofs.Common.{◌+◌, arith, sym, ◌∙◌, subst}
use Rattle.outage_chronology.specs.Standing.{is_up_at}
use Rattle.sample_run.specs.declared.up_sums.UpSums.{UpSums}
use Rattle.sample_run.specs.UpSums.{AreSums}
use Rattle.sample_run.proofs.UpSumsLoops.{first_or, not-returned, returned-more, returned-same, returned-all}
use Rattle.sample_run.proofs.up_sums.UpSums.return_all.Goals as goal
use Rattle.sample_run.proofs.up_sums.UpSums.return_all.Goals.{then-not-is_up, else-not-is_up}

pub loop-component-preserved : goal.loop-component-preserved
loop-component-preserved c =
    let up = is_up_at c.args.chronology.now in
    let component = c.loop-component.component in
    elim c.if-not-is_up.branch [
      | then-not-is_up w ↦
          subst (λ (s : UpSums). AreSums c.args.system.now (first_or up (component + 1)) s) (sym w.self-is)
          (returned-more c.args.system.now up w.turn.new.self component (w.turn.ensures.sums (first_or up component) c.loop-component.invariant
          (not-returned up component (sym c.is_up.ensures ∙ w.if-not-is_up.true))))
      | else-not-is_up w ↦
          subst (λ (s : UpSums). AreSums c.args.system.now (first_or up (component + 1)) s) (sym w.self-is)
          (returned-same c.args.system.now up c.loop-component.self component (sym c.is_up.ensures ∙ w.if-not-is_up.false) c.loop-component.invariant)
    ]

pub returns : goal.returns
returns c =
    returned-all c.args.system.now (is_up_at c.args.chronology.now) c.loop-component.self c.loop-component.component
    (omega (arith, c.loop-component-test.false, c.loop-component.auto.component-end, c.component_count-component-end.ensures)) c.loop-component.invariant
