use Rattle.std.proofs.Common.{◌∙◌, sym, ap, map, subst, refl}
use Rattle.campaign_core.specs.Ranges.{samples_of}
use Rattle.system_model.specs.System.{SystemParts, zone_count}
use Rattle.campaign.specs.Passes.{pass_of, work_of, target_of, block_of}
use Rattle.sample_run.proofs.WorkLaws.{stands_zones}
use Rattle.campaign_console.specs.LineEnds.{outside_of}
use Rattle.campaign_console.specs.Ends.{EndsAs}
use Rattle.campaign_console.proofs.EndLaws.{ends_as}
use Rattle.campaign_console.proofs.consoles.console.Goals as goal

pub close-end-requires : goal.close-end-requires
close-end-requires g c =
    let terms = work_of c.args.campaign in
    let f = c.in-Ok.finished in
    record { zones = stands_zones terms.system terms.seed f.sum (map samples_of f.runs) c.in-Ok.ensures.sum ∙ ap zone_count c.requires.system }

pub returns-clause-ends : goal.returns-clause-ends
returns-clause-ends g c =
    let at = outside_of g.C.Console.left g.C.Console.answers g.C.Console.faults g.O.Sink.held g.O.Sink.faults in
    let before = at c.args.lines.now c.args.out.now in
    let middle = at c.run_shared-ran.new.lines c.run_shared-ran.new.out in
    let now = at c.run_shared-ran.new.lines c.close-end.new.out in
    let terms = work_of c.args.campaign in
    let f = c.in-Ok.finished in
    let e = c.in-Ok.ensures in
    let v = pass_of c.args.pass in
    let w = pass_of c.run_shared-ran.new.pass in
    let seat = c.run_shared-ran.ensures.pass.seat in
    subst (λ p. EndsAs c.close-end.result terms before now (pass_of p)) (sym e.last)
    (ends_as terms c.args.workers c.run_shared-ran.result before middle now (target_of c.args.campaign) (block_of c.args.campaign) v w c.requires.first c.run_shared-ran.ensures.ran seat.sound e.whole
    c.requires.workers.0 (seat.target ∙ sym c.requires.pass.seat.target) (refl, refl, refl) c.close-end.result f.gate f.runs f.sum c.args.system.now.zone_names e.gate e.runs e.sum
    (ap (λ (s : SystemParts). s.zone_names) (sym c.requires.system)) c.close-end.ensures)
