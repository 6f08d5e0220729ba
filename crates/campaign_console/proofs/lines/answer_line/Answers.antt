use Rattle.std.proofs.Common.{Some, inl, sym, ap, ◌≡◌, ◌∙◌, ◌++◌, subst, refl}
use Rattle.campaign.specs.Passes.{pass_of, work_of}
use Rattle.campaign_console.specs.declared.lines.LinesEnd.TheVariants.{WriteFault, OutOfMemory}
use Rattle.ra_base.specs.Causes.{GainedPart}
use Rattle.system_model.specs.System.{SystemParts}
use Rattle.campaign_console.specs.Asks.{Replied}
use Rattle.campaign_console.specs.LineCalls.{request_of}
use Rattle.campaign_console.specs.LineTexts.{answer_text}
use Rattle.campaign_console.proofs.LineLaws.{line_ran, line_answered, on_ok}
use Rattle.campaign_console.proofs.lines.answer_line.Goals as goal

pub returns-then-is_err-clause-line : goal.returns-then-is_err-clause-line
returns-then-is_err-clause-line g c =
    let work = work_of c.args.campaign.now in
    let line = c.args.line.now in
    let given = c.in-Ok.answer in
    let v = pass_of c.args.pass.now in
    let w = pass_of c.ask.new.pass in
    let asked : c.request_of.result ≡ request_of line = c.request_of.ensures.is ∙ ap request_of c.bytes.ensures in
    let replied : Replied work (request_of line) given v w = subst (λ r. Replied work r given v w) asked c.in-Ok.ensures.ok in
    line_ran work line (Some OutOfMemory) (g.O.Sink.held c.args.out.now) (g.O.Sink.held c.args.out.now) (g.O.Sink.faults c.args.out.now) (g.O.Sink.faults c.args.out.now) v w given replied
    (inl (answer_text work.system.zone_names given, line_answered work line v w given replied), refl, refl)

pub returns-clause-line : goal.returns-clause-line
returns-clause-line g c =
    let work = work_of c.args.campaign.now in
    let line = c.args.line.now in
    let given = c.in-Ok.answer in
    let v = pass_of c.args.pass.now in
    let w = pass_of c.ask.new.pass in
    let asked : c.request_of.result ≡ request_of line = c.request_of.ensures.is ∙ ap request_of c.bytes.ensures in
    let replied : Replied work (request_of line) given v w = subst (λ r. Replied work r given v w) asked c.in-Ok.ensures.ok in
    let text = answer_text work.system.zone_names given in
    let put = on_ok c.put_answer.result (sym c.if-is_err.ensures.value) c.put_answer.ensures in
    let is : c.bytes-2.result.now ≡ text =
    c.bytes-2.ensures ∙ (put ∙ (ap (λ l. l ++ answer_text c.args.system.now.zone_names given) c.new-text.ensures ∙ ap (λ (s : SystemParts). answer_text s.zone_names given) (sym c.requires.system))) in
    line_ran work line (Some WriteFault) (g.O.Sink.held c.args.out.now) (g.O.Sink.held c.write.new.self) (g.O.Sink.faults c.args.out.now) (g.O.Sink.faults c.write.new.self) v w given replied
    (text, line_answered work line v w given replied, subst (GainedPart (g.O.Sink.held c.args.out.now) (g.O.Sink.held c.write.new.self)) is c.in-Err.ensures.held, c.in-Err.ensures.faults)
