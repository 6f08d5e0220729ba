use Rattle.campaign.specs.Passes.{pass_of, work_of}
use Rattle.campaign_console.specs.LineEnds.{outside_of}
use Rattle.campaign_console.proofs.TogetherLaws.{ran_alone}
use Rattle.campaign_console.proofs.sharing.SharedSamplesSharingPassSampleWorkPassSampleWork.answer.Goals as goal

pub returns-clause-ran : goal.returns-clause-ran
returns-clause-ran g c =
    let at = outside_of g.C.Console.left g.C.Console.answers g.C.Console.faults g.O.Sink.held g.O.Sink.faults in
    ran_alone (work_of c.args.self.now.campaign.now) c.answer_lines.result (at c.args.lines.now c.args.out.now) (at c.answer_lines.new.lines c.answer_lines.new.out)
    (pass_of c.args.pass.now) (pass_of c.answer_lines.new.pass) c.answer_lines.ensures.lines
