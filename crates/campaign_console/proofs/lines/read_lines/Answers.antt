use Rattle.std.proofs.Common.{Some, None, subst}
use Rattle.campaign.specs.Passes.{pass_of, work_of}
use Rattle.campaign_console.specs.LineEnds.{outside_of, LinesRan}
use Rattle.campaign_console.proofs.LineLaws.{ran_none, ran_then}
use Rattle.campaign_console.proofs.lines.read_lines.Goals as goal

pub loop-init : goal.loop-init
loop-init g c = record {
  pass = c.requires.pass;
  lines = ran_none (work_of c.args.campaign.now)
      (outside_of g.C.Console.left g.C.Console.answers g.C.Console.faults g.O.Sink.held g.O.Sink.faults c.args.lines.now c.args.out.now)
      (pass_of c.args.pass.now);
}

pub returns-in-Some-read_line-clause-lines : goal.returns-in-Some-read_line-clause-lines
returns-in-Some-read_line-clause-lines g c =
    let at = outside_of g.C.Console.left g.C.Console.answers g.C.Console.faults g.O.Sink.held g.O.Sink.faults in
    ran_then (work_of c.args.campaign.now) (Some c.in-Some-read_line.end) (at c.args.lines.now c.args.out.now) (at c.loop.lines c.loop.out)
    (at c.read_line.new.lines c.read_line.new.out) (pass_of c.args.pass.now) (pass_of c.loop.pass) (pass_of c.read_line.new.pass)
    c.loop.invariant.lines c.in-Some-read_line.ensures.lines

pub loop-preserved : goal.loop-preserved
loop-preserved g c =
    let at = outside_of g.C.Console.left g.C.Console.answers g.C.Console.faults g.O.Sink.held g.O.Sink.faults in
    record {
      pass = c.read_line.ensures.pass;
      lines = ran_then (work_of c.args.campaign.now) None (at c.args.lines.now c.args.out.now) (at c.loop.lines c.loop.out)
          (at c.read_line.new.lines c.read_line.new.out) (pass_of c.args.pass.now) (pass_of c.loop.pass) (pass_of c.read_line.new.pass)
          c.loop.invariant.lines (subst (λ e. LinesRan (work_of c.args.campaign.now) e (at c.loop.lines c.loop.out) (at c.read_line.new.lines c.read_line.new.out) (pass_of c.loop.pass) (pass_of c.read_line.new.pass)) c.in_default.is c.read_line.ensures.lines);
    }
