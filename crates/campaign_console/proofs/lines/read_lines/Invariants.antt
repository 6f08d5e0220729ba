use Rattle.std.proofs.Common.{None}
use Rattle.campaign.specs.Passes.{pass_of, work_of, IsOf}
use Rattle.campaign_console.specs.LineEnds.{outside_of, LinesRan}
use Rattle.campaign_console.proofs.lines.read_lines.Given as goal

-- the lines so far were answered
abbrev pub invariant-loop : goal.invariant-loop
invariant-loop g l = record {
  pass : IsOf l.campaign l.pass;
  lines : LinesRan (work_of l.campaign) None
      (outside_of g.C.Console.left g.C.Console.answers g.C.Console.faults g.O.Sink.held g.O.Sink.faults l.initial.lines l.initial.out)
      (outside_of g.C.Console.left g.C.Console.answers g.C.Console.faults g.O.Sink.held g.O.Sink.faults l.lines l.out)
      (pass_of l.initial.pass) (pass_of l.pass);
}
