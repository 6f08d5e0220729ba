use Rattle.std.proofs.Common.{refl}
use Rattle.campaign.specs.Passes.{pass_of, work_of}
use Rattle.campaign_console.specs.LineEnds.{outside_of}
use Rattle.campaign_console.proofs.LineLaws.{ran_line, ran_all, ran_fault, ran_short}
use Rattle.campaign_console.proofs.lines.read_line.Goals as goal

pub returns-in-Ok-Some-clause-lines : goal.returns-in-Ok-Some-clause-lines
returns-in-Ok-Some-clause-lines g c =
    let at = outside_of g.C.Console.left g.C.Console.answers g.C.Console.faults g.O.Sink.held g.O.Sink.faults in
    let line = rw c.in-Ok-Some.field-0-is at c.in-Ok-Some.ensures in
    ran_line (work_of c.args.campaign.now) c.in-Ok-Some.line c.answer_line.result (at c.args.lines.now c.args.out.now) (at c.line.new.self c.answer_line.new.out)
    (pass_of c.args.pass.now) (pass_of c.answer_line.new.pass) line.answers line.left line.faults c.answer_line.ensures.line

pub returns-in-Ok-None-clause-lines : goal.returns-in-Ok-None-clause-lines
returns-in-Ok-None-clause-lines g c =
    let at = outside_of g.C.Console.left g.C.Console.answers g.C.Console.faults g.O.Sink.held g.O.Sink.faults in
    let line = rw c.in-Ok-None.field-0-is at c.in-Ok-None.ensures in
    ran_all (work_of c.args.campaign.now) (at c.args.lines.now c.args.out.now) (at c.line.new.self c.args.out.now) (pass_of c.args.pass.now)
    line.answers line.left line.faults refl refl

pub returns-in-Err-Fault-clause-lines : goal.returns-in-Err-Fault-clause-lines
returns-in-Err-Fault-clause-lines g c =
    let at = outside_of g.C.Console.left g.C.Console.answers g.C.Console.faults g.O.Sink.held g.O.Sink.faults in
    let line = rw c.in-Err-Fault.field-0-is at c.in-Err-Fault.ensures in
    ran_fault (work_of c.args.campaign.now) (at c.args.lines.now c.args.out.now) (at c.line.new.self c.args.out.now) (pass_of c.args.pass.now)
    line.answers line.left line.faults refl refl

pub returns-in-Err-OutOfMemory-clause-lines : goal.returns-in-Err-OutOfMemory-clause-lines
returns-in-Err-OutOfMemory-clause-lines g c =
    let at = outside_of g.C.Console.left g.C.Console.answers g.C.Console.faults g.O.Sink.held g.O.Sink.faults in
    let line = rw c.in-Err-OutOfMemory.field-0-is at c.in-Err-OutOfMemory.ensures in
    ran_short (work_of c.args.campaign.now) (at c.args.lines.now c.args.out.now) (at c.line.new.self c.args.out.now) (pass_of c.args.pass.now)
    line.answers line.left line.faults refl refl
