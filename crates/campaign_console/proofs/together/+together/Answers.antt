use Rattle.std.proofs.Common.{◌≡◌, ◌+◌, ◌-◌, ◌||◌, sym, subst, arith}
use Rattle.campaign_console.specs.LineEnds.{outside_of}
use Rattle.campaign_console.proofs.together.+together.Goals as goal

pub run_together-returns-clause-ran : goal.run_together-returns-clause-ran
run_together-returns-clause-ran g t c =
    let at = outside_of g.C.Console.left g.C.Console.answers g.C.Console.faults g.O.Sink.held g.O.Sink.faults in
    let before = at c.args.lines.now c.args.out.now in
    let now = at c.run_one_more-end.new.lines c.run_one_more-end.new.out in
    let end = c.run_one_more-end.result.0 in
    let ran = c.run_one_more-end.result.1 in
    let v = c.args.pass.now in
    let w = c.take_in.new.pass in
    let one_fewer : c.args.workers - 1 + 1 ≡ c.args.workers = omega arith in
    let step = c.take_in.ensures.ran (c.args.workers - 1) before now ran v c.split-mine.new.pass c.split-mine.result end c.split-mine.ensures.splits c.run_one_more-end.ensures.work c.run_one_more-end.ensures.ran in
    subst (λ n. g.S.Sharing.ran c.args.shared.now n record { lines = ran.lines; short = ran.short || c.is_short.result } before now v w) one_fewer
    (subst (λ b. g.S.Sharing.ran c.args.shared.now (c.args.workers - 1 + 1) record { lines = ran.lines; short = ran.short || b } before now v w) (sym c.is_short.ensures) step)
