use Rattle.std.proofs.Common.{arith}
use Rattle.campaign_core.specs.declared.call.Call.TheVariants.{Extend}
use Rattle.turn_book.specs.Seated.{view_of}
use Rattle.campaign.proofs.PassLaws.{looks_gate, extend_leads}
use Rattle.campaign.proofs.calls.Shared+Book+W+W.extend.Goals as goal

pub overflow_add-target : goal.overflow_add-target
overflow_add-target g c =
    let gate = looks_gate c.args.pass.now.seat.seat.me.0 (Extend c.args.more) c.look-before.result (view_of c.look-before.new.seat) c.look-before.ensures.looked c.requires.pass.seat.sound in
    omega (arith, gate.1, c.requires.more.1)

pub swap_gate-requires-clause-step : goal.swap_gate-requires-clause-step
swap_gate-requires-clause-step g c κs within =
    let gate = looks_gate c.args.pass.now.seat.seat.me.0 (Extend c.args.more) c.look-before.result (view_of c.look-before.new.seat) c.look-before.ensures.looked c.requires.pass.seat.sound in
    extend_leads (view_of c.look-before.new.seat).block c.args.more c.look-before.result gate c.requires.more.0 c.if-before.false c.if-before-2.false (omega (arith, c.if-target-gt-MOST_SAMPLES.false))
