use Rattle.std.proofs.Common.{◌≡◌, ◌-◌, true, min, sym, ap, ◌∙◌, subst, arith}
use Rattle.campaign_core.specs.declared.call.Call.TheVariants.{Claim}
use Rattle.campaign_core.specs.Ranges.{has_range}
use Rattle.campaign_core.specs.History.{out_of}
use Rattle.turn_book.specs.Seated.{view_of}
use Rattle.campaign.proofs.ApartLaws.{seen_apart}
use Rattle.campaign.proofs.PassLaws.{looks_gate, claim_leads, exchange_out}
use Rattle.campaign.proofs.calls.Shared+Book+W+W.claim.Goals as goal

pub overflow_sub-before : goal.overflow_sub-before
overflow_sub-before g c = (looks_gate c.args.pass.now.seat.seat.me.0 Claim c.look-before.result (view_of c.look-before.new.seat) c.look-before.ensures.looked c.requires.seat.sound).0

pub swap_gate-requires-clause-step : goal.swap_gate-requires-clause-step
swap_gate-requires-clause-step g c κs within =
    let gate = looks_gate c.args.pass.now.seat.seat.me.0 Claim c.look-before.result (view_of c.look-before.new.seat) c.look-before.ensures.looked c.requires.seat.sound in
    let m = view_of c.look-before.new.seat in
    let block : c.args.self.now.block ≡ m.block = sym (c.look-before.ensures.seat.block ∙ c.requires.block) in
    claim_leads m.block c.min-count.result c.look-before.result gate c.look-before.ensures.seat.sound.block.0 c.if-before.false c.if-before-2.false
    (c.min-count.ensures ∙ ap (λ b. min b (c.look-before.result.target - c.look-before.result.next)) block)

pub of-requires : goal.of-requires
of-requires g c =
    let gate = looks_gate c.args.pass.now.seat.seat.me.0 Claim c.look-before.result (view_of c.look-before.new.seat) c.look-before.ensures.looked c.requires.seat.sound in
    let block = sym (c.look-before.ensures.seat.block ∙ c.requires.block) in (
      omega (arith, c.min-count.ensures, gate.0, block, c.look-before.ensures.seat.sound.block.0, c.if-before-2.false),
      omega (arith, c.min-count.ensures, gate.0, gate.1),
    )

pub returns-in-Ok-clause-out : goal.returns-in-Ok-clause-out
returns-in-Ok-clause-out g c =
    let gate = looks_gate c.args.pass.now.seat.seat.me.0 Claim c.look-before.result (view_of c.look-before.new.seat) c.look-before.ensures.looked c.requires.seat.sound in
    let m = view_of c.look-before.new.seat in
    let block : c.args.self.now.block ≡ m.block = sym (c.look-before.ensures.seat.block ∙ c.requires.block) in
    let count = c.min-count.ensures ∙ ap (λ b. min b (c.look-before.result.target - c.look-before.result.next)) block in
    subst (λ r. has_range (out_of (view_of c.swap_gate.new.seat).calls) r ≡ true) (sym c.of.ensures)
    (exchange_out m c.look-before.result c.min-count.result (view_of c.swap_gate.new.seat) gate c.look-before.ensures.seat.sound.block.0 c.if-before.false c.if-before-2.false count c.in-Ok.ensures.made c.swap_gate.ensures.seat.sound)

pub returns-then-before-clause-apart : goal.returns-then-before-clause-apart
returns-then-before-clause-apart g c = seen_apart (view_of c.look-before.new.seat) c.look-before.ensures.seat.sound

pub returns-then-before-3-clause-apart : goal.returns-then-before-3-clause-apart
returns-then-before-3-clause-apart g c = seen_apart (view_of c.look-before.new.seat) c.look-before.ensures.seat.sound

pub returns-else-before-3-clause-apart : goal.returns-else-before-3-clause-apart
returns-else-before-3-clause-apart g c = seen_apart (view_of c.look-before.new.seat) c.look-before.ensures.seat.sound

pub returns-in-Ok-clause-apart : goal.returns-in-Ok-clause-apart
returns-in-Ok-clause-apart g c = seen_apart (view_of c.swap_gate.new.seat) c.swap_gate.ensures.seat.sound

pub returns-in-Err-clause-apart : goal.returns-in-Err-clause-apart
returns-in-Err-clause-apart g c = seen_apart (view_of c.swap_gate.new.seat) c.swap_gate.ensures.seat.sound
