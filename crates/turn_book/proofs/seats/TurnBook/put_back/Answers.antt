use Rattle.std.proofs.Common.{◌≡◌, ◌+◌, ◌/◌, ◌∷◌, Some, length, sym, ap, ◌∙◌, subst, arith, false}
use mathlib.Core.Option.{none}
use Rattle.atomic_table.specs.Table.{step, rest, Allows}
use Rattle.campaign_core.specs.declared.call.Call.{Call}
use Rattle.campaign_core.specs.History.{deposits_of}
use Rattle.turn_book.specs.Words.{turn_word}
use Rattle.turn_book.specs.Steps.{PutBack}
use Rattle.turn_book.specs.Views.{Deposits}
use Rattle.turn_book.specs.Seated.{view_of, slots_of}
use Rattle.turn_book.proofs.seats.TurnBook.put_back.Given.{Over}
use Rattle.turn_book.specs.Kept.{IsKept}
use Rattle.turn_book.proofs.TurnLemmas.{put_allows}
use Rattle.turn_book.proofs.SeatedLemmas.{few_deposits, of_deposits}
use Rattle.turn_book.proofs.seats.TurnBook.put_back.Goals as goal

pub overflow_add-turn : goal.overflow_add-turn
overflow_add-turn g c = omega (arith, c.requires.seat.turn c.requires.holds, few_deposits c.args.seat.now.seat.me.0 c.requires.seat.sound)

pub swap-requires : goal.swap-requires
swap-requires g c =
    let old = c.args.seat.now in
    let slots = c.args.self.now.table.shared.table_id.slots in
    let key = c.args.self.now.table.shared.key in
    let e = c.exchange.ensures in
    let turn = old.turn + 2 in
    let at_turn : turn ≡ turn_word false (length (deposits_of old.seat.me.0.seen) + 1) = omega (arith, c.requires.seat.turn c.requires.holds) in
    let allows = put_allows g.B.Booked.keeps g.B.Booked.label key slots c.exchange.new.seat.id old.seat.me.0 c.requires.seat.live (step slots 1 turn 0 none) c.args.held.book (rest old.seat.me.1) c.args.first c.args.count c.requires.holds c.requires.out c.requires.book c.requires.label at_turn in (
      e.0 ∙ c.requires.seat.table,
      omega (arith, c.args.self.now.sized.0),
      subst (λ m. Allows (IsKept g.B.Booked.keeps g.B.Booked.label key) slots c.exchange.new.seat.id m 1 (λ n. turn) (PutBack g.J.Asked.call (step slots 1 turn 0 none) m)) (sym e.3)
          (subst (λ (call : Call). Allows (IsKept g.B.Booked.keeps g.B.Booked.label key) slots c.exchange.new.seat.id (old.seat.me.0, (0, Some c.args.held.book) ∷ rest old.seat.me.1) 1 (λ n. turn) (PutBack call (step slots 1 turn 0 none) (old.seat.me.0, (0, Some c.args.held.book) ∷ rest old.seat.me.1))) (sym c.requires.asked) allows),
    )

pub overflow_cast-result : goal.overflow_cast-result
overflow_cast-result g c = omega (arith, c.requires.seat.turn c.requires.holds, few_deposits c.args.seat.now.seat.me.0 c.requires.seat.sound)

made : (g : Over) (c : goal.After-row_known-1 g) → Deposits (view_of c.args.seat.now) c.args.first c.args.count ((c.args.seat.now.turn + 2) / 2) c.swap.new.seat.me.0
made g c =
    let turn : c.args.seat.now.turn + 2 ≡ turn_word false ((c.args.seat.now.turn + 2) / 2) = omega (arith, c.requires.seat.turn c.requires.holds) in
    subst (λ v. Deposits v c.args.first c.args.count ((c.args.seat.now.turn + 2) / 2) c.swap.new.seat.me.0) (ap (λ m. m.0) c.exchange.ensures.3)
    (c.swap.ensures.2.1 c.args.first c.args.count ((c.args.seat.now.turn + 2) / 2) c.requires.asked turn)

pub returns-clause-seat : goal.returns-clause-seat
returns-clause-seat g c =
    let slots = c.swap.ensures.2.0 ∙ (ap (λ m. rest m.1) c.exchange.ensures.3 ∙ ap rest (c.requires.seat.slots ∙ ap slots_of c.requires.holds)) in
    of_deposits c.args.self.now c.args.seat.now _ c.requires.seat (c.swap.ensures.0 ∙ c.exchange.ensures.0) slots c.args.first c.args.count ((c.args.seat.now.turn + 2) / 2) (made g c)

pub returns-clause-made : goal.returns-clause-made
returns-clause-made g c = made g c
