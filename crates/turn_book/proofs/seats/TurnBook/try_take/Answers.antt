use Rattle.std.proofs.Common.{◌+◌, ap, ◌∙◌, arith}
use mathlib.Core.Option.{none}
use Rattle.atomic_table.specs.Table.{step}
use Rattle.turn_book.proofs.TurnLemmas.{take_allows}
use Rattle.turn_book.proofs.SeatedLemmas.{took_nothing, took_book, even_turn, taken_slot}
use Rattle.turn_book.proofs.seats.TurnBook.try_take.Goals as goal

pub compare_exchange-found-requires : goal.compare_exchange-found-requires
compare_exchange-found-requires g c =
    let seat = c.args.seat.now in
    let slots = c.args.self.now.table.shared.table_id.slots in (
      c.requires.seat.table,
      omega (arith, c.args.self.now.sized.0),
      take_allows g.B.Booked.keeps g.B.Booked.label c.args.self.now.table.shared.key slots seat.seat.id seat.seat.me.0 c.requires.seat.live seat.seat.me.1 c.args.turn c.requires.turn.0 c.requires.turn.1,
    )

pub returns-then-found-turn-clause-other : goal.returns-then-found-turn-clause-other
returns-then-found-turn-clause-other g c =
    let slots = c.args.self.now.table.shared.table_id.slots in
    let same = took_nothing g.B.Booked.keeps g.B.Booked.label (step slots 1 c.args.turn (c.args.turn + 1) none) c.args.seat.now.seat.me c.compare_exchange-found.new.seat.me c.compare_exchange-found.result c.if-found-turn.true c.compare_exchange-found.ensures.2 in
    (even_turn c.compare_exchange-found.result, ap (λ m. m.0) same)

pub exchange-slot-requires : goal.exchange-slot-requires
exchange-slot-requires g c =
    let slots = c.args.self.now.table.shared.table_id.slots in
    let took = took_book g.B.Booked.keeps g.B.Booked.label (step slots 1 c.args.turn (c.args.turn + 1) none) c.args.seat.now.seat.me c.compare_exchange-found.new.seat.me c.compare_exchange-found.result c.if-found-turn.false c.compare_exchange-found.ensures.2 in
    (c.compare_exchange-found.ensures.0 ∙ c.requires.seat.table, taken_slot c.args.seat.now.seat.me.1 c.compare_exchange-found.new.seat.me.1 took.0 took.1)
