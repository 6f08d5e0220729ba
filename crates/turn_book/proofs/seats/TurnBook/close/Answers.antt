use Rattle.std.proofs.Common.{refl, ◌≡◌, length, Some, subst, arith, false}
use Rattle.std.specs.Slots.{slots_items}
use Rattle.campaign_core.specs.History.{gate_of, deposits_of}
use Rattle.turn_book.specs.Words.{gate_word, turn_word}
use Rattle.turn_book.proofs.CloseLemmas.{ends, first_word, second_word, only_slot}
use Rattle.turn_book.proofs.SeatedLemmas.{few_deposits}
use Rattle.turn_book.proofs.seats.TurnBook.close.Goals as goal

pub gate_from-gate-requires : goal.gate_from-gate-requires
gate_from-gate-requires g c =
    let v = c.args.seat.seat.me.0 in
    let key = c.args.self.table.shared.key in
    let e = ends g.B.Booked.keeps g.B.Booked.label key c.args.seat.seat.id v (slots_items c.close_with-closed.result.words) (slots_items c.close_with-closed.result.slots) c.requires.seat.live c.requires.opening c.requires.free c.requires.seat.target c.requires.all c.close_with-closed.ensures.values.2 in
    (gate_of v.target v.seen, e.gate, first_word (slots_items c.close_with-closed.result.words) (gate_word (gate_of v.target v.seen)) (turn_word false (length (deposits_of v.seen))) c.word.result e.at_end c.word.ensures, tt)

pub overflow_cast-deposits : goal.overflow_cast-deposits
overflow_cast-deposits g c =
    let v = c.args.seat.seat.me.0 in
    let key = c.args.self.table.shared.key in
    let e = ends g.B.Booked.keeps g.B.Booked.label key c.args.seat.seat.id v (slots_items c.close_with-closed.result.words) (slots_items c.close_with-closed.result.slots) c.requires.seat.live c.requires.opening c.requires.free c.requires.seat.target c.requires.all c.close_with-closed.ensures.values.2 in
    let turn = second_word (slots_items c.close_with-closed.result.words) (gate_word (gate_of v.target v.seen)) (turn_word false (length (deposits_of v.seen))) c.word-2.result e.at_end c.word-2.ensures in
    omega (arith, turn, few_deposits v c.requires.seat.sound)

pub unwrap-requires : goal.unwrap-requires
unwrap-requires g c =
    let v = c.args.seat.seat.me.0 in
    let key = c.args.self.table.shared.key in
    let e = ends g.B.Booked.keeps g.B.Booked.label key c.args.seat.seat.id v (slots_items c.close_with-closed.result.words) (slots_items c.close_with-closed.result.slots) c.requires.seat.live c.requires.opening c.requires.free c.requires.seat.target c.requires.all c.close_with-closed.ensures.values.2 in
    let is : c.take-slot.result ≡ Some e.book = only_slot (slots_items c.close_with-closed.result.slots) (Some e.book) c.take-slot.result e.there c.take-slot.ensures.value in
    rw is refl

pub returns-clause-gate : goal.returns-clause-gate
returns-clause-gate g c =
    let v = c.args.seat.seat.me.0 in
    let key = c.args.self.table.shared.key in
    let e = ends g.B.Booked.keeps g.B.Booked.label key c.args.seat.seat.id v (slots_items c.close_with-closed.result.words) (slots_items c.close_with-closed.result.slots) c.requires.seat.live c.requires.opening c.requires.free c.requires.seat.target c.requires.all c.close_with-closed.ensures.values.2 in
    c.gate_from-gate.ensures (gate_of v.target v.seen) e.gate (first_word (slots_items c.close_with-closed.result.words) (gate_word (gate_of v.target v.seen)) (turn_word false (length (deposits_of v.seen))) c.word.result e.at_end c.word.ensures)

pub returns-clause-deposits : goal.returns-clause-deposits
returns-clause-deposits g c =
    let v = c.args.seat.seat.me.0 in
    let key = c.args.self.table.shared.key in
    let e = ends g.B.Booked.keeps g.B.Booked.label key c.args.seat.seat.id v (slots_items c.close_with-closed.result.words) (slots_items c.close_with-closed.result.slots) c.requires.seat.live c.requires.opening c.requires.free c.requires.seat.target c.requires.all c.close_with-closed.ensures.values.2 in
    let turn = second_word (slots_items c.close_with-closed.result.words) (gate_word (gate_of v.target v.seen)) (turn_word false (length (deposits_of v.seen))) c.word-2.result e.at_end c.word-2.ensures in
    omega (arith, turn)

pub returns-clause-book : goal.returns-clause-book
returns-clause-book g c =
    let v = c.args.seat.seat.me.0 in
    let key = c.args.self.table.shared.key in
    let e = ends g.B.Booked.keeps g.B.Booked.label key c.args.seat.seat.id v (slots_items c.close_with-closed.result.words) (slots_items c.close_with-closed.result.slots) c.requires.seat.live c.requires.opening c.requires.free c.requires.seat.target c.requires.all c.close_with-closed.ensures.values.2 in
    let is : c.take-slot.result ≡ Some e.book = only_slot (slots_items c.close_with-closed.result.slots) (Some e.book) c.take-slot.result e.there c.take-slot.ensures.value in
    let book : e.book ≡ c.unwrap.result = cc (is, c.unwrap.ensures) in
    subst (λ b. g.B.Booked.keeps b (deposits_of v.seen)) book e.is

pub returns-clause-label : goal.returns-clause-label
returns-clause-label g c =
    let v = c.args.seat.seat.me.0 in
    let key = c.args.self.table.shared.key in
    let e = ends g.B.Booked.keeps g.B.Booked.label key c.args.seat.seat.id v (slots_items c.close_with-closed.result.words) (slots_items c.close_with-closed.result.slots) c.requires.seat.live c.requires.opening c.requires.free c.requires.seat.target c.requires.all c.close_with-closed.ensures.values.2 in
    let is : c.take-slot.result ≡ Some e.book = only_slot (slots_items c.close_with-closed.result.slots) (Some e.book) c.take-slot.result e.there c.take-slot.ensures.value in
    let book : e.book ≡ c.unwrap.result = cc (is, c.unwrap.ensures) in
    subst (λ b. g.B.Booked.label b ≡ g.B.Booked.label key.book.value) book e.labelled
