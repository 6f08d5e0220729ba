use Rattle.std.proofs.Common.{arith}
use Rattle.std.specs.Prelude.{None}
use Rattle.turn_book.specs.Views.{call_between}
use Rattle.turn_book.proofs.StepLemmas.{exchange_allows}
use Rattle.turn_book.proofs.SeatedLemmas.{exchanged_made}
use Rattle.turn_book.proofs.seats.TurnBook.exchange_gate.Goals as goal

pub compare_exchange-found-requires : goal.compare_exchange-found-requires
compare_exchange-found-requires g c =
    let seat = c.args.seat.now in
    let slots = c.args.self.now.table.shared.table_id.slots in
    rw (c.word_of-expected.ensures, c.word_of-next.ensures, c.requires.asked) (
      c.requires.seat.table,
      omega (arith, c.args.self.now.sized.0),
      exchange_allows g.B.Booked.keeps g.B.Booked.label c.args.self.now.table.shared.key slots seat.seat.id seat.seat.me.0 seat.seat.me.1 c.requires.seat.live None c.args.old c.args.new c.requires.step,
    )

pub returns-then-found-expected-clause-made : goal.returns-then-found-expected-clause-made
returns-then-found-expected-clause-made g c =
    exchanged_made c.compare_exchange-found.result c.word_of-expected.result c.args.old (call_between c.args.old c.args.new) g.J.Asked.call _ _ c.requires.step.0 c.word_of-expected.ensures c.if-found-expected.true c.requires.asked
    c.compare_exchange-found.ensures.2.1
