use Rattle.std.proofs.Common.{arith}
use Rattle.turn_book.proofs.JoinLemmas.{split_allows}
use Rattle.turn_book.proofs.SeatedLemmas.{of_newcomer}
use Rattle.turn_book.proofs.seats.TurnBook.split.Goals as goal

pub split_seat-other-requires : goal.split_seat-other-requires
split_seat-other-requires g c =
    let seat = c.args.seat.now in (
      c.requires.seat.table,
      omega (arith, c.args.self.now.sized.0),
      split_allows g.B.Booked.keeps g.B.Booked.label c.args.self.now.table.shared.key seat.seat.id seat.seat.me.0 c.requires.seat.live c.requires.opening,
    )

pub returns-clause-other : goal.returns-clause-other
returns-clause-other g c = let e = c.split_seat-other.ensures in of_newcomer c.args.self.now c.args.seat.now _ c.requires.seat c.requires.opening e.3 e.4
