use Rattle.std.proofs.Common.{subst, arith}
use mathlib.Core.Option.{none}
use Rattle.atomic_table.specs.Table.{step}
use Rattle.turn_book.specs.Views.{MayLook}
use Rattle.turn_book.specs.Seated.{view_of}
use Rattle.turn_book.proofs.StepLemmas.{look_allows}
use Rattle.turn_book.proofs.seats.TurnBook.look_at.Goals as goal

pub load-word-requires : goal.load-word-requires
load-word-requires g c =
    let seat = c.args.seat.now in
    let slots = c.args.self.now.table.shared.table_id.slots in (
      c.requires.seat.table,
      omega (arith, c.args.self.now.sized.0),
      look_allows g.B.Booked.keeps g.B.Booked.label c.args.self.now.table.shared.key slots seat.seat.id seat.seat.me.0 seat.seat.me.1 c.requires.seat.live (step slots 0 0 0 none) g.J.Asked.call
          (subst (MayLook (view_of seat)) c.requires.asked c.requires.call),
    )
