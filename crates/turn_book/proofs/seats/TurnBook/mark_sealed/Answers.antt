use Rattle.std.proofs.Common.{◌^◌, arith}
use mathlib.Core.Option.{none}
use Rattle.atomic_table.specs.Table.{step}
use Rattle.turn_book.proofs.StepLemmas.{seal_allows}
use Rattle.turn_book.proofs.seats.TurnBook.mark_sealed.Goals as goal

pub fetch_or-word-requires : goal.fetch_or-word-requires
fetch_or-word-requires g c =
    let seat = c.args.seat.now in
    let slots = c.args.self.now.table.shared.table_id.slots in (
      c.requires.table,
      omega (arith, c.args.self.now.sized.0),
      seal_allows g.B.Booked.keeps g.B.Booked.label c.args.self.now.table.shared.key slots seat.seat.id seat.seat.me.0 seat.seat.me.1 c.requires.live (step slots 0 (2 ^ 40) 0 none),
    )
