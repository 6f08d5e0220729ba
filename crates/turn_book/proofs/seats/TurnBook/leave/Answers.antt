use Rattle.std.proofs.Common.{sym, ◌∙◌, subst, arith}
use mathlib.Core.Option.{none}
use Rattle.atomic_table.specs.Table.{step, rest, Allows}
use Rattle.turn_book.specs.Steps.{Left}
use Rattle.turn_book.specs.Kept.{IsKept}
use Rattle.turn_book.proofs.TurnLemmas.{leave_allows}
use Rattle.turn_book.proofs.seats.TurnBook.leave.Goals as goal

pub swap-requires : goal.swap-requires
swap-requires g c =
    let old = c.args.seat.now in
    let slots = c.args.self.now.table.shared.table_id.slots in
    let key = c.args.self.now.table.shared.key in
    let e = c.exchange.ensures in
    let allows = leave_allows g.B.Booked.keeps g.B.Booked.label key slots c.exchange.new.seat.id old.seat.me.0 c.requires.seat.live (step slots 1 old.turn 0 none) c.args.held.book (rest old.seat.me.1) old.turn c.requires.holds c.requires.book c.requires.label (c.requires.seat.turn c.requires.holds) in (
      e.0 ∙ c.requires.seat.table,
      omega (arith, c.args.self.now.sized.0),
      subst (λ m. Allows (IsKept g.B.Booked.keeps g.B.Booked.label key) slots c.exchange.new.seat.id m 1 (λ n. old.turn) (Left (step slots 1 old.turn 0 none) m)) (sym e.3) allows,
    )
