use Rattle.std.proofs.Common.{sym, ap, ◌∙◌, subst, arith}
use mathlib.Core.Option.{none}
use Rattle.atomic_table.specs.Table.{step, Allows}
use Rattle.turn_book.specs.Steps.{Settled}
use Rattle.turn_book.specs.Views.{taken_in}
use Rattle.turn_book.specs.Kept.{IsKept}
use Rattle.turn_book.specs.Seated.{slots_of}
use Rattle.turn_book.proofs.JoinLemmas.{join_allows, settle_allows}
use Rattle.turn_book.proofs.SeatedLemmas.{taken_shorter}
use Rattle.turn_book.proofs.seats.TurnBook.join.Goals as goal

pub join_seat-requires : goal.join_seat-requires
join_seat-requires g c =
    let keep = c.args.keep.now.seat in
    let other = c.args.other.seat in (
      c.requires.keep.table,
      c.requires.other.table,
      c.requires.other.slots ∙ ap slots_of c.requires.free.1,
      omega (arith, c.args.self.now.sized.0),
      join_allows g.B.Booked.keeps g.B.Booked.label c.args.self.now.table.shared.key keep.id other.id keep.me.0 other.me.0 c.requires.keep.live c.requires.other.live c.requires.free.0 c.requires.free.1,
    )

pub load-requires : goal.load-requires
load-requires g c =
    let keep = c.args.keep.now.seat in
    let other = c.args.other.seat in
    let slots = c.args.self.now.table.shared.table_id.slots in
    let key = c.args.self.now.table.shared.key in
    let allows = settle_allows g.B.Booked.keeps g.B.Booked.label key slots c.join_seat.new.seat.id (taken_in keep.me.0 other.me.0) keep.me.1 (step slots 0 0 0 none) c.requires.keep.live (taken_shorter keep.me.0 other.me.0) in (
      c.join_seat.ensures.0 ∙ c.requires.keep.table,
      omega (arith, c.args.self.now.sized.0),
      subst (λ m. Allows (IsKept g.B.Booked.keeps g.B.Booked.label key) slots c.join_seat.new.seat.id m 0 (λ n. n) (Settled (step slots 0 0 0 none) m)) (sym c.join_seat.ensures.2) allows,
    )
