-- A seat of a book, as its users see it.
use Rattle.std.specs.Prelude.{◌≡◌, ℕ, Bool, true, false, List, [], ◌∷◌, length, Option, Some, None, if◌then◌else◌}
use Rattle.campaign_core.specs.History.{deposits_of}
use Rattle.turn_book.specs.declared.view.View.{View}
use Rattle.turn_book.specs.declared.view.Opening.{Opening}
use Rattle.turn_book.specs.declared.seats.TurnBook.{TurnBook}
use Rattle.turn_book.specs.declared.seats.BookSeat.{BookSeat}
use Rattle.turn_book.specs.declared.seats.Held.{Held}
use Rattle.turn_book.specs.Words.{turn_word}
use Rattle.turn_book.specs.Views.{IsSound}

module _ {B : Type 0} where
  -- what a seat has seen and done
  abbrev pub view_of : BookSeat B → View B
  view_of seat = seat.seat.me.0

  -- the target, the block and the book that it was opened with
  abbrev pub opening_of : {L : Type 0} → TurnBook B L → Opening B
  opening_of book = book.table.shared.key

  -- the book that a seat holds
  abbrev pub held_book : Held B → B
  held_book held = held.book

  -- the same with another book
  abbrev pub with_book : Held B → B → Held B
  with_book held book = record { book = book }

  -- the slots that a seat has: the place of the book, where it holds it
  abbrev pub slots_of : Bool → List (ℕ × Option B)
  slots_of holds = if holds then ((0, None) ∷ []) else []

  -- a seat is of a book
  pub record IsOf {L : Type 0} (book : TurnBook B L) (seat : BookSeat B) : Type 0 where
    pub table : seat.seat.table_id ≡ book.table.shared.table_id
    pub live : (view_of seat).live ≡ true
    pub first : (view_of seat).first ≡ Some (opening_of book).book.value
    pub target : (view_of seat).target ≡ (opening_of book).target
    pub block : (view_of seat).block ≡ (opening_of book).block
    pub also : (view_of seat).also ≡ []
    pub slots : seat.seat.me.1 ≡ slots_of (view_of seat).holds
    pub turn :
        (view_of seat).holds ≡ true
        → seat.turn ≡ turn_word false (length (deposits_of (view_of seat).seen))
    pub sound : IsSound (view_of seat)
