use Rattle.std.proofs.Common.{◌≡◌}
use Rattle.turn_book.specs.Words.{IsTurn}
use Rattle.turn_book.specs.Seated.{IsOf, view_of}
use Rattle.turn_book.proofs.seats.TurnBook.take.Given as goal

abbrev pub invariant-loop : goal.invariant-loop
invariant-loop g l = record {
  seat : IsOf l.self l.seat;
  view : view_of l.seat ≡ view_of l.initial.seat;
  turn : IsTurn l.turn;
}
