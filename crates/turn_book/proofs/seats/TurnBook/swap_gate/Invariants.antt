use Rattle.turn_book.specs.Views.{call_between}
use Rattle.turn_book.proofs.seats.TurnBook.swap_gate.Given as goal

-- the call by which the new gate follows
abbrev pub ghosts-exchange_gate : goal.ghosts-exchange_gate
ghosts-exchange_gate g a = record { call = call_between a.old a.new }
