use Rattle.turn_book.proofs.seats.TurnBook.look.Given as goal

-- the call that is asked
abbrev pub ghosts-look_at : goal.ghosts-look_at
ghosts-look_at g a = record { call = a.call }
