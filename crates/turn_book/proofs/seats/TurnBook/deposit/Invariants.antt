use Rattle.campaign_core.specs.declared.call.Call.TheVariants.{Deposit}
use Rattle.turn_book.proofs.seats.TurnBook.deposit.Given as goal

-- the deposit that is made
abbrev pub ghosts-put_back : goal.ghosts-put_back
ghosts-put_back g a = record { call = Deposit a.first a.count }
