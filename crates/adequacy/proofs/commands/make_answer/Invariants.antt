use Rattle.adequacy.proofs.commands.make_answer.Given as goal

-- the ledger of the steps is the blank that is handed in
abbrev pub ghosts-make_credit_text : goal.ghosts-make_credit_text
ghosts-make_credit_text a = record { name = a.blank.name; parts = a.blank.parts }
