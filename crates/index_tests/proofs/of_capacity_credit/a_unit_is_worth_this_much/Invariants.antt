use Rattle.index_tests.proofs.of_capacity_credit.a_unit_is_worth_this_much.Given as goal

-- the ledger of the steps is the blank that is handed in
abbrev pub ghosts-counted : goal.ghosts-counted
ghosts-counted g a = record { name = a.blank.name; parts = a.blank.parts }
