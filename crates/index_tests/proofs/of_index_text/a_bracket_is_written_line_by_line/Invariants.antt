use Rattle.index_tests.proofs.of_index_text.a_bracket_is_written_line_by_line.Given as goal

-- the ledger of the steps is the blank that is handed in
abbrev pub ghosts-credit_text : goal.ghosts-credit_text
ghosts-credit_text g a = record { name = a.blank.name; parts = a.blank.parts }
