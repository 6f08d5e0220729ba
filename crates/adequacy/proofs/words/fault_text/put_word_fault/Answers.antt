use Rattle.adequacy.proofs.words.fault_text.put_word_fault.Goals as goal

pub returns-in-Missing-clause-ok : goal.returns-in-Missing-clause-ok
returns-in-Missing-clause-ok c = rw c.in-Missing.is c.put_option-in-Missing.ensures.ok
