use Rattle.adequacy.proofs.AskLemmas.{asked-error}
use Rattle.adequacy.proofs.top.ask.Goals as goal

pub returns-in-Err : goal.returns-in-Err
returns-in-Err c = record { asked = rw c.words_failure.ensures (asked-error _ c.in-Err.error c.in-Err.ensures) }
