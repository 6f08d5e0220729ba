-- What a reading call answers, where memory is found.
use Rattle.std.specs.Prelude.{◌≡◌, Result, Ok, Err}
use Rattle.system_tables.specs.declared.faults.TableFault.{TableFault}
use Rattle.system_tables.specs.declared.faults.ReadError.{ReadError}
use Rattle.system_tables.specs.declared.faults.ReadError.TheVariants.{Table, OutOfMemory}

-- the answer is the outcome, unless memory wasn't found
abbrev pub Gives : {A : Type 0} → Result A TableFault → Result A ReadError → Type 0
Gives outcome (Ok x) = outcome ≡ Ok x
Gives outcome (Err (Table fault)) = outcome ≡ Err fault
Gives outcome (Err OutOfMemory) = Unit {0}

-- the same of a call that leaves in place what it read
abbrev pub GivesNow : {A U : Type 0} → Result A TableFault → Result U ReadError → A → Type 0
GivesNow outcome (Ok _) now = outcome ≡ Ok now
GivesNow outcome (Err (Table fault)) now = outcome ≡ Err fault
GivesNow outcome (Err OutOfMemory) now = Unit {0}

-- the same of a call that takes no memory
abbrev pub GivesRead : {A U : Type 0} → Result A TableFault → Result U TableFault → A → Type 0
GivesRead outcome (Ok _) now = outcome ≡ Ok now
GivesRead outcome (Err fault) now = outcome ≡ Err fault
