use Rattle.std.specs.Prelude.{◌≡◌, ℕ, ◌<◌, ◌≤◌, Result, Ok, Err}
use Rattle.ra_base.specs.declared.limits.TheConstants.{MOST_TABLE_MW}
use Rattle.outage_table.specs.declared.error.AddError.{AddError}
use Rattle.outage_table.specs.declared.error.AddError.TheVariants.{TooLarge, OutOfMemory}

-- the unit is refused as too large exactly where the new total passes the limit of a table, and the refusal names that total
abbrev pub AnswersTotal : Result (Unit {0}) AddError → ℕ → Type 0
AnswersTotal (Ok _) total = total ≤ MOST_TABLE_MW
AnswersTotal (Err (TooLarge named)) total = (MOST_TABLE_MW < total) × (named ≡ total)
AnswersTotal (Err OutOfMemory) total = total ≤ MOST_TABLE_MW
