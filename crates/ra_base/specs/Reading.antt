-- A read of a shelf with its answer.
use Rattle.std.specs.Prelude.{ℕ, List, Result}
use Rattle.ra_base.specs.declared.table.TableName.{TableName}
use Rattle.ra_base.specs.declared.shelf.ShelfError.{ShelfError}

-- which table of which folder was asked for, and what was answered
pub record Reading : Type 0 where
  pub folder : List ℕ
  pub table : TableName
  pub answer : Result (List ℕ) ShelfError

abbrev pub reading : List ℕ → TableName → Result (List ℕ) ShelfError → Reading
reading folder table answer = record { folder = folder; table = table; answer = answer }
