-- Names and the names above them.
use Rattle.std.specs.Prelude.{ℕ, Bool, List}
use Rattle.std.specs.List.{list_any}
use Rattle.std.specs.Str.{bytes_eq}

-- the names of a table's rows
abbrev pub Names : Type 0
Names = List (List ℕ)

-- the name is one of these
abbrev pub is_among : List ℕ → Names → Bool
is_among name names = list_any (bytes_eq name) names
