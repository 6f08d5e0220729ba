-- The names of a set's zones, appended one after the other.
use Rattle.std.proofs.Common.{◌≡◌, ℕ, Bool, List, [], ◌++◌, slice_index_or}
use Rattle.zone_network.specs.Sums.{inside}
use Rattle.report_text.specs.TotalsText.{name_text, zones_in, zones_text}
use Rattle.decimal_text.proofs.Growing.{Joined}

-- the name of a zone as it is written
abbrev pub name_at : List (List ℕ) → ℕ → List ℕ
name_at names zone = name_text (slice_index_or names zone [])

-- the names of all zones of a mask below `end` were appended
pub zones_joined : (names : List (List ℕ)) (mask end : ℕ) (before now : List ℕ) (first : Bool) → Joined (name_at names) (inside mask) end before now first → now ≡ before ++ zones_text names (zones_in mask end)
unfolding zones_in zones_text
zones_joined names mask end before now first joined = joined.text
