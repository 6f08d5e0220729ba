use Rattle.std.proofs.Common.{◌≡◌, ℕ, ◌<◌, length, get_or}
use Rattle.fixed_interval.specs.declared.enclosure.Enclosure.{Enclosure}
use Rattle.outage_table.proofs.fleet.joined.Given as goal

-- the entries so far
abbrev pub invariant-loop-x : goal.invariant-loop-x
invariant-loop-x l = record {
  len : length l.entries.items ≡ l.x;
  low : (k : ℕ) (d : Enclosure) → k < l.x → (get_or l.entries.items k d).low ≡ get_or l.low k 0;
  high : (k : ℕ) (d : Enclosure) → k < l.x → (get_or l.entries.items k d).high ≡ get_or l.high k 0;
}
