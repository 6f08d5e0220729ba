use Rattle.std.proofs.Common.{◌≡◌, ℕ, ◌<◌, ◌≤◌, length, get_or}
use Rattle.fixed_interval.specs.declared.enclosure.Enclosure.{Enclosure}
use Rattle.fixed_interval.specs.Rounding.{floor_div, ceil_div}
use Rattle.outage_table.specs.Fleet.{moved}
use Rattle.outage_table.proofs.entries.mix_all.Given as goal

-- those below are still as they were, and the others moved
abbrev pub invariant-loop-x : goal.invariant-loop-x
invariant-loop-x l = record {
  still : (k : ℕ) (d : Enclosure) → k < l.x → get_or l.entries k d ≡ get_or l.initial.entries k d;
  low : (k : ℕ) (d : Enclosure) → l.x ≤ k → k < length l.initial.entries → (get_or l.entries k d).low ≡ moved floor_div l.share.out l.share.all l.capacity (λ y. (get_or l.initial.entries y d).low) k;
  high : (k : ℕ) (d : Enclosure) → l.x ≤ k → k < length l.initial.entries → (get_or l.entries k d).high ≡ moved ceil_div l.share.out l.share.all l.capacity (λ y. (get_or l.initial.entries y d).high) k;
}
