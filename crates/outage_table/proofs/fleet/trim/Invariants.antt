use Rattle.std.proofs.Common.{◌≡◌, ℕ, ◌≤◌, vec_len, get_or}
use Rattle.outage_table.proofs.fleet.trim.Given as goal

-- those from here on are 0
abbrev pub invariant-zeros : goal.invariant-zeros
invariant-zeros l = record {
  within : l.len ≤ vec_len l.ends;
  zeros : (x : ℕ) → l.len ≤ x → get_or l.ends.items x 0 ≡ 0;
}

abbrev pub decreases-zeros : goal.decreases-zeros
decreases-zeros l = l.len
