use Rattle.std.proofs.Common.{◌≡◌, ◌*◌, ◌≤◌, [], length, take, drop, sum}
use Rattle.ra_base.specs.declared.limits.TheConstants.{MOST_POOLED_MW}
use Rattle.system_tables.specs.Faults.{in_turn}
use Rattle.system_tables.specs.Hours.{next_amount_in}
use Rattle.system_tables.proofs.hours.zone_amounts.Given as goal

abbrev pub invariant-loop-zone : goal.invariant-loop-zone
invariant-loop-zone l =
    record {
      same :
          in_turn (next_amount_in l.place l.row.row) (take l.zone l.amounts) (drop l.zone l.columns)
          ≡ in_turn (next_amount_in l.place l.row.row) [] l.columns;
      size : length l.amounts ≡ length l.columns;
      total : l.total ≡ sum (take l.zone l.amounts);
      most : l.total ≤ MOST_POOLED_MW * l.zone;
    }
