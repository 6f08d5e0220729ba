use Rattle.std.proofs.Common.{◌≡◌, length, get_or, take, []}
use Rattle.system_tables.proofs.amount_rows.AmountRows.copy.Given as goal

abbrev pub invariant-loop-place : goal.invariant-loop-place
invariant-loop-place l =
    record {
      copied : take l.place l.row ≡ take l.place (get_or l.self.rows l.at []);
      width : length l.row ≡ l.self.width;
    }
