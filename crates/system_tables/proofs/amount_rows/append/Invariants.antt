use Rattle.std.proofs.Common.{◌≡◌, ◌≤◌, ◌++◌, take, vec_capacity}
use Rattle.system_tables.proofs.amount_rows.append.Given as goal

abbrev pub invariant-loop-at : goal.invariant-loop-at
invariant-loop-at l =
    record {
      added : l.list.items ≡ l.fn.list.items ++ take l.at l.amounts;
      room : vec_capacity l.fn.list ≤ vec_capacity l.list;
    }
