use Rattle.std.proofs.Common.{◌≡◌, length}
use Rattle.system_tables.specs.Faults.{in_turn}
use Rattle.system_tables.specs.SoFar.{AreLinesSoFar}
use Rattle.system_tables.specs.Lines.{line_in}
use Rattle.system_tables.proofs.lines.add_lines.Given as goal

abbrev pub invariant-rows : goal.invariant-rows
invariant-rows l =
    record {
      same : in_turn (line_in l.columns l.width) l.draft l.rows.rest ≡ in_turn (line_in l.columns l.width) l.initial.draft l.initial.rows.rest;
      so_far : AreLinesSoFar l.draft l.zones l.interfaces l.names;
    }

abbrev pub decreases-rows : goal.decreases-rows
decreases-rows l = length l.rows.rest
