use Rattle.std.proofs.Common.{◌≡◌, ◌≤◌, ◌*◌}
use Rattle.system_model.specs.System.{unit_count, pooled_capacity}
use Rattle.sample_tests.proofs.of_sample_run.add_units.Given as goal

abbrev pub invariant-loop-unit : goal.invariant-loop-unit
invariant-loop-unit g l = record {
  count : unit_count l.draft ≡ l.unit-index;
  pooled : pooled_capacity l.draft.units ≤ 2000 * l.unit-index;
  rest : l.draft ≡ record l.fn.draft { units = l.draft.units; unit_names = l.draft.unit_names };
}
