use Rattle.std.proofs.Common.{◌≡◌}
use Rattle.system_model.specs.System.{zone_count}
use Rattle.sample_tests.proofs.of_sample_run.add_zones.Given as goal

abbrev pub invariant-loop-zone : goal.invariant-loop-zone
invariant-loop-zone g l = record {
  count : zone_count l.draft ≡ l._zone;
  rest : l.draft ≡ record l.fn.draft { zone_names = l.draft.zone_names };
}
