use Rattle.std.proofs.Common.{◌≡◌}
use Rattle.system_model.specs.System.{zone_count, hour_count}
use Rattle.sample_tests.proofs.of_sample_run.add_hours.Given as goal

abbrev pub invariant-loop-hour : goal.invariant-loop-hour
invariant-loop-hour g l = record {
  zones : zone_count l.draft ≡ zone_count l.fn.draft;
  hours : hour_count l.draft ≡ l.hour;
}
