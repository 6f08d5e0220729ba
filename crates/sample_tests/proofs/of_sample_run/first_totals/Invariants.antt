use Rattle.std.proofs.Common.{◌≡◌, length}
use Rattle.system_model.specs.System.{zone_count}
use Rattle.sample_tests.proofs.of_sample_run.first_totals.Given as goal

abbrev pub invariant-samples : goal.invariant-samples
invariant-samples g l = record {
  system : l.runner.system ≡ l.initial.runner.system;
  zones : length l.totals.zones ≡ zone_count l.runner.system;
}
