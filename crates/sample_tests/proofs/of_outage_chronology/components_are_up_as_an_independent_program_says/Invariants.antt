use Rattle.std.proofs.Common.{◌≡◌}
use Rattle.system_model.specs.System.{hour_count}
use Rattle.sample_tests.proofs.of_outage_chronology.components_are_up_as_an_independent_program_says.Given as goal

abbrev pub invariant-loop-hour : goal.invariant-loop-hour
invariant-loop-hour g l = hour_count l.chronology.system ≡ 4

abbrev pub invariant-loop-sample : goal.invariant-loop-sample
invariant-loop-sample g l = hour_count l.chronology.system ≡ 4
