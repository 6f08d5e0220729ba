use Rattle.std.proofs.Common.{◌≡◌, length}
use Rattle.system_model.specs.System.{zone_count, hour_count}
use Rattle.model_tests.proofs.of_load_model.two_zones.Given as goal

abbrev pub invariant-hours : goal.invariant-hours
invariant-hours g l =
    (zone_count l.draft ≡ 2) × (hour_count l.draft ≡ l.north-index) × (length l.load ≡ 2) × (length l.variable ≡ 2)
