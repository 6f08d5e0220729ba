use Rattle.std.proofs.Common.{◌≡◌}
use Rattle.system_model.specs.System.{storage_count}
use Rattle.sample_tests.proofs.of_storage_state.hours_of_storages_are_known_by_hand.Given as goal

abbrev pub invariant-loop-device : goal.invariant-loop-device
invariant-loop-device g l = storage_count l.storages.system ≡ 4
