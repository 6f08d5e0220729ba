use Rattle.std.proofs.Common.{◌≡◌, ◌≤◌, ◌*◌}
use Rattle.system_model.specs.System.{storage_count, pooled_charge, pooled_discharge}
use Rattle.sample_tests.proofs.of_sample_run.add_storages.Given as goal

abbrev pub invariant-loop-storage : goal.invariant-loop-storage
invariant-loop-storage g l = record {
  count : storage_count l.draft ≡ l.storage-index;
  charge : pooled_charge l.draft.storages ≤ 2000 * l.storage-index;
  discharge : pooled_discharge l.draft.storages ≤ 2000 * l.storage-index;
  rest : l.draft ≡ record l.fn.draft { storages = l.draft.storages; storage_names = l.draft.storage_names };
}
