use Rattle.std.proofs.Common.{◌≡◌}
use Rattle.system_model.specs.System.{interface_count}
use Rattle.sample_tests.proofs.of_sample_run.add_interfaces.Given as goal

abbrev pub invariant-loop-interface : goal.invariant-loop-interface
invariant-loop-interface g l = record {
  count : interface_count l.draft ≡ l.interface-index;
  rest : l.draft ≡ record l.fn.draft { interfaces = l.draft.interfaces; interface_names = l.draft.interface_names };
}
