use Rattle.std.proofs.Common.{◌≡◌}
use Rattle.system_model.specs.System.{line_count}
use Rattle.sample_tests.proofs.of_sample_run.add_lines.Given as goal

abbrev pub invariant-loop-line : goal.invariant-loop-line
invariant-loop-line g l = record {
  count : line_count l.draft ≡ l.line-index;
  rest : l.draft ≡ record l.fn.draft { lines = l.draft.lines; line_names = l.draft.line_names };
}
