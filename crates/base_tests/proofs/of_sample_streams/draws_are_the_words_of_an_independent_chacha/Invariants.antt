use Rattle.std.proofs.Common.{◌<◌}
use Rattle.base_tests.proofs.of_sample_streams.draws_are_the_words_of_an_independent_chacha.Given as goal

abbrev pub invariant-skipped : goal.invariant-skipped
invariant-skipped g l = 0 < l.draws.components
