use Rattle.std.proofs.Common.{◌≡◌}
use Rattle.base_tests.proofs.of_sample_streams.hours_have_the_words_of_an_independent_chacha.Given as goal

abbrev pub invariant-passed : goal.invariant-passed
invariant-passed g l = l.draws.hour ≡ l.counter
