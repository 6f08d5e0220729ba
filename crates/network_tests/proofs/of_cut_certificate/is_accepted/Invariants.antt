use Rattle.std.proofs.Common.{◌≡◌, length}
use Rattle.network_tests.proofs.of_cut_certificate.is_accepted.Given as goal

abbrev pub invariant-loop-l : goal.invariant-loop-l
invariant-loop-l g l = record {
  flows : length l.chain.flows ≡ length l.initial.chain.flows;
  generation : l.chain.generation ≡ l.initial.chain.generation;
  sets : l.chain.sets ≡ l.initial.chain.sets;
}
