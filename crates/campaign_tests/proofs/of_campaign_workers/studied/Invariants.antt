use Rattle.std.proofs.Common.{◌≡◌, length}
use Rattle.campaign_tests.proofs.of_campaign_workers.studied.Given as goal

abbrev pub invariant-loop : goal.invariant-loop
invariant-loop g l = length l.jobs.items ≡ l.counter
