use Rattle.std.proofs.Common.{◌+◌, ◌*◌}
use Rattle.campaign_console.proofs.together.+together.Given as goal

abbrev pub decreases-run_one_more-join_mut+arg3 : goal.decreases-run_one_more-join_mut+arg3
decreases-run_one_more-join_mut+arg3 g l = 3 * l.others + 1

abbrev pub decreases-run_one_more : goal.decreases-run_one_more
decreases-run_one_more g l = 3 * l.others + 2

abbrev pub decreases-run_together : goal.decreases-run_together
decreases-run_together g l = 3 * l.workers
