use Rattle.std.proofs.Common.{ℕ, ◌+◌, ◌-◌, ◌*◌, ◌≤◌, All, length}
use Rattle.campaign.specs.Passes.{pass_of, work_of, IsOf}
use Rattle.campaign_workers.specs.Standing.{StandsAt}
use Rattle.campaign_workers.specs.Studies.{is_enough_below}
use Rattle.campaign_workers.proofs.RoundLaws.{IsRound}
use Rattle.campaign_workers.proofs.studies.run_rounds.Given as goal

abbrev pub invariant-loop-crew : goal.invariant-loop-crew
invariant-loop-crew g l = record {
  pass : IsOf l.campaign l.crew.pass;
  jobs : All (λ j. g.J.Job.serves j (work_of l.campaign)) l.crew.jobs.items;
  many : (1 ≤ length l.crew.jobs.items) × (length l.crew.jobs.items ≤ 64);
  stands : (next : ℕ) × StandsAt next l.goal (pass_of l.crew.pass);
  made : (pass_of l.crew.pass).made + 63 ≤ 64 * l.goal;
  goal : (1 ≤ l.goal) × (l.goal ≤ l.most);
  round : IsRound l.samples l.most (is_enough_below g.W.Work.is_enough (work_of l.campaign)) l.goal;
}

abbrev pub decreases-loop-crew : goal.decreases-loop-crew
decreases-loop-crew g l = l.most - l.goal
