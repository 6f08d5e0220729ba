use Rattle.std.proofs.Common.{◌↔◌}
use Rattle.campaign.specs.Passes.{pass_of, work_of, IsOf}
use Rattle.campaign_workers.specs.Working.{SameOut, Works}
use Rattle.campaign_workers.proofs.working.work_on.Given as goal

abbrev pub invariant-loop : goal.invariant-loop
invariant-loop g l = record {
  pass : IsOf l.campaign l.pass;
  serves : g.J.Job.serves l.job (work_of l.campaign);
  works : Works (pass_of l.initial.pass) (pass_of l.pass);
  out : SameOut (pass_of l.initial.pass) (pass_of l.pass);
  job : (work : _) → (g.J.Job.serves l.initial.job work ↔ g.J.Job.serves l.job work);
}
