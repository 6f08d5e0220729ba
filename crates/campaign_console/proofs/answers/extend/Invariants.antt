use Rattle.std.proofs.Common.{[]}
use Rattle.campaign.specs.Passes.{pass_of, IsOf}
use Rattle.campaign_console.specs.Asks.{Adds}
use Rattle.campaign_console.proofs.answers.extend.Given as goal

-- nothing was asked yet
abbrev pub invariant-loop : goal.invariant-loop
invariant-loop g l = record {
  pass : IsOf l.campaign l.pass;
  none : Adds [] (pass_of l.initial.pass) (pass_of l.pass);
}
