use Rattle.turn_book.specs.Views.{IsSameSeat}
use Rattle.campaign.specs.Passes.{IsOf, pass_of}
use Rattle.campaign_tests.proofs.of_campaign.worked.Given as goal

abbrev pub invariant-loop : goal.invariant-loop
invariant-loop g l = record {
  pass : IsOf l.campaign l.pass;
  same : IsSameSeat (pass_of l.initial.pass) (pass_of l.pass);
}
