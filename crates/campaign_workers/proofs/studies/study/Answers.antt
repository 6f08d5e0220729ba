use Rattle.campaign.specs.Passes.{pass_of}
use Rattle.campaign_workers.proofs.StandLaws.{stands_first}
use Rattle.campaign_workers.proofs.studies.study.Goals as goal

pub run_rounds-requires-clause-stands : goal.run_rounds-requires-clause-stands
run_rounds-requires-clause-stands g c κs within = stands_first (pass_of c.in-Ok.pass) c.args.samples c.args.block c.in-Ok.ensures.first
