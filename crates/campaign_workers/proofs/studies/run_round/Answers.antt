use Rattle.std.proofs.Common.{length}
use Rattle.campaign.specs.Passes.{pass_of, target_of}
use Rattle.campaign_workers.proofs.StandLaws.{stands_round}
use Rattle.campaign_workers.proofs.studies.run_round.Goals as goal

pub returns-clause-stands : goal.returns-clause-stands
returns-clause-stands g c e next target stands =
    let before = c.requires.pass.seat in
    let after = c.run_crew.ensures.pass.seat in
    stands_round (pass_of c.args.crew.pass) (pass_of c.run_crew.result.pass) (length c.args.crew.jobs.items) (target_of c.args.campaign.now) before.sound after.sound before.target after.target c.run_crew.ensures.joins (c.run_crew.ensures.works e) (c.run_crew.ensures.reached e c.requires.some) next target stands
