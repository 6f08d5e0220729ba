use Rattle.campaign.specs.Passes.{pass_of, work_of}
use Rattle.campaign_console.proofs.TogetherLaws.{ran_with}
use Rattle.campaign_console.proofs.sharing.SharedSamplesSharingPassSampleWorkPassSampleWork.take_in.Goals as goal

pub returns-clause-ran : goal.returns-clause-ran
returns-clause-ran g c workers before now some v u m end splits worked rest =
    ran_with (pass_of v) (pass_of u) (pass_of m) (pass_of c.args.other) (pass_of c.args.pass.now) (pass_of c.join_pass.new.keep) workers end (work_of c.args.self.now.campaign.now) some before now
    splits worked c.join_pass.ensures.joined c.join_pass.ensures.out c.requires.other.0.seat.sound rest
