use Rattle.std.proofs.Common.{ap, ◌∙◌}
use Rattle.system_model.specs.System.{zone_count}
use Rattle.sample_run.specs.SampleWorks.{WorkTerms}
use Rattle.sample_run.proofs.WorkLaws.{stands_new}
use Rattle.sample_run.proofs.work.SampleWorkWork.empty.Goals as goal

pub returns : goal.returns
returns c =
    stands_new c.args.self.now.system c.args.self.now.seed _ _
    (c.zones.ensures.count ∙ ap (λ (w : WorkTerms). zone_count w.system) c.self.view_is) c.new.ensures.empty
