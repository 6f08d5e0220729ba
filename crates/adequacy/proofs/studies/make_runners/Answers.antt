use Rattle.std.proofs.Common.{rules, ◌≡◌, [], ◌∷◌, ◌++◌, ap}
use Rattle.sample_run.specs.Run.{Simulation}
use Rattle.sample_run.specs.SampleWorks.{IsWorkOf}
use Rattle.adequacy.specs.StudyText.{work_of}
use Rattle.adequacy.proofs.StudyLemmas.{all_more}
use Rattle.adequacy.proofs.studies.make_runners.Goals as goal

pub loop-preserved : goal.loop-preserved
loop-preserved c =
    let pushed : c.push.new.self.items ≡ c.loop.runners.items ++ c.in_ok-new.field-0 ∷ [] = search rules in
    let serves : IsWorkOf c.in_ok-new.field-0 (work_of c.args.system.now c.args.terms) = record {
      system = ap (λ (s : Simulation). s.system) c.in_ok-new.ensures;
      seed = ap (λ (s : Simulation). s.seed) c.in_ok-new.ensures;
    } in
    (search rules, all_more (λ (runner : Simulation). IsWorkOf runner (work_of c.args.system.now c.args.terms)) c.loop.runners.items c.push.new.self.items c.in_ok-new.field-0 pushed c.loop.invariant.1 serves)
