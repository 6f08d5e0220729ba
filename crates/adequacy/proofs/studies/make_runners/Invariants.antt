use Rattle.std.proofs.Common.{◌≡◌, All, length}
use Rattle.sample_run.specs.SampleWorks.{IsWorkOf}
use Rattle.adequacy.specs.StudyText.{work_of}
use Rattle.adequacy.proofs.studies.make_runners.Given as goal

-- so many runners so far, each of which serves the work
abbrev pub invariant-loop : goal.invariant-loop
invariant-loop l = (length l.runners.items ≡ l.counter) × All (λ runner. IsWorkOf runner (work_of l.system l.terms)) l.runners.items
