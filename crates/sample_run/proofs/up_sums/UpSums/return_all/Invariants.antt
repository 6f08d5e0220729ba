use Rattle.outage_chronology.specs.Standing.{is_up_at}
use Rattle.sample_run.specs.UpSums.{AreSums}
use Rattle.sample_run.proofs.UpSumsLoops.{first_or}
use Rattle.sample_run.proofs.up_sums.UpSums.return_all.Given as goal

-- the components so far are all up
abbrev pub invariant-loop-component : goal.invariant-loop-component
invariant-loop-component l = AreSums l.system (first_or (is_up_at l.chronology) l.component) l.self
