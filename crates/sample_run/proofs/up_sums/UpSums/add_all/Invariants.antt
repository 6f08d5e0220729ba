use Rattle.sample_run.specs.UpSums.{AreSums}
use Rattle.sample_run.proofs.UpSumsLoops.{first}
use Rattle.sample_run.proofs.up_sums.UpSums.add_all.Given as goal

-- the components so far are added
abbrev pub invariant-loop-component : goal.invariant-loop-component
invariant-loop-component l = AreSums l.system (first l.component) l.self
