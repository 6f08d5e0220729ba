use Rattle.std.proofs.Common.{◌≡◌, false}
use Rattle.sample_run.specs.UpSums.{CarrySame}
use Rattle.outage_chronology.specs.Standing.{changed_at}
use Rattle.sample_run.proofs.UpSumsLoops.{HasFollowed}
use Rattle.sample_run.proofs.up_sums.UpSums.follow.Given as goal

-- the sums have followed the components so far, and those over lines are as before where none of these is a line
abbrev pub invariant-loop-component : goal.invariant-loop-component
invariant-loop-component l = record {
  sums : HasFollowed l.system l.chronology l.self (changed_at l.chronology) l.component-index;
  lines : l.lines ≡ false → CarrySame l.initial.self l.self;
}
