-- What the lines and the workers did together, each worker with a pass that was split off and joined back.
use Rattle.std.specs.Prelude.{◌≡◌, ◌≢◌, ℕ, ◌+◌, ◌≤◌, ◌<◌, ◌⊎◌, ◌||◌, true, false, List, [], ◌++◌}
use mathlib.Core.List.{IsPrefix}
use Rattle.campaign_core.specs.declared.call.Entry.{Entry}
use Rattle.campaign_core.specs.History.{gate_of, calls_of}
use Rattle.turn_book.specs.declared.view.View.{View}
use Rattle.turn_book.specs.Views.{with_made, newcomer}
use Rattle.campaign_workers.specs.declared.working.WorkEnd.{WorkEnd}
use Rattle.campaign_workers.specs.declared.working.WorkEnd.TheVariants.{Idle}
use Rattle.campaign_workers.specs.Working.{is_short, AreWork, SameOut, DidWork}
use Rattle.campaign_workers.specs.Crews.{Joins}
use Rattle.system_model.specs.System.{SystemParts}
use Rattle.sample_run.specs.SampleWorks.{WorkTerms}
use Rattle.campaign_console.specs.declared.lines.LinesEnd.{LinesEnd}
use Rattle.campaign_console.specs.declared.together.Ran.{Ran}
use Rattle.campaign_console.specs.LineEnds.{Outside, LinesRead}

-- the opening pass, which made so many passes, may make as many more
abbrev pub HasRoom : ℕ → ℕ → Type 0
HasRoom made more = made + more ≤ 4294967295

-- the lines ended so, and no worker ran beside them
abbrev pub lines_alone : LinesEnd → Ran
lines_alone end = record { lines = end; short = false }

-- the same with one worker more that ended so
abbrev pub with_worker : Ran → WorkEnd → Ran
with_worker ran end = record { lines = ran.lines; short = ran.short || is_short end }

-- the work is over a system's samples under a seed
pub record IsSampled (terms : WorkTerms) (system : SystemParts) (seed : ℕ) : Type 0 where
  pub of_system : terms.system ≡ system
  pub of_seed : terms.seed ≡ seed

module _ {B : Type 0} where
  -- the opening pass made another pass for a worker
  pub record SplitsOff (v u m : View B) : Type 0 where
    pub some : 0 < v.made
    pub made : u ≡ with_made v
    pub view : m ≡ newcomer v

  -- a worker that waits where all is given out worked up to its end
  pub record Worked (m : View B) (end : WorkEnd) (n : View B) : Type 0 where
    pub did : DidWork m end n
    pub busy : end ≢ Idle

  -- at some point of what was seen, the campaign was cancelled, or it was sealed and all samples were given
  -- out
  pub record Drains (v w : View B) : Type 0 where
    pub before : List Entry
    pub later : IsPrefix before w.seen
    pub left :
        ((gate_of v.target before).cancelled ≡ true)
        ⊎ (((gate_of v.target before).next ≡ (gate_of v.target before).target)
        × ((gate_of v.target before).sealed ≡ true))

  -- the lines were read, with these entries of the opening pass, and behind them are those of the workers'
  -- passes. If no worker was short of memory, these are work, what was out is out and nothing else, and a
  -- worker came to the end.
  pub record HasRan (terms : WorkTerms) (workers : ℕ) (ran : Ran) (before now : Outside) (v w : View B)
      : Type 0 where
    pub own : List Entry
    pub theirs : List Entry
    pub read : LinesRead terms ran.lines before now own
    pub joins : Joins workers v w
    pub calls : w.calls ≡ (v.calls ++ own) ++ theirs
    pub others : calls_of 0 theirs ≡ []
    pub work : ran.short ≡ false → AreWork theirs
    pub out : ran.short ≡ false → SameOut v w
    pub drained : ran.short ≡ false → 0 < workers → Drains v w
