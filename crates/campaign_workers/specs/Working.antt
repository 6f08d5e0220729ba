-- What a worker did at a campaign.
use Rattle.std.specs.Prelude.{◌≡◌, Bool, true, false, List, [], ◌∷◌, ◌++◌}
use mathlib.Core.List.{IsPrefix}
use Rattle.campaign_core.specs.declared.run.SampleRange.{SampleRange}
use Rattle.campaign_core.specs.declared.call.Call.{Call}
use Rattle.campaign_core.specs.declared.call.Call.TheVariants.{Claim, Cancel, Deposit}
use Rattle.campaign_core.specs.declared.call.Reply.{Reply}
use Rattle.campaign_core.specs.declared.call.Reply.TheVariants.{Idle as IsIdle, Drained as IsDrained, Cancelled as IsCancelled, Marked}
use Rattle.campaign_core.specs.declared.call.Entry.{Entry}
use Rattle.campaign_core.specs.Ranges.{has_range}
use Rattle.campaign_core.specs.History.{out_of}
use Rattle.turn_book.specs.declared.view.View.{View}
use Rattle.turn_book.specs.Views.{IsSameSeat}
use Rattle.campaign.specs.Passes.{Says}
use Rattle.campaign_workers.specs.declared.working.WorkEnd.{WorkEnd}
use Rattle.campaign_workers.specs.declared.working.WorkEnd.TheVariants.{Idle, Drained, Cancelled, OutOfMemory}

-- whether a call is one that work takes: a claim or a deposit
abbrev pub is_work : Call → Bool
is_work Claim = true
is_work (Deposit first count) = true
is_work other = false

-- these are calls of work alone
abbrev pub AreWork : List Entry → Type 0
AreWork [] = Unit {0}
AreWork (e ∷ calls) = (is_work e.call ≡ true) × AreWork calls

-- whether a worker ended without memory
abbrev pub is_short : WorkEnd → Bool
is_short OutOfMemory = true
is_short other = false

module _ {B : Type 0} where
  -- just the shares that were out are out
  abbrev pub SameOut : View B → View B → Type 0
  SameOut v w = (r : SampleRange) → has_range (out_of w.calls) r ≡ has_range (out_of v.calls) r

  -- the pass worked: its calls since then are claims and deposits
  pub record Works (v w : View B) : Type 0 where
    pub done : List Entry
    pub calls : w.calls ≡ v.calls ++ done
    pub work : AreWork done
    pub seen : IsPrefix v.seen w.seen
    pub same : IsSameSeat v w

  -- the pass worked, and its last call was a claim with this reply; what was out is out, and nothing else
  pub record Stops (v : View B) (reply : Reply) (w : View B) : Type 0 where
    pub last : View B
    pub worked : Works v last
    pub claimed : Says last Claim reply w
    pub out : SameOut v w

  -- the pass worked, and its last call was a cancel
  pub record GivesUp (v w : View B) : Type 0 where
    pub last : View B
    pub worked : Works v last
    pub cancelled : Says last Cancel Marked w

  -- what a worker did, by how it ended
  abbrev pub DidWork : View B → WorkEnd → View B → Type 0
  DidWork v Idle w = Stops v IsIdle w
  DidWork v Drained w = Stops v IsDrained w
  DidWork v Cancelled w = Stops v IsCancelled w
  DidWork v OutOfMemory w = GivesUp v w
