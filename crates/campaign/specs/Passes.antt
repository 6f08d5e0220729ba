-- A campaign and its passes, as their users see them.
use Rattle.std.specs.Prelude.{◌≡◌, ◌≢◌, ℕ, ◌+◌, ◌==◌, ◌&&◌, ◌||◌, not, Bool, true, false, List, [], ◌++◌, length, min, map}
use Rattle.campaign_core.specs.declared.gate.Gate.{Gate}
use Rattle.campaign_core.specs.declared.run.SampleRange.{SampleRange}
use Rattle.campaign_core.specs.declared.run.Run.{Run}
use Rattle.campaign_core.specs.declared.call.Call.{Call}
use Rattle.campaign_core.specs.declared.call.Call.TheVariants.{Claim as AskClaim, Extend as AskExtend}
use Rattle.campaign_core.specs.declared.call.Reply.{Reply}
use Rattle.campaign_core.specs.declared.call.Reply.TheVariants.{Range as GivesRange, Idle as IsIdle, Drained as IsDrained, Cancelled as IsCancelled, Now as IsNow, Sealed as IsSealed, TooMany as IsTooMany}
use Rattle.campaign_core.specs.declared.call.Entry.{Entry}
use Rattle.campaign_core.specs.Ranges.{has_range, samples_of}
use Rattle.campaign_core.specs.History.{entry, reply_of, gate_of, deposits_of, out_of, calls_of, IsLegal}
use Rattle.turn_book.specs.declared.view.View.{View}
use Rattle.turn_book.specs.Views.{with_seen, with_call}
use Rattle.turn_book.specs.Seated.{view_of, opening_of}
use Rattle.turn_book.specs.Seated.{IsOf as IsSeatOf}
use Rattle.campaign.specs.declared.book.Book.{Book}
use Rattle.campaign.specs.declared.campaign.Shared.{Shared}
use Rattle.campaign.specs.declared.campaign.Counted.{Counted}
use Rattle.campaign.specs.declared.calls.Claim.{Claim}
use Rattle.campaign.specs.declared.calls.Claim.TheVariants.{Cancelled, Drained, Idle, Range, Moved}
use Rattle.campaign.specs.declared.calls.Extend.{Extend}
use Rattle.campaign.specs.declared.calls.Extend.TheVariants.{Cancelled as NoneCancelled, Sealed, TooMany, Now, Moved as HasMoved}

-- a campaign of a work and its sums
abbrev pub Campaign : Type 0 → Type 0 → Type 0
Campaign W S = Shared (Book W S) W W

-- a pass of such a campaign
abbrev pub Pass : Type 0 → Type 0 → Type 0
Pass W S = Counted (Book W S)

module _ {W S : Type 0} where
  -- the work of a campaign
  abbrev pub work_of : Campaign W S → W
  work_of campaign = campaign.work

  -- its opening target
  abbrev pub target_of : Campaign W S → ℕ
  target_of campaign = (opening_of campaign.book).target

  abbrev pub block_of : Campaign W S → ℕ
  block_of campaign = campaign.block

  -- what a pass has seen and done
  abbrev pub pass_of : Pass W S → View (Book W S)
  pass_of pass = view_of pass.seat

  -- a pass is of a campaign
  pub record IsOf (campaign : Campaign W S) (pass : Pass W S) : Type 0 where
    pub seat : IsSeatOf campaign.book pass.seat
    pub free : (pass_of pass).holds ≡ false
    pub block : (opening_of campaign.book).block ≡ campaign.block
    pub work : (opening_of campaign.book).book.value.work.value ≡ campaign.work
    pub made : pass.made ≡ (pass_of pass).made
    pub joined : pass.joined ≡ min (length (pass_of pass).joined + 1) 4294967295

module _ {B : Type 0} where
  -- the opening pass of a campaign that was just opened
  pub record IsFirst (samples at_once : ℕ) (v : View B) : Type 0 where
    pub number : v.number ≡ 0
    pub made : v.made ≡ 1
    pub seen : v.seen ≡ []
    pub calls : v.calls ≡ []
    pub joined : v.joined ≡ []
    pub target : v.target ≡ samples
    pub block : v.block ≡ at_once

  -- the pass saw more of the history
  pub record Saw (v w : View B) : Type 0 where
    pub between : List Entry
    pub view : w ≡ with_seen v (v.seen ++ between)

  -- the pass saw more of the history, and its call stands behind that with the reply
  pub record Says (v : View B) (call : Call) (reply : Reply) (w : View B) : Type 0 where
    pub between : List Entry
    pub view : w ≡ with_call v (v.seen ++ between) (entry v.number call reply)
    pub replied :
        reply
        ≡ reply_of v.block (gate_of v.target (v.seen ++ between)) (deposits_of (v.seen ++ between)) call

  -- the pass looked at a gate, and saw more of the history, where it then found another
  pub record Moves (v : View B) (before after : Gate) (w : View B) : Type 0 where
    pub first : List Entry
    pub second : List Entry
    pub view : w ≡ with_seen v ((v.seen ++ first) ++ second)
    pub looked : gate_of v.target (v.seen ++ first) ≡ before
    pub found : gate_of v.target ((v.seen ++ first) ++ second) ≡ after
    pub differ : after ≢ before

  -- what a claim did, by its answer
  abbrev pub Claims : View B → Claim → View B → Type 0
  Claims v Cancelled w = Says v AskClaim IsCancelled w
  Claims v Drained w = Says v AskClaim IsDrained w
  Claims v Idle w = Says v AskClaim IsIdle w
  Claims v (Range share) w = Says v AskClaim (GivesRange share.first share.count) w
  Claims v (Moved before after) w = Moves v before after w

  -- a share that was claimed is out
  abbrev pub HasOut : Claim → View B → Type 0
  HasOut (Range share) w = has_range (out_of w.calls) share ≡ true
  HasOut other w = Unit {0}

  -- what was out is out still
  abbrev pub KeepsOut : View B → View B → Type 0
  KeepsOut v w = (r : SampleRange) → has_range (out_of v.calls) r ≡ true → has_range (out_of w.calls) r ≡ true

  -- the same but for ranges that begin at a sample
  abbrev pub KeepsOthers : ℕ → View B → View B → Type 0
  KeepsOthers first v w =
      (r : SampleRange) → r.first ≢ first → has_range (out_of v.calls) r ≡ true
      → has_range (out_of w.calls) r ≡ true

  -- after a join just what was out at either is out
  abbrev pub HasBoth : View B → View B → View B → Type 0
  HasBoth v other w =
      (r : SampleRange)
      → has_range (out_of w.calls) r ≡ (has_range (out_of v.calls) r || has_range (out_of other.calls) r)

  -- what an extension did, by its answer
  abbrev pub Extends : View B → ℕ → Extend → View B → Type 0
  Extends v more NoneCancelled w = Says v (AskExtend more) IsCancelled w
  Extends v more Sealed w = Says v (AskExtend more) IsSealed w
  Extends v more (TooMany target) w = Says v (AskExtend more) (IsTooMany target) w
  Extends v more (Now target) w = Says v (AskExtend more) (IsNow target) w
  Extends v more (HasMoved before after) w = Moves v before after w

  -- the view has the whole history: it is legal, and has just the calls of the view's numbers
  pub record IsWhole (v : View B) : Type 0 where
    pub legal : IsLegal v.target v.block v.seen
    pub calls : (n : ℕ) → calls_of n v.seen ≡ calls_of n v.calls

-- whether these runs are enough: where there is one
abbrev pub is_enough_of : {W : Type 0} → (W → List SampleRange → Bool) → W → List Run → Bool
is_enough_of is_enough work runs = not (length runs == 0) && is_enough work (map samples_of runs)
