-- What a crew did, each worker with a pass that was split off and joined back.
use Rattle.std.specs.Prelude.{◌≡◌, ℕ, ◌+◌, ◌⊎◌, true, List, ◌++◌, length}
use mathlib.Core.List.{IsPrefix}
use Rattle.campaign_core.specs.declared.call.Entry.{Entry}
use Rattle.campaign_core.specs.History.{gate_of}
use Rattle.turn_book.specs.declared.view.View.{View}
use Rattle.campaign_workers.specs.Working.{AreWork, SameOut}

module _ {B : Type 0} where
  -- as many passes were made and joined as there are workers
  pub record Joins (workers : ℕ) (v w : View B) : Type 0 where
    pub number : w.number ≡ v.number
    pub made : w.made ≡ v.made + workers
    pub joined : length w.joined ≡ length v.joined + workers
    pub seen : IsPrefix v.seen w.seen

  -- the new calls are work, and what was out is out, and nothing else
  pub record CrewWorks (v w : View B) : Type 0 where
    pub done : List Entry
    pub calls : w.calls ≡ v.calls ++ done
    pub work : AreWork done
    pub out : SameOut v w

  -- at some point behind what was seen before, a claim found nothing left, or the campaign cancelled
  pub record Reached (v w : View B) : Type 0 where
    pub before : List Entry
    pub earlier : IsPrefix v.seen before
    pub later : IsPrefix before w.seen
    pub left :
        ((gate_of v.target before).cancelled ≡ true)
        ⊎ ((gate_of v.target before).next ≡ (gate_of v.target before).target)
