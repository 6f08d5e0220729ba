-- How a request was answered by a pass: with the calls that it has since then.
use Rattle.std.specs.Prelude.{◌≡◌, List, ◌++◌}
use mathlib.Core.List.{IsPrefix}
use Rattle.campaign_core.specs.declared.call.Entry.{Entry}
use Rattle.turn_book.specs.declared.view.View.{View}
use Rattle.turn_book.specs.Views.{IsSameSeat}
use Rattle.sample_run.specs.SampleWorks.{WorkTerms}
use Rattle.campaign_console.specs.declared.requests.Request.{Request}
use Rattle.campaign_console.specs.declared.answers.Answer.{Answer}
use Rattle.campaign_console.specs.LineTexts.{IsReplied}

module _ {B : Type 0} where
  -- a pass has these calls behind its own
  pub record Adds (entries : List Entry) (v w : View B) : Type 0 where
    pub calls : w.calls ≡ v.calls ++ entries
    pub seen : IsPrefix v.seen w.seen
    pub same : IsSameSeat v w

  -- a request was answered by the calls of a pass
  pub record Replied (work : WorkTerms) (asked : Request) (answer : Answer) (v w : View B) : Type 0 where
    pub entries : List Entry
    pub replied : IsReplied work asked answer entries
    pub adds : Adds entries v w
