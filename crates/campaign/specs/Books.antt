-- For which deposited ranges a book stands.
use Rattle.std.specs.Prelude.{◌≡◌, ◌≤◌, List, All, map}
use Rattle.campaign_core.specs.declared.run.SampleRange.{SampleRange}
use Rattle.campaign_core.specs.declared.run.Run.{Run}
use Rattle.campaign_core.specs.Ranges.{samples_of}
use Rattle.campaign.specs.declared.book.Book.{Book}

-- a book has these ranges in order, and its sum stands for them
pub record IsBook {W S : Type 0} (stands : W → S → List SampleRange → Type 0)
    (book : Book W S) (deposited : List SampleRange) : Type 0 where
  pub ordered : All (λ (r : Run). r.first ≤ r.last) book.ranges.items
  pub ranges : map samples_of book.ranges.items ≡ deposited
  pub sum : stands book.work.value book.sum deposited
