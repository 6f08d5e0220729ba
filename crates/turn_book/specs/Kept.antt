-- What the words, the book and all seats keep between any two steps.
use Rattle.std.specs.Prelude.{◌≡◌, ℕ, ◌<◌, ◌≤◌, Bool, true, false, List, [], ◌∷◌, length, Option, Some, MatchBool}
use mathlib.Core.List.{IsPrefix}
use mathlib.Core.Option.{some, none}
use lib.ListN.{get_elem?}
use Rattle.atomic_table.specs.Table.{State}
use Rattle.ra_base.specs.declared.limits.TheConstants.{MOST_SAMPLES, MOST_BLOCK}
use Rattle.campaign_core.specs.declared.run.SampleRange.{SampleRange}
use Rattle.campaign_core.specs.declared.call.Entry.{Entry}
use Rattle.campaign_core.specs.Ranges.{range, has_range}
use Rattle.campaign_core.specs.History.{gate_of, ranges_of, deposits_of, out_of, calls_of, IsLegal}
use Rattle.turn_book.specs.declared.view.View.{View}
use Rattle.turn_book.specs.declared.view.Opening.{Opening}
use Rattle.turn_book.specs.Words.{gate_word, turn_word}
use Rattle.turn_book.specs.Views.{how_often, numbers_of, owns}

module _ {B : Type 0} where
  -- a seat's view fits the history h, of whose callers `made` were made
  pub record IsSeat (k : Opening B) (made : ℕ) (h : List Entry) (v : View B) : Type 0 where
    pub first : v.first ≡ Some k.book.value
    pub target : v.target ≡ k.target
    pub block : v.block ≡ k.block
    pub seen : IsPrefix v.seen h
    pub also : IsPrefix v.also h
    pub mine : (n : ℕ) → owns v n ≡ true
        → (calls_of n h ≡ calls_of n v.calls) × (calls_of n v.seen ≡ calls_of n v.calls)
    pub others : (n : ℕ) → owns v n ≡ false → calls_of n v.calls ≡ []
    pub out : (first count : ℕ) → has_range (out_of v.calls) (range first count) ≡ true
        → has_range (deposits_of h) (range first count) ≡ false
    pub given : (r : SampleRange) → has_range (deposits_of v.calls) r ≡ true
        → has_range (ranges_of v.calls) r ≡ true
    pub apart : (n : ℕ) → how_often n (numbers_of v) ≤ 1
    pub below : (n : ℕ) → owns v n ≡ true → n < made
    pub keeps_made : v.number ≡ 0 → v.made ≡ made
    pub found : v.holds ≡ true → deposits_of v.seen ≡ deposits_of h

  -- no two live views have a number in common
  abbrev pub AreApart : List (View B) → Type 0
  AreApart views =
      (i j : ℕ) (v w : View B) (n : ℕ) → get_elem? views i ≡ some v → get_elem? views j ≡ some w
      → (i ≡ j → ⊥) → v.live ≡ true → w.live ≡ true → owns v n ≡ true → owns w n ≡ true → ⊥

  -- each live view fits the history, and no two of them have a number in common
  pub record AreSeats (k : Opening B) (made : ℕ) (h : List Entry) (views : List (View B)) : Type 0 where
    pub each : (i : ℕ) (v : View B) → get_elem? views i ≡ some v → v.live ≡ true → IsSeat k made h v
    pub apart : AreApart views

  -- a live view that holds the book stands at this place alone
  pub record HoldsAlone (views : List (View B)) (i : ℕ) : Type 0 where
    pub view : View B
    pub there : get_elem? views i ≡ some view
    pub live : view.live ≡ true
    pub holds : view.holds ≡ true
    pub alone : (j : ℕ) (v : View B) → get_elem? views j ≡ some v → v.live ≡ true → v.holds ≡ true → j ≡ i

  -- nobody holds the book
  abbrev pub NoneHolds : List (View B) → Type 0
  NoneHolds views = (j : ℕ) (v : View B) → get_elem? views j ≡ some v → v.live ≡ true → v.holds ≡ true → ⊥

  -- the book is out with one seat
  pub record IsOut (s : State (Option B) (View B)) : Type 0 where
    pub holder : ℕ
    pub there : s.homes ≡ none ∷ []
    pub alone : HoldsAlone s.views holder

  module _ {L : Type 0} (keeps : B → List SampleRange → Type 0) (label : B → L) where
    -- the book of the opening's label stands for these deposits
    pub record IsBook (k : Opening B) (deposits : List SampleRange) (book : B) : Type 0 where
      pub stands : keeps book deposits
      pub labelled : label book ≡ label k.book.value

    -- the book is at home and stands for all deposits
    pub record IsHome (k : Opening B) (h : List Entry) (s : State (Option B) (View B)) : Type 0 where
      pub book : B
      pub there : s.homes ≡ some (Some book) ∷ []
      pub is : IsBook k (deposits_of h) book
      pub free : NoneHolds s.views

    -- there is one legal history; the words tell its gate, its number of deposits and where the book is; each
    -- seat fits it; and callers that weren't made have no entry
    pub record IsKept (k : Opening B) (s : State (Option B) (View B)) : Type 0 where
      pub history : List Entry
      pub made : ℕ
      pub out : Bool
      pub target : (1 ≤ k.target) × (k.target ≤ MOST_SAMPLES)
      pub block : (1 ≤ k.block) × (k.block ≤ MOST_BLOCK)
      pub legal : IsLegal k.target k.block history
      pub words :
          s.words
          ≡ gate_word (gate_of k.target history) ∷ turn_word out (length (deposits_of history)) ∷ []
      pub book : MatchBool out (IsOut s) (IsHome k history s)
      pub seats : AreSeats k made history s.views
      pub unmade : (n : ℕ) → made ≤ n → calls_of n history ≡ []
