-- What is left at the end.
use Rattle.std.proofs.Common.{◌≡◌, ℕ, ◌+◌, true, false, List, [], ◌∷◌, length, Option, Some, ap, sym, ◌∙◌, subst}
use mathlib.Core.Option.{some, some-injective}
use lib.ListN.{get_elem?}
use Rattle.atomic_table.specs.Table.{Final, Seen}
use Rattle.campaign_core.specs.declared.run.SampleRange.{SampleRange}
use Rattle.campaign_core.specs.History.{gate_of, deposits_of}
use Rattle.turn_book.specs.declared.view.View.{View}
use Rattle.turn_book.specs.declared.view.Opening.{Opening}
use Rattle.turn_book.specs.Words.{gate_word, turn_word, IsGate}
use Rattle.turn_book.specs.Kept.{IsKept}
use Rattle.turn_book.proofs.StepLemmas.{gate_small}
use Rattle.turn_book.proofs.JoinLemmas.{whole, at_home}

-- the words and the book at the end, by the history that the opening seat has seen
pub record IsEnd {B L : Type 0} (stands : B → List SampleRange → Type 0) (label : B → L) (k : Opening B) (v : View B) (words : List ℕ) (slots : List (Option B)) : Type 0 where
  pub gate : IsGate (gate_of v.target v.seen)
  pub at_end : words ≡ gate_word (gate_of v.target v.seen) ∷ turn_word false (length (deposits_of v.seen)) ∷ []
  pub book : B
  pub there : get_elem? slots 0 ≡ some (Some book)
  pub is : stands book (deposits_of v.seen)
  pub labelled : label book ≡ label k.book.value

pub ends : {B L : Type 0} (stands : B → List SampleRange → Type 0) (label : B → L) (k : Opening B) (id : ℕ) (v : View B) (words : List ℕ) (slots : List (Option B))
    → v.live ≡ true → v.number ≡ 0 → v.holds ≡ false → v.target ≡ k.target → length v.joined + 1 ≡ v.made
    → Final (Seen (IsKept stands label k) id v) words slots → IsEnd stands label k v words slots
ends {B} stands label k id v words slots live opening free target all f =
    let s = f.0 in
    let kept = f.1.0 in
    let there = f.1.1 in
    let all_seen : v.seen ≡ kept.history = whole stands label k s kept id v there live opening all in
    let home = at_home stands label k s kept id v there live opening all free in
    let gate : gate_of v.target v.seen ≡ gate_of k.target kept.history = ap (λ t. gate_of t v.seen) target ∙ ap (gate_of k.target) all_seen in
    record {
      gate = subst IsGate (sym gate) (gate_small stands label k s kept id v there live);
      at_end =
          sym f.2 ∙ (kept.words
          ∙ (ap (λ g. gate_word g ∷ turn_word kept.out (length (deposits_of kept.history)) ∷ []) (sym gate)
          ∙ (ap (λ o. gate_word (gate_of v.target v.seen) ∷ turn_word o (length (deposits_of kept.history)) ∷ []) home.0
          ∙ ap (λ h. gate_word (gate_of v.target v.seen) ∷ turn_word false (length (deposits_of h)) ∷ []) (sym all_seen))));
      book = home.1.book;
      there = f.4 0 (Some home.1.book) (ap (λ l. get_elem? l 0) home.1.there);
      is = subst (λ h. stands home.1.book (deposits_of h)) (sym all_seen) home.1.is.stands;
      labelled = home.1.is.labelled;
    }

pub first_word : (words : List ℕ) (a b w : ℕ) → words ≡ a ∷ b ∷ [] → get_elem? words 0 ≡ some w → w ≡ a
first_word words a b w is at = sym (some-injective a w (sym (ap (λ l. get_elem? l 0) is) ∙ at))

pub second_word : (words : List ℕ) (a b w : ℕ) → words ≡ a ∷ b ∷ [] → get_elem? words 1 ≡ some w → w ≡ b
second_word words a b w is at = sym (some-injective b w (sym (ap (λ l. get_elem? l 1) is) ∙ at))

pub only_slot : {A : Type 0} (slots : List A) (a x : A) → get_elem? slots 0 ≡ some a → get_elem? slots 0 ≡ some x → x ≡ a
only_slot slots a x at_a at_x = sym (some-injective a x (sym at_a ∙ at_x))
