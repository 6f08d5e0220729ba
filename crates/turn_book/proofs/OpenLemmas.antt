-- The rule at the start.
use Rattle.std.proofs.Common.{◌≡◌, ℕ, zero, suc, ◌≤◌, ◌==◌, true, false, List, [], ◌∷◌, length, Option, Some, inl, inr, refl, ap, sym, ◌∙◌, subst, arith}
use Rattle.std.proofs.lemmas.Bool.{false≢true, or_cases, eqb-true}
use mathlib.Core.Option.{some, some-injective}
use lib.ListN.{get_elem?}
use Rattle.atomic_table.specs.Table.{opening}
use Rattle.ra_base.specs.declared.limits.TheConstants.{MOST_SAMPLES, MOST_BLOCK}
use Rattle.campaign_core.specs.declared.run.SampleRange.{SampleRange}
use Rattle.campaign_core.specs.Ranges.{range, has_range}
use Rattle.campaign_core.specs.History.{gate_of, ranges_of, deposits_of, out_of}
use Rattle.campaign_core.proofs.WithoutLaws.{has-nil, has-without}
use Rattle.campaign_core.proofs.HistoryLaws.{gate-nil, ranges-nil, deposits-nil, calls-nil, legal-nil}
use Rattle.turn_book.specs.declared.view.View.{View}
use Rattle.turn_book.specs.declared.view.Opening.{Opening}
use Rattle.turn_book.specs.declared.seats.TurnBook.{TurnBook}
use Rattle.turn_book.specs.declared.seats.BookSeat.{BookSeat}
use Rattle.turn_book.specs.Seated.{IsOf, view_of, opening_of, slots_of}
use Rattle.turn_book.specs.Words.{gate_word, turn_word}
use Rattle.turn_book.specs.Views.{owns, opening_view, IsSound}
use Rattle.turn_book.specs.Kept.{IsSeat, IsKept}
use Rattle.turn_book.proofs.SeatLemmas.{sound_seat}
use Rattle.turn_book.proofs.JoinLemmas.{one_small}

module _ {B L : Type 0} (stands : B → List SampleRange → Type 0) (label : B → L) (k : Opening B)
    (o : (1 ≤ k.target) × (k.target ≤ MOST_SAMPLES)) (b : (1 ≤ k.block) × (k.block ≤ MOST_BLOCK)) where
  first_view : View B
  first_view = opening_view k.book.value k.target k.block

  none_out : (r : SampleRange) → has_range (out_of []) r ≡ false
  none_out r = has-without (deposits_of []) (ranges_of []) r ∙ rw (ranges-nil, has-nil r) refl

  own_zero : (n : ℕ) → owns (opening_view k.book.value k.target k.block) n ≡ true → n ≡ 0
  own_zero n own =
      elim (or_cases (0 == n) false own) [
        | inl e ↦ sym (eqb-true 0 n e)
        | inr f ↦ absurd (false≢true f)
      ]

  pub first_seat : IsSeat k 1 [] (opening_view k.book.value k.target k.block)
  first_seat = record {
    first = refl;
    target = refl;
    block = refl;
    seen = ([], refl);
    also = ([], refl);
    mine = λ n own. (refl, refl);
    others = λ n away. calls-nil n;
    out = λ first count out. absurd (false≢true (sym (none_out (range first count)) ∙ out));
    given = λ r has. absurd (false≢true (sym (ap (λ l. has_range l r) deposits-nil ∙ has-nil r) ∙ has));
    apart = λ n. one_small n 0;
    below = λ n own. omega (arith, own_zero n own);
    keeps_made = λ z. refl;
    found = λ q. absurd (false≢true q);
  }

  only_one : (j : ℕ) (v : View B) → get_elem? (opening_view k.book.value k.target k.block ∷ []) j ≡ some v → (j ≡ 0) × (opening_view k.book.value k.target k.block ≡ v)
  only_one zero v e = (refl, some-injective (opening_view k.book.value k.target k.block) v e)
  only_one (suc j) v e = absurd cc

  pub opened_kept : stands k.book.value [] → (word : ℕ) → word ≡ gate_word (record { next = 0; target = k.target; sealed = false; cancelled = false })
      → IsKept stands label k (opening (word ∷ 0 ∷ []) (Some k.book.value ∷ []) (opening_view k.book.value k.target k.block))
  opened_kept empty word is = record {
    history = [];
    made = 1;
    out = false;
    target = o;
    block = b;
    legal = legal-nil k.target k.block;
    words = ap (λ n. n ∷ 0 ∷ []) (is ∙ ap gate_word (sym (gate-nil k.target))) ∙ ap (λ d. gate_word (gate_of k.target []) ∷ d ∷ []) (zero_turn);
    book = record {
      book = k.book.value;
      there = refl;
      is = record { stands = subst (stands k.book.value) (sym deposits-nil) empty; labelled = refl };
      free = λ j v at live holds. false≢true (ap (λ (x : View B). x.holds) (only_one j v at).1 ∙ holds);
    };
    seats = record {
      each = λ j v at live. subst (IsSeat k 1 []) (only_one j v at).1 first_seat;
      apart = λ i j v w n at_v at_w ne live_v live_w own_v own_w. ne ((only_one i v at_v).0 ∙ sym (only_one j w at_w).0);
    };
    unmade = λ n le. calls-nil n;
  }
    where
      zero_turn : 0 ≡ turn_word false (length (deposits_of []))
      zero_turn = let e = ap (λ d. turn_word false (length d)) deposits-nil in sym e

  pub first_sound : IsSound (opening_view k.book.value k.target k.block)
  first_sound = sound_seat k 1 [] (opening_view k.book.value k.target k.block) o b (legal-nil k.target k.block) (λ n le. calls-nil n) first_seat

-- the seat that a book is opened with is of the book
pub opened_of : {B L : Type 0} (book : TurnBook B L) (seat : BookSeat B) (k : Opening B) → opening_of book ≡ k → seat.seat.table_id ≡ book.table.shared.table_id
    → seat.seat.me ≡ (opening_view k.book.value k.target k.block, []) → (1 ≤ k.target) × (k.target ≤ MOST_SAMPLES) → (1 ≤ k.block) × (k.block ≤ MOST_BLOCK) → (B → List SampleRange → Type 0) → (B → L) → IsOf book seat
opened_of {B} {L} book seat k key table me o b stands label =
    let view : view_of seat ≡ opening_view k.book.value k.target k.block = ap (λ (m : View B × List (ℕ × Option B)). m.0) me in
    record {
      table = table;
      live = ap (λ (v : View B). v.live) view;
      first = ap (λ (v : View B). v.first) view ∙ ap (λ (x : Opening B). Some x.book.value) (sym key);
      target = ap (λ (v : View B). v.target) view ∙ ap (λ (x : Opening B). x.target) (sym key);
      block = ap (λ (v : View B). v.block) view ∙ ap (λ (x : Opening B). x.block) (sym key);
      also = ap (λ (v : View B). v.also) view;
      slots = ap (λ (m : View B × List (ℕ × Option B)). m.1) me ∙ ap slots_of (sym (ap (λ (v : View B). v.holds) view));
      turn = λ holds. absurd (false≢true (sym (ap (λ (v : View B). v.holds) view) ∙ holds));
      sound = subst IsSound (sym view) (first_sound stands label k o b);
    }
