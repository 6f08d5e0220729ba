-- Seats are made and joined, and the opening seat that took in all others knows the whole history.
use Rattle.std.proofs.Common.{◌≡◌, ℕ, zero, suc, ◌+◌, ◌<◌, ◌≤◌, ◌==◌, ◌⊎◌, inl, inr, Bool, true, false, cond, ◌||◌, List, [], ◌∷◌, ◌++◌, length, set, slice_index, nat_lt, Option, MatchBool, refl, ap, sym, ◌∙◌, subst, arith, length-append}
use Rattle.std.specs.List.{list_any}
use Rattle.std.proofs.lemmas.Bool.{cases_Bool, cases_eq, cases_lt, eqb-true, eq-eqb, ne_eqb, ltb-true, ltb-false, or_cases, or_parts, or_left, or_right, false≢true, false_from_ne_true}
use Rattle.std.proofs.lemmas.List.{append-nil, length_push}
use Rattle.std.proofs.lemmas.List.Folds.{list_any-append}
use Rattle.std.proofs.lemmas.List.Sums.{sum_by-append, sum_by-cons}
use mathlib.Core.List.{IsPrefix}
use mathlib.Core.Option.{some, some-injective}
use lib.ListN.{get_elem?}
use Rattle.atomic_table.specs.Table.{State, Step, keeps, Allows, Splits, Joins, rest}
use Rattle.atomic_table.proofs.Lists.{at_set, set_else, at_longer}
use Rattle.campaign_core.specs.declared.run.SampleRange.{SampleRange}
use Rattle.campaign_core.specs.declared.call.Entry.{Entry}
use Rattle.campaign_core.specs.Ranges.{range, has_range}
use Rattle.campaign_core.specs.History.{ranges_of, deposits_of, out_of, calls_of}
use Rattle.campaign_core.proofs.Totals.{sum_below, below-zero, below-suc, below-none, below-both, below-same, below-only}
use Rattle.campaign_core.proofs.WithoutLaws.{has-nil, has-append, has-without}
use Rattle.campaign_core.proofs.HistoryLaws.{ranges-nil, ranges-append, deposits-nil, deposits-append, calls-nil, calls-append, prefix_self}
use Rattle.campaign_core.proofs.GivenLaws.{prefix_shorter, calls_push_own, calls_between, calls_none}
use Rattle.turn_book.specs.declared.view.View.{View}
use Rattle.turn_book.specs.declared.view.Opening.{Opening}
use Rattle.turn_book.specs.Words.{turn_word}
use Rattle.turn_book.specs.Views.{how_often, numbers_of, owns, with_made, newcomer, taken_in, settled, spent}
use Rattle.turn_book.specs.Steps.{Settled}
use Rattle.turn_book.specs.Kept.{IsSeat, AreSeats, IsOut, IsHome, IsKept}
use Rattle.turn_book.proofs.SeatLemmas.{out_parts, out_from, owns_self, sound_seat, set_seats, apart_set}
use Rattle.turn_book.proofs.StepLemmas.{none_set, alone_set}

own_one : (x : Entry) → length (calls_of x.caller (x ∷ [])) ≡ 1
own_one x = ap length (calls_push_own x.caller [] x refl) ∙ (length_push (calls_of x.caller []) x ∙ ap (λ (l : List Entry). length l + 1) (calls-nil x.caller))

-- ---- numbers in lists

abbrev one_if : Bool → ℕ
one_if b = cond b 1 0

often_cons : (n m : ℕ) (ms : List ℕ) → how_often n (m ∷ ms) ≡ one_if (m == n) + how_often n ms
often_cons n m ms = sum_by-cons (λ m. cond (m == n) 1 0) m ms

often_append : (n : ℕ) (ms ks : List ℕ) → how_often n (ms ++ ks) ≡ how_often n ms + how_often n ks
often_append n ms ks = sum_by-append (λ m. cond (m == n) 1 0) ms ks

pub one_small : (n m : ℕ) → how_often n (m ∷ []) ≤ 1
one_small n m = omega (arith, often_cons n m [], small (m == n))
  where
    small : (b : Bool) → one_if b ≤ 1
    small true = omega arith
    small false = omega arith

among_often : (n : ℕ) (ms : List ℕ) → list_any (λ m. m == n) ms ≡ true → 1 ≤ how_often n ms
among_often n [] h = absurd (false≢true h)
among_often n (m ∷ ms) h =
    elim (or_cases (m == n) (list_any (λ m. m == n) ms) h) [
      | inl here ↦ let o : one_if (m == n) ≡ suc zero = ap one_if here in omega (arith, often_cons n m ms, o)
      | inr behind ↦ omega (arith, often_cons n m ms, among_often n ms behind)
    ]

often_among : (n : ℕ) (ms : List ℕ) → list_any (λ m. m == n) ms ≡ false → how_often n ms ≡ 0
often_among n [] h = refl
often_among n (m ∷ ms) h =
    let parts = or_parts (m == n) (list_any (λ m. m == n) ms) h in
    let o : one_if (m == n) ≡ zero = ap one_if parts.0 in
    omega (arith, often_cons n m ms, often_among n ms parts.1, o)

-- a list of numbers below m is as long as each of them is often
abbrev AllBelow : ℕ → List ℕ → Type 0
AllBelow m [] = Unit {0}
AllBelow m (n ∷ ns) = (n < m) × AllBelow m ns

pub length_often : (m : ℕ) (ns : List ℕ) → AllBelow m ns → length ns ≡ sum_below (λ i. how_often i ns) m
length_often m [] b = sym (below-none (λ i. how_often i []) m (λ i l. refl))
length_often m (n ∷ ns) b =
    let one = below-only (λ i. 1) n m b.0 in
    let swapped = below-same (λ i. cond (i == n) 1 0) (λ i. one_if (n == i)) m (λ i l. eq_swap i n) in
    let both = below-both (λ i. one_if (n == i)) (λ i. how_often i ns) (λ i. how_often i (n ∷ ns)) m (λ i. often_cons i n ns) in
    omega (arith, length_often m ns b.1, one, swapped, both)
  where
    eq_swap : (i n : ℕ) → cond (i == n) 1 0 ≡ one_if (n == i)
    eq_swap i n =
        elim (cases_eq i n) [
          | inl e ↦ ap one_if (eq-eqb i n e ∙ sym (eq-eqb n i (sym e)))
          | inr ne ↦ ap one_if (ne_eqb i n ne ∙ sym (ne_eqb n i (λ q. ne (sym q))))
        ]

below_short : (f : ℕ → ℕ) (m n : ℕ) → n < m → ((i : ℕ) → f i ≤ 1) → f n ≡ 0 → sum_below f m < m
below_short f zero n l small gap = absurd (omega arith)
below_short f (suc m) n l small gap =
    elim (cases_eq n m) [
      | inl e ↦ let z : f m ≡ 0 = ap f (sym e) ∙ gap in omega (arith, below-suc f m, below_most f m small, z)
      | inr ne ↦ omega (arith, below-suc f m, below_short f m n (omega arith) small gap, small m)
    ]
  where
    below_most : (f : ℕ → ℕ) (m : ℕ) → ((i : ℕ) → f i ≤ 1) → sum_below f m ≤ m
    below_most f zero small = omega (arith, below-zero f)
    below_most f (suc m) small = omega (arith, below-suc f m, below_most f m small, small m)

-- as many different numbers as there are below m are all of them
pub all_among : (m : ℕ) (ns : List ℕ) → AllBelow m ns → ((i : ℕ) → how_often i ns ≤ 1) → m ≤ length ns → (n : ℕ) → n < m → list_any (λ k. k == n) ns ≡ true
all_among m ns below once long n l =
    elim (cases_Bool (list_any (λ k. k == n) ns)) [
      | inl there ↦ there
      | inr away ↦ absurd (omega (arith, length_often m ns below, below_short (λ i. how_often i ns) m n l once (often_among n ns away)))
    ]

pub all_below_from : (m : ℕ) (ns : List ℕ) → ((n : ℕ) → list_any (λ k. k == n) ns ≡ true → n < m) → AllBelow m ns
all_below_from m [] h = tt
all_below_from m (n ∷ ns) h = (
  h n (or_left (n == n) (list_any (λ k. k == n) ns) (eq-eqb n n refl)),
  all_below_from m ns (λ i at. h i (or_right (n == i) (list_any (λ k. k == i) ns) at)),
)

-- an element of a list with one more at its end
at_end : {A : Type 0} (l : List A) (a b : A) (j : ℕ) → get_elem? (l ++ a ∷ []) j ≡ some b → (get_elem? l j ≡ some b) ⊎ ((j ≡ length l) × (a ≡ b))
at_end [] a b zero e = inr (refl, some-injective a b e)
at_end [] a b (suc j) e = absurd cc
at_end (x ∷ xs) a b zero e = inl e
at_end (x ∷ xs) a b (suc j) e =
    elim (at_end xs a b j e) [
      | inl at ↦ inl at
      | inr last ↦ inr (ap suc last.0, last.1)
    ]

module _ {B : Type 0} where
  -- ---- the load after a join

  settled_seat : (k : Opening B) (made : ℕ) (h : List Entry) (v : View B) → IsSeat k made h v → IsSeat k made h (settled v)
  settled_seat k made h v seat = record {
    first = seat.first;
    target = seat.target;
    block = seat.block;
    seen = seat.seen;
    also = (h, refl);
    mine = seat.mine;
    others = seat.others;
    out = seat.out;
    given = seat.given;
    apart = seat.apart;
    below = seat.below;
    keeps_made = seat.keeps_made;
    found = seat.found;
  }

  module _ {L : Type 0} (stands : B → List SampleRange → Type 0) (label : B → L) (k : Opening B) where
    book_set : (out : Bool) (h : List Entry) (s : State (Option B) (View B)) (words : List ℕ) (i : ℕ) (v w : View B)
        → get_elem? s.views i ≡ some v → w.holds ≡ v.holds → w.live ≡ v.live
        → MatchBool out (IsOut s) (IsHome stands label k h s)
        → MatchBool out (IsOut (record { words = words; homes = s.homes; views = set s.views i w })) (IsHome stands label k h (record { words = words; homes = s.homes; views = set s.views i w }))
    book_set true h s words i v w there holds live b = record { holder = b.holder; there = b.there; alone = alone_set s.views i b.holder v w there holds live b.alone }
    book_set false h s words i v w there holds live b = record { book = b.book; there = b.there; is = b.is; free = none_set s.views i v w there holds live b.free }

    pub settle_allows : (slots id : ℕ) (v : View B) (c : List (ℕ × Option B)) (st : Step (Option B)) → v.live ≡ true → length v.also ≤ length v.seen
        → Allows (IsKept stands label k) slots id (v, c) 0 (λ n. n) (Settled st (v, c))
    settle_allows slots id v c st live shorter s kept len there small =
        let seat = kept.seats.each id v there live in
        let w = settled v in
        let n = slice_index s.words 0 in
        let words : set s.words 0 n ≡ s.words =
        ap (λ (l : List ℕ). set l 0 n) kept.words ∙ (ap (λ m. m ∷ turn_word kept.out (length (deposits_of kept.history)) ∷ []) (ap (λ (l : List ℕ). slice_index l 0) kept.words) ∙ sym kept.words) in
        let own = settled_seat k kept.made kept.history v seat in (
          w,
          keeps,
          tt,
          record {
            history = kept.history;
            made = kept.made;
            out = kept.out;
            target = kept.target;
            block = kept.block;
            legal = kept.legal;
            words = words ∙ kept.words;
            book = book_set kept.out kept.history s (set s.words 0 n) id v w there refl refl kept.book;
            seats = set_seats k kept.made kept.history kept.history s.views id v w kept.seats there live (λ n. refl) own (λ j u at ne alive. kept.seats.each j u at alive);
            unmade = kept.unmade;
          },
          (
            refl,
            prefix_shorter v.also v.seen kept.history seat.also seat.seen shorter,
            sound_seat k kept.made kept.history w kept.target kept.block kept.legal kept.unmade own,
          ),
        )

    -- ---- the opening seat makes another

    out_nil : (r : SampleRange) → has_range (out_of []) r ≡ false
    out_nil r = has-without (deposits_of []) (ranges_of []) r ∙ rw (ranges-nil, has-nil r) refl

    module _ (s : State (Option B) (View B)) (kept : IsKept stands label k s) (id : ℕ) (v : View B) (there : get_elem? s.views id ≡ some v) (live : v.live ≡ true) (opening : v.number ≡ 0) where
      seat_v : IsSeat k kept.made kept.history v
      seat_v = kept.seats.each id v there live

      more_made : (u : View B) (made : ℕ) → IsSeat k kept.made kept.history u → (u.number ≡ 0 → made ≡ kept.made + 1)
          → IsSeat k (kept.made + 1) kept.history (record u { made = made })
      more_made u made seat is = record {
        first = seat.first;
        target = seat.target;
        block = seat.block;
        seen = seat.seen;
        also = seat.also;
        mine = seat.mine;
        others = seat.others;
        out = seat.out;
        given = seat.given;
        apart = seat.apart;
        below = λ n own. omega (arith, seat.below n own);
        keeps_made = is;
        found = seat.found;
      }

      left_seat : IsSeat k (kept.made + 1) kept.history (with_made v)
      left_seat = more_made v (v.made + 1) seat_v (λ z. ap (λ m. m + 1) (seat_v.keeps_made z))

      made_is : v.made ≡ kept.made
      made_is = (kept.seats.each id v there live).keeps_made opening

      some_made : 0 < kept.made
      some_made = let b = (kept.seats.each id v there live).below v.number (owns_self v) in omega arith

      new_owns : (n : ℕ) → owns (newcomer v) n ≡ true → n ≡ v.made
      new_owns n own =
          elim (or_cases (v.made == n) false own) [
            | inl e ↦ sym (eqb-true v.made n e)
            | inr f ↦ absurd (false≢true f)
          ]

      right_seat : IsSeat k (kept.made + 1) kept.history (newcomer v)
      right_seat =
          let seat = kept.seats.each id v there live in
          let nothing : (n : ℕ) → owns (newcomer v) n ≡ true → calls_of n kept.history ≡ [] = λ n own. kept.unmade n (omega (arith, new_owns n own, made_is)) in
          record {
            first = seat.first;
            target = seat.target;
            block = seat.block;
            seen = seat.seen;
            also = (kept.history, refl);
            mine = λ n own. (nothing n own ∙ sym (calls-nil n), calls_none n v.seen kept.history seat.seen (nothing n own) ∙ sym (calls-nil n));
            others = λ n away. calls-nil n;
            out = λ first count o. absurd (false≢true (sym (out_nil (range first count)) ∙ o));
            given = λ r has. absurd (false≢true (sym (ap (λ l. has_range l r) deposits-nil ∙ has-nil r) ∙ has));
            apart = λ n. one_small n v.made;
            below = λ n own. omega (arith, new_owns n own, made_is);
            keeps_made = λ z. absurd (omega (arith, made_is, some_made, z));
            found = λ q. absurd (false≢true q);
          }

      -- another seat doesn't keep the number made
      not_opening : (j : ℕ) (u : View B) → get_elem? s.views j ≡ some u → (j ≡ id → ⊥) → u.live ≡ true → u.number ≡ 0 → ⊥
      not_opening j u at ne alive z = kept.seats.apart j id u v 0 at there ne alive live (ap (owns u) (sym z) ∙ owns_self u) (ap (owns v) (sym opening) ∙ owns_self v)

      set_left : AreSeats k (kept.made + 1) kept.history (set s.views id (with_made v))
      set_left = record {
        each = λ j u at alive. elim (at_set s.views id j (with_made v) u at) [
          | inl here ↦ subst (IsSeat k (kept.made + 1) kept.history) here.1 left_seat
          | inr away ↦ more_made u u.made (kept.seats.each j u away.1 alive) (λ z. absurd (not_opening j u away.1 away.0 alive z))
        ];
        apart = apart_set s.views id v (with_made v) kept.seats.apart there live (λ n. refl);
      }

      -- no view that was there has the new number
      not_new : (j : ℕ) (u : View B) (n : ℕ) → get_elem? (set s.views id (with_made v)) j ≡ some u → u.live ≡ true → owns u n ≡ true → owns (newcomer v) n ≡ true → ⊥
      not_new j u n at alive own new =
          let e = new_owns n new in
          elim (at_set s.views id j (with_made v) u at) [
            | inl here ↦ let b = seat_v.below n (ap (λ (x : View B). owns x n) here.1 ∙ own) in omega (arith, e, made_is, b)
            | inr away ↦ omega (arith, e, made_is, (kept.seats.each j u away.1 alive).below n own)
          ]

      split_seats : AreSeats k (kept.made + 1) kept.history (set s.views id (with_made v) ++ newcomer v ∷ [])
      split_seats = record {
        each = λ j u at alive. elim (at_end (set s.views id (with_made v)) (newcomer v) u j at) [
          | inl old ↦ set_left.each j u old alive
          | inr new ↦ subst (IsSeat k (kept.made + 1) kept.history) new.1 right_seat
        ];
        apart = λ j l u x n at_u at_x ne live_u live_x own_u own_x.
            elim (at_end (set s.views id (with_made v)) (newcomer v) u j at_u) [
              | inl old_u ↦
                  elim (at_end (set s.views id (with_made v)) (newcomer v) x l at_x) [
                    | inl old_x ↦ set_left.apart j l u x n old_u old_x ne live_u live_x own_u own_x
                    | inr new_x ↦ not_new j u n old_u live_u own_u (ap (λ (y : View B). owns y n) new_x.1 ∙ own_x)
                  ]
              | inr new_u ↦
                  elim (at_end (set s.views id (with_made v)) (newcomer v) x l at_x) [
                    | inl old_x ↦ not_new l x n old_x live_x own_x (ap (λ (y : View B). owns y n) new_u.1 ∙ own_u)
                    | inr new_x ↦ ne (new_u.0 ∙ sym new_x.0)
                  ]
            ];
      }

      split_book : (out : Bool) → MatchBool out (IsOut s) (IsHome stands label k kept.history s)
          → MatchBool out (IsOut (record { words = s.words; homes = s.homes; views = set s.views id (with_made v) ++ newcomer v ∷ [] })) (IsHome stands label k kept.history (record { words = s.words; homes = s.homes; views = set s.views id (with_made v) ++ newcomer v ∷ [] }))
      split_book true b =
          let a = alone_set s.views id b.holder v (with_made v) there refl refl b.alone in
          record {
            holder = b.holder;
            there = b.there;
            alone = record {
              view = a.view;
              there = at_longer (set s.views id (with_made v)) (newcomer v ∷ []) b.holder a.view a.there;
              live = a.live;
              holds = a.holds;
              alone = λ j u at alive holds. elim (at_end (set s.views id (with_made v)) (newcomer v) u j at) [
                | inl old ↦ a.alone j u old alive holds
                | inr new ↦ absurd (false≢true (ap (λ (x : View B). x.holds) new.1 ∙ holds))
              ];
            };
          }
      split_book false b = record {
        book = b.book;
        there = b.there;
        is = b.is;
        free = λ j u at alive holds. elim (at_end (set s.views id (with_made v)) (newcomer v) u j at) [
          | inl old ↦ none_set s.views id v (with_made v) there refl refl b.free j u old alive holds
          | inr new ↦ false≢true (ap (λ (x : View B). x.holds) new.1 ∙ holds)
        ];
      }

      pub split_kept : IsKept stands label k (record { words = s.words; homes = s.homes; views = set s.views id (with_made v) ++ newcomer v ∷ [] })
      split_kept = record {
        history = kept.history;
        made = kept.made + 1;
        out = kept.out;
        target = kept.target;
        block = kept.block;
        legal = kept.legal;
        words = kept.words;
        book = split_book kept.out kept.book;
        seats = split_seats;
        unmade = λ n le. kept.unmade n (omega arith);
      }

    pub split_allows : (id : ℕ) (v : View B) → v.live ≡ true → v.number ≡ 0 → Splits (IsKept stands label k) id v (with_made v) (newcomer v)
    split_allows id v live opening s kept there = split_kept s kept id v there live opening

    -- ---- a seat takes in another

    module _ (s : State (Option B) (View B)) (kept : IsKept stands label k s) (id other : ℕ) (v w : View B)
        (there : get_elem? s.views id ≡ some v) (there_w : get_elem? s.views other ≡ some w) (ne : other ≡ id → ⊥)
        (live : v.live ≡ true) (live_w : w.live ≡ true) (free : v.holds ≡ false) (free_w : w.holds ≡ false) where
      seat_a : IsSeat k kept.made kept.history v
      seat_a = kept.seats.each id v there live

      seat_b : IsSeat k kept.made kept.history w
      seat_b = kept.seats.each other w there_w live_w

      both_own : (n : ℕ) → owns (taken_in v w) n ≡ (owns v n || owns w n)
      both_own n =
          ap (λ b. (v.number == n) || b) (list_any-append (λ m. m == n) v.joined (w.number ∷ w.joined))
          ∙ or_assoc (v.number == n) (list_any (λ m. m == n) v.joined) (owns w n)
        where
          or_assoc : (x y z : Bool) → (x || (y || z)) ≡ ((x || y) || z)
          or_assoc true y z = refl
          or_assoc false y z = refl

      not_both : (n : ℕ) → owns v n ≡ true → owns w n ≡ true → ⊥
      not_both n a b = kept.seats.apart id other v w n there there_w (λ e. ne (sym e)) live live_w a b

      calls_both : (n : ℕ) → calls_of n (v.calls ++ w.calls) ≡ calls_of n v.calls ++ calls_of n w.calls
      calls_both n = calls-append n v.calls w.calls

      -- what both have seen is a beginning of the history, the longer of the two
      longer_is : (b : Bool) → nat_lt (length v.seen) (length w.seen) ≡ b
          → IsPrefix (cond b w.seen v.seen) kept.history × IsPrefix (cond b v.seen w.seen) kept.history
          × IsPrefix v.seen (cond b w.seen v.seen) × IsPrefix w.seen (cond b w.seen v.seen)
      longer_is true e =
          (seat_b.seen, seat_a.seen, prefix_shorter v.seen w.seen kept.history seat_a.seen seat_b.seen (omega (arith, ltb-true (length v.seen) (length w.seen) e)), prefix_self w.seen)
      longer_is false e =
          (seat_a.seen, seat_b.seen, prefix_self v.seen, prefix_shorter w.seen v.seen kept.history seat_b.seen seat_a.seen (ltb-false (length v.seen) (length w.seen) e))

      both_seen : IsPrefix (taken_in v w).seen kept.history × IsPrefix (taken_in v w).also kept.history × IsPrefix v.seen (taken_in v w).seen × IsPrefix w.seen (taken_in v w).seen
      both_seen = longer_is (nat_lt (length v.seen) (length w.seen)) refl

      taken_seat : IsSeat k kept.made kept.history (taken_in v w)
      taken_seat =
          let seen = both_seen in
          record {
            first = seat_a.first;
            target = seat_a.target;
            block = seat_a.block;
            seen = seen.0;
            also = seen.1;
            mine = λ n own. elim (or_cases (owns v n) (owns w n) (sym (both_own n) ∙ own)) [
              | inl of_v ↦
                  let m = seat_a.mine n of_v in
                  let away = seat_b.others n (false_from_ne_true (owns w n) (not_both n of_v)) in
                  let calls : calls_of n (v.calls ++ w.calls) ≡ calls_of n v.calls = calls_both n ∙ (ap (λ l. calls_of n v.calls ++ l) away ∙ append-nil (calls_of n v.calls)) in
                  (m.0 ∙ sym calls, calls_between n v.seen (taken_in v w).seen kept.history seen.2 seen.0 (m.1 ∙ sym m.0) ∙ (m.1 ∙ sym calls))
              | inr of_w ↦
                  let m = seat_b.mine n of_w in
                  let away = seat_a.others n (false_from_ne_true (owns v n) (λ of_v. not_both n of_v of_w)) in
                  let calls : calls_of n (v.calls ++ w.calls) ≡ calls_of n w.calls = calls_both n ∙ ap (λ l. l ++ calls_of n w.calls) away in
                  (m.0 ∙ sym calls, calls_between n w.seen (taken_in v w).seen kept.history seen.3 seen.0 (m.1 ∙ sym m.0) ∙ (m.1 ∙ sym calls))
            ];
            others = λ n away.
                let parts = or_parts (owns v n) (owns w n) (sym (both_own n) ∙ away) in
                calls_both n ∙ (ap (λ l. l ++ calls_of n w.calls) (seat_a.others n parts.0) ∙ seat_b.others n parts.1);
            out = λ first count o.
                let r = range first count in
                let parts = out_parts (v.calls ++ w.calls) r o in
                let given = or_cases (has_range (ranges_of v.calls) r) (has_range (ranges_of w.calls) r) (sym (ap (λ l. has_range l r) (ranges-append v.calls w.calls) ∙ has-append (ranges_of v.calls) (ranges_of w.calls) r) ∙ parts.0) in
                let left = or_parts (has_range (deposits_of v.calls) r) (has_range (deposits_of w.calls) r) (sym (ap (λ l. has_range l r) (deposits-append v.calls w.calls) ∙ has-append (deposits_of v.calls) (deposits_of w.calls) r) ∙ parts.1) in
                elim given [
                  | inl of_v ↦ seat_a.out first count (out_from v.calls r of_v left.0)
                  | inr of_w ↦ seat_b.out first count (out_from w.calls r of_w left.1)
                ];
            given = λ r has.
                let one = or_cases (has_range (deposits_of v.calls) r) (has_range (deposits_of w.calls) r) (sym (ap (λ l. has_range l r) (deposits-append v.calls w.calls) ∙ has-append (deposits_of v.calls) (deposits_of w.calls) r) ∙ has) in
                let all : has_range (ranges_of (v.calls ++ w.calls)) r ≡ (has_range (ranges_of v.calls) r || has_range (ranges_of w.calls) r) =
                ap (λ l. has_range l r) (ranges-append v.calls w.calls) ∙ has-append (ranges_of v.calls) (ranges_of w.calls) r in
                all
                ∙ elim one [
                  | inl of_v ↦ or_left (has_range (ranges_of v.calls) r) (has_range (ranges_of w.calls) r) (seat_a.given r of_v)
                  | inr of_w ↦ or_right (has_range (ranges_of v.calls) r) (has_range (ranges_of w.calls) r) (seat_b.given r of_w)
                ];
            apart = λ n. once n;
            below = λ n own. elim (or_cases (owns v n) (owns w n) (sym (both_own n) ∙ own)) [
              | inl of_v ↦ seat_a.below n of_v
              | inr of_w ↦ seat_b.below n of_w
            ];
            keeps_made = seat_a.keeps_made;
            found = λ holds. absurd (false≢true (sym free ∙ holds));
          }
        where
          once : (n : ℕ) → how_often n (v.number ∷ (v.joined ++ w.number ∷ w.joined)) ≤ 1
          once n =
              let all : how_often n (v.number ∷ (v.joined ++ w.number ∷ w.joined)) ≡ how_often n (numbers_of v) + how_often n (numbers_of w) = often_append n (numbers_of v) (numbers_of w) in
              elim (cases_Bool (owns v n)) [
                | inl of_v ↦ omega (arith, all, seat_a.apart n, often_among n (numbers_of w) (false_from_ne_true (owns w n) (not_both n of_v)))
                | inr away ↦ omega (arith, all, seat_b.apart n, often_among n (numbers_of v) away)
              ]

      views_now : List (View B)
      views_now = set (set s.views id (taken_in v w)) other spent

      -- where a live view stands now, it stood before or is the one that took in
      stood : (j : ℕ) (u : View B) → get_elem? (set (set s.views id (taken_in v w)) other spent) j ≡ some u → u.live ≡ true
          → ((j ≡ id) × (taken_in v w ≡ u)) ⊎ ((j ≡ id → ⊥) × (j ≡ other → ⊥) × (get_elem? s.views j ≡ some u))
      stood j u at alive =
          elim (at_set (set s.views id (taken_in v w)) other j spent u at) [
            | inl gone ↦ absurd (false≢true (ap (λ (x : View B). x.live) gone.1 ∙ alive))
            | inr still ↦
                elim (at_set s.views id j (taken_in v w) u still.1) [
                  | inl here ↦ inl here
                  | inr away ↦ inr (away.0, still.0, away.1)
                ]
          ]

      not_taken : (j : ℕ) (u : View B) (n : ℕ) → get_elem? s.views j ≡ some u → (j ≡ id → ⊥) → (j ≡ other → ⊥) → u.live ≡ true → owns u n ≡ true → owns (taken_in v w) n ≡ true → ⊥
      not_taken j u n at ne_id ne_other alive own taken =
          elim (or_cases (owns v n) (owns w n) (sym (both_own n) ∙ taken)) [
            | inl of_v ↦ kept.seats.apart j id u v n at there ne_id alive live own of_v
            | inr of_w ↦ kept.seats.apart j other u w n at there_w ne_other alive live_w own of_w
          ]

      joined_seats : AreSeats k kept.made kept.history (set (set s.views id (taken_in v w)) other spent)
      joined_seats = record {
        each = λ j u at alive. elim (stood j u at alive) [
          | inl here ↦ subst (IsSeat k kept.made kept.history) here.1 taken_seat
          | inr away ↦ kept.seats.each j u away.2 alive
        ];
        apart = λ j l u x n at_u at_x differ live_u live_x own_u own_x.
            elim (stood j u at_u live_u) [
              | inl here_u ↦
                  elim (stood l x at_x live_x) [
                    | inl here_x ↦ differ (here_u.0 ∙ sym here_x.0)
                    | inr away_x ↦ not_taken l x n away_x.2 away_x.0 away_x.1 live_x own_x (ap (λ (y : View B). owns y n) here_u.1 ∙ own_u)
                  ]
              | inr away_u ↦
                  elim (stood l x at_x live_x) [
                    | inl here_x ↦ not_taken j u n away_u.2 away_u.0 away_u.1 live_u own_u (ap (λ (y : View B). owns y n) here_x.1 ∙ own_x)
                    | inr away_x ↦ kept.seats.apart j l u x n away_u.2 away_x.2 differ live_u live_x own_u own_x
                  ]
            ];
      }

      stayed : (j : ℕ) (u : View B) → get_elem? s.views j ≡ some u → u.holds ≡ true → (j ≡ id → ⊥) × (j ≡ other → ⊥)
      stayed j u at holds = (
        λ e. false≢true (sym free ∙ (ap (λ (x : View B). x.holds) (some-injective v u (sym there ∙ (ap (get_elem? s.views) (sym e) ∙ at))) ∙ holds)),
        λ e. false≢true (sym free_w ∙ (ap (λ (x : View B). x.holds) (some-injective w u (sym there_w ∙ (ap (get_elem? s.views) (sym e) ∙ at))) ∙ holds)),
      )

      joined_book : (out : Bool) → MatchBool out (IsOut s) (IsHome stands label k kept.history s)
          → MatchBool out (IsOut (record { words = s.words; homes = s.homes; views = set (set s.views id (taken_in v w)) other spent })) (IsHome stands label k kept.history (record { words = s.words; homes = s.homes; views = set (set s.views id (taken_in v w)) other spent }))
      joined_book true b =
          let a = b.alone in
          let st = stayed b.holder a.view a.there a.holds in
          record {
            holder = b.holder;
            there = b.there;
            alone = record {
              view = a.view;
              there = set_else (set s.views id (taken_in v w)) other b.holder spent st.1 ∙ (set_else s.views id b.holder (taken_in v w) st.0 ∙ a.there);
              live = a.live;
              holds = a.holds;
              alone = λ j u at alive holds. elim (stood j u at alive) [
                | inl here ↦ absurd (false≢true (sym free ∙ (ap (λ (x : View B). x.holds) here.1 ∙ holds)))
                | inr away ↦ a.alone j u away.2 alive holds
              ];
            };
          }
      joined_book false b = record {
        book = b.book;
        there = b.there;
        is = b.is;
        free = λ j u at alive holds. elim (stood j u at alive) [
          | inl here ↦ false≢true (sym free ∙ (ap (λ (x : View B). x.holds) here.1 ∙ holds))
          | inr away ↦ b.free j u away.2 alive holds
        ];
      }

      pub joined_kept : IsKept stands label k (record { words = s.words; homes = s.homes; views = set (set s.views id (taken_in v w)) other spent })
      joined_kept = record {
        history = kept.history;
        made = kept.made;
        out = kept.out;
        target = kept.target;
        block = kept.block;
        legal = kept.legal;
        words = kept.words;
        book = joined_book kept.out kept.book;
        seats = joined_seats;
        unmade = kept.unmade;
      }

    pub join_allows : (id other : ℕ) (v w : View B) → v.live ≡ true → w.live ≡ true → v.holds ≡ false → w.holds ≡ false
        → Joins (IsKept stands label k) id v other w (taken_in v w) spent
    join_allows id other v w live live_w free free_w s kept there ne there_w =
        joined_kept s kept id other v w there (sym (set_else s.views id other (taken_in v w) ne) ∙ there_w) ne live live_w free free_w

    -- ---- the opening seat that took in all others

    -- the seat's history is the whole one
    module _ (s : State (Option B) (View B)) (kept : IsKept stands label k s) (id : ℕ) (v : View B) (there : get_elem? s.views id ≡ some v)
        (live : v.live ≡ true) (opening : v.number ≡ 0) (all : length v.joined + 1 ≡ v.made) where
      owns_all : (n : ℕ) → n < kept.made → owns v n ≡ true
      owns_all n l =
          let seat = kept.seats.each id v there live in
          let made = seat.keeps_made opening in
          all_among kept.made (numbers_of v) (all_below_from kept.made (numbers_of v) seat.below) seat.apart (omega (arith, made, all)) n l

      same_calls : (n : ℕ) → calls_of n kept.history ≡ calls_of n v.seen
      same_calls n =
          let seat = kept.seats.each id v there live in
          elim (cases_lt n kept.made) [
            | inl l ↦ let m = seat.mine n (owns_all n l) in m.0 ∙ sym m.1
            | inr g ↦ kept.unmade n g ∙ sym (calls_none n v.seen kept.history seat.seen (kept.unmade n g))
          ]

      pub whole : v.seen ≡ kept.history
      whole = go (kept.seats.each id v there live).seen.0 (kept.seats.each id v there live).seen.1
        where
          go : (rest : List Entry) → v.seen ++ rest ≡ kept.history → v.seen ≡ kept.history
          go [] e = sym (append-nil v.seen) ∙ e
          go (x ∷ rest) e =
              let n = x.caller in
              let calls : calls_of n kept.history ≡ calls_of n v.seen ++ calls_of n (x ∷ rest) = ap (calls_of n) (sym e) ∙ calls-append n v.seen (x ∷ rest) in
              let cut : calls_of n (x ∷ rest) ≡ calls_of n (x ∷ []) ++ calls_of n rest = calls-append n (x ∷ []) rest in
              let one : length (calls_of n (x ∷ [])) ≡ 1 = own_one x in
              absurd (omega (arith, ap length (same_calls n), ap length calls, length-append (calls_of n v.seen) (calls_of n (x ∷ rest)), ap length cut, length-append (calls_of n (x ∷ [])) (calls_of n rest), one))

      -- nobody else can hold the book, so it is at home where the seat doesn't hold it
      pub at_home : v.holds ≡ false → (kept.out ≡ false) × IsHome stands label k kept.history s
      at_home free = go kept.out kept.book
        where
          go : (out : Bool) → MatchBool out (IsOut s) (IsHome stands label k kept.history s) → (out ≡ false) × IsHome stands label k kept.history s
          go false b = (refl, b)
          go true b =
              let a = b.alone in
              let n = a.view.number in
              let seat = kept.seats.each b.holder a.view a.there a.live in
              let under = seat.below n (owns_self a.view) in
              elim (cases_eq b.holder id) [
                | inl e ↦ absurd (false≢true (sym free ∙ (ap (λ (x : View B). x.holds) (some-injective v a.view (sym there ∙ (ap (get_elem? s.views) (sym e) ∙ a.there))) ∙ a.holds)))
                | inr ne ↦ absurd (kept.seats.apart b.holder id a.view v n a.there there ne a.live live (owns_self a.view) (owns_all n under))
              ]
