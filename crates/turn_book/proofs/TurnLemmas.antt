-- Each step on the turn keeps the rule: the book is taken, and comes home with a deposit or without.
use Rattle.std.proofs.Common.{◌≡◌, ℕ, ◌+◌, ◌==◌, inl, inr, Bool, true, false, List, [], ◌∷◌, ◌++◌, length, set, slice_index, Option, Some, MatchBool, refl, ap, sym, ◌∙◌, subst, arith}
use Rattle.std.proofs.lemmas.Bool.{cases_Bool, eqb-true, false≢true}
use Rattle.std.proofs.lemmas.List.{length_push}
use mathlib.Core.Option.{Option as Maybe, some, none}
use lib.ListN.{get_elem?}
use prog.Atomic.{either}
use Rattle.atomic_table.specs.Table.{State, Step, keeps, takes, gives, Allows}
use Rattle.atomic_table.proofs.Lists.{at_set, set_here, set_again}
use Rattle.campaign_core.specs.declared.run.SampleRange.{SampleRange}
use Rattle.campaign_core.specs.declared.call.Call.{Call}
use Rattle.campaign_core.specs.declared.call.Call.TheVariants.{Deposit}
use Rattle.campaign_core.specs.declared.call.Entry.{Entry}
use Rattle.campaign_core.specs.Ranges.{range, has_range}
use Rattle.campaign_core.specs.History.{entry, deposit_in, reply_of, gate_of, deposits_of, out_of, may_come, Follows}
use Rattle.campaign_core.proofs.HistoryLaws.{gate_push, deposits_push}
use Rattle.turn_book.specs.declared.view.View.{View}
use Rattle.turn_book.specs.declared.view.Opening.{Opening}
use Rattle.turn_book.specs.Words.{gate_word, turn_word}
use Rattle.turn_book.specs.Views.{with_seen, with_call, with_hold, Deposits}
use Rattle.turn_book.specs.Steps.{Took, Left, PutBack}
use Rattle.turn_book.specs.Kept.{IsSeat, NoneHolds, IsOut, IsHome, IsKept}
use Rattle.turn_book.proofs.WordLemmas.{turn_same}
use Rattle.turn_book.proofs.SeatLemmas.{out_parts, seat_owner, sound_seat, set_seats, seen_seat, unmade_push, own_seat, pushed_seats, legal_now}
use Rattle.turn_book.proofs.StepLemmas.{in_range, gate_still}
use Rattle.campaign_core.proofs.GivenLaws.{owned_given}

module _ {B : Type 0} where
  -- a state in which a step changed nothing
  state_same : (s : State (Option B) (View B)) (i n id : ℕ) (v : View B) → set s.words i n ≡ s.words → set s.views id v ≡ s.views
      → ◌≡◌ {A = State (Option B) (View B)} (record { words = set s.words i n; homes = s.homes; views = set s.views id v }) s
  state_same s i n id v e f = rw (e, f) refl

  module _ {L : Type 0} (stands : B → List SampleRange → Type 0) (label : B → L) (k : Opening B) (slots id : ℕ) (v : View B) (live : v.live ≡ true) where
    words_one : (s : State (Option B) (View B)) (a b : ℕ) → s.words ≡ a ∷ b ∷ [] → (n : ℕ) → set s.words 1 n ≡ a ∷ n ∷ []
    words_one s a b is n = ap (λ (l : List ℕ). set l 1 n) is

    home_of : (out : Bool) (h : List Entry) (s : State (Option B) (View B)) → out ≡ false → MatchBool out (IsOut s) (IsHome stands label k h s) → IsHome stands label k h s
    home_of true h s e b = absurd (false≢true (sym e))
    home_of false h s e b = b

    out_of_home : (out : Bool) (h : List Entry) (s : State (Option B) (View B)) → get_elem? s.views id ≡ some v → v.holds ≡ true → MatchBool out (IsOut s) (IsHome stands label k h s) → (out ≡ true) × IsOut s
    out_of_home true h s there holds b = (refl, b)
    out_of_home false h s there holds b = absurd (b.free id v there live holds)

    -- ---- TAKE

    taken_kept : (s : State (Option B) (View B)) (kept : IsKept stands label k s) (there : get_elem? s.views id ≡ some v) (m : ℕ) → slice_index s.words 1 ≡ turn_word false m
        → (home : IsHome stands label k kept.history s)
        → IsKept stands label k (record { words = set s.words 1 (turn_word false m + 1); homes = set s.homes 0 none; views = set s.views id (with_hold true (with_seen v kept.history)) })
    taken_kept s kept there m is home =
        let seat = kept.seats.each id v there live in
        let w = with_hold true (with_seen v kept.history) in
        let turn = turn_same kept.out (length (deposits_of kept.history)) m (sym (ap (λ (l : List ℕ). slice_index l 1) kept.words) ∙ is) in
        let word : turn_word false m + 1 ≡ turn_word true (length (deposits_of kept.history)) = omega (arith, turn.1) in
        record {
          history = kept.history;
          made = kept.made;
          out = true;
          target = kept.target;
          block = kept.block;
          legal = kept.legal;
          words = words_one s _ _ kept.words (turn_word false m + 1) ∙ ap (λ n. gate_word (gate_of k.target kept.history) ∷ n ∷ []) word;
          book = record {
            holder = id;
            there = ap (λ (l : List (Maybe (Option B))). set l 0 none) home.there;
            alone = record {
              view = w;
              there = set_here s.views id w (in_range s.views id v there);
              live = live;
              holds = refl;
              alone = λ j u at alive holds. elim (at_set s.views id j w u at) [
                | inl here ↦ here.0
                | inr away ↦ absurd (home.free j u away.1 alive holds)
              ];
            };
          };
          seats = set_seats k kept.made kept.history kept.history s.views id v w kept.seats there live (λ n. refl) (seen_seat k kept.made kept.history v true seat) (λ j u at ne alive. kept.seats.each j u at alive);
          unmade = kept.unmade;
        }

    pub take_allows : (c : List (ℕ × Option B)) (expected m : ℕ) → expected ≡ turn_word false m
        → Allows (IsKept stands label k) slots id (v, c) 1 (λ n. either (n == expected) (expected + 1) n) (Took stands label (record { slots = slots; word = 1; first = expected; second = expected + 1; said = none }) (v, c))
    take_allows c expected m even s kept len there small =
        let n = slice_index s.words 1 in
        elim (cases_Bool (n == expected)) [
          | inl hit ↦
              let seat = kept.seats.each id v there live in
              let found : n ≡ turn_word false m = eqb-true n expected hit ∙ even in
              let turn = turn_same kept.out (length (deposits_of kept.history)) m (sym (ap (λ (l : List ℕ). slice_index l 1) kept.words) ∙ found) in
              let home = home_of kept.out kept.history s turn.0 kept.book in
              let w = with_hold true (with_seen v kept.history) in
              let now = taken_kept s kept there m found home in
              rw (hit, even) (
                w,
                takes 0 (Some home.book),
                ap (λ (l : List (Maybe (Option B))). get_elem? l 0) home.there,
                now,
                (
                  home.book,
                  refl,
                  record {
                    between = seat.seen.0;
                    view = ap (λ l. with_hold true (with_seen v l)) (sym seat.seen.1);
                    sound = sound_seat k kept.made kept.history w kept.target kept.block kept.legal kept.unmade (seen_seat k kept.made kept.history v true seat);
                  },
                  home.is.stands,
                  (λ first is. home.is.labelled ∙ ap label (cc (seat.first, is))),
                  found ∙ ap (turn_word false) (sym turn.1),
                ),
              )
          | inr miss ↦
              let words : set s.words 1 n ≡ s.words = words_one s _ _ kept.words n ∙ (ap (λ m. gate_word (gate_of k.target kept.history) ∷ m ∷ []) (ap (λ (l : List ℕ). slice_index l 1) kept.words) ∙ sym kept.words) in
              let same = state_same s 1 n id v words (set_again s.views id v there) in
              rw miss (v, keeps, tt, subst (IsKept stands label k) (sym same) kept, refl)
        ]

    -- ---- LEAVE and DEPOSIT: the holder gives the book home

    -- what the holder knows of the state
    record Held (s : State (Option B) (View B)) (kept : IsKept stands label k s) : Type 0 where
      seat : IsSeat k kept.made kept.history v
      is_out : kept.out ≡ true
      homes : s.homes ≡ none ∷ []
      others : (j : ℕ) (u : View B) → get_elem? s.views j ≡ some u → (j ≡ id → ⊥) → u.live ≡ true → u.holds ≡ true → ⊥

    held_is : (s : State (Option B) (View B)) (kept : IsKept stands label k s) → get_elem? s.views id ≡ some v → v.holds ≡ true → Held s kept
    held_is s kept there holds =
        let o = out_of_home kept.out kept.history s there holds kept.book in
        record {
          seat = kept.seats.each id v there live;
          is_out = o.0;
          homes = o.1.there;
          others = λ j u at ne alive h. ne (o.1.alone.alone j u at alive h ∙ sym (o.1.alone.alone id v there live holds));
        }

    gone : (s : State (Option B) (View B)) (kept : IsKept stands label k s) → get_elem? s.views id ≡ some v → v.holds ≡ true → (w : View B) → w.holds ≡ false → NoneHolds (set s.views id w)
    gone s kept there holds w free j u at alive h =
        let held = held_is s kept there holds in
        elim (at_set s.views id j w u at) [
          | inl here ↦ false≢true (sym free ∙ (ap (λ (x : View B). x.holds) here.1 ∙ h))
          | inr away ↦ held.others j u away.1 away.0 alive h
        ]

    pub leave_allows : (st : Step (Option B)) (book : B) (more : List (ℕ × Option B)) (turn : ℕ) → v.holds ≡ true
        → stands book (deposits_of v.seen) → label book ≡ label k.book.value → turn ≡ turn_word false (length (deposits_of v.seen))
        → Allows (IsKept stands label k) slots id (v, (0, Some book) ∷ more) 1 (λ n. turn) (Left st (v, (0, Some book) ∷ more))
    leave_allows st book more turn holds is labelled at_turn s kept len there small =
        let held = held_is s kept there holds in
        let seat = held.seat in
        let w = with_hold false v in
        let found = seat.found holds in (
          w,
          gives,
          tt,
          record {
            history = kept.history;
            made = kept.made;
            out = false;
            target = kept.target;
            block = kept.block;
            legal = kept.legal;
            words = words_one s _ _ kept.words turn ∙ ap (λ n. gate_word (gate_of k.target kept.history) ∷ n ∷ []) (at_turn ∙ ap (λ d. turn_word false (length d)) found);
            book = record {
              book = book;
              there = ap (λ (l : List (Maybe (Option B))). set l 0 (some (Some book))) held.homes;
              is = record { stands = subst (stands book) found is; labelled = labelled };
              free = gone s kept there holds w refl;
            };
            seats = set_seats k kept.made kept.history kept.history s.views id v w kept.seats there live (λ n. refl)
                (record {
                  first = seat.first;
                  target = seat.target;
                  block = seat.block;
                  seen = seat.seen;
                  also = seat.also;
                  mine = seat.mine;
                  others = seat.others;
                  out = seat.out;
                  given = seat.given;
                  apart = seat.apart;
                  below = seat.below;
                  keeps_made = seat.keeps_made;
                  found = λ q. absurd (false≢true q);
                })
                (λ j u at ne alive. kept.seats.each j u at alive);
            unmade = kept.unmade;
          },
          (refl, refl),
        )

    pub put_allows : (st : Step (Option B)) (book : B) (more : List (ℕ × Option B)) (first count : ℕ) → v.holds ≡ true
        → has_range (out_of v.calls) (range first count) ≡ true
        → stands book (deposits_of v.seen ++ range first count ∷ []) → label book ≡ label k.book.value → st.first ≡ turn_word false (length (deposits_of v.seen) + 1)
        → Allows (IsKept stands label k) slots id (v, (0, Some book) ∷ more) 1 (λ n. st.first) (PutBack (Deposit first count) st (v, (0, Some book) ∷ more))
    put_allows st book more first count holds out is labelled at_turn s kept len there small =
        let held = held_is s kept there holds in
        let seat = held.seat in
        let h = kept.history in
        let r = range first count in
        let found : deposits_of v.seen ≡ deposits_of h = seat.found holds in
        let call = Deposit first count in
        let reply = reply_of v.block (gate_of v.target h) (deposits_of h) call in
        let e = entry v.number call reply in
        let w = with_hold false (with_call v h e) in
        let owner = seat_owner k kept.made h v seat r (out_parts v.calls r out).0 in
        let given = owned_given owner.0 h r owner.2 in
        let may : may_come h call ≡ true = rw (given, seat.out first count out) refl in
        let follows : Follows k.target k.block h e = (ap (λ b. reply_of b (gate_of v.target h) (deposits_of h) call) seat.block ∙ ap (λ t. reply_of k.block (gate_of t h) (deposits_of h) call) seat.target, may) in
        let own_out : (f c : ℕ) → call ≡ Deposit f c → has_range (out_of v.calls) (range f c) ≡ true = λ f c q. subst (λ (x : Call). has_range (out_of v.calls) (range_at x) ≡ true) q out in
        let none_else : (j : ℕ) (u : View B) → get_elem? s.views j ≡ some u → (j ≡ id → ⊥) → u.live ≡ true → u.holds ≡ true → deposit_in e.call ≡ [] = λ j u at ne alive q. absurd (held.others j u at ne alive q) in
        let own = own_seat k kept.made h s.views kept.target kept.block kept.legal kept.seats id v there live e refl follows own_out false in
        let legal = legal_now k kept.made h s.views kept.target kept.block kept.legal kept.seats id v there live e refl follows own_out in
        let unmade = unmade_push k kept.made h s.views kept.target kept.block kept.legal kept.seats id v there live e refl follows own_out kept.unmade in
        let deposits : deposits_of (h ++ e ∷ []) ≡ deposits_of h ++ r ∷ [] = deposits_push h e in
        let gate : gate_of k.target (h ++ e ∷ []) ≡ gate_of k.target h = gate_push k.target h e ∙ gate_still (gate_of k.target h) in
        let number : length (deposits_of (h ++ e ∷ [])) ≡ length (deposits_of v.seen) + 1 = ap length deposits ∙ (length_push (deposits_of h) r ∙ ap (λ d. length d + 1) (sym found)) in (
          w,
          gives,
          tt,
          record {
            history = h ++ e ∷ [];
            made = kept.made;
            out = false;
            target = kept.target;
            block = kept.block;
            legal = legal;
            words =
                words_one s _ _ kept.words st.first
                ∙ (ap (λ n. gate_word (gate_of k.target h) ∷ n ∷ []) (at_turn ∙ ap (turn_word false) (sym number))
                ∙ ap (λ g. gate_word g ∷ turn_word false (length (deposits_of (h ++ e ∷ []))) ∷ []) (sym gate));
            book = record {
              book = book;
              there = ap (λ (l : List (Maybe (Option B))). set l 0 (some (Some book))) held.homes;
              is = record { stands = subst (stands book) (ap (λ d. d ++ r ∷ []) found ∙ sym deposits) is; labelled = labelled };
              free = gone s kept there holds w refl;
            };
            seats = pushed_seats k kept.made h s.views kept.target kept.block kept.legal kept.seats id v there live e refl follows own_out false none_else;
            unmade = unmade;
          },
          (
            refl,
            λ f c number_is same_call same_turn.
                let parts : (first ≡ f) × (count ≡ c) = (ap first_at same_call, ap count_at same_call) in
                let counted : number_is ≡ length (deposits_of v.seen) + 1 = omega (arith, at_turn, same_turn) in
                subst (λ (x : Call). Deposits v (first_at x) (count_at x) number_is w) same_call
                (record {
                  between = seat.seen.0;
                  view = ap (λ l. with_hold false (with_call v l (entry v.number call (reply_of v.block (gate_of v.target l) (deposits_of l) call)))) (sym seat.seen.1);
                  found = ap deposits_of seat.seen.1 ∙ sym found;
                  counted = counted;
                  sound = sound_seat k kept.made (h ++ e ∷ []) w kept.target kept.block legal unmade own;
                }),
          ),
        )
      where
        range_at : Call → SampleRange
        range_at (Deposit f c) = range f c
        range_at x = range 0 0

        first_at : Call → ℕ
        first_at (Deposit f c) = f
        first_at x = 0

        count_at : Call → ℕ
        count_at (Deposit f c) = c
        count_at x = 0
