-- Each step on the gate keeps the rule, and tells its seat what it saw or made.
use Rattle.std.proofs.Common.{◌≡◌, ℕ, zero, suc, ◌+◌, ◌-◌, ◌^◌, ◌<◌, ◌==◌, inl, inr, Bool, true, false, ◌||◌, List, [], ◌∷◌, ◌++◌, length, set, slice_index, bit_or, Option, MatchBool, refl, ap, sym, ◌∙◌, subst, arith}
use Rattle.std.proofs.lemmas.Bool.{cases_Bool, cases_eq, eqb-true, false≢true}
use Rattle.std.proofs.lemmas.List.{append-nil}
use mathlib.Core.List.{IsPrefix}
use mathlib.Core.Option.{some, none, some-injective}
use lib.ListN.{get_elem?}
use prog.Atomic.{either}
use Rattle.atomic_table.specs.Table.{State, Step, keeps, Allows}
use Rattle.atomic_table.proofs.Lists.{at_set, set_here, set_else}
use Rattle.campaign_core.specs.declared.gate.Gate.{Gate}
use Rattle.campaign_core.specs.declared.run.SampleRange.{SampleRange}
use Rattle.campaign_core.specs.declared.call.Call.{Call}
use Rattle.campaign_core.specs.declared.call.Call.TheVariants.{Claim, Extend, Seal, Cancel, Deposit}
use Rattle.campaign_core.specs.declared.call.Call.TheVariants.{Progress as AskProgress, Interim as AskInterim}
use Rattle.campaign_core.specs.declared.call.Reply.TheVariants.{Marked}
use Rattle.campaign_core.specs.declared.call.Entry.{Entry}
use Rattle.campaign_core.specs.Ranges.{range, has_range}
use Rattle.campaign_core.specs.History.{entry, deposit_in, claim_reply, extend_reply, reply_of, gate_of, deposits_of, out_of, may_come, Follows}
use Rattle.campaign_core.specs.Machine.{gate_after}
use Rattle.campaign_core.proofs.HistoryLaws.{gate_push, deposits_push}
use Rattle.campaign_core.proofs.MachineLaws.{sound_history, claim_cases, extend_cases}
use Rattle.turn_book.specs.declared.view.View.{View}
use Rattle.turn_book.specs.declared.view.Opening.{Opening}
use Rattle.turn_book.specs.Words.{gate_word, turn_word, IsGate}
use Rattle.turn_book.specs.Views.{takes_exchange, call_between, IsExchange, with_seen, with_call, Sees, Makes, MayLook}
use Rattle.turn_book.specs.Steps.{Looked, Exchanged, Marks}
use Rattle.turn_book.specs.Kept.{IsSeat, HoldsAlone, NoneHolds, IsOut, IsBook, IsHome, IsKept}
use Rattle.turn_book.proofs.WordLemmas.{word_same, word_sealed, word_cancelled}
use Rattle.turn_book.proofs.SeatLemmas.{sound_seat, set_seats, seen_seat, unmade_push, own_seat, pushed_seats, legal_now}

pub in_range : {A : Type 0} (xs : List A) (i : ℕ) (x : A) → get_elem? xs i ≡ some x → i < length xs
in_range [] i x h = absurd cc
in_range (y ∷ xs) zero x h = omega arith
in_range (y ∷ xs) (suc i) x h = omega (arith, in_range xs i x h)

-- ---- gates

or_nothing : (b : Bool) → (b || false) ≡ b
or_nothing true = refl
or_nothing false = refl

or_all : (b : Bool) → (b || true) ≡ true
or_all true = refl
or_all false = refl

gate_is : (n m t u : ℕ) (s r c d : Bool) → n ≡ m → t ≡ u → s ≡ r → c ≡ d
    → ◌≡◌ {A = Gate} (record { next = n; target = t; sealed = s; cancelled = c }) (record { next = m; target = u; sealed = r; cancelled = d })
gate_is n m t u s r c d e f g h = rw (e, f, g, h) refl

pub gate_still : (g : Gate) → ◌≡◌ {A = Gate} (record { next = g.next + 0; target = g.target + 0; sealed = g.sealed || false; cancelled = g.cancelled || false }) g
gate_still g = gate_is (g.next + 0) g.next (g.target + 0) g.target (g.sealed || false) g.sealed (g.cancelled || false) g.cancelled (omega arith) (omega arith) (or_nothing g.sealed) (or_nothing g.cancelled)

gate_sealed : (g : Gate) → gate_after g Seal Marked ≡ record { next = g.next; target = g.target; sealed = true; cancelled = g.cancelled }
gate_sealed g = gate_is (g.next + 0) g.next (g.target + 0) g.target (g.sealed || true) true (g.cancelled || false) g.cancelled (omega arith) (omega arith) (or_all g.sealed) (or_nothing g.cancelled)

gate_cancelled : (g : Gate) → gate_after g Cancel Marked ≡ record { next = g.next; target = g.target; sealed = g.sealed; cancelled = true }
gate_cancelled g = gate_is (g.next + 0) g.next (g.target + 0) g.target (g.sealed || false) g.sealed (g.cancelled || true) true (omega arith) (omega arith) (or_nothing g.sealed) (or_all g.cancelled)

-- a claim that gives no range and an extension that doesn't raise leave the gate
claim_still : (block : ℕ) (g : Gate) → takes_exchange (claim_reply block g) ≡ false → gate_after g Claim (claim_reply block g) ≡ g
claim_still block g =
    claim_cases block g (λ reply. takes_exchange reply ≡ false → gate_after g Claim reply ≡ g)
    (λ a e. gate_still g) (λ a b c e. gate_still g) (λ a b c e. gate_still g) (λ a b e. absurd (false≢true (sym e)))

extend_still : (g : Gate) (more : ℕ) → takes_exchange (extend_reply g more) ≡ false → gate_after g (Extend more) (extend_reply g more) ≡ g
extend_still g more =
    extend_cases g more (λ reply. takes_exchange reply ≡ false → gate_after g (Extend more) reply ≡ g)
    (λ a e. gate_still g) (λ a b e. gate_still g) (λ a b c e. gate_still g) (λ a b c e. absurd (false≢true (sym e)))

module _ {B : Type 0} where
  -- ---- who holds the book, where a view is changed and holds as before

  pub none_set : (views : List (View B)) (i : ℕ) (v w : View B) → get_elem? views i ≡ some v → w.holds ≡ v.holds → w.live ≡ v.live
      → NoneHolds views → NoneHolds (set views i w)
  none_set views i v w there h l none_holds j u at live holds =
      elim (at_set views i j w u at) [
        | inl here ↦ none_holds i v there (sym l ∙ (ap (λ (x : View B). x.live) here.1 ∙ live)) (sym h ∙ (ap (λ (x : View B). x.holds) here.1 ∙ holds))
        | inr away ↦ none_holds j u away.1 live holds
      ]

  pub alone_set : (views : List (View B)) (i holder : ℕ) (v w : View B) → get_elem? views i ≡ some v → w.holds ≡ v.holds → w.live ≡ v.live
      → HoldsAlone views holder → HoldsAlone (set views i w) holder
  alone_set views i holder v w there h l alone =
      let others : (j : ℕ) (u : View B) → get_elem? (set views i w) j ≡ some u → u.live ≡ true → u.holds ≡ true → j ≡ holder = λ j u at live holds.
      elim (at_set views i j w u at) [
        | inl here ↦ here.0 ∙ alone.alone i v there (sym l ∙ (ap (λ (x : View B). x.live) here.1 ∙ live)) (sym h ∙ (ap (λ (x : View B). x.holds) here.1 ∙ holds))
        | inr away ↦ alone.alone j u away.1 live holds
      ] in
      elim (cases_eq holder i) [
        | inl is ↦
            let same : alone.view ≡ v = some-injective alone.view v (sym alone.there ∙ (ap (get_elem? views) is ∙ there)) in
            record {
              view = w;
              there = ap (get_elem? (set views i w)) is ∙ set_here views i w (in_range views i v there);
              live = l ∙ (ap (λ (x : View B). x.live) (sym same) ∙ alone.live);
              holds = h ∙ (ap (λ (x : View B). x.holds) (sym same) ∙ alone.holds);
              alone = others;
            }
        | inr ne ↦ record { view = alone.view; there = set_else views i holder w ne ∙ alone.there; live = alone.live; holds = alone.holds; alone = others }
      ]

  -- ---- what a prefix and its rest are
  pub with_rest : (v : View B) (h : List Entry) (p : IsPrefix v.seen h) → v.seen ++ p.0 ≡ h
  with_rest v h p = p.1

  module _ {L : Type 0} (stands : B → List SampleRange → Type 0) (label : B → L) (k : Opening B) where
    Kept : State (Option B) (View B) → Type 0
    Kept = IsKept stands label k

    book_same : (out : Bool) (h g : List Entry) (s : State (Option B) (View B)) (words : List ℕ) (i : ℕ) (v w : View B)
        → get_elem? s.views i ≡ some v → w.holds ≡ v.holds → w.live ≡ v.live → deposits_of g ≡ deposits_of h
        → MatchBool out (IsOut s) (IsHome stands label k h s)
        → MatchBool out (IsOut (record { words = words; homes = s.homes; views = set s.views i w })) (IsHome stands label k g (record { words = words; homes = s.homes; views = set s.views i w }))
    book_same true h g s words i v w there holds live same b = record { holder = b.holder; there = b.there; alone = alone_set s.views i b.holder v w there holds live b.alone }
    book_same false h g s words i v w there holds live same b = record {
      book = b.book;
      there = b.there;
      is = subst (λ d. IsBook stands label k d b.book) (sym same) b.is;
      free = none_set s.views i v w there holds live b.free;
    }

    module _ (s : State (Option B) (View B)) (kept : IsKept stands label k s) (id : ℕ) (v : View B) (there : get_elem? s.views id ≡ some v) (live : v.live ≡ true) where
      h : List Entry
      h = kept.history

      g : Gate
      g = gate_of k.target kept.history

      seat_is : IsSeat k kept.made kept.history v
      seat_is = kept.seats.each id v there live

      pub gate_small : IsGate (gate_of k.target kept.history)
      gate_small =
          let sound = sound_history k.target k.block kept.target kept.block kept.history kept.legal in
          (sound.next, sound.target)

      pub word_found : slice_index s.words 0 ≡ gate_word (gate_of k.target kept.history)
      word_found = ap (λ (l : List ℕ). slice_index l 0) kept.words

      words_now : (n : ℕ) → set s.words 0 n ≡ n ∷ turn_word kept.out (length (deposits_of kept.history)) ∷ []
      words_now n = ap (λ (l : List ℕ). set l 0 n) kept.words

      rest_is : v.seen ++ seat_is.seen.0 ≡ kept.history
      unfolding seat_is
      rest_is = (kept.seats.each id v there live).seen.1

      -- the seat sees the whole history
      pub sees_kept : (word : ℕ) → word ≡ gate_word (gate_of k.target kept.history)
          → IsKept stands label k (record { words = set s.words 0 word; homes = s.homes; views = set s.views id (with_seen v kept.history) })
          × Sees v (gate_of k.target kept.history) (with_seen v kept.history)
      sees_kept word is =
          let seat = kept.seats.each id v there live in
          let w = with_seen v kept.history in
          let own : IsSeat k kept.made kept.history w = seen_seat k kept.made kept.history v v.holds seat in (
            record {
              history = kept.history;
              made = kept.made;
              out = kept.out;
              target = kept.target;
              block = kept.block;
              legal = kept.legal;
              words = words_now word ∙ ap (λ n. n ∷ turn_word kept.out (length (deposits_of kept.history)) ∷ []) is;
              book = book_same kept.out kept.history kept.history s (set s.words 0 word) id v w there refl refl refl kept.book;
              seats = set_seats k kept.made kept.history kept.history s.views id v w kept.seats there live (λ n. refl) own (λ j u at ne alive. kept.seats.each j u at alive);
              unmade = kept.unmade;
            },
            record {
              between = seat.seen.0;
              view = ap (with_seen v) (sym seat.seen.1);
              gate = ap (λ t. gate_of t (v.seen ++ seat.seen.0)) seat.target ∙ ap (gate_of k.target) seat.seen.1;
              sound = sound_seat k kept.made kept.history w kept.target kept.block kept.legal kept.unmade own;
              found = λ holds. sym (seat.found holds);
            },
          )

      -- the seat makes a call that deposits nothing
      pub makes_kept : (call : Call) (word : ℕ) → deposit_in call ≡ [] → may_come kept.history call ≡ true
          → word ≡ gate_word (gate_after (gate_of k.target kept.history) call (reply_of v.block (gate_of k.target kept.history) (deposits_of kept.history) call))
          → let e = entry v.number call (reply_of v.block (gate_of k.target kept.history) (deposits_of kept.history) call) in
          IsKept stands label k (record { words = set s.words 0 word; homes = s.homes; views = set s.views id (with_call v kept.history e) })
          × Makes v call (gate_of k.target kept.history) (with_call v kept.history e)
      makes_kept call word no_deposit may is =
          let seat = kept.seats.each id v there live in
          let reply = reply_of v.block (gate_of k.target kept.history) (deposits_of kept.history) call in
          let e = entry v.number call reply in
          let w = with_call v kept.history e in
          let follows : Follows k.target k.block kept.history e = (ap (λ b. reply_of b (gate_of k.target kept.history) (deposits_of kept.history) call) seat.block, may) in
          let no_out : (first count : ℕ) → call ≡ Deposit first count → has_range (out_of v.calls) (range first count) ≡ true = λ first count c. absurd (no_cons (range first count) (sym no_deposit ∙ ap deposit_in c)) in
          let held : (j : ℕ) (u : View B) → get_elem? s.views j ≡ some u → (j ≡ id → ⊥) → u.live ≡ true → u.holds ≡ true → deposit_in e.call ≡ [] = λ j u at ne alive holds. no_deposit in
          let own : IsSeat k kept.made (kept.history ++ e ∷ []) w = own_seat k kept.made kept.history s.views kept.target kept.block kept.legal kept.seats id v there live e refl follows no_out v.holds in
          let legal = legal_now k kept.made kept.history s.views kept.target kept.block kept.legal kept.seats id v there live e refl follows no_out in
          let unmade = unmade_push k kept.made kept.history s.views kept.target kept.block kept.legal kept.seats id v there live e refl follows no_out kept.unmade in
          let deposits : deposits_of (kept.history ++ e ∷ []) ≡ deposits_of kept.history = deposits_push kept.history e ∙ (ap (λ l. deposits_of kept.history ++ l) no_deposit ∙ append-nil (deposits_of kept.history)) in
          let same_reply : (l : List Entry) → l ≡ kept.history → entry v.number call (reply_of v.block (gate_of k.target kept.history) (deposits_of l) call) ≡ e = λ l q. ap (λ l. entry v.number call (reply_of v.block (gate_of k.target kept.history) (deposits_of l) call)) q in (
            record {
              history = kept.history ++ e ∷ [];
              made = kept.made;
              out = kept.out;
              target = kept.target;
              block = kept.block;
              legal = legal;
              words =
                  words_now word
                  ∙ (ap (λ n. n ∷ turn_word kept.out (length (deposits_of kept.history)) ∷ []) (is ∙ ap gate_word (sym (gate_push k.target kept.history e)))
                  ∙ ap (λ d. gate_word (gate_of k.target (kept.history ++ e ∷ [])) ∷ turn_word kept.out (length d) ∷ []) (sym deposits));
              book = book_same kept.out kept.history (kept.history ++ e ∷ []) s (set s.words 0 word) id v w there refl refl deposits kept.book;
              seats = pushed_seats k kept.made kept.history s.views kept.target kept.block kept.legal kept.seats id v there live e refl follows no_out v.holds held;
              unmade = unmade;
            },
            record {
              between = seat.seen.0;
              view = ap (λ l. with_call v l (entry v.number call (reply_of v.block (gate_of k.target kept.history) (deposits_of l) call))) (sym seat.seen.1);
              gate = ap (λ t. gate_of t (v.seen ++ seat.seen.0)) seat.target ∙ ap (gate_of k.target) seat.seen.1;
              sound = sound_seat k kept.made (kept.history ++ e ∷ []) w kept.target kept.block legal unmade own;
              found = λ holds. deposits ∙ sym (seat.found holds);
            },
          )
        where
          no_cons : {A : Type 0} (x : A) → [] ≡ x ∷ [] → ⊥
          no_cons x q = cc

  -- ---- the looks

  looked_still : (v : View B) (g : Gate) (ds : List SampleRange) (call : Call) → MayLook v call → takes_exchange (reply_of v.block g [] call) ≡ false
      → gate_after g call (reply_of v.block g ds call) ≡ g
  looked_still v g ds Claim may still = claim_still v.block g still
  looked_still v g ds (Extend more) may still = extend_still g more still
  looked_still v g ds Seal may still = absurd may
  looked_still v g ds Cancel may still = absurd may
  looked_still v g ds AskProgress may still = gate_still g
  looked_still v g ds (Deposit first count) may still = absurd may
  looked_still v g ds AskInterim may still = gate_still g

  looked_no_deposit : (v : View B) (call : Call) → MayLook v call → deposit_in call ≡ []
  looked_no_deposit v Claim may = refl
  looked_no_deposit v (Extend more) may = refl
  looked_no_deposit v Seal may = refl
  looked_no_deposit v Cancel may = refl
  looked_no_deposit v AskProgress may = refl
  looked_no_deposit v (Deposit first count) may = absurd may
  looked_no_deposit v AskInterim may = refl

  looked_may : (v : View B) (h : List Entry) (call : Call) → MayLook v call → may_come h call ≡ true
  looked_may v h Claim may = refl
  looked_may v h (Extend more) may = refl
  looked_may v h Seal may = refl
  looked_may v h Cancel may = refl
  looked_may v h AskProgress may = refl
  looked_may v h (Deposit first count) may = absurd may
  looked_may v h AskInterim may = refl

  module _ {L : Type 0} (stands : B → List SampleRange → Type 0) (label : B → L) (k : Opening B) (slots id : ℕ) (v : View B) (c : List (ℕ × Option B)) (live : v.live ≡ true) where
    pub look_allows : (st : Step (Option B)) (call : Call) → MayLook v call → Allows (IsKept stands label k) slots id (v, c) 0 (λ n. n) (Looked call st (v, c))
    look_allows st call may s kept len there small =
        let g = gate_of k.target kept.history in
        let n = slice_index s.words 0 in
        let found = word_found stands label k s kept id v there live in
        let gate = gate_small stands label k s kept id v there live in
        elim (cases_Bool (takes_exchange (reply_of v.block g [] call))) [
          | inl moves ↦
              let step = sees_kept stands label k s kept id v there live n found in
              (with_seen v kept.history, keeps, tt, step.0, (refl, (g, gate, found, rw moves step.1)))
          | inr still ↦
              let reply = reply_of v.block g (deposits_of kept.history) call in
              let stays = looked_still v g (deposits_of kept.history) call may still in
              let step = makes_kept stands label k s kept id v there live call n (looked_no_deposit v call may) (looked_may v kept.history call may) (found ∙ ap gate_word (sym stays)) in
              (with_call v kept.history (entry v.number call reply), keeps, tt, step.0, (refl, (g, gate, found, rw still step.1)))
        ]

    -- ---- the exchanges and the marks

    between_cases : (old new : Gate) (P : Call → Type 0) → P Claim → ((more : ℕ) → P (Extend more)) → P (call_between old new)
    between_cases old new P a b =
        elim (cases_Bool (old.next == new.next)) [
          | inl same ↦ rw same (b (new.target - old.target))
          | inr moves ↦ rw moves a
        ]

    pub exchange_allows : (said : Option (Option B)) (old new : Gate) → IsExchange v.block old new
        → Allows (IsKept stands label k) slots id (v, c) 0 (λ n. either (n == gate_word old) (gate_word new) n) (Exchanged (call_between old new) (record { slots = slots; word = 0; first = gate_word old; second = gate_word new; said = none }) (v, c))
    exchange_allows said old new is s kept len there small =
        let g = gate_of k.target kept.history in
        let n = slice_index s.words 0 in
        let call = call_between old new in
        let found = word_found stands label k s kept id v there live in
        let gate = gate_small stands label k s kept id v there live in
        elim (cases_Bool (n == gate_word old)) [
          | inl hit ↦
              let same : old ≡ g = word_same old g is.0 gate (sym (eqb-true n (gate_word old) hit) ∙ found) in
              let reply = reply_of v.block g (deposits_of kept.history) call in
              let no_deposit : deposit_in call ≡ [] = between_cases old new (λ call. deposit_in call ≡ []) refl (λ more. refl) in
              let may : may_come kept.history call ≡ true = between_cases old new (λ call. may_come kept.history call ≡ true) refl (λ more. refl) in
              let replies : reply_of v.block old [] call ≡ reply_of v.block g (deposits_of kept.history) call =
              ap (λ x. reply_of v.block x [] call) same ∙ between_cases old new (λ call. reply_of v.block g [] call ≡ reply_of v.block g (deposits_of kept.history) call) refl (λ more. refl) in
              let word : gate_word new ≡ gate_word (gate_after g call reply) =
              ap gate_word (is.3 ∙ (ap (λ x. gate_after x call (reply_of v.block old [] call)) same ∙ ap (gate_after g call) replies)) in
              let made = makes_kept stands label k s kept id v there live call (gate_word new) no_deposit may word in
              let w = with_call v kept.history (entry v.number call reply) in
              rw hit (w, keeps, tt, made.0, (refl, (g, gate, found, made.1)))
          | inr miss ↦
              let seen = sees_kept stands label k s kept id v there live n found in
              rw miss (with_seen v kept.history, keeps, tt, seen.0, (refl, (g, gate, found, seen.1)))
        ]

    pub seal_allows : (st : Step (Option B)) → Allows (IsKept stands label k) slots id (v, c) 0 (λ n. bit_or n (2 ^ 40)) (Marks Seal st (v, c))
    seal_allows st s kept len there small =
        let g = gate_of k.target kept.history in
        let n = slice_index s.words 0 in
        let found = word_found stands label k s kept id v there live in
        let gate = gate_small stands label k s kept id v there live in
        let word : bit_or n (2 ^ 40) ≡ gate_word (gate_after g Seal Marked) = ap (λ m. bit_or m (2 ^ 40)) found ∙ (word_sealed g gate ∙ ap gate_word (sym (gate_sealed g))) in
        let made = makes_kept stands label k s kept id v there live Seal (bit_or n (2 ^ 40)) refl refl word in
        (with_call v kept.history (entry v.number Seal Marked), keeps, tt, made.0, (refl, (g, gate, found, made.1)))

    pub cancel_allows : (st : Step (Option B)) → Allows (IsKept stands label k) slots id (v, c) 0 (λ n. bit_or n (2 ^ 41)) (Marks Cancel st (v, c))
    cancel_allows st s kept len there small =
        let g = gate_of k.target kept.history in
        let n = slice_index s.words 0 in
        let found = word_found stands label k s kept id v there live in
        let gate = gate_small stands label k s kept id v there live in
        let word : bit_or n (2 ^ 41) ≡ gate_word (gate_after g Cancel Marked) = ap (λ m. bit_or m (2 ^ 41)) found ∙ (word_cancelled g gate ∙ ap gate_word (sym (gate_cancelled g))) in
        let made = makes_kept stands label k s kept id v there live Cancel (bit_or n (2 ^ 41)) refl refl word in
        (with_call v kept.history (entry v.number Cancel Marked), keeps, tt, made.0, (refl, (g, gate, found, made.1)))
