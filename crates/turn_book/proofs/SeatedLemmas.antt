-- A seat stays one of its book at each step.
use Rattle.std.proofs.Common.{◌≡◌, ℕ, ◌-◌, ◌/◌, ◌%◌, ◌<◌, ◌≤◌, ◌==◌, Bool, true, false, cond, List, [], ◌∷◌, length, nat_lt, Option, Some, MatchBool, inl, inr, refl, ap, sym, ◌∙◌, subst, arith}
use Rattle.std.proofs.lemmas.Bool.{false≢true, eq-eqb, eqb-true, ne_eqb, or_cases, ltb-true, ltb-false, MatchBool-at_true, MatchBool-at_false}
use Rattle.campaign_core.specs.declared.gate.Gate.{Gate}
use Rattle.campaign_core.specs.declared.run.SampleRange.{SampleRange}
use Rattle.campaign_core.specs.declared.call.Call.{Call}
use Rattle.campaign_core.specs.declared.call.Entry.{Entry}
use Rattle.campaign_core.specs.History.{reply_of, ranges_of, deposits_of}
use Rattle.turn_book.specs.declared.view.View.{View}
use Rattle.turn_book.specs.declared.seats.TurnBook.{TurnBook}
use Rattle.turn_book.specs.declared.seats.BookSeat.{BookSeat}
use Rattle.turn_book.specs.Words.{gate_word, turn_word, IsGate}
use Rattle.turn_book.specs.Steps.{Carrier, Found, Took}
use Rattle.atomic_table.specs.Table.{Step, rest}
use mathlib.Core.List.{IsPrefix}
use Rattle.campaign_core.specs.Ranges.{range, has_range}
use Rattle.campaign_core.proofs.WithoutLaws.{has-nil, has-without}
use Rattle.campaign_core.proofs.HistoryLaws.{ranges-nil, deposits-nil, calls-nil, prefix_self}
use Rattle.turn_book.proofs.SeatLemmas.{owns_self}
use Rattle.turn_book.proofs.JoinLemmas.{one_small}
use Rattle.ra_base.specs.declared.limits.TheConstants.{MOST_SAMPLES}
use Rattle.campaign_core.proofs.MachineLaws.{machine_at, sound_history, sound_few}
use Rattle.turn_book.proofs.WordLemmas.{word_same}
use Rattle.turn_book.specs.Views.{takes_exchange, IsSameSeat, IsSound, KeepsFound, Sees, Makes, Looks, Takes, Deposits, TakesIn, owns, with_seen, newcomer, taken_in, settled}
use Rattle.turn_book.specs.Seated.{IsOf, view_of, slots_of}

module _ {B L : Type 0} (book : TurnBook B L) (s t : BookSeat B) (of : IsOf book s) where
  -- the parts of a view that steps of the gate leave
  pub record Stays (v w : View B) : Type 0 where
    pub live : w.live ≡ v.live
    pub first : w.first ≡ v.first
    pub target : w.target ≡ v.target
    pub block : w.block ≡ v.block
    pub also : w.also ≡ v.also
    pub holds : w.holds ≡ v.holds

  pub of_stays : t.seat.table_id ≡ s.seat.table_id → t.seat.me.1 ≡ s.seat.me.1 → t.turn ≡ s.turn → Stays (view_of s) (view_of t)
      → KeepsFound (view_of s) (view_of t) → IsSound (view_of t) → IsOf book t
  of_stays table slots turn stays found sound = record {
    table = table ∙ of.table;
    live = stays.live ∙ of.live;
    first = stays.first ∙ of.first;
    target = stays.target ∙ of.target;
    block = stays.block ∙ of.block;
    also = stays.also ∙ of.also;
    slots = slots ∙ (of.slots ∙ ap slots_of (sym stays.holds));
    turn = λ holds. let held = sym stays.holds ∙ holds in turn ∙ (of.turn held ∙ ap (λ d. turn_word false (length d)) (sym (found held)));
    sound = sound;
  }

  stays_seen : (seen calls : List Entry) → view_of t ≡ record (view_of s) { seen = seen; calls = calls } → Stays (view_of s) (view_of t)
  stays_seen seen calls is = record {
    live = ap (λ (v : View B). v.live) is;
    first = ap (λ (v : View B). v.first) is;
    target = ap (λ (v : View B). v.target) is;
    block = ap (λ (v : View B). v.block) is;
    also = ap (λ (v : View B). v.also) is;
    holds = ap (λ (v : View B). v.holds) is;
  }

  pub of_sees : (g : Gate) → t.seat.table_id ≡ s.seat.table_id → t.seat.me.1 ≡ s.seat.me.1 → t.turn ≡ s.turn → Sees (view_of s) g (view_of t) → IsOf book t
  of_sees g table slots turn sees =
      of_stays table slots turn (stays_seen _ (view_of s).calls sees.view) sees.found sees.sound

  pub of_makes : (call : Call) (g : Gate) → t.seat.table_id ≡ s.seat.table_id → t.seat.me.1 ≡ s.seat.me.1 → t.turn ≡ s.turn → Makes (view_of s) call g (view_of t) → IsOf book t
  of_makes call g table slots turn makes =
      of_stays table slots turn (stays_seen _ _ makes.view) makes.found makes.sound

  either_way : (b : Bool) (call : Call) (g : Gate) → t.seat.table_id ≡ s.seat.table_id → t.seat.me.1 ≡ s.seat.me.1 → t.turn ≡ s.turn
      → MatchBool b (Sees (view_of s) g (view_of t)) (Makes (view_of s) call g (view_of t)) → IsOf book t
  either_way true call g table slots turn sees = of_sees g table slots turn sees
  either_way false call g table slots turn makes = of_makes call g table slots turn makes

  pub of_looks : (call : Call) (g : Gate) → t.seat.table_id ≡ s.seat.table_id → t.seat.me.1 ≡ s.seat.me.1 → t.turn ≡ s.turn → Looks (view_of s) call g (view_of t) → IsOf book t
  of_looks call g table slots turn looks = either_way (takes_exchange (reply_of (view_of s).block g [] call)) call g table slots turn looks

  pub of_exchanged : (b : Bool) (call : Call) (g : Gate) → t.seat.table_id ≡ s.seat.table_id → t.seat.me.1 ≡ s.seat.me.1 → t.turn ≡ s.turn
      → MatchBool b (Makes (view_of s) call g (view_of t)) (Sees (view_of s) g (view_of t)) → IsOf book t
  of_exchanged true call g table slots turn makes = of_makes call g table slots turn makes
  of_exchanged false call g table slots turn sees = of_sees g table slots turn sees

-- an exchange that found the gate that was expected
pub exchanged_made : {B : Type 0} (found expected : ℕ) (old : Gate) (call asked : Call) (v w : View B) → IsGate old → expected ≡ gate_word old → found ≡ expected → asked ≡ call
    → Found found (λ g. MatchBool (found == expected) (Makes v asked g w) (Sees v g w)) → Makes v call old w
exchanged_made {B} found expected old call asked v w small e hit is f =
    let same : f.0 ≡ old = word_same f.0 old f.1 small (sym f.2 ∙ (hit ∙ e)) in
    subst (λ (x : Gate). Makes v call x w) same (subst (λ (x : Call). Makes v x f.0 w) is (MatchBool-at_true (Makes v asked f.0 w) (Sees v f.0 w) (eq-eqb found expected hit) f.3))

-- there are few deposits
pub few_deposits : {B : Type 0} (v : View B) → IsSound v → length (deposits_of v.seen) ≤ MOST_SAMPLES
few_deposits v sound =
    let s = sound_history v.target v.block sound.target sound.block v.seen sound.legal in
    omega (arith, sound_few (machine_at v.target v.block v.seen) s, s.next, s.target)

-- where an exchange of the turn found another word, nothing changed
pub took_nothing : {B L : Type 0} (stands : B → List SampleRange → Type 0) (label : B → L) (st : Step (Option B)) (m w : Carrier B) (found : ℕ) → (found ≡ st.first → ⊥)
    → Took stands label st m found w → w ≡ m
took_nothing stands label st m w found ne t = MatchBool-at_false _ (w ≡ m) (ne_eqb found st.first ne) t

pub took_book : {B L : Type 0} (stands : B → List SampleRange → Type 0) (label : B → L) (st : Step (Option B)) (m w : Carrier B) (found : ℕ) → found ≡ st.first
    → Took stands label st m found w
    → (book : B) × (w.1 ≡ (0, Some book) ∷ m.1) × Takes m.0 w.0 × stands book (deposits_of w.0.seen) × ((first : B) → m.0.first ≡ Some first → label book ≡ label first)
    × (found ≡ turn_word false (length (deposits_of w.0.seen)))
took_book stands label st m w found e t = MatchBool-at_true _ (w ≡ m) (eq-eqb found st.first e) t

pub even_turn : (n : ℕ) → (deposits : ℕ) × (n - n % 2 ≡ turn_word false deposits)
even_turn n = (n / 2, omega arith)

-- ---- the book is back, a seat is made, a seat takes in another

pub of_deposits : {B L : Type 0} (book : TurnBook B L) (s t : BookSeat B) → IsOf book s → t.seat.table_id ≡ s.seat.table_id → t.seat.me.1 ≡ []
    → (first count number : ℕ) → Deposits (view_of s) first count number (view_of t) → IsOf book t
of_deposits {B} book s t of table slots first count number d =
    let holds : (view_of t).holds ≡ false = ap (λ (v : View B). v.holds) d.view in
    record {
      table = table ∙ of.table;
      live = ap (λ (v : View B). v.live) d.view ∙ of.live;
      first = ap (λ (v : View B). v.first) d.view ∙ of.first;
      target = ap (λ (v : View B). v.target) d.view ∙ of.target;
      block = ap (λ (v : View B). v.block) d.view ∙ of.block;
      also = ap (λ (v : View B). v.also) d.view ∙ of.also;
      slots = slots ∙ ap slots_of (sym holds);
      turn = λ h. absurd (false≢true (sym holds ∙ h));
      sound = d.sound;
    }

pub sound_newcomer : {B : Type 0} (v : View B) → IsSound v → v.number ≡ 0 → 0 < v.made → IsSound (newcomer v)
sound_newcomer v sound opening some_made =
    let own : (n : ℕ) → owns (newcomer v) n ≡ true → v.made ≡ n = λ n h. elim (or_cases (v.made == n) false h) [
      | inl e ↦ eqb-true v.made n e
      | inr f ↦ absurd (false≢true f)
    ] in
    record {
      target = sound.target;
      block = sound.block;
      legal = sound.legal;
      mine = λ n h. let e = own n h in sound.callers opening n (omega arith) ∙ sym (calls-nil n);
      others = λ n h. calls-nil n;
      out = λ first count h. absurd (false≢true (sym (has-without (deposits_of []) (ranges_of []) (range first count) ∙ rw (ranges-nil, has-nil (range first count)) refl) ∙ h));
      given = λ r h. absurd (false≢true (sym (ap (λ l. has_range l r) deposits-nil ∙ has-nil r) ∙ h));
      apart = λ n. one_small n v.made;
      below = λ z. absurd (omega arith);
      callers = λ z. absurd (omega arith);
    }

pub of_newcomer : {B L : Type 0} (book : TurnBook B L) (s t : BookSeat B) → IsOf book s → (view_of s).number ≡ 0 → t.seat.table_id ≡ s.seat.table_id
    → t.seat.me ≡ (newcomer (view_of s), []) → IsOf book t
of_newcomer {B} book s t of opening table me =
    let view : view_of t ≡ newcomer (view_of s) = ap (λ (m : Carrier B). m.0) me in
    let holds : (view_of t).holds ≡ false = ap (λ (v : View B). v.holds) view in
    let under = of.sound.below opening (view_of s).number (owns_self (view_of s)) in
    record {
      table = table ∙ of.table;
      live = ap (λ (v : View B). v.live) view;
      first = ap (λ (v : View B). v.first) view ∙ of.first;
      target = ap (λ (v : View B). v.target) view ∙ of.target;
      block = ap (λ (v : View B). v.block) view ∙ of.block;
      also = ap (λ (v : View B). v.also) view;
      slots = ap (λ (m : Carrier B). m.1) me ∙ ap slots_of (sym holds);
      turn = λ h. absurd (false≢true (sym holds ∙ h));
      sound = subst IsSound (sym view) (sound_newcomer (view_of s) of.sound opening (omega arith));
    }

pub taken_shorter : {B : Type 0} (v w : View B) → length (taken_in v w).also ≤ length (taken_in v w).seen
taken_shorter v w = go (nat_lt (length v.seen) (length w.seen)) refl
  where
    go : (b : Bool) → nat_lt (length v.seen) (length w.seen) ≡ b → length (cond b v.seen w.seen) ≤ length (cond b w.seen v.seen)
    go true e = omega (arith, ltb-true (length v.seen) (length w.seen) e)
    go false e = ltb-false (length v.seen) (length w.seen) e

-- what a seat knows after it took in another and settled
pub takes_in : {B : Type 0} (v other m w : View B) → m ≡ taken_in v other → w ≡ settled m → IsPrefix m.also m.seen → IsSound w → TakesIn v other w
takes_in {B} v other m w joined is also sound = go (nat_lt (length v.seen) (length other.seen)) refl
  where
    go : (b : Bool) → nat_lt (length v.seen) (length other.seen) ≡ b → TakesIn v other w
    go true e =
        let seen : m.seen ≡ other.seen = ap (λ (x : View B). x.seen) joined ∙ ap (λ b. cond b other.seen v.seen) e in
        let beside : m.also ≡ v.seen = ap (λ (x : View B). x.also) joined ∙ ap (λ b. cond b v.seen other.seen) e in
        record {
          seen = m.seen;
          one = inr seen;
          keep_begins = subst (λ l. IsPrefix l m.seen) beside also;
          other_begins = subst (λ l. IsPrefix other.seen l) (sym seen) (prefix_self other.seen);
          view = is ∙ subst (λ (x : View B). settled m ≡ settled (with_seen x m.seen)) joined refl;
          sound = sound;
        }
    go false e =
        let seen : m.seen ≡ v.seen = ap (λ (x : View B). x.seen) joined ∙ ap (λ b. cond b other.seen v.seen) e in
        let beside : m.also ≡ other.seen = ap (λ (x : View B). x.also) joined ∙ ap (λ b. cond b v.seen other.seen) e in
        record {
          seen = m.seen;
          one = inl seen;
          keep_begins = subst (λ l. IsPrefix v.seen l) (sym seen) (prefix_self v.seen);
          other_begins = subst (λ l. IsPrefix l m.seen) beside also;
          view = is ∙ subst (λ (x : View B). settled m ≡ settled (with_seen x m.seen)) joined refl;
          sound = sound;
        }

pub of_taken_in : {B L : Type 0} (book : TurnBook B L) (s t : BookSeat B) (other : View B) → IsOf book s → (view_of s).holds ≡ false → t.seat.table_id ≡ s.seat.table_id
    → t.seat.me.1 ≡ s.seat.me.1 → TakesIn (view_of s) other (view_of t) → IsOf book t
of_taken_in {B} book s t other of free table slots d =
    let holds : (view_of t).holds ≡ false = ap (λ (v : View B). v.holds) d.view ∙ free in
    record {
      table = table ∙ of.table;
      live = ap (λ (v : View B). v.live) d.view ∙ of.live;
      first = ap (λ (v : View B). v.first) d.view ∙ of.first;
      target = ap (λ (v : View B). v.target) d.view ∙ of.target;
      block = ap (λ (v : View B). v.block) d.view ∙ of.block;
      also = ap (λ (v : View B). v.also) d.view;
      slots = slots ∙ (of.slots ∙ ap slots_of (free ∙ sym holds));
      turn = λ h. absurd (false≢true (sym holds ∙ h));
      sound = d.sound;
    }

-- the slot of the book that was just taken
pub taken_slot : {B : Type 0} (old new : List (ℕ × Option B)) (book : B) → new ≡ (0, Some book) ∷ old → (x : Option B) × (new ≡ (0, x) ∷ rest new)
taken_slot old new book e = (Some book, e ∙ ap (λ l. (0, Some book) ∷ l) (sym (ap rest e)))

-- ---- what stays of a seat at steps of the gate

module _ {B : Type 0} where
  same_seen : (v w : View B) (seen calls : List Entry) → w ≡ record v { seen = seen; calls = calls } → IsSameSeat v w
  same_seen v w seen calls is = record {
    number = ap (λ (x : View B). x.number) is;
    made = ap (λ (x : View B). x.made) is;
    joined = ap (λ (x : View B). x.joined) is;
    holds = ap (λ (x : View B). x.holds) is;
    target = ap (λ (x : View B). x.target) is;
    block = ap (λ (x : View B). x.block) is;
  }

  pub same_sees : (v : View B) (g : Gate) (w : View B) → Sees v g w → IsSameSeat v w
  same_sees v g w s = same_seen v w _ v.calls s.view

  pub same_makes : (v : View B) (call : Call) (g : Gate) (w : View B) → Makes v call g w → IsSameSeat v w
  same_makes v call g w s = same_seen v w _ _ s.view

  same_either : (b : Bool) (v : View B) (call : Call) (g : Gate) (w : View B) → MatchBool b (Sees v g w) (Makes v call g w) → IsSameSeat v w
  same_either true v call g w s = same_sees v g w s
  same_either false v call g w s = same_makes v call g w s

  pub same_looks : (v : View B) (call : Call) (g : Gate) (w : View B) → Looks v call g w → IsSameSeat v w
  same_looks v call g w s = same_either (takes_exchange (reply_of v.block g [] call)) v call g w s

  pub same_exchanged : (b : Bool) (v : View B) (call : Call) (g : Gate) (w : View B) → MatchBool b (Makes v call g w) (Sees v g w) → IsSameSeat v w
  same_exchanged true v call g w s = same_makes v call g w s
  same_exchanged false v call g w s = same_sees v g w s
