-- Seats that fit a history, when the history grows or one of them sees more of it.
use Rattle.std.proofs.Common.{◌≡◌, ℕ, ◌<◌, ◌≤◌, inl, inr, Bool, true, false, ◌||◌, not, List, [], ◌∷◌, ◌++◌, set, refl, ap, sym, ◌∙◌, subst, arith}
use Rattle.std.proofs.lemmas.Bool.{cases_Bool, cases_eq, eq-eqb, and_parts, or_cases, or_left, or_parts, not-true, false≢true, false_from_ne_true}
use Rattle.std.proofs.lemmas.List.{append-nil}
use mathlib.Core.Option.{some}
use lib.ListN.{get_elem?}
use Rattle.atomic_table.proofs.Lists.{at_set}
use Rattle.ra_base.specs.declared.limits.TheConstants.{MOST_SAMPLES, MOST_BLOCK}
use Rattle.campaign_core.specs.declared.run.SampleRange.{SampleRange}
use Rattle.campaign_core.specs.declared.call.Call.{Call}
use Rattle.campaign_core.specs.declared.call.Call.TheVariants.{Claim, Extend, Seal, Cancel, Deposit}
use Rattle.campaign_core.specs.declared.call.Call.TheVariants.{Progress as AskProgress, Interim as AskInterim}
use Rattle.campaign_core.specs.declared.call.Entry.{Entry}
use Rattle.campaign_core.specs.Ranges.{range, has_range, without}
use Rattle.campaign_core.specs.History.{range_in, deposit_in, ranges_of, deposits_of, out_of, calls_of, Follows, IsLegal}
use Rattle.campaign_core.proofs.WithoutLaws.{same_is, has-nil, has-one, has-append, has-without}
use Rattle.campaign_core.proofs.HistoryLaws.{ranges_push, deposits_push, deposits-append, ranges-nil, legal_push, legal_prefix, prefix_self, prefix_trans, prefix_append}
use Rattle.campaign_core.proofs.MachineLaws.{machine_at, sound_history, fresh}
use Rattle.campaign_core.proofs.GivenLaws.{calls_push_own, calls_push_other, calls_none, one_owner, some_owner, owned_given, given_filled}
use Rattle.turn_book.specs.declared.view.View.{View}
use Rattle.turn_book.specs.declared.view.Opening.{Opening}
use Rattle.turn_book.specs.Views.{owns, with_seen, with_call, with_hold, IsSound}
use Rattle.turn_book.specs.Kept.{IsSeat, AreApart, AreSeats}

-- the one range that a call deposits
deposit_case : (call : Call) (r : SampleRange) → has_range (deposit_in call) r ≡ true → call ≡ Deposit r.first r.count
deposit_case Claim r h = absurd (false≢true (sym (has-nil r) ∙ h))
deposit_case (Extend more) r h = absurd (false≢true (sym (has-nil r) ∙ h))
deposit_case Seal r h = absurd (false≢true (sym (has-nil r) ∙ h))
deposit_case Cancel r h = absurd (false≢true (sym (has-nil r) ∙ h))
deposit_case AskProgress r h = absurd (false≢true (sym (has-nil r) ∙ h))
deposit_case (Deposit first count) r h =
    let e = same_is (range first count) r (sym (has-one (range first count) r) ∙ h) in
    ap (λ (x : SampleRange). Deposit x.first x.count) e
deposit_case AskInterim r h = absurd (false≢true (sym (has-nil r) ∙ h))

-- what is out was given out and isn't deposited
pub out_parts : (h : List Entry) (r : SampleRange) → has_range (out_of h) r ≡ true → (has_range (ranges_of h) r ≡ true) × (has_range (deposits_of h) r ≡ false)
out_parts h r o =
    let parts = and_parts (has_range (ranges_of h) r) (not (has_range (deposits_of h) r)) (sym (has-without (deposits_of h) (ranges_of h) r) ∙ o) in
    (parts.0, not-true (has_range (deposits_of h) r) parts.1)

pub out_from : (h : List Entry) (r : SampleRange) → has_range (ranges_of h) r ≡ true → has_range (deposits_of h) r ≡ false → has_range (out_of h) r ≡ true
out_from h r given kept = has-without (deposits_of h) (ranges_of h) r ∙ rw (given, kept) refl

module _ {B : Type 0} where
  pub owns_self : (v : View B) → owns v v.number ≡ true
  owns_self v = rw (eq-eqb v.number v.number refl) refl

  -- a seat's range belongs to one of its numbers
  pub seat_owner : (k : Opening B) (made : ℕ) (h : List Entry) (v : View B) → IsSeat k made h v → (r : SampleRange) → has_range (ranges_of v.calls) r ≡ true
      → (n : ℕ) × (owns v n ≡ true) × (has_range (ranges_of (calls_of n h)) r ≡ true)
  seat_owner k made h v seat r has =
      let owner = some_owner v.calls r has in
      let n = owner.0 in
      elim (cases_Bool (owns v n)) [
        | inl own ↦ (n, own, ap (λ l. has_range (ranges_of l) r) (seat.mine n own).0 ∙ owner.1)
        | inr away ↦
            let nothing = ap (λ l. has_range (ranges_of l) r) (seat.others n away) ∙ (ap (λ l. has_range l r) ranges-nil ∙ has-nil r) in
            absurd (false≢true (sym nothing ∙ owner.1))
      ]

  -- a seat of a history is sound
  pub sound_seat : (k : Opening B) (made : ℕ) (h : List Entry) (v : View B)
      → (1 ≤ k.target) × (k.target ≤ MOST_SAMPLES) → (1 ≤ k.block) × (k.block ≤ MOST_BLOCK) → IsLegal k.target k.block h
      → ((n : ℕ) → made ≤ n → calls_of n h ≡ []) → IsSeat k made h v → IsSound v
  sound_seat k made h v o b legal unmade seat = record {
    target = subst (λ t. (1 ≤ t) × (t ≤ MOST_SAMPLES)) (sym seat.target) o;
    block = subst (λ t. (1 ≤ t) × (t ≤ MOST_BLOCK)) (sym seat.block) b;
    legal = subst (λ t. IsLegal t v.block v.seen) (sym seat.target) (subst (λ t. IsLegal k.target t v.seen) (sym seat.block) (legal_prefix k.target k.block v.seen h seat.seen legal));
    mine = λ n own. (seat.mine n own).1;
    others = seat.others;
    out = λ first count o.
        let r = range first count in
        let all : has_range (deposits_of h) r ≡ (has_range (deposits_of v.seen) r || has_range (deposits_of seat.seen.0) r) =
        ap (λ l. has_range (deposits_of l) r) (sym seat.seen.1) ∙ (ap (λ l. has_range l r) (deposits-append v.seen seat.seen.0) ∙ has-append (deposits_of v.seen) (deposits_of seat.seen.0) r) in
        (or_parts (has_range (deposits_of v.seen) r) (has_range (deposits_of seat.seen.0) r) (sym all ∙ seat.out first count o)).0;
    given = seat.given;
    apart = seat.apart;
    below = λ zero_it n own. subst (λ m. n < m) (sym (seat.keeps_made zero_it)) (seat.below n own);
    callers = λ zero_it n le. calls_none n v.seen h seat.seen (unmade n (subst (λ m. m ≤ n) (seat.keeps_made zero_it) le));
  }

  -- views of which one is changed, keeping its numbers
  pub apart_set : (views : List (View B)) (i : ℕ) (v w : View B) → AreApart views → get_elem? views i ≡ some v → v.live ≡ true
      → ((n : ℕ) → owns w n ≡ owns v n) → AreApart (set views i w)
  apart_set views i v w apart there live same j l u x n at_u at_x ne live_u live_x own_u own_x =
      elim (at_set views i j w u at_u) [
        | inl u_here ↦
            elim (at_set views i l w x at_x) [
              | inl x_here ↦ ne (u_here.0 ∙ sym x_here.0)
              | inr x_there ↦
                  apart i l v x n there x_there.1 (λ e. x_there.0 (sym e)) live live_x (sym (same n) ∙ (ap (λ (y : View B). owns y n) u_here.1 ∙ own_u)) own_x
            ]
        | inr u_there ↦
            elim (at_set views i l w x at_x) [
              | inl x_here ↦
                  apart j i u v n u_there.1 there u_there.0 live_u live own_u (sym (same n) ∙ (ap (λ (y : View B). owns y n) x_here.1 ∙ own_x))
              | inr x_there ↦ apart j l u x n u_there.1 x_there.1 ne live_u live_x own_u own_x
            ]
      ]

  pub set_seats : (k : Opening B) (made : ℕ) (h g : List Entry) (views : List (View B)) (i : ℕ) (v w : View B)
      → AreSeats k made h views → get_elem? views i ≡ some v → v.live ≡ true
      → ((n : ℕ) → owns w n ≡ owns v n) → IsSeat k made g w
      → ((j : ℕ) (u : View B) → get_elem? views j ≡ some u → (j ≡ i → ⊥) → u.live ≡ true → IsSeat k made g u)
      → AreSeats k made g (set views i w)
  set_seats k made h g views i v w seats there live same own others = record {
    each = λ j u at alive. elim (at_set views i j w u at) [
      | inl here ↦ subst (IsSeat k made g) here.1 own
      | inr else_where ↦ others j u else_where.1 else_where.0 alive
    ];
    apart = apart_set views i v w seats.apart there live same;
  }

  -- a seat that has seen the whole history
  pub seen_seat : (k : Opening B) (made : ℕ) (h : List Entry) (v : View B) (hold : Bool) → IsSeat k made h v → IsSeat k made h (with_hold hold (with_seen v h))
  seen_seat k made h v hold seat = record {
    first = seat.first;
    target = seat.target;
    block = seat.block;
    seen = prefix_self h;
    also = seat.also;
    mine = λ n own. let m = seat.mine n own in (m.0, m.0);
    others = seat.others;
    out = seat.out;
    given = seat.given;
    apart = seat.apart;
    below = seat.below;
    keeps_made = seat.keeps_made;
    found = λ hold. refl;
  }

  -- ---- a history with one more entry, by the seat v at place i
  module _ (k : Opening B) (made : ℕ) (h : List Entry) (views : List (View B))
      (o : (1 ≤ k.target) × (k.target ≤ MOST_SAMPLES)) (b : (1 ≤ k.block) × (k.block ≤ MOST_BLOCK)) (legal : IsLegal k.target k.block h)
      (seats : AreSeats k made h views) (i : ℕ) (v : View B) (there : get_elem? views i ≡ some v) (live : v.live ≡ true)
      (e : Entry) (caller : e.caller ≡ v.number) (follows : Follows k.target k.block h e)
      (own_out : (first count : ℕ) → e.call ≡ Deposit first count → has_range (out_of v.calls) (range first count) ≡ true) where
    seat_v : IsSeat k made h v
    seat_v = seats.each i v there live

    pub unmade_push : ((n : ℕ) → made ≤ n → calls_of n h ≡ []) → (n : ℕ) → made ≤ n → calls_of n (h ++ e ∷ []) ≡ []
    unmade_push unmade n le =
        let under = seat_v.below v.number (owns_self v) in
        calls_push_other n h e (λ is. omega (arith, caller)) ∙ unmade n le

    -- the deposits with the new one
    deposits_now : (r : SampleRange) → has_range (deposits_of (h ++ e ∷ [])) r ≡ (has_range (deposits_of h) r || has_range (deposit_in e.call) r)
    deposits_now r = ap (λ l. has_range l r) (deposits_push h e) ∙ has-append (deposits_of h) (deposit_in e.call) r

    -- another seat's range isn't the one that is deposited
    not_theirs : (j : ℕ) (u : View B) → get_elem? views j ≡ some u → (j ≡ i → ⊥) → u.live ≡ true → (r : SampleRange) → has_range (ranges_of u.calls) r ≡ true → has_range (deposit_in e.call) r ≡ true → ⊥
    not_theirs j u at ne alive r theirs new =
        let mine = (out_parts v.calls r (own_out r.first r.count (deposit_case e.call r new))).0 in
        let x = seat_owner k made h v seat_v r mine in
        let y = seat_owner k made h u (seats.each j u at alive) r theirs in
        let differ : x.0 ≡ y.0 → ⊥ = λ same. seats.apart i j v u x.0 there at (λ q. ne (sym q)) live alive x.1 (ap (owns u) same ∙ y.1) in
        let full = given_filled k.target k.block o b h legal r (owned_given x.0 h r x.2) in
        one_owner k.target k.block o b h legal x.0 y.0 r differ full x.2 y.2

    pub other_seat : (j : ℕ) (u : View B) → get_elem? views j ≡ some u → (j ≡ i → ⊥) → u.live ≡ true
        → (u.holds ≡ true → deposit_in e.call ≡ []) → IsSeat k made (h ++ e ∷ []) u
    other_seat j u at ne alive held =
        let seat = seats.each j u at alive in
        let longer = prefix_append h (e ∷ []) in
        let strange : (n : ℕ) → owns u n ≡ true → e.caller ≡ n → ⊥ = λ n own is. seats.apart i j v u n there at (λ q. ne (sym q)) live alive (ap (owns v) (sym is ∙ caller) ∙ owns_self v) own in
        record {
          first = seat.first;
          target = seat.target;
          block = seat.block;
          seen = prefix_trans u.seen h (h ++ e ∷ []) seat.seen longer;
          also = prefix_trans u.also h (h ++ e ∷ []) seat.also longer;
          mine = λ n own. let m = seat.mine n own in (calls_push_other n h e (strange n own) ∙ m.0, m.1);
          others = seat.others;
          out = λ first count ou.
              let r = range first count in
              let before = seat.out first count ou in
              let new : has_range (deposit_in e.call) r ≡ false = false_from_ne_true (has_range (deposit_in e.call) r) (not_theirs j u at ne alive r (out_parts u.calls r ou).0) in
              deposits_now r ∙ rw (before, new) refl;
          given = seat.given;
          apart = seat.apart;
          below = seat.below;
          keeps_made = seat.keeps_made;
          found = λ hold. seat.found hold ∙ sym (deposits_push h e ∙ (ap (λ l. deposits_of h ++ l) (held hold) ∙ append-nil (deposits_of h)));
        }

    fresh_range : (r : SampleRange) → has_range (range_in e.reply) r ≡ true → has_range (deposits_of h) r ≡ false
    fresh_range r has =
        let sound = sound_history k.target k.block o b h legal in
        let new : without (deposits_of h) (range_in e.reply) ≡ range_in e.reply = subst (λ reply. without (deposits_of h) (range_in reply) ≡ range_in reply) (sym follows.0) (fresh (machine_at k.target k.block h) e.call sound) in
        let both = sym (has-without (deposits_of h) (range_in e.reply) r) ∙ (ap (λ l. has_range l r) new ∙ has) in
        not-true (has_range (deposits_of h) r) (and_parts (has_range (range_in e.reply) r) (not (has_range (deposits_of h) r)) both).1

    pub own_seat : (hold : Bool) → IsSeat k made (h ++ e ∷ []) (with_hold hold (with_call v h e))
    own_seat hold =
        let seat = seat_v in
        let longer = prefix_append h (e ∷ []) in
        let calls : (n : ℕ) → owns v n ≡ true → calls_of n (h ++ e ∷ []) ≡ calls_of n (v.calls ++ e ∷ []) = λ n own.
        elim (cases_eq e.caller n) [
          | inl is ↦ calls_push_own n h e is ∙ (ap (λ l. l ++ e ∷ []) (seat.mine n own).0 ∙ sym (calls_push_own n v.calls e is))
          | inr off ↦ calls_push_other n h e off ∙ ((seat.mine n own).0 ∙ sym (calls_push_other n v.calls e off))
        ] in
        record {
          first = seat.first;
          target = seat.target;
          block = seat.block;
          seen = prefix_self (h ++ e ∷ []);
          also = prefix_trans v.also h (h ++ e ∷ []) seat.also longer;
          mine = λ n own. (calls n own, calls n own);
          others = λ n away.
              calls_push_other n v.calls e (λ is. false≢true (sym away ∙ (ap (owns v) (sym is ∙ caller) ∙ owns_self v))) ∙ seat.others n away;
          out = λ first count ou.
              let r = range first count in
              let parts = out_parts (v.calls ++ e ∷ []) r ou in
              let given = or_cases (has_range (ranges_of v.calls) r) (has_range (range_in e.reply) r) (sym (ap (λ l. has_range l r) (ranges_push v.calls e) ∙ has-append (ranges_of v.calls) (range_in e.reply) r) ∙ parts.0) in
              let kept = or_parts (has_range (deposits_of v.calls) r) (has_range (deposit_in e.call) r) (sym (ap (λ l. has_range l r) (deposits_push v.calls e) ∙ has-append (deposits_of v.calls) (deposit_in e.call) r) ∙ parts.1) in
              let before : has_range (deposits_of h) r ≡ false =
              elim given [
                | inl old ↦ seat.out first count (out_from v.calls r old kept.0)
                | inr new ↦ fresh_range r new
              ] in
              deposits_now r ∙ rw (before, kept.1) refl;
          given = λ r has.
              let one = or_cases (has_range (deposits_of v.calls) r) (has_range (deposit_in e.call) r) (sym (ap (λ l. has_range l r) (deposits_push v.calls e) ∙ has-append (deposits_of v.calls) (deposit_in e.call) r) ∙ has) in
              let old : has_range (ranges_of v.calls) r ≡ true =
              elim one [
                | inl earlier ↦ seat.given r earlier
                | inr new ↦ (out_parts v.calls r (own_out r.first r.count (deposit_case e.call r new))).0
              ] in
              ap (λ l. has_range l r) (ranges_push v.calls e) ∙ (has-append (ranges_of v.calls) (range_in e.reply) r ∙ or_left (has_range (ranges_of v.calls) r) (has_range (range_in e.reply) r) old);
          apart = seat.apart;
          below = seat.below;
          keeps_made = seat.keeps_made;
          found = λ hold. refl;
        }

    pub pushed_seats : (hold : Bool) → ((j : ℕ) (u : View B) → get_elem? views j ≡ some u → (j ≡ i → ⊥) → u.live ≡ true → u.holds ≡ true → deposit_in e.call ≡ [])
        → AreSeats k made (h ++ e ∷ []) (set views i (with_hold hold (with_call v h e)))
    pushed_seats hold held =
        set_seats k made h (h ++ e ∷ []) views i v (with_hold hold (with_call v h e)) seats there live (λ n. refl) (own_seat hold)
        (λ j u at ne alive. other_seat j u at ne alive (held j u at ne alive))

    pub legal_now : IsLegal k.target k.block (h ++ e ∷ [])
    legal_now = legal_push k.target k.block h e legal follows
