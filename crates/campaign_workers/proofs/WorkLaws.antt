-- Worked stretches of a pass: how they are put together, and what is out behind them.
use Rattle.std.proofs.Common.{◌≡◌, ◌&&◌, ◌||◌, ℕ, Bool, true, false, not, List, [], ◌∷◌, ◌++◌, refl, ap, sym, ◌∙◌, subst, arith, append_assoc}
use Rattle.std.proofs.lemmas.List.{append-nil}
use mathlib.Core.List.{IsPrefix}
use Rattle.campaign_core.specs.declared.gate.Gate.{Gate}
use Rattle.campaign_core.specs.declared.call.Call.{Call}
use Rattle.campaign_core.specs.declared.call.Call.TheVariants.{Claim, Deposit}
use Rattle.campaign_core.specs.declared.call.Reply.{Reply}
use Rattle.campaign_core.specs.declared.call.Reply.TheVariants.{Range, Deposited}
use Rattle.campaign_core.specs.declared.call.Entry.{Entry}
use Rattle.campaign_core.specs.Ranges.{range, is_same, has_range, times}
use Rattle.campaign_core.specs.History.{entry, range_in, deposit_in, ranges_of, deposits_of, out_of}
use Rattle.campaign_core.proofs.Totals.{times-append}
use Rattle.campaign_core.proofs.WithoutLaws.{has-one, has-append, has-without, has_times, first_inside}
use Rattle.campaign_core.proofs.HistoryLaws.{ranges_push, deposits_push, prefix_self, prefix_trans, prefix_append}
use Rattle.turn_book.specs.declared.view.View.{View}
use Rattle.turn_book.specs.Views.{IsSameSeat, IsSound, with_seen, with_call}
use Rattle.campaign.specs.Passes.{Saw, Says, Moves}
use Rattle.campaign.proofs.ApartLaws.{own_apart, own_filled}
use Rattle.campaign_workers.specs.declared.working.WorkEnd.{WorkEnd}
use Rattle.campaign_workers.specs.declared.working.WorkEnd.TheVariants.{Idle, Drained, Cancelled, OutOfMemory}
use Rattle.campaign_workers.specs.Working.{is_work, AreWork, SameOut, Works, Stops, DidWork}

pub work_both : (xs ys : List Entry) → AreWork xs → AreWork ys → AreWork (xs ++ ys)
work_both [] ys a b = b
work_both (x ∷ xs) ys a b = (a.0, work_both xs ys a.1 b)

module _ {B : Type 0} where
  same_self : (v : View B) → IsSameSeat v v
  same_self v = record { number = refl; made = refl; joined = refl; holds = refl; target = refl; block = refl }

  pub same_then : (v u w : View B) → IsSameSeat v u → IsSameSeat u w → IsSameSeat v w
  same_then v u w s t = record {
    number = t.number ∙ s.number;
    made = t.made ∙ s.made;
    joined = t.joined ∙ s.joined;
    holds = t.holds ∙ s.holds;
    target = t.target ∙ s.target;
    block = t.block ∙ s.block;
  }

  -- the seat is the same whatever a pass saw, and whatever it called
  pub same_saw : (v w : View B) → Saw v w → IsSameSeat v w
  same_saw v w saw =
      let same : IsSameSeat v (with_seen v (v.seen ++ saw.between)) =
      record { number = refl; made = refl; joined = refl; holds = refl; target = refl; block = refl } in
      subst (IsSameSeat v) (sym saw.view) same

  pub same_says : (v : View B) (call : Call) (reply : Reply) (w : View B) → Says v call reply w → IsSameSeat v w
  same_says v call reply w says =
      let same : IsSameSeat v (with_call v (v.seen ++ says.between) (entry v.number call reply)) =
      record { number = refl; made = refl; joined = refl; holds = refl; target = refl; block = refl } in
      subst (IsSameSeat v) (sym says.view) same

  -- what a pass had seen begins what it has seen after a call
  pub seen_says : (v : View B) (call : Call) (reply : Reply) (w : View B) → Says v call reply w → IsPrefix v.seen w.seen
  seen_says v call reply w says =
      let e = entry v.number call reply in
      subst (λ (x : View B). IsPrefix v.seen x.seen) (sym says.view)
      (prefix_trans v.seen (v.seen ++ says.between) ((v.seen ++ says.between) ++ e ∷ []) (prefix_append v.seen says.between) (prefix_append (v.seen ++ says.between) (e ∷ [])))

  seen_saw : (v w : View B) → Saw v w → IsPrefix v.seen w.seen
  seen_saw v w saw = subst (λ (x : View B). IsPrefix v.seen x.seen) (sym saw.view) (prefix_append v.seen saw.between)

  calls_says : (v : View B) (call : Call) (reply : Reply) (w : View B) → Says v call reply w → w.calls ≡ v.calls ++ entry v.number call reply ∷ []
  calls_says v call reply w says = ap (λ (x : View B). x.calls) says.view

  calls_saw : (v w : View B) → Saw v w → w.calls ≡ v.calls
  calls_saw v w saw = ap (λ (x : View B). x.calls) saw.view

  pub moved_saw : (v : View B) (before after : Gate) (w : View B) → Moves v before after w → Saw v w
  moved_saw v before after w moves = record {
    between = moves.first ++ moves.second;
    view = moves.view ∙ ap (λ h. with_seen v h) (append_assoc v.seen moves.first moves.second);
  }

  -- ---- stretches

  pub works_none : (v : View B) → Works v v
  works_none v = record {
    done = [];
    calls = sym (append-nil v.calls);
    work = tt;
    seen = prefix_self v.seen;
    same = same_self v;
  }

  pub works_says : (v u : View B) (call : Call) (reply : Reply) (w : View B) → is_work call ≡ true → Works v u → Says u call reply w → Works v w
  works_says v u call reply w work worked says =
      let e = entry u.number call reply in
      record {
        done = worked.done ++ e ∷ [];
        calls = calls_says u call reply w says ∙ (ap (λ l. l ++ e ∷ []) worked.calls ∙ append_assoc v.calls worked.done (e ∷ []));
        work = work_both worked.done (e ∷ []) worked.work (work, tt);
        seen = prefix_trans v.seen u.seen w.seen worked.seen (seen_says u call reply w says);
        same = same_then v u w worked.same (same_says u call reply w says);
      }

  pub works_saw : (v u w : View B) → Works v u → Saw u w → Works v w
  works_saw v u w worked saw = record {
    done = worked.done;
    calls = calls_saw u w saw ∙ worked.calls;
    work = worked.work;
    seen = prefix_trans v.seen u.seen w.seen worked.seen (seen_saw u w saw);
    same = same_then v u w worked.same (same_saw u w saw);
  }

  pub works_then : (v u w : View B) → Works v u → Works u w → Works v w
  works_then v u w one two = record {
    done = one.done ++ two.done;
    calls = two.calls ∙ (ap (λ l. l ++ two.done) one.calls ∙ append_assoc v.calls one.done two.done);
    work = work_both one.done two.done one.work two.work;
    seen = prefix_trans v.seen u.seen w.seen one.seen two.seen;
    same = same_then v u w one.same two.same;
  }

  pub out_then : (v u w : View B) → SameOut v u → SameOut u w → SameOut v w
  out_then v u w one two r = two r ∙ one r

  -- a pass that stopped worked
  pub stops_works : (v : View B) (reply : Reply) (w : View B) → Stops v reply w → Works v w
  stops_works v reply w stops = works_says v stops.last Claim reply w refl stops.worked stops.claimed

  stops_then : (v u : View B) (reply : Reply) (w : View B) → Works v u → SameOut v u → Stops u reply w → Stops v reply w
  stops_then v u reply w worked out stops = record {
    last = stops.last;
    worked = works_then v u stops.last worked stops.worked;
    claimed = stops.claimed;
    out = out_then v u w out stops.out;
  }

  pub did_then : (v u : View B) (end : WorkEnd) (w : View B) → Works v u → SameOut v u → DidWork u end w → DidWork v end w
  did_then v u Idle w worked out did = stops_then v u _ w worked out did
  did_then v u Drained w worked out did = stops_then v u _ w worked out did
  did_then v u Cancelled w worked out did = stops_then v u _ w worked out did
  did_then v u OutOfMemory w worked out did = record { last = did.last; worked = works_then v u did.last worked did.worked; cancelled = did.cancelled }

  -- ---- what is out

  -- a pass that only saw more has out what it had
  pub out_saw : (v w : View B) → Saw v w → SameOut v w
  out_saw v w saw r = ap (λ (x : View B). has_range (out_of x.calls) r) saw.view

  -- so has one whose call gives and deposits nothing
  pub out_says : (v : View B) (call : Call) (reply : Reply) (w : View B) → range_in reply ≡ [] → deposit_in call ≡ [] → Says v call reply w → SameOut v w
  out_says v call reply w gives deposits says r =
      let e = entry v.number call reply in
      let ranges : ranges_of (v.calls ++ e ∷ []) ≡ ranges_of v.calls = ranges_push v.calls e ∙ (ap (λ l. ranges_of v.calls ++ l) gives ∙ append-nil (ranges_of v.calls)) in
      let given : deposits_of (v.calls ++ e ∷ []) ≡ deposits_of v.calls = deposits_push v.calls e ∙ (ap (λ l. deposits_of v.calls ++ l) deposits ∙ append-nil (deposits_of v.calls)) in
      ap (λ (x : View B). has_range (out_of x.calls) r) says.view
      ∙ (has-without (deposits_of (v.calls ++ e ∷ [])) (ranges_of (v.calls ++ e ∷ [])) r
      ∙ (ap (λ l. has_range l r && not (has_range (deposits_of (v.calls ++ e ∷ [])) r)) ranges
      ∙ (ap (λ l. has_range (ranges_of v.calls) r && not (has_range l r)) given ∙ sym (has-without (deposits_of v.calls) (ranges_of v.calls) r))))

  -- so has one that claimed a share and deposited it
  pub out_shared : (v u w : View B) (first count number : ℕ) → IsSound u → Says v Claim (Range first count) u → Says u (Deposit first count) (Deposited number) w → SameOut v w
  out_shared v u w first count number sound claimed deposited r =
      ap (λ (x : View B). has_range (out_of x.calls) r) deposited.view
      ∙ (has-without (deposits_of (u.calls ++ d ∷ [])) (ranges_of (u.calls ++ d ∷ [])) r
      ∙ (ap (λ b. b && not (has_range (deposits_of (u.calls ++ d ∷ [])) r)) given
      ∙ (ap (λ b. (has_range (ranges_of v.calls) r || is_same (range first count) r) && not b) entered
      ∙ (same (has_range (ranges_of v.calls) r) (has_range (deposits_of v.calls) r) (is_same (range first count) r) fresh
      ∙ sym (has-without (deposits_of v.calls) (ranges_of v.calls) r)))))
    where
      c : Entry
      c = entry v.number Claim (Range first count)

      d : Entry
      d = entry u.number (Deposit first count) (Deposited number)

      claimed_ranges : ranges_of u.calls ≡ ranges_of v.calls ++ range first count ∷ []
      claimed_ranges = ap (λ (x : View B). ranges_of x.calls) claimed.view ∙ ranges_push v.calls c

      claimed_deposits : deposits_of u.calls ≡ deposits_of v.calls
      claimed_deposits = ap (λ (x : View B). deposits_of x.calls) claimed.view ∙ (deposits_push v.calls c ∙ append-nil (deposits_of v.calls))

      given : has_range (ranges_of (u.calls ++ d ∷ [])) r ≡ (has_range (ranges_of v.calls) r || is_same (range first count) r)
      given =
          ap (λ l. has_range l r) (ranges_push u.calls d ∙ (append-nil (ranges_of u.calls) ∙ claimed_ranges))
          ∙ (has-append (ranges_of v.calls) (range first count ∷ []) r ∙ ap (λ b. has_range (ranges_of v.calls) r || b) (has-one (range first count) r))

      entered : has_range (deposits_of (u.calls ++ d ∷ [])) r ≡ (has_range (deposits_of v.calls) r || is_same (range first count) r)
      entered =
          ap (λ l. has_range l r) (deposits_push u.calls d ∙ ap (λ l. l ++ range first count ∷ []) claimed_deposits)
          ∙ (has-append (deposits_of v.calls) (range first count ∷ []) r ∙ ap (λ b. has_range (deposits_of v.calls) r || b) (has-one (range first count) r))

      -- the range wasn't given to the pass before
      fresh : is_same (range first count) r ≡ true → has_range (ranges_of v.calls) r ≡ true → ⊥
      fresh is before =
          let one : has_range (range first count ∷ []) r ≡ true = has-one (range first count) r ∙ is in
          let all : has_range (ranges_of u.calls) r ≡ true = ap (λ l. has_range l r) claimed_ranges ∙ (has-append (ranges_of v.calls) (range first count ∷ []) r ∙ ap (λ b. b || has_range (range first count ∷ []) r) before) in
          let inside = first_inside r (own_filled u sound r all) in
          omega (arith, (own_apart u sound r.first).0, ap (times r.first) claimed_ranges, times-append r.first (ranges_of v.calls) (range first count ∷ []), has_times (ranges_of v.calls) r r.first before inside, has_times (range first count ∷ []) r r.first one inside)

      same : (g e s : Bool) → (s ≡ true → g ≡ true → ⊥) → ((g || s) && not (e || s)) ≡ (g && not e)
      same true e true never = absurd (never refl refl)
      same true true false never = refl
      same true false false never = refl
      same false true true never = refl
      same false false true never = refl
      same false e false never = refl

pub both_ways : {P Q R : Type 0} → (P → Q) × (Q → P) → (Q → R) × (R → Q) → (P → R) × (R → P)
both_ways one two = (λ p. two.0 (one.0 p), λ r. one.1 (two.1 r))
