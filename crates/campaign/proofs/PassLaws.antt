-- What the calls of passes come to, and what their soundness tells.
use Rattle.std.proofs.Common.{◌≡◌, ◌≢◌, ◌&&◌, ℕ, ◌+◌, ◌-◌, ◌<◌, ◌≤◌, ◌==◌, inl, inr, Bool, true, false, ◌||◌, not, List, [], ◌∷◌, ◌++◌, length, map, min, nat_lt, refl, ap, sym, ◌∙◌, subst, arith, append_assoc}
use Rattle.std.proofs.lemmas.Bool.{cases_Bool, eq-eqb, ne_eqb, ltb-true, and_parts, or_left, or_right, false≢true, false_from_ne_true}
use Rattle.std.proofs.lemmas.List.{append-nil}
use Rattle.ra_base.specs.declared.limits.TheConstants.{MOST_SAMPLES}
use Rattle.campaign_core.specs.declared.gate.Gate.{Gate}
use Rattle.campaign_core.specs.declared.run.SampleRange.{SampleRange}
use Rattle.campaign_core.specs.declared.run.Run.{Run}
use Rattle.campaign_core.specs.declared.call.Call.{Call}
use Rattle.campaign_core.specs.declared.call.Call.TheVariants.{Claim, Extend, Deposit}
use Rattle.campaign_core.specs.declared.call.Call.TheVariants.{Interim as AskInterim}
use Rattle.campaign_core.specs.declared.call.Reply.{Reply}
use Rattle.campaign_core.specs.declared.call.Reply.TheVariants.{Range, Idle, Drained, Cancelled, Now, Sealed, TooMany, Deposited, Interim}
use Rattle.campaign_core.specs.declared.call.Entry.{Entry}
use Rattle.campaign_core.specs.Ranges.{range, samples_of, has_range, is_same, without, total, AreSame, AreDisjoint, runs_of}
use Rattle.campaign_core.specs.Joining.{Spaced}
use Rattle.campaign_core.specs.History.{entry, range_in, deposit_in, reply_of, claim_reply, extend_reply, gate_of, ranges_of, deposits_of, out_of}
use Rattle.campaign_core.specs.Machine.{gate_after}
use Rattle.campaign_core.proofs.Totals.{total_some, same_sym}
use Rattle.campaign_core.proofs.WithoutLaws.{same_is, has-append, has-nil, has-cons, has-one, is_same-self, has-without, has_times, first_inside, without-nil, without-drops}
use Rattle.campaign_core.proofs.RunLaws.{runs_same, runs_spaced}
use Rattle.campaign_core.proofs.HistoryLaws.{ranges-nil, ranges_push, deposits_push, legal_front}
use Rattle.campaign_core.proofs.GivenLaws.{some_owner, owned_given}
use Rattle.campaign_core.proofs.MachineLaws.{machine_at, sound_history, sound_deposits, sound_deposited, fresh}
use Rattle.turn_book.specs.declared.view.View.{View}
use Rattle.turn_book.specs.Words.{IsGate}
use Rattle.turn_book.specs.Views.{takes_exchange, call_between, IsExchange, with_call, with_hold, owns, IsSound, Sees, Makes, Looks, Takes, Deposits}
use Rattle.turn_book.proofs.SoundLaws.{own_deposit, gate_seen}
use Rattle.campaign.specs.declared.calls.Claim.{Claim as Answer}
use Rattle.campaign.specs.declared.calls.Claim.TheVariants.{Cancelled as Stopped, Drained as Empty, Idle as NoneLeft, Range as Gives, Moved}
use Rattle.campaign.specs.declared.calls.Extend.{Extend as Extension}
use Rattle.campaign.specs.declared.calls.Extend.TheVariants.{Cancelled as Closed, Sealed as Shut, TooMany as Over, Now as Raised, Moved as Crossed}
use Rattle.campaign.specs.Passes.{Saw, Says, Claims, Extends, KeepsOut, KeepsOthers}

-- ---- gates

or_nothing : (b : Bool) → (b || false) ≡ b
or_nothing true = refl
or_nothing false = refl

gate_is : (n m t u : ℕ) (s r c d : Bool) → n ≡ m → t ≡ u → s ≡ r → c ≡ d
    → ◌≡◌ {A = Gate} (record { next = n; target = t; sealed = s; cancelled = c }) (record { next = m; target = u; sealed = r; cancelled = d })
gate_is n m t u s r c d e f g h = rw (e, f, g, h) refl

claim_range : (block : ℕ) (g : Gate) → g.cancelled ≡ false → (g.next ≡ g.target → ⊥) → claim_reply block g ≡ Range g.next (min block (g.target - g.next))
claim_range block g goes some = rw (goes, ne_eqb g.next g.target some) refl

extend_now : (g : Gate) (more : ℕ) → g.cancelled ≡ false → g.sealed ≡ false → g.target + more ≤ MOST_SAMPLES → extend_reply g more ≡ Now (g.target + more)
extend_now g more goes unsealed fits = rw (goes, unsealed, not_more (g.target + more) fits) refl
  where
    not_more : (n : ℕ) → n ≤ MOST_SAMPLES → nat_lt MOST_SAMPLES n ≡ false
    not_more n le = false_from_ne_true (nat_lt MOST_SAMPLES n) (λ e. omega (arith, le, ltb-true MOST_SAMPLES n e))

claim_between : (block count : ℕ) (g : Gate) → IsGate g → 1 ≤ block → (g.next ≡ g.target → ⊥) → count ≡ min block (g.target - g.next)
    → call_between g (record { next = g.next + count; target = g.target; sealed = g.sealed; cancelled = g.cancelled }) ≡ Claim
claim_between block count g small b some is = rw (ne_eqb g.next (g.next + count) (λ e. omega (arith, is, small.0, b, some, e))) refl

-- a claim that gives a range leads to the next gate
pub claim_leads : (block count : ℕ) (g : Gate) → IsGate g → 1 ≤ block → g.cancelled ≡ false → (g.next ≡ g.target → ⊥) → count ≡ min block (g.target - g.next)
    → IsExchange block g (record { next = g.next + count; target = g.target; sealed = g.sealed; cancelled = g.cancelled })
claim_leads block count g small b goes some is =
    let next : Gate = record { next = g.next + count; target = g.target; sealed = g.sealed; cancelled = g.cancelled } in
    let call : call_between g next ≡ Claim = claim_between block count g small b some is in
    let reply : claim_reply block g ≡ Range g.next count = claim_range block g goes some ∙ ap (Range g.next) (sym is) in
    subst (λ (c : Call). IsGate g × IsGate next × (takes_exchange (reply_of block g [] c) ≡ true) × (next ≡ gate_after g c (reply_of block g [] c))) (sym call)
    (subst (λ (r : Reply). IsGate g × IsGate next × (takes_exchange r ≡ true) × (next ≡ gate_after g Claim r)) (sym reply) (
      small,
      (omega (arith, is, small.0), small.1),
      refl,
      gate_is (g.next + count) (g.next + count) g.target (g.target + 0) g.sealed (g.sealed || false) g.cancelled (g.cancelled || false) refl (omega arith) (sym (or_nothing g.sealed)) (sym (or_nothing g.cancelled)),
    ))

-- an extension that raises leads to the next gate
pub extend_leads : (block more : ℕ) (g : Gate) → IsGate g → 1 ≤ more → g.cancelled ≡ false → g.sealed ≡ false → g.target + more ≤ MOST_SAMPLES
    → IsExchange block g (record { next = g.next; target = g.target + more; sealed = g.sealed; cancelled = g.cancelled })
extend_leads block more g small m goes unsealed fits =
    let next : Gate = record { next = g.next; target = g.target + more; sealed = g.sealed; cancelled = g.cancelled } in
    let by : g.target + more - g.target ≡ more = omega arith in
    let call : call_between g next ≡ Extend more = rw (eq-eqb g.next g.next refl) (ap Extend by) in
    let reply : extend_reply g more ≡ Now (g.target + more) = extend_now g more goes unsealed fits in
    subst (λ (c : Call). IsGate g × IsGate next × (takes_exchange (reply_of block g [] c) ≡ true) × (next ≡ gate_after g c (reply_of block g [] c))) (sym call)
    (subst (λ (r : Reply). IsGate g × IsGate next × (takes_exchange r ≡ true) × (next ≡ gate_after g (Extend more) r)) (sym reply) (
      small,
      (omega (arith, small.0), fits),
      refl,
      gate_is g.next (g.next + 0) (g.target + more) (g.target + more) g.sealed (g.sealed || false) g.cancelled (g.cancelled || false) (omega arith) refl (sym (or_nothing g.sealed)) (sym (or_nothing g.cancelled)),
    ))

-- a range that begins elsewhere is another
pub elsewhere : (first count : ℕ) (r : SampleRange) → r.first ≢ first → has_range (deposit_in (Deposit first count)) r ≡ false
elsewhere first count r ne =
    has-one (range first count) r ∙ false_from_ne_true (is_same (range first count) r) (λ e. ne (sym (ap (λ (s : SampleRange). s.first) (same_is (range first count) r e))))

module _ {B : Type 0} where
  -- a gate that was looked at is within the limits
  pub sees_gate : (v : View B) (g : Gate) (w : View B) → Sees v g w → IsGate g
  sees_gate v g w s = subst IsGate (ap (λ (u : View B). gate_of u.target u.seen) s.view ∙ s.gate) (gate_seen w s.sound)

  -- a look that a claim or an extension isn't decided by sees
  pub saw_look : (v : View B) (call : Call) (g : Gate) (w : View B) → takes_exchange (reply_of v.block g [] call) ≡ true → Looks v call g w → Sees v g w
  saw_look v call g w takes looks = rw takes at looks

  pub look_claim : (v : View B) (g : Gate) (w : View B) → g.cancelled ≡ false → (g.next ≡ g.target → ⊥) → Looks v Claim g w → Sees v g w
  look_claim v g w goes some looks = saw_look v Claim g w (ap takes_exchange (claim_range v.block g goes some)) looks

  -- a look tells a gate within the limits
  pub looks_gate : (v : View B) (call : Call) (g : Gate) (w : View B) → Looks v call g w → IsSound v → IsGate g
  looks_gate v call g w looks sound =
      elim (cases_Bool (takes_exchange (reply_of v.block g [] call))) [
        | inl takes ↦ sees_gate v g w (saw_look v call g w takes looks)
        | inr decides ↦ made (made_look decides looks)
      ]
    where
      made_look : takes_exchange (reply_of v.block g [] call) ≡ false → Looks v call g w → Makes v call g w
      made_look decides l = rw decides at l

      made : Makes v call g w → IsGate g
      made m =
          let sound_after : IsSound (with_call v (v.seen ++ m.between) (entry v.number call (reply_of v.block g (deposits_of (v.seen ++ m.between)) call))) = subst IsSound m.view m.sound in
          let legal = legal_front v.target v.block (v.seen ++ m.between) (entry v.number call (reply_of v.block g (deposits_of (v.seen ++ m.between)) call)) sound_after.legal in
          let whole = sound_history v.target v.block sound.target sound.block (v.seen ++ m.between) legal in
          subst IsGate m.gate (whole.next, whole.target)

  -- a claimed range is out
  pub claimed_out : (v : View B) (first count : ℕ) (w : View B) → Says v Claim (Range first count) w → IsSound w → has_range (out_of w.calls) (range first count) ≡ true
  claimed_out v first count w says sound =
      subst (λ (u : View B). has_range (out_of u.calls) (range first count) ≡ true) (sym says.view)
      (has-without (deposits_of calls) (ranges_of calls) r ∙ rw (given, kept) refl)
    where
      r : SampleRange
      r = range first count

      before : List Entry
      before = v.seen ++ says.between

      e : Entry
      e = entry v.number Claim (Range first count)

      calls : List Entry
      calls = v.calls ++ e ∷ []

      whole : IsSound (with_call v before e)
      whole = subst IsSound says.view sound

      given : has_range (ranges_of calls) r ≡ true
      given = ap (λ l. has_range l r) (ranges_push v.calls e) ∙ (has-append (ranges_of v.calls) (r ∷ []) r ∙ or_right (has_range (ranges_of v.calls) r) (has_range (r ∷ []) r) (has-one r r ∙ is_same-self r))

      untouched : without (deposits_of before) (r ∷ []) ≡ r ∷ []
      untouched =
          let legal = legal_front v.target v.block before e whole.legal in
          subst (λ (reply : Reply). without (deposits_of before) (range_in reply) ≡ range_in reply) (sym says.replied)
          (fresh (machine_at v.target v.block before) Claim (sound_history v.target v.block whole.target whole.block before legal))

      kept : has_range (deposits_of calls) r ≡ false
      kept =
          false_from_ne_true (has_range (deposits_of calls) r)
          (λ has.
          let seen : has_range (deposits_of (before ++ e ∷ [])) r ≡ true = own_deposit (with_call v before e) whole r has in
          let earlier : has_range (deposits_of before) r ≡ true = sym (ap (λ l. has_range l r) (deposits_push before e ∙ append-nil (deposits_of before))) ∙ seen in
          cc (untouched, without-drops (deposits_of before) r [] earlier, without-nil (deposits_of before)))

  -- a range that an exchange of the gate gives is out
  pub exchange_out : (m : View B) (g : Gate) (count : ℕ) (w : View B) → IsGate g → 1 ≤ m.block → g.cancelled ≡ false → (g.next ≡ g.target → ⊥) → count ≡ min m.block (g.target - g.next)
      → Makes m (call_between g (record { next = g.next + count; target = g.target; sealed = g.sealed; cancelled = g.cancelled })) g w → IsSound w
      → has_range (out_of w.calls) (range g.next count) ≡ true
  exchange_out m g count w small b goes some is makes sound =
      let made = subst (λ (c : Call). Makes m c g w) (claim_between m.block count g small b some is) makes in
      let reply : claim_reply m.block g ≡ Range g.next count = claim_range m.block g goes some ∙ ap (Range g.next) (sym is) in
      claimed_out m g.next count w
      (record {
        between = made.between;
        view = made.view ∙ ap (λ r. with_call m (m.seen ++ made.between) (entry m.number Claim r)) reply;
        replied = sym (ap (claim_reply m.block) made.gate ∙ reply);
      })
      sound

  -- a range that is out at a sound view is out in what it has seen
  pub own_out : (v : View B) → IsSound v → (first count : ℕ) → has_range (out_of v.calls) (range first count) ≡ true → has_range (out_of v.seen) (range first count) ≡ true
  own_out v sound first count has =
      let r = range first count in
      let parts = sym (has-without (deposits_of v.calls) (ranges_of v.calls) r) ∙ has in
      let who = some_owner v.calls r (and_parts (has_range (ranges_of v.calls) r) (not (has_range (deposits_of v.calls) r)) parts).0 in
      let given : has_range (ranges_of v.seen) r ≡ true =
      elim (cases_Bool (owns v who.0)) [
        | inl own ↦ owned_given who.0 v.seen r (ap (λ l. has_range (ranges_of l) r) (sound.mine who.0 own) ∙ who.1)
        | inr other ↦
            absurd (false≢true (sym (ap (λ l. has_range (ranges_of l) r) (sound.others who.0 other) ∙ (ap (λ l. has_range l r) ranges-nil ∙ has-nil r)) ∙ who.1))
      ] in
      has-without (deposits_of v.seen) (ranges_of v.seen) r ∙ rw (given, sound.out first count has) refl

  -- what is deposited stays disjoint with a range that is out
  pub deposit_apart : (v : View B) → IsSound v → (first count : ℕ) → has_range (out_of v.calls) (range first count) ≡ true → AreDisjoint (deposits_of v.seen ++ range first count ∷ [])
  deposit_apart v sound first count has =
      let whole = sound_history v.target v.block sound.target sound.block v.seen sound.legal in
      sound_deposits _ (sound_deposited (machine_at v.target v.block v.seen) (range first count) whole (own_out v sound first count has))

  pub deposits_apart : (v : View B) → IsSound v → AreDisjoint (deposits_of v.seen)
  deposits_apart v sound = sound_deposits (machine_at v.target v.block v.seen) (sound_history v.target v.block sound.target sound.block v.seen sound.legal)

  hold_call : (v : View B) (seen : List Entry) (e : Entry) → v.holds ≡ false → with_hold false (with_call v seen e) ≡ with_call v seen e
  hold_call v seen e free = ap (λ b. with_hold b (with_call v seen e)) (sym free)

  -- a pass that took the book and deposited
  pub says_deposit : (v t : View B) (first count number : ℕ) (w : View B) → v.holds ≡ false → Takes v t → Deposits t first count number w → Says v (Deposit first count) (Deposited number) w
  says_deposit v t first count number w free took deposits =
      let d = subst (λ (u : View B). Deposits u first count number w) took.view deposits in
      let before = v.seen ++ took.between in
      let whole = before ++ d.between in
      let assoc : whole ≡ v.seen ++ (took.between ++ d.between) = append_assoc v.seen took.between d.between in
      let count_is : length (deposits_of whole) + 1 ≡ number = ap (λ l. length l + 1) d.found ∙ sym d.counted in
      record {
        between = took.between ++ d.between;
        view =
            d.view
            ∙ (hold_call v whole (entry v.number (Deposit first count) (Deposited (length (deposits_of whole) + 1))) free
            ∙ (ap (λ n. with_call v whole (entry v.number (Deposit first count) (Deposited n))) count_is
            ∙ ap (λ h. with_call v h (entry v.number (Deposit first count) (Deposited number))) assoc));
        replied = ap Deposited (sym count_is ∙ ap (λ h. length (deposits_of h) + 1) assoc);
      }

  -- a pass that took the book, looked for a report, and left
  pub says_report : (v t u : View B) (g : Gate) (w : View B) (runs : List Run) → v.holds ≡ false → Takes v t → Makes t AskInterim g u → w ≡ with_hold false u
      → runs ≡ runs_of (deposits_of t.seen) → Says v AskInterim (Interim g runs) w
  says_report v t u g w runs free took made left are =
      let t_is = took.view in
      let m = subst (λ (x : View B). Makes x AskInterim g u) t_is made in
      let before = v.seen ++ took.between in
      let whole = before ++ m.between in
      let assoc : whole ≡ v.seen ++ (took.between ++ m.between) = append_assoc v.seen took.between m.between in
      let e = entry v.number AskInterim (Interim g (runs_of (deposits_of whole))) in
      let still : deposits_of (whole ++ e ∷ []) ≡ deposits_of before = sym (ap (λ (x : View B). deposits_of x.seen) m.view) ∙ m.found refl in
      let same : deposits_of whole ≡ deposits_of before = sym (deposits_push whole e ∙ append-nil (deposits_of whole)) ∙ still in
      let runs_are : runs_of (deposits_of whole) ≡ runs = ap runs_of same ∙ (ap (λ (x : View B). runs_of (deposits_of x.seen)) (sym t_is) ∙ sym are) in
      record {
        between = took.between ++ m.between;
        view =
            left
            ∙ (ap (with_hold false) m.view
            ∙ (hold_call v whole e free
            ∙ (ap (λ rs. with_call v whole (entry v.number AskInterim (Interim g rs))) runs_are
            ∙ ap (λ h. with_call v h (entry v.number AskInterim (Interim g runs))) assoc)));
        replied =
            ap (λ rs. Interim g rs) (sym runs_are)
            ∙ (ap (λ x. Interim x (runs_of (deposits_of whole))) (sym m.gate)
            ∙ ap (λ h. Interim (gate_of v.target h) (runs_of (deposits_of h))) assoc);
      }

  pub look_report : (v : View B) (g : Gate) (w : View B) → Looks v AskInterim g w → Makes v AskInterim g w
  look_report v g w looks = looks

  pub out_taken : (v t : View B) (r s : SampleRange) → Takes v t → r ≡ s → has_range (out_of v.calls) s ≡ true → has_range (out_of t.calls) r ≡ true
  out_taken v t r s took is has = ap (λ (u : View B). has_range (out_of u.calls) r) took.view ∙ (ap (has_range (out_of v.calls)) is ∙ has)

  -- a range that is out stays out but for its own deposit
  pub out_stays : (v : View B) (call : Call) (reply : Reply) (w : View B) → Says v call reply w → (r : SampleRange) → has_range (deposit_in call) r ≡ false
      → has_range (out_of v.calls) r ≡ true → has_range (out_of w.calls) r ≡ true
  out_stays v call reply w says r other has =
      let e = entry v.number call reply in
      let calls = v.calls ++ e ∷ [] in
      let parts = and_parts (has_range (ranges_of v.calls) r) (not (has_range (deposits_of v.calls) r)) (sym (has-without (deposits_of v.calls) (ranges_of v.calls) r) ∙ has) in
      let given : has_range (ranges_of calls) r ≡ true =
      ap (λ l. has_range l r) (ranges_push v.calls e) ∙ (has-append (ranges_of v.calls) (range_in reply) r ∙ or_left (has_range (ranges_of v.calls) r) (has_range (range_in reply) r) parts.0) in
      let deposits : has_range (deposits_of calls) r ≡ has_range (deposits_of v.calls) r =
      ap (λ l. has_range l r) (deposits_push v.calls e) ∙ (has-append (deposits_of v.calls) (deposit_in call) r ∙ (ap (λ b. has_range (deposits_of v.calls) r || b) other ∙ or_nothing (has_range (deposits_of v.calls) r))) in
      ap (λ (u : View B). has_range (out_of u.calls) r) says.view
      ∙ (has-without (deposits_of calls) (ranges_of calls) r ∙ (ap (λ b. has_range (ranges_of calls) r && not b) deposits ∙ rw (given, parts.1) refl))

  pub says_keeps : (v : View B) (call : Call) (reply : Reply) (w : View B) → Says v call reply w → ((r : SampleRange) → has_range (deposit_in call) r ≡ false) → KeepsOut v w
  says_keeps v call reply w says other r has = out_stays v call reply w says r (other r) has

  pub deposit_keeps : (v : View B) (first count : ℕ) (reply : Reply) (w : View B) → Says v (Deposit first count) reply w → KeepsOthers first v w
  deposit_keeps v first count reply w says r ne has = out_stays v (Deposit first count) reply w says r (elsewhere first count r ne) has

  pub saw_keeps : (v w : View B) → Saw v w → KeepsOut v w
  saw_keeps v w saw r has = ap (λ (u : View B). has_range (out_of u.calls) r) saw.view ∙ has

  pub extend_keeps : (v : View B) (more : ℕ) (answer : Extension) (w : View B) → Extends v more answer w → KeepsOut v w
  extend_keeps v more Closed w says r has = out_stays v (Extend more) Cancelled w says r (has-nil r) has
  extend_keeps v more Shut w says r has = out_stays v (Extend more) Sealed w says r (has-nil r) has
  extend_keeps v more (Over target) w says r has = out_stays v (Extend more) (TooMany target) w says r (has-nil r) has
  extend_keeps v more (Raised target) w says r has = out_stays v (Extend more) (Now target) w says r (has-nil r) has
  extend_keeps v more (Crossed before after) w moves r has = ap (λ (u : View B). has_range (out_of u.calls) r) moves.view ∙ has

  pub claim_keeps : (v : View B) (answer : Answer) (w : View B) → Claims v answer w → KeepsOut v w
  claim_keeps v Stopped w says r has = out_stays v Claim Cancelled w says r (has-nil r) has
  claim_keeps v Empty w says r has = out_stays v Claim Drained w says r (has-nil r) has
  claim_keeps v NoneLeft w says r has = out_stays v Claim Idle w says r (has-nil r) has
  claim_keeps v (Gives share) w says r has = out_stays v Claim (Range share.first share.count) w says r (has-nil r) has
  claim_keeps v (Moved before after) w moves r has = ap (λ (u : View B). has_range (out_of u.calls) r) moves.view ∙ has

pub range_is : (first count : ℕ) (s : SampleRange) → first ≡ s.first → count ≡ s.count → range first count ≡ s
range_is first count s e f = rw (e, f) refl

-- ---- runs

pub runs_stand : (ds : List SampleRange) → AreDisjoint ds → AreSame ds (map samples_of (runs_of ds))
runs_stand ds apart = same_sym (map samples_of (runs_of ds)) ds (runs_same ds (λ n. (apart n).0))

-- spaced runs of which there is one have a sample
pub some_sample : (js : List Run) → Spaced 0 js → (length js == 0) ≡ false → 0 < total (λ sample. 1) (map samples_of js)
some_sample [] spaced some = absurd (false≢true (sym some))
some_sample (j ∷ js) spaced some =
    let r = samples_of j in
    let full : 1 ≤ r.count = omega (arith, spaced.1) in
    total_some (map samples_of (j ∷ js)) j.first
    (has_times (map samples_of (j ∷ js)) r j.first (has_first r (map samples_of js)) (first_inside r full))
  where
    has_first : (r : SampleRange) (rs : List SampleRange) → has_range (r ∷ rs) r ≡ true
    has_first r rs = has-cons r rs r ∙ or_left (is_same r r) (has_range rs r) (is_same-self r)

pub report_sample : (ds : List SampleRange) → (length (runs_of ds) == 0) ≡ false → 0 < total (λ sample. 1) (map samples_of (runs_of ds))
report_sample ds some = some_sample (runs_of ds) (runs_spaced ds).0 some
