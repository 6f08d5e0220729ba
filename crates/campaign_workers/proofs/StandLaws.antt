-- What a round, a report and an extension come to, while the opening pass is all that there is.
use Rattle.std.proofs.Common.{◌≡◌, ◌||◌, ◌==◌, ℕ, zero, suc, ◌+◌, ◌≤◌, inl, inr, Bool, true, false, not, cond, List, [], ◌∷◌, ◌++◌, length, map, nat_lt, refl, ap, sym, ◌∙◌, subst, arith, append_assoc, length-append}
use Rattle.std.proofs.lemmas.Bool.{and_parts, ne_eqb, false≢true, false_from_ne_true, ltb-true, or_left}
use Rattle.std.proofs.lemmas.List.{append-nil, nil_from_length}
use Rattle.ra_base.specs.declared.limits.TheConstants.{MOST_SAMPLES}
use Rattle.campaign_core.specs.declared.run.SampleRange.{SampleRange}
use Rattle.campaign_core.specs.declared.run.Run.{Run}
use Rattle.campaign_core.specs.declared.gate.Gate.{Gate}
use Rattle.campaign_core.specs.declared.call.Call.{Call}
use Rattle.campaign_core.specs.declared.call.Call.TheVariants.{Claim, Extend, Seal, Cancel, Deposit}
use Rattle.campaign_core.specs.declared.call.Call.TheVariants.{Progress as AskProgress, Interim as AskInterim}
use Rattle.campaign_core.specs.declared.call.Reply.{Reply}
use Rattle.campaign_core.specs.declared.call.Reply.TheVariants.{Cancelled, Now, Sealed, TooMany, Interim}
use Rattle.campaign_core.specs.declared.call.Entry.{Entry}
use Rattle.campaign_core.specs.Ranges.{range, is_same, samples_of, has_range, weight_of, AreSame, runs_of}
use Rattle.campaign_core.specs.History.{entry, extend_reply, reply_of, gate_of, ranges_of, deposits_of, out_of, calls_of}
use Rattle.campaign_core.specs.Machine.{gate_after}
use Rattle.campaign_core.proofs.Totals.{weight-more, total-nil, total-one, same_trans}
use Rattle.campaign_core.proofs.WithoutLaws.{is_same-self, has-nil, has-cons, has-without}
use Rattle.campaign_core.proofs.RunLaws.{runs_same}
use Rattle.campaign_core.proofs.HistoryLaws.{gate-nil, gate_push, ranges-nil, calls-nil, calls-append}
use Rattle.campaign_core.proofs.GivenLaws.{calls_push_own, some_owner, owned_given, all_deposited}
use Rattle.turn_book.specs.declared.view.View.{View}
use Rattle.turn_book.specs.Views.{IsSound, IsSameSeat}
use Rattle.turn_book.proofs.SoundLaws.{every_call, own_deposit, gate_seen}
use Rattle.campaign.specs.declared.calls.Extend.{Extend as Extension}
use Rattle.campaign.specs.declared.calls.Extend.TheVariants.{Cancelled as Closed, Sealed as Shut, TooMany as Over, Now as Raised, Moved as Crossed}
use Rattle.campaign.specs.Passes.{IsFirst, Says, Extends}
use Rattle.campaign.proofs.PassLaws.{deposits_apart}
use Rattle.campaign_workers.specs.Working.{is_work, AreWork}
use Rattle.campaign_workers.specs.Crews.{Joins, CrewWorks, Reached}
use Rattle.campaign_workers.specs.Standing.{open_gate, IsAlone, StandsAt}
use Rattle.campaign_workers.proofs.WorkLaws.{out_says, same_says}

-- ---- histories by their callers

calls_cons : (n : ℕ) (e : Entry) (h : List Entry) → calls_of n (e ∷ h) ≡ calls_of n (e ∷ []) ++ calls_of n h
calls_cons n e h = calls-append n (e ∷ []) h

calls_own : (e : Entry) → calls_of e.caller (e ∷ []) ≡ e ∷ []
calls_own e = calls_push_own e.caller [] e refl ∙ ap (λ l. l ++ e ∷ []) (calls-nil e.caller)

-- where no caller has an entry there is none
no_calls : (h : List Entry) → ((n : ℕ) → calls_of n h ≡ []) → h ≡ []
no_calls [] none = refl
no_calls (e ∷ h) none =
    absurd (omega (arith, ap length (none e.caller), ap length (calls_cons e.caller e h), length-append (calls_of e.caller (e ∷ [])) (calls_of e.caller h), ap length (calls_own e)))

-- what two lists have behind the same beginning is the same
after_same : {A : Type 0} (xs ys zs : List A) → xs ++ ys ≡ xs ++ zs → ys ≡ zs
after_same [] ys zs e = e
after_same (x ∷ xs) ys zs e = after_same xs ys zs (cc (e))

work_left : (xs ys : List Entry) → AreWork (xs ++ ys) → AreWork xs
work_left [] ys w = tt
work_left (x ∷ xs) ys w = (w.0, work_left xs ys w.1)

work_right : (xs ys : List Entry) → AreWork (xs ++ ys) → AreWork ys
work_right [] ys w = w
work_right (x ∷ xs) ys w = work_right xs ys w.1

work_or : (b : Bool) (e : Entry) (h : List Entry) → is_work e.call ≡ true → AreWork h → AreWork (cond b (e ∷ h) h)
work_or true e h one rest = (one, rest)
work_or false e h one rest = rest

pub work_calls : (n : ℕ) (h : List Entry) → AreWork h → AreWork (calls_of n h)
unfolding calls_of
work_calls n [] w = tt
work_calls n (e ∷ h) w = work_or (e.caller == n) e (calls_of n h) w.0 (work_calls n h w.1)

-- entries are calls of work where each caller's are
calls_work : (h : List Entry) → ((n : ℕ) → AreWork (calls_of n h)) → AreWork h
calls_work [] each = tt
calls_work (e ∷ h) each = (
  (subst AreWork (calls_own e) (work_left (calls_of e.caller (e ∷ [])) (calls_of e.caller h) (subst AreWork (calls_cons e.caller e h) (each e.caller)))).0,
  calls_work h (λ n. work_right (calls_of n (e ∷ [])) (calls_of n h) (subst AreWork (calls_cons n e h) (each n))),
)

-- ---- gates behind calls of work

-- next may grow, and nothing else changes
record Later (g k : Gate) : Type 0 where
  next : g.next ≤ k.next
  target : k.target ≡ g.target
  sealed : k.sealed ≡ g.sealed
  cancelled : k.cancelled ≡ g.cancelled

or_nothing : (b : Bool) → (b || false) ≡ b
or_nothing true = refl
or_nothing false = refl

later_one : (g : Gate) (call : Call) (reply : Reply) → is_work call ≡ true → Later g (gate_after g call reply)
later_one g Claim reply w = record { next = omega arith; target = omega arith; sealed = or_nothing g.sealed; cancelled = or_nothing g.cancelled }
later_one g (Extend more) reply w = absurd (false≢true w)
later_one g Seal reply w = absurd (false≢true w)
later_one g Cancel reply w = absurd (false≢true w)
later_one g AskProgress reply w = absurd (false≢true w)
later_one g (Deposit first count) reply w = record { next = omega arith; target = omega arith; sealed = or_nothing g.sealed; cancelled = or_nothing g.cancelled }
later_one g AskInterim reply w = absurd (false≢true w)

later_all : (opening : ℕ) (h more : List Entry) → AreWork more → Later (gate_of opening h) (gate_of opening (h ++ more))
later_all opening h [] w =
    let same = ap (gate_of opening) (append-nil h) in
    record {
      next = omega (arith, ap (λ (g : Gate). g.next) same);
      target = ap (λ (g : Gate). g.target) same;
      sealed = ap (λ (g : Gate). g.sealed) same;
      cancelled = ap (λ (g : Gate). g.cancelled) same;
    }
later_all opening h (e ∷ more) w =
    let one = subst (Later (gate_of opening h)) (sym (gate_push opening h e)) (later_one (gate_of opening h) e.call e.reply w.0) in
    let rest = later_all opening (h ++ e ∷ []) more w.1 in
    let same = ap (gate_of opening) (append_assoc h (e ∷ []) more) in
    record {
      next = omega (arith, one.next, rest.next, ap (λ (g : Gate). g.next) same);
      target = sym (ap (λ (g : Gate). g.target) same) ∙ (rest.target ∙ one.target);
      sealed = sym (ap (λ (g : Gate). g.sealed) same) ∙ (rest.sealed ∙ one.sealed);
      cancelled = sym (ap (λ (g : Gate). g.cancelled) same) ∙ (rest.cancelled ∙ one.cancelled);
    }

gate_is : (n m t u : ℕ) (s r c d : Bool) → n ≡ m → t ≡ u → s ≡ r → c ≡ d
    → ◌≡◌ {A = Gate} (record { next = n; target = t; sealed = s; cancelled = c }) (record { next = m; target = u; sealed = r; cancelled = d })
gate_is n m t u s r c d e f g h = rw (e, f, g, h) refl

no_range : (rs : List SampleRange) → ((r : SampleRange) → has_range rs r ≡ false) → rs ≡ []
no_range [] none = refl
no_range (r ∷ rs) none = absurd (false≢true (sym (none r) ∙ (has-cons r rs r ∙ or_left (is_same r r) (has_range rs r) (is_same-self r))))

module _ {B : Type 0} where
  -- where it was just opened
  pub stands_first : (v : View B) (samples block : ℕ) → IsFirst samples block v → StandsAt 0 samples v
  stands_first v samples block first = record {
    alone = record { number = first.number; all = ap (λ l. length l + 1) first.joined ∙ sym first.made };
    gate = ap (λ h. gate_of v.target h) first.seen ∙ (gate-nil v.target ∙ ap (open_gate 0) first.target);
    none = λ r.
        ap (λ h. has_range (out_of h) r) first.calls
        ∙ (has-without (deposits_of []) (ranges_of []) r ∙ rw (ranges-nil, has-nil r) refl);
  }

  alone_calls : (v : View B) → IsSound v → IsAlone v → (n : ℕ) → calls_of n v.seen ≡ calls_of n v.calls
  alone_calls v sound alone = every_call v sound alone.number alone.all

  -- ---- a round

  -- what was seen in a round is work
  round_work : (v w : View B) → IsSound v → IsAlone v → IsSound w → IsAlone w → CrewWorks v w → (rest : List Entry) → v.seen ++ rest ≡ w.seen → AreWork rest
  round_work v w sound alone sound_w alone_w crew rest is =
      calls_work rest
      (λ n.
      let seen : calls_of n v.seen ++ calls_of n rest ≡ calls_of n v.seen ++ calls_of n crew.done =
      sym (calls-append n v.seen rest)
      ∙ (ap (calls_of n) is
      ∙ (alone_calls w sound_w alone_w n
      ∙ (ap (calls_of n) crew.calls
      ∙ (calls-append n v.calls crew.done ∙ ap (λ l. l ++ calls_of n crew.done) (sym (alone_calls v sound alone n)))))) in
      subst AreWork (sym (after_same (calls_of n v.seen) (calls_of n rest) (calls_of n crew.done) seen)) (work_calls n crew.done crew.work))

  pub stands_round : (v w : View B) (workers opening : ℕ) → IsSound v → IsSound w → v.target ≡ opening → w.target ≡ opening → Joins workers v w → CrewWorks v w → Reached v w
      → (next goal : ℕ) → StandsAt next goal v → StandsAt goal goal w
  stands_round v w workers opening sound sound_w opened opened_w joins crew reached next goal stands =
      let target : w.target ≡ v.target = opened_w ∙ sym opened in
      let alone_w : IsAlone w = record {
        number = joins.number ∙ stands.alone.number;
        all = omega (arith, joins.joined, joins.made, stands.alone.all);
      } in
      let rest = reached.earlier.0 ++ reached.later.0 in
      let all : v.seen ++ rest ≡ w.seen = sym (append_assoc v.seen reached.earlier.0 reached.later.0) ∙ (ap (λ l. l ++ reached.later.0) reached.earlier.1 ∙ reached.later.1) in
      let work = round_work v w sound stands.alone sound_w alone_w crew rest all in
      let one = subst (λ h. Later (gate_of v.target v.seen) (gate_of v.target h)) reached.earlier.1 (later_all v.target v.seen reached.earlier.0 (work_left reached.earlier.0 reached.later.0 work)) in
      let two = subst (λ h. Later (gate_of v.target reached.before) (gate_of v.target h)) reached.later.1 (later_all v.target reached.before reached.later.0 (work_right reached.earlier.0 reached.later.0 work)) in
      let small = gate_seen w sound_w in
      let same = ap (λ t. gate_of t w.seen) target in
      let goes : (gate_of v.target reached.before).cancelled ≡ false = one.cancelled ∙ ap (λ (g : Gate). g.cancelled) stands.gate in
      let left : (gate_of v.target reached.before).next ≡ (gate_of v.target reached.before).target =
      elim reached.left [
        | inl stopped ↦ absurd (false≢true (sym goes ∙ stopped))
        | inr even ↦ even
      ] in
      let goal_is : (gate_of v.target w.seen).target ≡ goal = two.target ∙ (one.target ∙ ap (λ (g : Gate). g.target) stands.gate) in
      record {
        alone = alone_w;
        gate =
            same
            ∙ gate_is (gate_of v.target w.seen).next goal (gate_of v.target w.seen).target goal (gate_of v.target w.seen).sealed false (gate_of v.target w.seen).cancelled false
            (omega (arith, left, two.next, goal_is, two.target, small.0, ap (λ (g : Gate). g.next) same, ap (λ (g : Gate). g.target) same))
            goal_is
            (two.sealed ∙ (one.sealed ∙ ap (λ (g : Gate). g.sealed) stands.gate))
            (two.cancelled ∙ goes);
        none = λ r. crew.out r ∙ stands.none r;
      }

  -- ---- what is deposited

  none_out : (v : View B) → IsSound v → IsAlone v → ((r : SampleRange) → has_range (out_of v.calls) r ≡ false) → out_of v.seen ≡ []
  none_out v sound alone none = no_range (out_of v.seen) (λ r. false_from_ne_true (has_range (out_of v.seen) r) (out_of_none r))
    where
      out_of_none : (r : SampleRange) → has_range (out_of v.seen) r ≡ true → ⊥
      out_of_none r has =
          let parts = and_parts (has_range (ranges_of v.seen) r) (not (has_range (deposits_of v.seen) r)) (sym (has-without (deposits_of v.seen) (ranges_of v.seen) r) ∙ has) in
          let who = some_owner v.seen r parts.0 in
          let given : has_range (ranges_of v.calls) r ≡ true = owned_given who.0 v.calls r (ap (λ l. has_range (ranges_of l) r) (sym (alone_calls v sound alone who.0)) ∙ who.1) in
          let kept : has_range (deposits_of v.calls) r ≡ false = false_from_ne_true (has_range (deposits_of v.calls) r) (λ e. false≢true (sym (ap not (own_deposit v sound r e)) ∙ parts.1)) in
          let still : has_range (out_of v.calls) r ≡ true = has-without (deposits_of v.calls) (ranges_of v.calls) r ∙ rw (given, kept) refl in
          false≢true (sym (none r) ∙ still)

  -- the deposits are just the samples below the goal
  pub stands_deposits : (v : View B) → IsSound v → (goal : ℕ) → StandsAt goal goal v → AreSame (deposits_of v.seen) (range 0 goal ∷ [])
  stands_deposits v sound goal stands =
      subst (λ n. AreSame (deposits_of v.seen) (range 0 n ∷ [])) (ap (λ (g : Gate). g.next) stands.gate)
      (all_deposited v.target v.block sound.target sound.block v.seen sound.legal (none_out v sound stands.alone stands.none))

  -- ---- a call while the pass is alone

  -- nothing came between
  alone_call : (v w : View B) (e : Entry) → IsSound v → IsAlone v → IsSound w → IsAlone w → (between : List Entry) → w.seen ≡ (v.seen ++ between) ++ e ∷ [] → w.calls ≡ v.calls ++ e ∷ [] → between ≡ []
  alone_call v w e sound alone sound_w alone_w between seen calls =
      no_calls between
      (λ n.
      nil_from_length (calls_of n between)
      (omega (arith, ap length (alone_calls v sound alone n), ap length (alone_calls w sound_w alone_w n), ap (λ h. length (calls_of n h)) seen, ap (λ h. length (calls_of n h)) calls, ap length (calls-append n (v.seen ++ between) (e ∷ [])), length-append (calls_of n (v.seen ++ between)) (calls_of n (e ∷ [])), ap length (calls-append n v.seen between), length-append (calls_of n v.seen) (calls_of n between), ap length (calls-append n v.calls (e ∷ [])), length-append (calls_of n v.calls) (calls_of n (e ∷ [])))))

  alone_same : (v w : View B) → IsSameSeat v w → IsAlone v → IsAlone w
  alone_same v w same alone = record {
    number = same.number ∙ alone.number;
    all = ap (λ l. length l + 1) same.joined ∙ (alone.all ∙ sym same.made);
  }

  alone_says : (v : View B) (call : Call) (reply : Reply) (w : View B) (says : Says v call reply w) → IsSound v → IsAlone v → IsSound w → says.between ≡ []
  alone_says v call reply w says sound alone sound_w =
      alone_call v w (entry v.number call reply) sound alone sound_w (alone_same v w (same_says v call reply w says) alone) says.between (ap (λ (x : View B). x.seen) says.view) (ap (λ (x : View B). x.calls) says.view)

  -- the reply is that to the gate where the pass stood
  alone_reply : (v : View B) (call : Call) (reply : Reply) (w : View B) → Says v call reply w → IsSound v → IsAlone v → IsSound w
      → reply ≡ reply_of v.block (gate_of v.target v.seen) (deposits_of v.seen) call
  alone_reply v call reply w says sound alone sound_w =
      let still : v.seen ++ says.between ≡ v.seen = ap (λ l. v.seen ++ l) (alone_says v call reply w says sound alone sound_w) ∙ append-nil v.seen in
      says.replied ∙ ap (λ h. reply_of v.block (gate_of v.target h) (deposits_of h) call) still

  alone_gate : (v : View B) (call : Call) (reply : Reply) (w : View B) → Says v call reply w → IsSound v → IsAlone v → IsSound w
      → gate_of w.target w.seen ≡ gate_after (gate_of v.target v.seen) call reply
  alone_gate v call reply w says sound alone sound_w =
      let e = entry v.number call reply in
      let still : v.seen ++ says.between ≡ v.seen = ap (λ l. v.seen ++ l) (alone_says v call reply w says sound alone sound_w) ∙ append-nil v.seen in
      ap (λ (x : View B). gate_of x.target x.seen) says.view ∙ (ap (λ h. gate_of v.target (h ++ e ∷ [])) still ∙ gate_push v.target v.seen e)

  -- ---- a report

  pub stands_report : (v : View B) (gate : Gate) (runs : List Run) (w : View B) → Says v AskInterim (Interim gate runs) w → IsSound v → IsSound w
      → (goal : ℕ) → StandsAt goal goal v → StandsAt goal goal w
  stands_report v gate runs w says sound sound_w goal stands = record {
    alone = alone_same v w (same_says v AskInterim (Interim gate runs) w says) stands.alone;
    gate =
        alone_gate v AskInterim (Interim gate runs) w says sound stands.alone sound_w
        ∙ (ap (λ g. gate_after g AskInterim (Interim gate runs)) stands.gate ∙ gate_is (goal + 0) goal (goal + 0) goal (false || false) false (false || false) false (omega arith) (omega arith) refl refl);
    none = λ r. out_says v AskInterim (Interim gate runs) w refl refl says r ∙ stands.none r;
  }

  -- its runs have just the samples below the goal
  pub report_runs : (v : View B) (gate : Gate) (runs : List Run) (w : View B) → Says v AskInterim (Interim gate runs) w → IsSound v → IsSound w
      → (goal : ℕ) → StandsAt goal goal v → AreSame (map samples_of runs) (range 0 goal ∷ [])
  report_runs v gate runs w says sound sound_w goal stands =
      let reply : Interim gate runs ≡ Interim (gate_of v.target v.seen) (runs_of (deposits_of v.seen)) = alone_reply v AskInterim (Interim gate runs) w says sound stands.alone sound_w in
      let are : runs ≡ runs_of (deposits_of v.seen) = cc (reply) in
      subst (λ rs. AreSame (map samples_of rs) (range 0 goal ∷ [])) (sym are)
      (same_trans (map samples_of (runs_of (deposits_of v.seen))) (deposits_of v.seen) (range 0 goal ∷ []) (runs_same (deposits_of v.seen) (λ n. (deposits_apart v sound n).0)) (stands_deposits v sound goal stands))

-- where there is a sample there is a run
pub some_run : (runs : List Run) (goal : ℕ) → 1 ≤ goal → AreSame (map samples_of runs) (range 0 goal ∷ []) → (length runs == 0) ≡ false
some_run [] goal some same =
    absurd (omega (arith, same (λ n. 1), total-nil (λ n. 1), total-one (λ n. 1) (range 0 goal), ones goal some))
  where
    ones : (n : ℕ) → 1 ≤ n → 1 ≤ weight_of (λ n. 1) (range 0 n)
    ones zero h = absurd (omega arith)
    ones (suc n) h = omega (arith, weight-more (λ n. 1) 0 n)
some_run (r ∷ runs) goal some same = ne_eqb (suc (length runs)) 0 (λ e. omega arith)

-- ---- an extension

extend_now : (g : Gate) (more : ℕ) → g.cancelled ≡ false → g.sealed ≡ false → g.target + more ≤ MOST_SAMPLES → extend_reply g more ≡ Now (g.target + more)
extend_now g more goes unsealed fits = rw (goes, unsealed, not_more (g.target + more) fits) refl
  where
    not_more : (n : ℕ) → n ≤ MOST_SAMPLES → nat_lt MOST_SAMPLES n ≡ false
    not_more n le = false_from_ne_true (nat_lt MOST_SAMPLES n) (λ e. omega (arith, le, ltb-true MOST_SAMPLES n e))

module _ {B : Type 0} where
  -- the reply to an extension is the new target
  now_said : (v : View B) (more : ℕ) (reply : Reply) (w : View B) → Says v (Extend more) reply w → IsSound v → IsSound w
      → (goal : ℕ) → StandsAt goal goal v → goal + more ≤ MOST_SAMPLES → reply ≡ Now (goal + more)
  now_said v more reply w says sound sound_w goal stands fits =
      alone_reply v (Extend more) reply w says sound stands.alone sound_w
      ∙ (ap (λ g. extend_reply g more) stands.gate ∙ extend_now (open_gate goal goal) more refl refl fits)

  -- an extension raises the target
  pub stands_extended : (v : View B) (more : ℕ) (answer : Extension) (w : View B) → Extends v more answer w → IsSound v → IsSound w → IsSameSeat v w
      → (goal : ℕ) → StandsAt goal goal v → goal + more ≤ MOST_SAMPLES → (answer ≡ Raised (goal + more)) × StandsAt goal (goal + more) w
  stands_extended v more Closed w says sound sound_w same goal stands fits = absurd (cc (now_said v more Cancelled w says sound sound_w goal stands fits))
  stands_extended v more Shut w says sound sound_w same goal stands fits = absurd (cc (now_said v more Sealed w says sound sound_w goal stands fits))
  stands_extended v more (Over target) w says sound sound_w same goal stands fits = absurd (cc (now_said v more (TooMany target) w says sound sound_w goal stands fits))
  stands_extended v more (Raised target) w says sound sound_w same goal stands fits =
      let reply = now_said v more (Now target) w says sound sound_w goal stands fits in
      let is : target ≡ goal + more = cc (reply) in (
        ap Raised is,
        record {
          alone = alone_same v w same stands.alone;
          gate =
              alone_gate v (Extend more) (Now target) w says sound stands.alone sound_w
              ∙ (ap (λ g. gate_after g (Extend more) (Now target)) stands.gate ∙ gate_is (goal + 0) goal (goal + more) (goal + more) (false || false) false (false || false) false (omega arith) refl refl refl);
          none = λ r. out_says v (Extend more) (Now target) w refl refl says r ∙ stands.none r;
        },
      )
  stands_extended v more (Crossed before after) w moves sound sound_w same goal stands fits =
      let alone_w = alone_same v w same stands.alone in
      let calls : (n : ℕ) → length (calls_of n moves.first) + length (calls_of n moves.second) ≡ 0 = λ n.
      omega (arith, ap length (alone_calls v sound stands.alone n), ap length (alone_calls w sound_w alone_w n), ap (λ (x : View B). length (calls_of n x.seen)) moves.view, ap (λ (x : View B). length (calls_of n x.calls)) moves.view, ap length (calls-append n (v.seen ++ moves.first) moves.second), length-append (calls_of n (v.seen ++ moves.first)) (calls_of n moves.second), ap length (calls-append n v.seen moves.first), length-append (calls_of n v.seen) (calls_of n moves.first)) in
      let second : moves.second ≡ [] = no_calls moves.second (λ n. nil_from_length (calls_of n moves.second) (omega (arith, calls n))) in
      let still : (v.seen ++ moves.first) ++ moves.second ≡ v.seen ++ moves.first = ap (λ l. (v.seen ++ moves.first) ++ l) second ∙ append-nil (v.seen ++ moves.first) in
      absurd (moves.differ (sym moves.found ∙ (ap (gate_of v.target) still ∙ moves.looked)))
