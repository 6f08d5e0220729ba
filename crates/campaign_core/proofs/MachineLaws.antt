-- A machine stays within the limits, and stands for the history of its calls.
use Rattle.std.proofs.Common.{◌≡◌, ℕ, zero, suc, ◌+◌, ◌-◌, ◌<◌, ◌≤◌, ◌==◌, inl, inr, Bool, true, false, cond, ◌||◌, List, [], ◌∷◌, ◌++◌, length, get_or, map, take, drop, slice_get, Some, Result, Ok, Err, IfOk, All, min, nat_lt, refl, ap, sym, ◌∙◌, subst, arith, append_assoc}
use Rattle.std.proofs.lemmas.Bool.{cases_Bool, cases_lt, eqb-true, eqb-false, ltb-true, ltb-false, false_from_ne_true}
use Rattle.std.proofs.lemmas.Bool.Decides.{nat_tests}
use Rattle.std.proofs.lemmas.List.{append-nil, map_push, take_more}
use Rattle.std.proofs.lemmas.List.Elements.{All-push}
use Rattle.ra_base.specs.declared.memory.OutOfMemory.{OutOfMemory}
use Rattle.ra_base.specs.declared.limits.TheConstants.{MOST_SAMPLES, MOST_BLOCK}
use Rattle.campaign_core.specs.declared.gate.Gate.{Gate}
use Rattle.campaign_core.specs.declared.run.SampleRange.{SampleRange}
use Rattle.campaign_core.specs.declared.call.Call.{Call}
use Rattle.campaign_core.specs.declared.call.Call.TheVariants.{Claim, Extend, Seal, Cancel, Deposit}
use Rattle.campaign_core.specs.declared.call.Call.TheVariants.{Progress as AskProgress, Interim as AskInterim}
use Rattle.campaign_core.specs.declared.call.Reply.{Reply}
use Rattle.campaign_core.specs.declared.call.Reply.TheVariants.{Range, Idle, Drained, Cancelled, Now, Sealed, TooMany, Marked}
use Rattle.campaign_core.specs.declared.call.Entry.{Entry}
use Rattle.campaign_core.specs.declared.run.Run.{Run}
use Rattle.campaign_core.specs.Ranges.{range, run, samples_of, has_range, has_sample, without, weight_of, total, AreDisjoint, AreFilled}
use Rattle.campaign_core.specs.History.{entry, range_in, deposit_in, claim_reply, extend_reply, reply_of, gate_of, ranges_of, deposits_of, out_of, may_come, IsLegal}
use Rattle.campaign_core.specs.Joining.{AreRunnable}
use Rattle.campaign_core.specs.Machine.{Machine, StandsFor, IsAllowed, IsSound, after}
use Rattle.campaign_core.proofs.Totals.{weight-none, weight-more, weight-cut, total-nil, total-cons, total-append, total-one, total_push, times-nil, times-cons, times-append, times_same, same_sym, disjoint_same, disjoint_one, disjoint_left, disjoint_right}
use Rattle.campaign_core.proofs.WithoutLaws.{has-without, filled_append, filled_left, filled_right, filled_without, without-none, without-append, without-both, without-nil, without-keeps, without-place, total-taken, has_times, first_inside, has_filled}
use Rattle.campaign_core.proofs.HistoryLaws.{gate-nil, gate_push, ranges-nil, ranges_push, deposits-nil, deposits_push, legal-nil, legal_push, legal_by_pushes}

-- ---- a call that gives out and deposits nothing, and raises nothing

or_nothing : (b : Bool) → (b || false) ≡ b
or_nothing true = refl
or_nothing false = refl

gate_is : (n m t u : ℕ) (s r c d : Bool) → n ≡ m → t ≡ u → s ≡ r → c ≡ d
    → ◌≡◌ {A = Gate} (record { next = n; target = t; sealed = s; cancelled = c }) (record { next = m; target = u; sealed = r; cancelled = d })
gate_is n m t u s r c d e f g h = rw (e, f, g, h) refl

machine_is : (opening block : ℕ) (g h : Gate) (ds es os ps : List SampleRange) → g ≡ h → ds ≡ es → os ≡ ps
    → ◌≡◌ {A = Machine} (record { opening = opening; block = block; gate = g; deposited = ds; out = os }) (record { opening = opening; block = block; gate = h; deposited = es; out = ps })
machine_is opening block g h ds es os ps e f k = rw (e, f, k) refl

or_all : (b : Bool) → (b || true) ≡ true
or_all true = refl
or_all false = refl

-- a list of ranges with nothing put behind and nothing taken out
same_list : (os : List SampleRange) → without [] (os ++ []) ≡ os
same_list os = without-none (os ++ []) ∙ append-nil os

pub after_mark : (m : Machine) (s c : Bool)
    → ◌≡◌ {A = Machine}
    (record { opening = m.opening; block = m.block; gate = record { next = m.gate.next + 0; target = m.gate.target + 0; sealed = m.gate.sealed || s; cancelled = m.gate.cancelled || c }; deposited = m.deposited ++ []; out = without [] (m.out ++ []) })
    (record { opening = m.opening; block = m.block; gate = record { next = m.gate.next; target = m.gate.target; sealed = m.gate.sealed || s; cancelled = m.gate.cancelled || c }; deposited = m.deposited; out = m.out })
after_mark m s c =
    machine_is m.opening m.block _ _ _ _ _ _ (gate_is _ _ _ _ _ _ _ _ (omega arith) (omega arith) refl refl) (append-nil m.deposited) (same_list m.out)

pub after_nothing : (m : Machine)
    → ◌≡◌ {A = Machine}
    (record { opening = m.opening; block = m.block; gate = record { next = m.gate.next + 0; target = m.gate.target + 0; sealed = m.gate.sealed || false; cancelled = m.gate.cancelled || false }; deposited = m.deposited ++ []; out = without [] (m.out ++ []) })
    m
after_nothing m =
    machine_is m.opening m.block _ _ _ _ _ _ (gate_is _ _ _ _ _ _ _ _ (omega arith) (omega arith) (or_nothing m.gate.sealed) (or_nothing m.gate.cancelled)) (append-nil m.deposited) (same_list m.out)

pub after_claimed : (m : Machine) (first count : ℕ)
    → ◌≡◌ {A = Machine}
    (record { opening = m.opening; block = m.block; gate = record { next = m.gate.next + count; target = m.gate.target + 0; sealed = m.gate.sealed || false; cancelled = m.gate.cancelled || false }; deposited = m.deposited ++ []; out = without [] (m.out ++ range first count ∷ []) })
    (record { opening = m.opening; block = m.block; gate = record { next = m.gate.next + count; target = m.gate.target; sealed = m.gate.sealed; cancelled = m.gate.cancelled }; deposited = m.deposited; out = m.out ++ range first count ∷ [] })
after_claimed m first count =
    machine_is m.opening m.block _ _ _ _ _ _ (gate_is _ _ _ _ _ _ _ _ refl (omega arith) (or_nothing m.gate.sealed) (or_nothing m.gate.cancelled)) (append-nil m.deposited) (without-none (m.out ++ range first count ∷ []))

pub after_raised : (m : Machine) (more : ℕ)
    → ◌≡◌ {A = Machine}
    (record { opening = m.opening; block = m.block; gate = record { next = m.gate.next + 0; target = m.gate.target + more; sealed = m.gate.sealed || false; cancelled = m.gate.cancelled || false }; deposited = m.deposited ++ []; out = without [] (m.out ++ []) })
    (record { opening = m.opening; block = m.block; gate = record { next = m.gate.next; target = m.gate.target + more; sealed = m.gate.sealed; cancelled = m.gate.cancelled }; deposited = m.deposited; out = m.out })
after_raised m more =
    machine_is m.opening m.block _ _ _ _ _ _ (gate_is _ _ _ _ _ _ _ _ (omega arith) refl (or_nothing m.gate.sealed) (or_nothing m.gate.cancelled)) (append-nil m.deposited) (same_list m.out)

pub after_deposited : (m : Machine) (r : SampleRange)
    → ◌≡◌ {A = Machine}
    (record { opening = m.opening; block = m.block; gate = record { next = m.gate.next + 0; target = m.gate.target + 0; sealed = m.gate.sealed || false; cancelled = m.gate.cancelled || false }; deposited = m.deposited ++ r ∷ []; out = without (r ∷ []) (m.out ++ []) })
    (record { opening = m.opening; block = m.block; gate = m.gate; deposited = m.deposited ++ r ∷ []; out = without (r ∷ []) m.out })
after_deposited m r =
    machine_is m.opening m.block _ _ _ _ _ _ (gate_is _ _ _ _ _ _ _ _ (omega arith) (omega arith) (or_nothing m.gate.sealed) (or_nothing m.gate.cancelled)) refl (ap (without (r ∷ [])) (append-nil m.out))

-- ---- the replies to claims and extensions, case by case

pub claim_cases : (block : ℕ) (g : Gate) (P : Reply → Type 0)
    → (g.cancelled ≡ true → P Cancelled)
    → (g.cancelled ≡ false → g.next ≡ g.target → g.sealed ≡ true → P Drained)
    → (g.cancelled ≡ false → g.next ≡ g.target → g.sealed ≡ false → P Idle)
    → (g.cancelled ≡ false → (g.next ≡ g.target → ⊥) → P (Range g.next (min block (g.target - g.next))))
    → P (claim_reply block g)
claim_cases block g P a b c d =
    elim (cases_Bool g.cancelled) [
      | inl stopped ↦ rw stopped (a stopped)
      | inr goes ↦
          elim (cases_Bool (g.next == g.target)) [
            | inl all ↦
                let e = eqb-true g.next g.target all in
                elim (cases_Bool g.sealed) [
                  | inl shut ↦ rw (goes, all, shut) (b goes e shut)
                  | inr open_still ↦ rw (goes, all, open_still) (c goes e open_still)
                ]
            | inr some ↦ rw (goes, some) (d goes (eqb-false g.next g.target some))
          ]
    ]

pub extend_cases : (g : Gate) (more : ℕ) (P : Reply → Type 0)
    → (g.cancelled ≡ true → P Cancelled)
    → (g.cancelled ≡ false → g.sealed ≡ true → P Sealed)
    → (g.cancelled ≡ false → g.sealed ≡ false → MOST_SAMPLES < g.target + more → P (TooMany g.target))
    → (g.cancelled ≡ false → g.sealed ≡ false → g.target + more ≤ MOST_SAMPLES → P (Now (g.target + more)))
    → P (extend_reply g more)
extend_cases g more P a b c d =
    elim (cases_Bool g.cancelled) [
      | inl stopped ↦ rw stopped (a stopped)
      | inr goes ↦
          elim (cases_Bool g.sealed) [
            | inl shut ↦ rw (goes, shut) (b goes shut)
            | inr open_still ↦
                elim (cases_Bool (nat_lt MOST_SAMPLES (g.target + more))) [
                  | inl over ↦ rw (goes, open_still, over) (c goes open_still (ltb-true MOST_SAMPLES (g.target + more) over))
                  | inr fits ↦ rw (goes, open_still, fits) (d goes open_still (ltb-false MOST_SAMPLES (g.target + more) fits))
                ]
          ]
    ]

-- ---- a sound machine stays sound

pub sound_gate : (m : Machine) (s c : Bool) → IsSound m
    → IsSound (record { opening = m.opening; block = m.block; gate = record { next = m.gate.next; target = m.gate.target; sealed = s; cancelled = c }; deposited = m.deposited; out = m.out })
sound_gate m s c sound = record {
  opening = sound.opening;
  block = sound.block;
  next = sound.next;
  target = sound.target;
  filled = sound.filled;
  same = sound.same;
}

pub sound_claimed : (m : Machine) → IsSound m → (m.gate.next ≡ m.gate.target → ⊥) → (count : ℕ) → count ≡ min m.block (m.gate.target - m.gate.next)
    → IsSound (record { opening = m.opening; block = m.block; gate = record { next = m.gate.next + count; target = m.gate.target; sealed = m.gate.sealed; cancelled = m.gate.cancelled }; deposited = m.deposited; out = m.out ++ range m.gate.next count ∷ [] })
sound_claimed m sound some count is =
    let left : m.gate.next < m.gate.target = omega (arith, sound.next, some) in
    let r = range m.gate.next count in
    let lists : m.deposited ++ (m.out ++ r ∷ []) ≡ (m.deposited ++ m.out) ++ r ∷ [] = sym (append_assoc m.deposited m.out (r ∷ [])) in
    let full : 1 ≤ count = omega (arith, sound.block.0) in
    record {
      opening = sound.opening;
      block = sound.block;
      next = omega arith;
      target = sound.target;
      filled = subst AreFilled (sym lists) (filled_append (m.deposited ++ m.out) (r ∷ []) sound.filled (full, tt));
      same = λ w.
          let e : 0 + m.gate.next ≡ m.gate.next = omega arith in
          let cut : weight_of w (range 0 (m.gate.next + count)) ≡ weight_of w (range 0 m.gate.next) + weight_of w r = rw e at (weight-cut w 0 m.gate.next count) in
          rw lists (omega (arith, total_push w (m.deposited ++ m.out) r, sound.same w, total-one w (range 0 m.gate.next), total-one w (range 0 (m.gate.next + count)), cut));
    }

pub sound_raised : (m : Machine) → IsSound m → (target : ℕ) → m.gate.target ≤ target → target ≤ MOST_SAMPLES
    → IsSound (record { opening = m.opening; block = m.block; gate = record { next = m.gate.next; target = target; sealed = m.gate.sealed; cancelled = m.gate.cancelled }; deposited = m.deposited; out = m.out })
sound_raised m sound target up fits = record {
  opening = sound.opening;
  block = sound.block;
  next = omega (arith, sound.next);
  target = fits;
  filled = sound.filled;
  same = sound.same;
}

-- what was given out is disjoint
pub sound_disjoint : (m : Machine) → IsSound m → AreDisjoint (m.deposited ++ m.out)
sound_disjoint m sound =
    disjoint_same (range 0 m.gate.next ∷ []) (m.deposited ++ m.out) (same_sym (m.deposited ++ m.out) (range 0 m.gate.next ∷ []) sound.same)
    (disjoint_one m.gate.next (omega (arith, sound.next, sound.target)))

pub sound_deposited : (m : Machine) (r : SampleRange) → IsSound m → has_range m.out r ≡ true
    → IsSound (record { opening = m.opening; block = m.block; gate = m.gate; deposited = m.deposited ++ r ∷ []; out = without (r ∷ []) m.out })
sound_deposited m r sound out =
    let apart = disjoint_right m.deposited m.out (sound_disjoint m sound) in
    let full_out = filled_right m.deposited m.out sound.filled in
    let full = has_filled m.out r full_out out in
    let left = without (r ∷ []) m.out in
    record {
      opening = sound.opening;
      block = sound.block;
      next = sound.next;
      target = sound.target;
      filled = filled_append (m.deposited ++ r ∷ []) left (filled_append m.deposited (r ∷ []) (filled_left m.deposited m.out sound.filled) (full, tt)) (filled_without (r ∷ []) m.out full_out);
      same = λ w.
          omega (arith, total-append w (m.deposited ++ r ∷ []) left, total_push w m.deposited r, total-taken w r m.out full_out (λ n. (apart n).0) out, total-append w m.deposited m.out, sound.same w);
    }

-- what a deposit brings is out
abbrev pub IsOut : List SampleRange → Call → Type 0
IsOut out (Deposit first count) = has_range out (range first count) ≡ true
IsOut out other = Unit {0}

pub out_from_allowed : (out : List SampleRange) (call : Call) → IsAllowed out call → IsOut out call
out_from_allowed out Claim may = tt
out_from_allowed out (Extend more) may = tt
out_from_allowed out Seal may = tt
out_from_allowed out Cancel may = tt
out_from_allowed out AskProgress may = tt
out_from_allowed out (Deposit first count) may = may
out_from_allowed out AskInterim may = tt

pub sound_after : (m : Machine) (call : Call) → IsSound m → IsOut m.out call → IsSound (after m call (reply_of m.block m.gate m.deposited call))
sound_after m Claim sound may =
    claim_cases m.block m.gate (λ reply. IsSound (after m Claim reply))
    (λ a. subst IsSound (sym (after_nothing m)) sound)
    (λ a b c. subst IsSound (sym (after_nothing m)) sound)
    (λ a b c. subst IsSound (sym (after_nothing m)) sound)
    (λ a some. subst IsSound (sym (after_claimed m m.gate.next (min m.block (m.gate.target - m.gate.next)))) (sound_claimed m sound some (min m.block (m.gate.target - m.gate.next)) refl))
sound_after m (Extend more) sound may =
    extend_cases m.gate more (λ reply. IsSound (after m (Extend more) reply))
    (λ a. subst IsSound (sym (after_nothing m)) sound)
    (λ a b. subst IsSound (sym (after_nothing m)) sound)
    (λ a b c. subst IsSound (sym (after_nothing m)) sound)
    (λ a b fits. subst IsSound (sym (after_raised m more)) (sound_raised m sound (m.gate.target + more) (omega arith) fits))
sound_after m Seal sound may = subst IsSound (sym (after_mark m true false)) (sound_gate m (m.gate.sealed || true) (m.gate.cancelled || false) sound)
sound_after m Cancel sound may = subst IsSound (sym (after_mark m false true)) (sound_gate m (m.gate.sealed || false) (m.gate.cancelled || true) sound)
sound_after m AskProgress sound may = subst IsSound (sym (after_nothing m)) sound
sound_after m (Deposit first count) sound may = subst IsSound (sym (after_deposited m (range first count))) (sound_deposited m (range first count) sound may)
sound_after m AskInterim sound may = subst IsSound (sym (after_nothing m)) sound

-- ---- histories as machines

-- the machine that stands for a history, if it is legal
abbrev pub machine_at : ℕ → ℕ → List Entry → Machine
machine_at opening block h = record {
  opening = opening;
  block = block;
  gate = gate_of opening h;
  deposited = deposits_of h;
  out = out_of h;
}

-- a range that a claim gives out wasn't deposited
fresh_claim : (m : Machine) (count : ℕ) → IsSound m → 1 ≤ count → without m.deposited (range m.gate.next count ∷ []) ≡ range m.gate.next count ∷ []
fresh_claim m count sound full =
    let r = range m.gate.next count in
    let d = disjoint_left m.deposited m.out (sound_disjoint m sound) in
    let none_there : has_range m.deposited r ≡ false = false_from_ne_true (has_range m.deposited r) (λ there.
    let t = has_times m.deposited r m.gate.next there (first_inside r full) in
    let all = times_same (m.deposited ++ m.out) (range 0 m.gate.next ∷ []) sound.same m.gate.next in
    absurd (omega (arith, times-append m.gate.next m.deposited m.out, times-cons m.gate.next (range 0 m.gate.next) [], times-nil m.gate.next, above m.gate.next))) in
    without-keeps m.deposited r [] none_there ∙ ap (λ l. r ∷ l) (without-nil m.deposited)
  where
    above : (n : ℕ) → cond (has_sample n (range 0 n)) 1 0 ≡ zero
    above n = let off : has_sample n (range 0 n) ≡ false = grind (arith, nat_tests) in ap (λ b. cond b 1 0) off

pub fresh : (m : Machine) (call : Call) → IsSound m → without m.deposited (range_in (reply_of m.block m.gate m.deposited call)) ≡ range_in (reply_of m.block m.gate m.deposited call)
fresh m Claim sound =
    claim_cases m.block m.gate (λ reply. without m.deposited (range_in reply) ≡ range_in reply)
    (λ a. without-nil m.deposited) (λ a b c. without-nil m.deposited) (λ a b c. without-nil m.deposited)
    (λ a some. fresh_claim m (min m.block (m.gate.target - m.gate.next)) sound (omega (arith, sound.next, sound.block.0, some)))
fresh m (Extend more) sound =
    extend_cases m.gate more (λ reply. without m.deposited (range_in reply) ≡ range_in reply)
    (λ a. without-nil m.deposited) (λ a b. without-nil m.deposited) (λ a b c. without-nil m.deposited) (λ a b c. without-nil m.deposited)
fresh m Seal sound = without-nil m.deposited
fresh m Cancel sound = without-nil m.deposited
fresh m AskProgress sound = without-nil m.deposited
fresh m (Deposit first count) sound = without-nil m.deposited
fresh m AskInterim sound = without-nil m.deposited

-- a history's machine after one more entry
pub machine_push : (opening block : ℕ) (h : List Entry) (e : Entry) → IsSound (machine_at opening block h)
    → e.reply ≡ reply_of block (gate_of opening h) (deposits_of h) e.call
    → machine_at opening block (h ++ e ∷ []) ≡ after (machine_at opening block h) e.call e.reply
machine_push opening block h e sound is =
    let m = machine_at opening block h in
    let ds = deposits_of h in
    let rs = ranges_of h in
    let new : without ds (range_in e.reply) ≡ range_in e.reply = subst (λ reply. without ds (range_in reply) ≡ range_in reply) (sym is) (fresh m e.call sound) in
    let out : out_of (h ++ e ∷ []) ≡ without (deposit_in e.call) (out_of h ++ range_in e.reply) =
    rw (deposits_push h e, ranges_push h e)
    (without-both ds (deposit_in e.call) (rs ++ range_in e.reply)
    ∙ ap (without (deposit_in e.call)) (without-append ds rs (range_in e.reply) ∙ ap (λ l. without ds rs ++ l) new)) in
    machine_is opening block _ _ _ _ _ _ (gate_push opening h e) (deposits_push h e) out

pub allowed_from_may : (h : List Entry) (first count : ℕ) → may_come h (Deposit first count) ≡ true → has_range (out_of h) (range first count) ≡ true
allowed_from_may h first count may = has-without (deposits_of h) (ranges_of h) (range first count) ∙ may

pub may_from_allowed : (h : List Entry) (call : Call) → IsAllowed (out_of h) call → may_come h call ≡ true
may_from_allowed h Claim may = refl
may_from_allowed h (Extend more) may = refl
may_from_allowed h Seal may = refl
may_from_allowed h Cancel may = refl
may_from_allowed h AskProgress may = refl
may_from_allowed h (Deposit first count) may = sym (has-without (deposits_of h) (ranges_of h) (range first count)) ∙ may
may_from_allowed h AskInterim may = refl

pub out_from_may : (h : List Entry) (call : Call) → may_come h call ≡ true → IsOut (out_of h) call
out_from_may h Claim may = tt
out_from_may h (Extend more) may = tt
out_from_may h Seal may = tt
out_from_may h Cancel may = tt
out_from_may h AskProgress may = tt
out_from_may h (Deposit first count) may = allowed_from_may h first count may
out_from_may h AskInterim may = tt

pub sound_empty : (opening block : ℕ) → (1 ≤ opening) × (opening ≤ MOST_SAMPLES) → (1 ≤ block) × (block ≤ MOST_BLOCK)
    → IsSound (record { opening = opening; block = block; gate = record { next = 0; target = opening; sealed = false; cancelled = false }; deposited = []; out = [] })
sound_empty opening block o b = record {
  opening = o;
  block = b;
  next = omega arith;
  target = o.1;
  filled = tt;
  same = λ w. omega (arith, total-nil w, total-one w (range 0 0), weight-none w 0);
}

out_nil : out_of [] ≡ []
out_nil = rw (ranges-nil) (without-nil (deposits_of []))

pub machine_start : (opening block : ℕ) → machine_at opening block [] ≡ record { opening = opening; block = block; gate = record { next = 0; target = opening; sealed = false; cancelled = false }; deposited = []; out = [] }
machine_start opening block = machine_is opening block _ _ _ _ _ _ (gate-nil opening) deposits-nil out_nil

sound_start : (opening block : ℕ) → (1 ≤ opening) × (opening ≤ MOST_SAMPLES) → (1 ≤ block) × (block ≤ MOST_BLOCK) → IsSound (machine_at opening block [])
sound_start opening block o b =
    subst IsSound (sym (machine_start opening block)) (sound_empty opening block o b)

-- what a legal history comes to is within the limits, and what it gave out stands in its deposits and what is out
pub sound_history : (opening block : ℕ) → (1 ≤ opening) × (opening ≤ MOST_SAMPLES) → (1 ≤ block) × (block ≤ MOST_BLOCK)
    → (h : List Entry) → IsLegal opening block h → IsSound (machine_at opening block h)
sound_history opening block o b =
    legal_by_pushes opening block (λ h. IsSound (machine_at opening block h)) (sound_start opening block o b)
    (λ h e legal follows sound.
    subst IsSound (sym (machine_push opening block h e sound follows.0))
    (subst (λ reply. IsSound (after (machine_at opening block h) e.call reply)) (sym follows.0)
    (sound_after (machine_at opening block h) e.call sound (out_from_may h e.call follows.1))))

-- ---- a machine stands for the history of its calls

pub stands_start : (m : Machine) (opening block : ℕ) → m ≡ record { opening = opening; block = block; gate = record { next = 0; target = opening; sealed = false; cancelled = false }; deposited = []; out = [] } → StandsFor m []
stands_start m opening block is =
    subst (λ x. StandsFor x []) (sym is)
    (record {
      legal = legal-nil opening block;
      gate = sym (gate-nil opening);
      deposited = sym deposits-nil;
      out = sym (rw (ranges-nil) (without-nil (deposits_of [])));
    })

stands_is : (m : Machine) (h : List Entry) → StandsFor m h → m ≡ machine_at m.opening m.block h
stands_is m h s = machine_is m.opening m.block _ _ _ _ _ _ s.gate s.deposited s.out

pub stands_after : (m : Machine) (h : List Entry) (caller : ℕ) (call : Call) (reply : Reply) → IsSound m → IsAllowed m.out call
    → reply ≡ reply_of m.block m.gate m.deposited call → StandsFor m h → StandsFor (after m call reply) (h ++ entry caller call reply ∷ [])
stands_after m h caller call reply sound may is s =
    let n = machine_at m.opening m.block h in
    let sound_at : IsSound n = subst IsSound (stands_is m h s) sound in
    let follows_reply : reply ≡ reply_of m.block (gate_of m.opening h) (deposits_of h) call = subst (λ (x : Machine). reply ≡ reply_of m.block x.gate x.deposited call) (stands_is m h s) is in
    let come : may_come h call ≡ true = may_from_allowed h call (subst (λ o. IsAllowed o call) s.out may) in
    let pushed = machine_push m.opening m.block h (entry caller call reply) sound_at follows_reply in
    let now : after m call reply ≡ machine_at m.opening m.block (h ++ entry caller call reply ∷ []) = ap (λ (x : Machine). after x call reply) (stands_is m h s) ∙ sym pushed in
    record {
      legal = legal_push m.opening m.block h (entry caller call reply) s.legal (follows_reply, come);
      gate = ap (λ (x : Machine). x.gate) now;
      deposited = ap (λ (x : Machine). x.deposited) now;
      out = ap (λ (x : Machine). x.out) now;
    }

-- ---- a machine's fields after a seal and after a cancel

pub after_seal : (m : Machine) → after m Seal Marked ≡ record { opening = m.opening; block = m.block; gate = record { next = m.gate.next; target = m.gate.target; sealed = true; cancelled = m.gate.cancelled }; deposited = m.deposited; out = m.out }
after_seal m =
    machine_is m.opening m.block _ _ _ _ _ _ (gate_is _ _ _ _ _ _ _ _ (omega arith) (omega arith) (or_all m.gate.sealed) (or_nothing m.gate.cancelled)) (append-nil m.deposited) (same_list m.out)

pub after_cancel : (m : Machine) → after m Cancel Marked ≡ record { opening = m.opening; block = m.block; gate = record { next = m.gate.next; target = m.gate.target; sealed = m.gate.sealed; cancelled = true }; deposited = m.deposited; out = m.out }
after_cancel m =
    machine_is m.opening m.block _ _ _ _ _ _ (gate_is _ _ _ _ _ _ _ _ (omega arith) (omega arith) (or_nothing m.gate.sealed) (or_all m.gate.cancelled)) (append-nil m.deposited) (same_list m.out)

-- ---- what a sound machine's lists are

abbrev ones : ℕ → ℕ
ones n = 1

pub weight-ones : (a n : ℕ) → weight_of (λ sample. 1) (range a n) ≡ n
weight-ones a zero = weight-none ones a
weight-ones a (suc n) = omega (arith, weight-more ones a n, weight-ones (a + 1) n)

pub few_filled : (rs : List SampleRange) → AreFilled rs → length rs ≤ total (λ sample. 1) rs
few_filled [] f = omega arith
few_filled (r ∷ rs) f = omega (arith, few_filled rs f.1, f.0, total-cons ones r rs, weight-ones r.first r.count)

-- there are no more deposits than samples that were given out
pub sound_few : (m : Machine) → IsSound m → length m.deposited ≤ m.gate.next
sound_few m sound =
    omega (arith, few_filled m.deposited (filled_left m.deposited m.out sound.filled), total-append ones m.deposited m.out, sound.same ones, total-one ones (range 0 m.gate.next), weight-ones 0 m.gate.next)

fits_by_end : (last : ℕ) (r : SampleRange) (rs : List SampleRange) → last + 1 ≡ r.first + r.count → 1 ≤ r.count → AreDisjoint (r ∷ rs) → r.first + r.count ≤ MOST_SAMPLES
fits_by_end last r rs e f d =
    elim (cases_lt last MOST_SAMPLES) [
      | inl below ↦ omega arith
      | inr above ↦
          let inside : has_sample last r ≡ true = ends_inside last r e f in
          let here : cond (has_sample last r) 1 0 ≡ suc zero = ap (λ b. cond b 1 0) inside in
          absurd (omega (arith, (d last).1 above, times-cons last r rs, here))
    ]
  where
    ends_inside : (n : ℕ) (r : SampleRange) → n + 1 ≡ r.first + r.count → 1 ≤ r.count → has_sample n r ≡ true
    ends_inside n r e f = grind (arith, nat_tests)

pub runnable : (rs : List SampleRange) → AreFilled rs → AreDisjoint rs → AreRunnable rs
runnable [] f d = tt
runnable (r ∷ rs) f d = (
  f.0,
  fits_by_end (r.first + r.count - 1) r rs (omega (arith, f.0)) f.0 d,
  runnable rs f.1 (disjoint_right (r ∷ []) rs d),
)

pub sound_runnable : (m : Machine) → IsSound m → AreRunnable m.deposited
sound_runnable m sound = runnable m.deposited (filled_left m.deposited m.out sound.filled) (disjoint_left m.deposited m.out (sound_disjoint m sound))

pub sound_deposits : (m : Machine) → IsSound m → AreDisjoint m.deposited
sound_deposits m sound = disjoint_left m.deposited m.out (sound_disjoint m sound)

pub runnable_at : (rs : List SampleRange) (k : ℕ) (d : SampleRange) → AreRunnable rs → k < length rs → (1 ≤ (get_or rs k d).count) × ((get_or rs k d).first + (get_or rs k d).count ≤ MOST_SAMPLES)
runnable_at [] k d a l = absurd (omega arith)
runnable_at (r ∷ rs) zero d a l = (a.0, a.1)
runnable_at (r ∷ rs) (suc k) d a l = runnable_at rs k d a.2 (omega arith)

-- one more range as a run
pub run_samples : (r : SampleRange) → 1 ≤ r.count → samples_of (run r.first (r.first + r.count - 1)) ≡ r
run_samples r f = let e : r.first + r.count - 1 + 1 - r.first ≡ r.count = omega arith in ap (range r.first) e

pub runs_push : (rs : List SampleRange) (k : ℕ) (d : SampleRange) (js : List Run) → AreRunnable rs → k < length rs
    → map samples_of js ≡ take k rs
    → map samples_of (js ++ run (get_or rs k d).first ((get_or rs k d).first + (get_or rs k d).count - 1) ∷ []) ≡ take (k + 1) rs
runs_push rs k d js a l e =
    let r = get_or rs k d in
    let at = runnable_at rs k d a l in
    map_push samples_of js (run r.first (r.first + r.count - 1))
    ∙ (ap (λ x. map samples_of js ++ x ∷ []) (run_samples r at.0)
    ∙ (ap (λ l. l ++ r ∷ []) e ∙ sym (take_more rs k d l)))

pub ordered_push : (js : List Run) (j : Run) → All (λ (r : Run). r.first ≤ r.last) js → j.first ≤ j.last → All (λ (r : Run). r.first ≤ r.last) (js ++ j ∷ [])
ordered_push js j all here = All-push (λ (r : Run). r.first ≤ r.last) js j all here

-- what is out, with the range at a place taken out
pub sound_place : (m : Machine) (i : ℕ) (r : SampleRange) → IsSound m → slice_get m.out i ≡ Some r → take i m.out ++ drop (suc i) m.out ≡ without (r ∷ []) m.out
sound_place m i r sound h =
    sym (without-place m.out i r (filled_right m.deposited m.out sound.filled) (λ n. (disjoint_right m.deposited m.out (sound_disjoint m sound) n).0) h)

pub below_from_get : {A : Type 0} (xs : List A) (i : ℕ) (x : A) → slice_get xs i ≡ Some x → i < length xs
below_from_get [] i x h = absurd cc
below_from_get (y ∷ xs) zero x h = omega arith
below_from_get (y ∷ xs) (suc i) x h = omega (arith, below_from_get xs i x h)

-- what a call gives, where it gives a reply
pub stands_result : (m n : Machine) (call : Call) (result : Result Reply OutOfMemory) → IsSound m → IsAllowed m.out call
    → IfOk result (λ reply. reply ≡ reply_of m.block m.gate m.deposited call) → IfOk result (λ reply. n ≡ after m call reply)
    → IfOk result (λ reply. (h : List Entry) (caller : ℕ) → StandsFor m h → StandsFor n (h ++ entry caller call reply ∷ []))
stands_result m n call (Ok reply) sound may is now = λ h caller s. subst (λ x. StandsFor x (h ++ entry caller call reply ∷ [])) (sym now) (stands_after m h caller call reply sound may is s)
stands_result m n call (Err e) sound may is now = tt
