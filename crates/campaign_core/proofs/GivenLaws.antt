-- The ranges that a legal history gives out, and the callers to whom it gives them.
use Rattle.std.proofs.Common.{◌≡◌, ℕ, zero, suc, ◌+◌, ◌-◌, ◌<◌, ◌≤◌, ◌==◌, ◌⊎◌, inl, inr, true, cond, ◌||◌, List, [], ◌∷◌, ◌++◌, length, min, refl, ap, sym, ◌∙◌, subst, arith, length-append}
use Rattle.std.proofs.lemmas.Bool.{cases_eq, cases_lt, eq-eqb, ne_eqb, or_cases, or_left, or_right, false≢true}
use Rattle.std.proofs.lemmas.List.{append-nil, nil_from_length}
use mathlib.Core.List.{IsPrefix}
use Rattle.ra_base.specs.declared.limits.TheConstants.{MOST_SAMPLES, MOST_BLOCK}
use Rattle.campaign_core.specs.declared.run.SampleRange.{SampleRange}
use Rattle.campaign_core.specs.declared.call.Call.{Call}
use Rattle.campaign_core.specs.declared.call.Call.TheVariants.{Claim, Extend, Seal, Cancel, Deposit}
use Rattle.campaign_core.specs.declared.call.Call.TheVariants.{Progress as AskProgress, Interim as AskInterim}
use Rattle.campaign_core.specs.declared.call.Entry.{Entry}
use Rattle.campaign_core.specs.declared.gate.Gate.{Gate}
use Rattle.campaign_core.specs.Ranges.{range, has_range, times, weight_of, total, AreSame, AreDisjoint, AreFilled}
use Rattle.campaign_core.specs.History.{range_in, claimed_in, reply_of, gate_of, ranges_of, deposits_of, out_of, calls_of, Follows, IsLegal}
use Rattle.campaign_core.specs.Machine.{IsSound}
use Rattle.campaign_core.proofs.Totals.{sum_below, below-none, below-both, below-only, below-le, weight-none, weight-cut, total-nil, total-one, total-append, times-nil, times-append, disjoint_one, disjoint_same, same_sym}
use Rattle.campaign_core.proofs.WithoutLaws.{has-append, has-nil, has_times, has_filled, first_inside, filled_append}
use Rattle.campaign_core.proofs.HistoryLaws.{gate-nil, gate_push, ranges-nil, ranges-append, ranges-one, ranges_push, deposits-nil, deposits-append, calls-nil, calls-append, legal_by_pushes}
use Rattle.campaign_core.proofs.MachineLaws.{machine_at, sound_history, claim_cases, extend_cases}

-- ---- beginnings of one list

pub prefix_length : {A : Type 0} (xs ys : List A) → IsPrefix xs ys → length xs ≤ length ys
prefix_length xs ys p = omega (arith, sym (ap length p.1) ∙ length-append xs p.0)

-- of two beginnings of one list the shorter begins the longer
pub prefix_shorter : {A : Type 0} (xs ys zs : List A) → IsPrefix xs zs → IsPrefix ys zs → length xs ≤ length ys → IsPrefix xs ys
prefix_shorter [] ys zs p q le = (ys, refl)
prefix_shorter (x ∷ xs) [] zs p q le = absurd (omega arith)
prefix_shorter (x ∷ xs) (y ∷ ys) [] p q le = absurd (cc (p.1))
prefix_shorter (x ∷ xs) (y ∷ ys) (z ∷ zs) p q le =
    let heads : x ≡ y = cc (p.1, q.1) in
    let rest = prefix_shorter xs ys zs (p.0, cc (p.1)) (q.0, cc (q.1)) (omega arith) in
    (rest.0, cc (heads, rest.1))

-- ---- the calls of a caller

calls-other : (n : ℕ) (e : Entry) → (e.caller ≡ n → ⊥) → calls_of n (e ∷ []) ≡ []
unfolding calls_of
calls-other n e h = rw (ne_eqb e.caller n h) refl

calls-own : (n : ℕ) (e : Entry) → e.caller ≡ n → calls_of n (e ∷ []) ≡ e ∷ []
unfolding calls_of
calls-own n e h = rw (eq-eqb e.caller n h) refl

pub calls_push_own : (n : ℕ) (h : List Entry) (e : Entry) → e.caller ≡ n → calls_of n (h ++ e ∷ []) ≡ calls_of n h ++ e ∷ []
calls_push_own n h e is = calls-append n h (e ∷ []) ∙ ap (λ l. calls_of n h ++ l) (calls-own n e is)

pub calls_push_other : (n : ℕ) (h : List Entry) (e : Entry) → (e.caller ≡ n → ⊥) → calls_of n (h ++ e ∷ []) ≡ calls_of n h
calls_push_other n h e is = calls-append n h (e ∷ []) ∙ (ap (λ l. calls_of n h ++ l) (calls-other n e is) ∙ append-nil (calls_of n h))

-- a caller's calls in a history that stands between two in which they are the same
pub calls_between : (n : ℕ) (g h k : List Entry) → IsPrefix g h → IsPrefix h k → calls_of n g ≡ calls_of n k → calls_of n h ≡ calls_of n g
calls_between n g h k p q same =
    let first : calls_of n h ≡ calls_of n g ++ calls_of n p.0 = ap (calls_of n) (sym p.1) ∙ calls-append n g p.0 in
    let second : calls_of n k ≡ calls_of n h ++ calls_of n q.0 = ap (calls_of n) (sym q.1) ∙ calls-append n h q.0 in
    let none_new : calls_of n p.0 ≡ [] =
    nil_from_length (calls_of n p.0)
    (omega (arith, ap length first, ap length second, length-append (calls_of n g) (calls_of n p.0), length-append (calls_of n h) (calls_of n q.0), ap length same)) in
    first ∙ (ap (λ l. calls_of n g ++ l) none_new ∙ append-nil (calls_of n g))

-- who has no call in a history has none in its beginnings
pub calls_none : (n : ℕ) (g h : List Entry) → IsPrefix g h → calls_of n h ≡ [] → calls_of n g ≡ []
calls_none n g h p e =
    nil_from_length (calls_of n g)
    (omega (arith, ap length e, ap length (ap (calls_of n) (sym p.1) ∙ calls-append n g p.0), length-append (calls_of n g) (calls_of n p.0)))

-- ---- the ranges that were given out

given_push : (opening block : ℕ) → (1 ≤ block) × (block ≤ MOST_BLOCK) → (h : List Entry) (e : Entry) → IsSound (machine_at opening block h) → Follows opening block h e
    → AreFilled (ranges_of h) × AreSame (ranges_of h) (range 0 (gate_of opening h).next ∷ [])
    → AreFilled (range_in e.reply) × ((w : ℕ → ℕ) → total w (range_in e.reply) + weight_of w (range 0 (gate_of opening h).next) ≡ weight_of w (range 0 ((gate_of opening h).next + claimed_in e.reply)))
given_push opening block b h e sound follows before =
    subst (λ reply. AreFilled (range_in reply) × ((w : ℕ → ℕ) → total w (range_in reply) + weight_of w (range 0 (gate_of opening h).next) ≡ weight_of w (range 0 ((gate_of opening h).next + claimed_in reply)))) (sym follows.0)
    (by_call e.call)
  where
    g : Gate
    g = gate_of opening h

    nothing : AreFilled [] × ((w : ℕ → ℕ) → total w [] + weight_of w (range 0 (gate_of opening h).next) ≡ weight_of w (range 0 ((gate_of opening h).next + 0)))
    nothing = (tt, λ w. let z : (gate_of opening h).next + 0 ≡ (gate_of opening h).next = omega arith in rw z (omega (arith, total-nil w)))

    by_call : (call : Call) → AreFilled (range_in (reply_of block (gate_of opening h) (deposits_of h) call)) × ((w : ℕ → ℕ) → total w (range_in (reply_of block (gate_of opening h) (deposits_of h) call)) + weight_of w (range 0 (gate_of opening h).next) ≡ weight_of w (range 0 ((gate_of opening h).next + claimed_in (reply_of block (gate_of opening h) (deposits_of h) call))))
    by_call Claim =
        claim_cases block (gate_of opening h) (λ reply. AreFilled (range_in reply) × ((w : ℕ → ℕ) → total w (range_in reply) + weight_of w (range 0 (gate_of opening h).next) ≡ weight_of w (range 0 ((gate_of opening h).next + claimed_in reply))))
        (λ x. nothing) (λ x y z. nothing) (λ x y z. nothing)
        (λ x some.
        let count = min block ((gate_of opening h).target - (gate_of opening h).next) in
        let next = (gate_of opening h).next in (
          (omega (arith, sound.next, b.0, some), tt),
          λ w. let cut : weight_of w (range 0 (next + count)) ≡ weight_of w (range 0 next) + weight_of w (range next count) = let e : 0 + next ≡ next = omega arith in rw e at (weight-cut w 0 next count) in
              omega (arith, total-one w (range next count), cut),
        ))
    by_call (Extend more) =
        extend_cases (gate_of opening h) more (λ reply. AreFilled (range_in reply) × ((w : ℕ → ℕ) → total w (range_in reply) + weight_of w (range 0 (gate_of opening h).next) ≡ weight_of w (range 0 ((gate_of opening h).next + claimed_in reply))))
        (λ x. nothing) (λ x y. nothing) (λ x y z. nothing) (λ x y z. nothing)
    by_call Seal = nothing
    by_call Cancel = nothing
    by_call AskProgress = nothing
    by_call (Deposit first count) = nothing
    by_call AskInterim = nothing

-- the ranges given out are just the samples below next, each range with some
pub ranges_given : (opening block : ℕ) → (1 ≤ opening) × (opening ≤ MOST_SAMPLES) → (1 ≤ block) × (block ≤ MOST_BLOCK) → (h : List Entry) → IsLegal opening block h
    → AreFilled (ranges_of h) × AreSame (ranges_of h) (range 0 (gate_of opening h).next ∷ [])
ranges_given opening block o b =
    legal_by_pushes opening block (λ h. AreFilled (ranges_of h) × AreSame (ranges_of h) (range 0 (gate_of opening h).next ∷ []))
    (rw (ranges-nil, gate-nil opening) (tt, λ w. omega (arith, total-nil w, total-one w (range 0 0), weight-none w 0)))
    (λ h e legal follows before.
    let sound = sound_history opening block o b h legal in
    let new = given_push opening block b h e sound follows before in
    rw (ranges_push h e, gate_push opening h e) (
      filled_append (ranges_of h) (range_in e.reply) before.0 new.0,
      λ w. omega (arith, total-append w (ranges_of h) (range_in e.reply), before.1 w, total-one w (range 0 (gate_of opening h).next), total-one w (range 0 ((gate_of opening h).next + claimed_in e.reply)), new.1 w),
    ))

-- ---- to whom they were given

-- a caller's calls, one entry more in front
calls_cons : (n : ℕ) (e : Entry) (h : List Entry) → calls_of n (e ∷ h) ≡ calls_of n (e ∷ []) ++ calls_of n h
calls_cons n e h = calls-append n (e ∷ []) h

ranges_cons : (e : Entry) (h : List Entry) → ranges_of (e ∷ h) ≡ range_in e.reply ++ ranges_of h
ranges_cons e h = ranges-append (e ∷ []) h ∙ ap (λ l. l ++ ranges_of h) (ranges-one e)

given_to : (n : ℕ) (e : Entry) (h : List Entry) (s : ℕ) → e.caller ≡ n → times s (ranges_of (calls_of n (e ∷ h))) ≡ times s (range_in e.reply) + times s (ranges_of (calls_of n h))
given_to n e h s is =
    ap (λ l. times s (ranges_of l)) (calls_cons n e h ∙ ap (λ l. l ++ calls_of n h) (calls-own n e is))
    ∙ (ap (times s) (ranges_cons e (calls_of n h)) ∙ times-append s (range_in e.reply) (ranges_of (calls_of n h)))

not_given_to : (n : ℕ) (e : Entry) (h : List Entry) (s : ℕ) → (e.caller ≡ n → ⊥) → times s (ranges_of (calls_of n (e ∷ h))) ≡ times s (ranges_of (calls_of n h))
not_given_to n e h s is = ap (λ l. times s (ranges_of l)) (calls_cons n e h ∙ ap (λ l. l ++ calls_of n h) (calls-other n e is))

two_callers : (n m : ℕ) → (n ≡ m → ⊥) → (h : List Entry) (s : ℕ) → times s (ranges_of (calls_of n h)) + times s (ranges_of (calls_of m h)) ≤ times s (ranges_of h)
two_callers n m ne [] s =
    omega (arith, ap (λ l. times s (ranges_of l)) (calls-nil n), ap (λ l. times s (ranges_of l)) (calls-nil m), ap (times s) ranges-nil, times-nil s)
two_callers n m ne (e ∷ h) s =
    let rest = two_callers n m ne h s in
    let all = ap (times s) (ranges_cons e h) ∙ times-append s (range_in e.reply) (ranges_of h) in
    elim (cases_eq e.caller n) [
      | inl is ↦ omega (arith, given_to n e h s is, not_given_to m e h s (λ f. ne (sym is ∙ f)))
      | inr off ↦
          elim (cases_eq e.caller m) [
            | inl is ↦ omega (arith, not_given_to n e h s off, given_to m e h s is)
            | inr away ↦ omega (arith, not_given_to n e h s off, not_given_to m e h s away)
          ]
    ]

-- no sample is given out twice
pub given_apart : (opening block : ℕ) → (1 ≤ opening) × (opening ≤ MOST_SAMPLES) → (1 ≤ block) × (block ≤ MOST_BLOCK) → (h : List Entry) → IsLegal opening block h
    → AreDisjoint (ranges_of h)
given_apart opening block o b h legal =
    let given = ranges_given opening block o b h legal in
    let sound = sound_history opening block o b h legal in
    disjoint_same (range 0 (gate_of opening h).next ∷ []) (ranges_of h) (same_sym (ranges_of h) (range 0 (gate_of opening h).next ∷ []) given.1) (disjoint_one (gate_of opening h).next (omega (arith, sound.next, sound.target)))

-- a range is given to one caller
pub one_owner : (opening block : ℕ) → (1 ≤ opening) × (opening ≤ MOST_SAMPLES) → (1 ≤ block) × (block ≤ MOST_BLOCK) → (h : List Entry) → IsLegal opening block h
    → (n m : ℕ) (r : SampleRange) → (n ≡ m → ⊥) → 1 ≤ r.count → has_range (ranges_of (calls_of n h)) r ≡ true → has_range (ranges_of (calls_of m h)) r ≡ true → ⊥
one_owner opening block o b h legal n m r ne full to_n to_m =
    let once = (given_apart opening block o b h legal r.first).0 in
    omega (arith, once, two_callers n m ne h r.first, has_times (ranges_of (calls_of n h)) r r.first to_n (first_inside r full), has_times (ranges_of (calls_of m h)) r r.first to_m (first_inside r full))

-- how often a sample was given to each caller
abbrev given_each : ℕ → List Entry → ℕ → ℕ
given_each s h = λ n. times s (ranges_of (calls_of n h))

-- the callers below a number, one entry more in front
given_more : (s m : ℕ) (e : Entry) (h : List Entry) → sum_below (given_each s (e ∷ h)) m ≡ sum_below (λ n. cond (n == e.caller) (times s (range_in e.reply)) 0) m + sum_below (given_each s h) m
given_more s m e h = below-both (λ n. cond (n == e.caller) (times s (range_in e.reply)) 0) (given_each s h) (given_each s (e ∷ h)) m (λ n. one n)
  where
    one : (n : ℕ) → given_each s (e ∷ h) n ≡ cond (n == e.caller) (times s (range_in e.reply)) 0 + given_each s h n
    one n =
        elim (cases_eq n e.caller) [
          | inl is ↦ rw (eq-eqb n e.caller is) (given_to n e h s (sym is))
          | inr off ↦ rw (ne_eqb n e.caller off) (omega (arith, not_given_to n e h s (λ q. off (sym q))))
        ]

all_given : (s : ℕ) (e : Entry) (h : List Entry) → times s (ranges_of (e ∷ h)) ≡ times s (range_in e.reply) + times s (ranges_of h)
all_given s e h = ap (times s) (ranges_cons e h) ∙ times-append s (range_in e.reply) (ranges_of h)

none_given : (s m : ℕ) → sum_below (given_each s []) m ≡ 0
none_given s m = below-none (given_each s []) m (λ n l. ap (λ l. times s (ranges_of l)) (calls-nil n) ∙ (ap (times s) ranges-nil ∙ times-nil s))

-- what was given to the callers below a number was given out
callers_given : (s m : ℕ) (h : List Entry) → sum_below (given_each s h) m ≤ times s (ranges_of h)
callers_given s m [] = omega (arith, none_given s m)
callers_given s m (e ∷ h) = omega (arith, given_more s m e h, all_given s e h, callers_given s m h, here (times s (range_in e.reply)))
  where
    here : (t : ℕ) → sum_below (λ n. cond (n == e.caller) t 0) m ≤ t
    here t =
        elim (cases_lt e.caller m) [
          | inl l ↦ omega (arith, below-only (λ n. t) e.caller m l)
          | inr g ↦ omega (arith, below-none (λ n. cond (n == e.caller) t 0) m (λ n l. ap (λ b. cond b t 0) (ne_eqb n e.caller (λ q. omega arith))))
        ]

-- no caller has this number or one behind it
abbrev CalledBelow : ℕ → List Entry → Type 0
CalledBelow m h = (n : ℕ) → m ≤ n → calls_of n h ≡ []

called_tail : (m : ℕ) (e : Entry) (h : List Entry) → CalledBelow m (e ∷ h) → CalledBelow m h
called_tail m e h below n le =
    nil_from_length (calls_of n h) (omega (arith, ap length (below n le), ap length (calls_cons n e h), length-append (calls_of n (e ∷ [])) (calls_of n h)))

called_head : (m : ℕ) (e : Entry) (h : List Entry) → CalledBelow m (e ∷ h) → e.caller < m
called_head m e h below =
    elim (cases_lt e.caller m) [
      | inl l ↦ l
      | inr g ↦
          let one : length (calls_of e.caller (e ∷ [])) ≡ suc zero = ap length (calls-own e.caller e refl) in
          absurd (omega (arith, ap length (below e.caller g), ap length (calls_cons e.caller e h), length-append (calls_of e.caller (e ∷ [])) (calls_of e.caller h), one))
    ]

-- what was given out was given to callers
given_called : (s m : ℕ) (h : List Entry) → CalledBelow m h → times s (ranges_of h) ≤ sum_below (given_each s h) m
given_called s m [] below = omega (arith, ap (times s) ranges-nil, times-nil s)
given_called s m (e ∷ h) below =
    let here = below-only (λ n. times s (range_in e.reply)) e.caller m (called_head m e h below) in
    omega (arith, given_more s m e h, all_given s e h, given_called s m h (called_tail m e h below), here)

some_below : (h : List Entry) → (m : ℕ) × CalledBelow m h
some_below [] = (0, λ n le. calls-nil n)
some_below (e ∷ h) =
    let rest = some_below h in (
      e.caller + 1 + rest.0,
      λ n le. calls_cons n e h ∙ (ap (λ l. l ++ calls_of n h) (calls-other n e (λ q. omega arith)) ∙ rest.1 n (omega arith)),
    )

-- the calls of some callers of a history are given no more than the history
pub given_among : (g h : List Entry) → ((n : ℕ) → (calls_of n g ≡ []) ⊎ (calls_of n g ≡ calls_of n h)) → (s : ℕ) → times s (ranges_of g) ≤ times s (ranges_of h)
given_among g h among s =
    let some = some_below g in
    omega (arith, given_called s some.0 g some.1, below-le (given_each s g) (given_each s h) some.0 (λ n l. each n), callers_given s some.0 h)
  where
    each : (n : ℕ) → given_each s g n ≤ given_each s h n
    each n =
        elim (among n) [
          | inl none ↦ omega (arith, ap (λ l. times s (ranges_of l)) none, ap (times s) ranges-nil, times-nil s)
          | inr same ↦ omega (arith, ap (λ l. times s (ranges_of l)) same)
        ]

-- what is told of the entries of a history, one after the other
module _ (told : List Entry → List SampleRange) (told-nil : told [] ≡ []) (told-append : (g h : List Entry) → told (g ++ h) ≡ told g ++ told h) where
  told_cons : (e : Entry) (h : List Entry) (r : SampleRange) → has_range (told (e ∷ h)) r ≡ (has_range (told (e ∷ [])) r || has_range (told h) r)
  told_cons e h r = ap (λ l. has_range l r) (told-append (e ∷ []) h) ∙ has-append (told (e ∷ [])) (told h) r

  told_own : (n : ℕ) (e : Entry) (h : List Entry) (r : SampleRange) → e.caller ≡ n → has_range (told (calls_of n (e ∷ h))) r ≡ (has_range (told (e ∷ [])) r || has_range (told (calls_of n h)) r)
  told_own n e h r is = ap (λ l. has_range (told l) r) (calls_cons n e h ∙ ap (λ l. l ++ calls_of n h) (calls-own n e is)) ∙ told_cons e (calls_of n h) r

  told_other : (n : ℕ) (e : Entry) (h : List Entry) (r : SampleRange) → (e.caller ≡ n → ⊥) → has_range (told (calls_of n (e ∷ h))) r ≡ has_range (told (calls_of n h)) r
  told_other n e h r off = ap (λ l. has_range (told l) r) (calls_cons n e h ∙ ap (λ l. l ++ calls_of n h) (calls-other n e off))

  -- a range that is told of a history is told of some caller's calls
  some_caller : (h : List Entry) (r : SampleRange) → has_range (told h) r ≡ true → (n : ℕ) × (has_range (told (calls_of n h)) r ≡ true)
  some_caller [] r has = absurd (false≢true (sym (ap (λ l. has_range l r) told-nil ∙ has-nil r) ∙ has))
  some_caller (e ∷ h) r has =
      elim (or_cases (has_range (told (e ∷ [])) r) (has_range (told h) r) (sym (told_cons e h r) ∙ has)) [
        | inl here ↦ (e.caller, told_own e.caller e h r refl ∙ or_left (has_range (told (e ∷ [])) r) (has_range (told (calls_of e.caller h)) r) here)
        | inr behind ↦
            let rest = some_caller h r behind in
            elim (cases_eq e.caller rest.0) [
              | inl is ↦ (rest.0, told_own rest.0 e h r is ∙ or_right (has_range (told (e ∷ [])) r) (has_range (told (calls_of rest.0 h)) r) rest.1)
              | inr off ↦ (rest.0, told_other rest.0 e h r off ∙ rest.1)
            ]
      ]

  -- what is told of a caller's calls is told of the history
  told_of_caller : (n : ℕ) (h : List Entry) (r : SampleRange) → has_range (told (calls_of n h)) r ≡ true → has_range (told h) r ≡ true
  told_of_caller n [] r has = absurd (false≢true (sym (ap (λ l. has_range (told l) r) (calls-nil n) ∙ (ap (λ l. has_range l r) told-nil ∙ has-nil r)) ∙ has))
  told_of_caller n (e ∷ h) r has =
      elim (cases_eq e.caller n) [
        | inl is ↦
            elim (or_cases (has_range (told (e ∷ [])) r) (has_range (told (calls_of n h)) r) (sym (told_own n e h r is) ∙ has)) [
              | inl here ↦ told_cons e h r ∙ or_left (has_range (told (e ∷ [])) r) (has_range (told h) r) here
              | inr behind ↦ told_cons e h r ∙ or_right (has_range (told (e ∷ [])) r) (has_range (told h) r) (told_of_caller n h r behind)
            ]
        | inr off ↦ told_cons e h r ∙ or_right (has_range (told (e ∷ [])) r) (has_range (told h) r) (told_of_caller n h r (sym (told_other n e h r off) ∙ has))
      ]

-- a range that was given out was given to some caller
pub some_owner : (h : List Entry) (r : SampleRange) → has_range (ranges_of h) r ≡ true → (n : ℕ) × (has_range (ranges_of (calls_of n h)) r ≡ true)
some_owner h r has = some_caller ranges_of ranges-nil ranges-append h r has

-- a caller's ranges are the history's
pub owned_given : (n : ℕ) (h : List Entry) (r : SampleRange) → has_range (ranges_of (calls_of n h)) r ≡ true → has_range (ranges_of h) r ≡ true
owned_given n h r has = told_of_caller ranges_of ranges-nil ranges-append n h r has

-- a range that was deposited was deposited by some caller
pub some_depositor : (h : List Entry) (r : SampleRange) → has_range (deposits_of h) r ≡ true → (n : ℕ) × (has_range (deposits_of (calls_of n h)) r ≡ true)
some_depositor h r has = some_caller deposits_of deposits-nil deposits-append h r has

-- a caller's deposits are the history's
pub owned_deposits : (n : ℕ) (h : List Entry) (r : SampleRange) → has_range (deposits_of (calls_of n h)) r ≡ true → has_range (deposits_of h) r ≡ true
owned_deposits n h r has = told_of_caller deposits_of deposits-nil deposits-append n h r has

pub given_filled : (opening block : ℕ) → (1 ≤ opening) × (opening ≤ MOST_SAMPLES) → (1 ≤ block) × (block ≤ MOST_BLOCK) → (h : List Entry) → IsLegal opening block h
    → (r : SampleRange) → has_range (ranges_of h) r ≡ true → 1 ≤ r.count
given_filled opening block o b h legal r has = has_filled (ranges_of h) r (ranges_given opening block o b h legal).0 has

-- where nothing is out, the deposits are just the samples below next
pub all_deposited : (opening block : ℕ) → (1 ≤ opening) × (opening ≤ MOST_SAMPLES) → (1 ≤ block) × (block ≤ MOST_BLOCK) → (h : List Entry) → IsLegal opening block h
    → out_of h ≡ [] → AreSame (deposits_of h) (range 0 (gate_of opening h).next ∷ [])
all_deposited opening block o b h legal none w =
    let sound = sound_history opening block o b h legal in
    ap (total w) (sym (append-nil (deposits_of h))) ∙ (ap (λ out. total w (deposits_of h ++ out)) (sym none) ∙ sound.same w)
