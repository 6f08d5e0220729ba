-- What stands at the end, by what the lines and the workers did together and by the whole history.
use Rattle.std.proofs.Common.{◌≡◌, ◌≢◌, ◌||◌, ◌==◌, not, ◌⊎◌, ℕ, zero, suc, ◌+◌, ◌-◌, ◌≤◌, ◌<◌, inl, inr, Bool, true, false, cond, List, [], ◌∷◌, ◌++◌, map, Option, refl, ap, sym, ◌∙◌, subst, arith, append_assoc}
use Rattle.std.proofs.lemmas.Bool.{and_parts, eq-eqb, eqb-true, eqb-false, false≢true, false_from_ne_true, cases_Bool, or_left, or_right}
use Rattle.std.proofs.lemmas.List.{append-nil}
use Rattle.ra_base.specs.Causes.{Counts, Gained}
use Rattle.campaign_core.specs.declared.gate.Gate.{Gate}
use Rattle.campaign_core.specs.declared.run.SampleRange.{SampleRange}
use Rattle.campaign_core.specs.declared.run.Run.{Run}
use Rattle.campaign_core.specs.declared.call.Call.{Call}
use Rattle.campaign_core.specs.declared.call.Call.TheVariants.{Claim, Extend, Seal, Cancel, Deposit}
use Rattle.campaign_core.specs.declared.call.Call.TheVariants.{Progress as AskProgress, Interim as AskInterim}
use Rattle.campaign_core.specs.declared.call.Reply.{Reply}
use Rattle.campaign_core.specs.declared.call.Entry.{Entry}
use Rattle.campaign_core.specs.Ranges.{range, is_same, samples_of, has_range, total, AreSame, runs_of}
use Rattle.campaign_core.specs.Joining.{Spaced}
use Rattle.campaign_core.specs.History.{is_seal, is_cancel, raised_in, reply_of, gate_of, ranges_of, deposits_of, out_of, calls_of, IsLegal}
use Rattle.campaign_core.specs.Machine.{gate_after}
use Rattle.campaign_core.proofs.Totals.{total-nil, total-one, weight-none, same_sym}
use Rattle.campaign_core.proofs.MachineLaws.{extend_cases}
use Rattle.campaign_core.proofs.RunLaws.{runs_joined}
use Rattle.campaign_core.proofs.HistoryLaws.{gate_push, ranges-nil, calls-append}
use Rattle.campaign_core.proofs.WithoutLaws.{is_same-self, has-nil, has-cons, has-without}
use Rattle.campaign_core.proofs.GivenLaws.{some_owner, owned_given, all_deposited}
use Rattle.turn_book.specs.declared.view.View.{View}
use Rattle.turn_book.specs.Views.{IsSound}
use Rattle.turn_book.proofs.SoundLaws.{own_deposit, gate_seen}
use Rattle.campaign.specs.Passes.{IsFirst, IsWhole}
use Rattle.campaign_workers.specs.Working.{is_work, AreWork}
use Rattle.campaign_workers.proofs.StandLaws.{work_calls}
use Rattle.sample_totals.specs.Totals.{Sheet}
use Rattle.sample_run.specs.SampleWorks.{WorkTerms, StandsFor}
use Rattle.report_text.specs.GateText.{interim_text}
use Rattle.campaign_console.specs.declared.together.Ran.{Ran}
use Rattle.campaign_console.specs.declared.lines.LinesEnd.{LinesEnd}
use Rattle.campaign_console.specs.declared.lines.LinesEnd.TheVariants as lines
use Rattle.campaign_console.specs.declared.consoles.ConsoleEnd.{ConsoleEnd}
use Rattle.campaign_console.specs.declared.consoles.ConsoleEnd.TheVariants.{Finished, Cancelled, ReadFault, WriteFault, OutOfMemory}
use Rattle.campaign_console.specs.LineEnds.{Heard, Outside, LinesRead}
use Rattle.campaign_console.specs.Together.{HasRan}
use Rattle.campaign_console.specs.Ends.{first_runs, IsFinal, IsComplete, Reports, EndsAs, ClosesRan}
use Rattle.campaign_console.proofs.CallLaws.{have_cancel, AreAsks, read_asks, read_cancels, asks_own, asks_other}

-- ---- runs of the first samples

first_spaced : (n : ℕ) → Spaced 0 (first_runs n)
first_spaced zero = tt
first_spaced (suc n) = (omega arith, omega arith, tt)

first_same : (n : ℕ) (ds : List SampleRange) → AreSame ds (range 0 n ∷ []) → AreSame (map samples_of (first_runs n)) ds
first_same zero ds same = same_sym ds [] (λ w. same w ∙ nothing w)
  where
    nothing : (w : ℕ → ℕ) → total w (range 0 0 ∷ []) ≡ total w []
    nothing w = total-one w (range 0 0) ∙ (weight-none w 0 ∙ sym (total-nil w))
first_same (suc n) ds same =
    let is : n + 1 - 0 ≡ suc n = omega arith in
    same_sym ds (range 0 (n + 1 - 0) ∷ []) (subst (λ c. AreSame ds (range 0 c ∷ [])) (sym is) same)

-- ---- what a pass has out that took in all others

no_range : (rs : List SampleRange) → ((r : SampleRange) → has_range rs r ≡ false) → rs ≡ []
no_range [] none = refl
no_range (r ∷ rs) none = absurd (false≢true (sym (none r) ∙ (has-cons r rs r ∙ or_left (is_same r r) (has_range rs r) (is_same-self r))))

none_out : {B : Type 0} (v : View B) → IsSound v → IsWhole v → ((r : SampleRange) → has_range (out_of v.calls) r ≡ false) → out_of v.seen ≡ []
none_out v sound whole none = no_range (out_of v.seen) (λ r. false_from_ne_true (has_range (out_of v.seen) r) (out_of_none r))
  where
    out_of_none : (r : SampleRange) → has_range (out_of v.seen) r ≡ true → ⊥
    out_of_none r has =
        let parts = and_parts (has_range (ranges_of v.seen) r) (not (has_range (deposits_of v.seen) r)) (sym (has-without (deposits_of v.seen) (ranges_of v.seen) r) ∙ has) in
        let who = some_owner v.seen r parts.0 in
        let given : has_range (ranges_of v.calls) r ≡ true = owned_given who.0 v.calls r (ap (λ l. has_range (ranges_of l) r) (sym (whole.calls who.0)) ∙ who.1) in
        let kept : has_range (deposits_of v.calls) r ≡ false = false_from_ne_true (has_range (deposits_of v.calls) r) (λ e. false≢true (sym (ap not (own_deposit v sound r e)) ∙ parts.1)) in
        let still : has_range (out_of v.calls) r ≡ true = has-without (deposits_of v.calls) (ranges_of v.calls) r ∙ rw (given, kept) refl in
        false≢true (sym (none r) ∙ still)

-- ---- a gate that was sealed or cancelled

-- a cancelled gate stays so; a sealed one stays so with its target, and next doesn't fall
record After (g k : Gate) : Type 0 where
  cancelled : g.cancelled ≡ true → k.cancelled ≡ true
  sealed : g.sealed ≡ true → k.sealed ≡ true
  target : g.sealed ≡ true → k.target ≡ g.target
  next : g.next ≤ k.next

after_self : (g : Gate) → After g g
after_self g = record { cancelled = λ e. e; sealed = λ e. e; target = λ e. refl; next = omega arith }

after_then : (g h k : Gate) → After g h → After h k → After g k
after_then g h k one two = record {
  cancelled = λ e. two.cancelled (one.cancelled e);
  sealed = λ e. two.sealed (one.sealed e);
  target = λ e. two.target (one.sealed e) ∙ one.target e;
  next = omega (arith, one.next, two.next);
}

-- by a reply that doesn't raise the target where the gate is sealed
after_step : (g : Gate) (c : Call) (r : Reply) → (g.sealed ≡ true → raised_in c r ≡ 0) → After g (gate_after g c r)
after_step g c r never = record {
  cancelled = λ e. or_left g.cancelled (is_cancel c) e;
  sealed = λ e. or_left g.sealed (is_seal c) e;
  target = λ e. omega (arith, never e);
  next = omega arith;
}

-- a sealed campaign isn't extended
never_raised : (block : ℕ) (g : Gate) (ds : List SampleRange) (c : Call) → g.sealed ≡ true → raised_in c (reply_of block g ds c) ≡ 0
never_raised block g ds (Extend more) e =
    extend_cases g more (λ r. raised_in (Extend more) r ≡ 0) (λ stopped. refl) (λ goes shut. refl) (λ goes unsealed over. refl)
    (λ goes unsealed fits. absurd (false≢true (sym unsealed ∙ e)))
never_raised block g ds Claim e = refl
never_raised block g ds Seal e = refl
never_raised block g ds Cancel e = refl
never_raised block g ds AskProgress e = refl
never_raised block g ds (Deposit first count) e = refl
never_raised block g ds AskInterim e = refl

after_legal : (opening block : ℕ) (h more : List Entry) → IsLegal opening block (h ++ more) → After (gate_of opening h) (gate_of opening (h ++ more))
after_legal opening block h [] legal = subst (λ l. After (gate_of opening h) (gate_of opening l)) (sym (append-nil h)) (after_self (gate_of opening h))
after_legal opening block h (e ∷ more) legal =
    let assoc : (h ++ e ∷ []) ++ more ≡ h ++ e ∷ more = append_assoc h (e ∷ []) more in
    let follows = legal h e more refl in
    let step : After (gate_of opening h) (gate_of opening (h ++ e ∷ [])) =
    subst (After (gate_of opening h)) (sym (gate_push opening h e))
    (after_step (gate_of opening h) e.call e.reply (λ shut. ap (raised_in e.call) follows.0 ∙ never_raised block (gate_of opening h) (deposits_of h) e.call shut)) in
    after_then (gate_of opening h) (gate_of opening (h ++ e ∷ [])) (gate_of opening (h ++ e ∷ more)) step
    (subst (λ l. After (gate_of opening (h ++ e ∷ [])) (gate_of opening l)) assoc (after_legal opening block (h ++ e ∷ []) more (subst (IsLegal opening block) (sym assoc) legal)))

-- ---- the whole history's cancel is one of the opening pass

first_cancel : (e : Entry) (h : List Entry) → is_cancel e.call ≡ true → have_cancel (calls_of e.caller (e ∷ h)) ≡ true
unfolding calls_of
first_cancel e h here = rw (eq-eqb e.caller e.caller refl, here) refl

later_pick : (b : Bool) (e : Entry) (l : List Entry) → have_cancel l ≡ true → have_cancel (cond b (e ∷ l) l) ≡ true
later_pick true e l has = or_right (is_cancel e.call) (have_cancel l) has
later_pick false e l has = has

later_cancel : (n : ℕ) (e : Entry) (h : List Entry) → have_cancel (calls_of n h) ≡ true → have_cancel (calls_of n (e ∷ h)) ≡ true
unfolding calls_of
later_cancel n e h has = later_pick (e.caller == n) e (calls_of n h) has

any_cancel : (h : List Entry) → have_cancel h ≡ true → (n : ℕ) × (have_cancel (calls_of n h) ≡ true)
any_cancel [] has = absurd (false≢true has)
any_cancel (e ∷ h) has =
    elim (cases_Bool (is_cancel e.call)) [
      | inl here ↦ (e.caller, first_cancel e h here)
      | inr other ↦
          let rest = any_cancel h (sym (ap (λ b. b || have_cancel h) other) ∙ has) in (rest.0, later_cancel rest.0 e h rest.1)
    ]

-- work has no cancel
work_cancels : (es : List Entry) → AreWork es → have_cancel es ≡ false
work_cancels [] work = refl
work_cancels (e ∷ es) work = ap (λ b. b || have_cancel es) (no_cancel e.call work.0) ∙ work_cancels es work.1
  where
    no_cancel : (c : Call) → is_work c ≡ true → is_cancel c ≡ false
    no_cancel Cancel is = absurd (false≢true is)
    no_cancel other is = refl

gate_cancelled : (opening : ℕ) (h : List Entry) → (gate_of opening h).cancelled ≡ have_cancel h
unfolding gate_of
gate_cancelled opening h = refl

among_pick : (b : Bool) (e : Entry) (l h : List Entry) → (have_cancel l ≡ true → have_cancel h ≡ true) → have_cancel (cond b (e ∷ l) l) ≡ true → have_cancel (e ∷ h) ≡ true
among_pick true e l h rest has =
    elim (cases_Bool (is_cancel e.call)) [
      | inl here ↦ or_left (is_cancel e.call) (have_cancel h) here
      | inr other ↦ or_right (is_cancel e.call) (have_cancel h) (rest (sym (ap (λ b. b || have_cancel l) other) ∙ has))
    ]
among_pick false e l h rest has = or_right (is_cancel e.call) (have_cancel h) (rest has)

-- a cancel among a caller's entries is one of the history
among_calls : (n : ℕ) (h : List Entry) → have_cancel (calls_of n h) ≡ true → have_cancel h ≡ true
unfolding calls_of
among_calls n [] has = has
among_calls n (e ∷ h) has = among_pick (e.caller == n) e (calls_of n h) h (among_calls n h) has

same_bool : (a b : Bool) → (a ≡ true → b ≡ true) → (b ≡ true → a ≡ true) → a ≡ b
same_bool true true f g = refl
same_bool true false f g = sym (f refl)
same_bool false true f g = g refl
same_bool false false f g = refl

module _ {B : Type 0} (terms : WorkTerms) (workers : ℕ) (ran : Ran) (before middle : Outside) (samples block : ℕ) (v w : View B) (first : IsFirst samples block v)
    (has : HasRan terms workers ran before middle v w) (sound : IsSound w) (whole : IsWhole w) where
  calls : w.calls ≡ has.own ++ has.theirs
  calls = has.calls ∙ ap (λ l. (l ++ has.own) ++ has.theirs) first.calls

  asks : AreAsks has.own
  asks = read_asks terms ran.lines before middle has.own has.read

  -- the opening pass's entries in the whole history are those of the lines
  pub own_entries : calls_of 0 w.seen ≡ has.own
  own_entries =
      whole.calls 0
      ∙ (ap (calls_of 0) calls
      ∙ (calls-append 0 has.own has.theirs ∙ (ap (λ l. l ++ calls_of 0 has.theirs) (asks_own has.own asks) ∙ (ap (λ l. has.own ++ l) has.others ∙ append-nil has.own))))

  pub whole_read : LinesRead terms ran.lines before middle (calls_of 0 w.seen)
  whole_read = subst (LinesRead terms ran.lines before middle) (sym own_entries) has.read

  module _ (long : ran.short ≡ false) (some : 0 < workers) where
    other_entries : (n : ℕ) → n ≢ 0 → AreWork (calls_of n w.seen)
    other_entries n other =
        subst AreWork
        (sym (whole.calls n ∙ (ap (calls_of n) calls ∙ (calls-append n has.own has.theirs ∙ ap (λ l. l ++ calls_of n has.theirs) (asks_other n other has.own asks)))))
        (work_calls n has.theirs (has.work long))

    none : (r : SampleRange) → has_range (out_of w.calls) r ≡ false
    none r =
        has.out long r
        ∙ (ap (λ h. has_range (out_of h) r) first.calls ∙ (has-without (deposits_of []) (ranges_of []) r ∙ rw (ranges-nil, has-nil r) refl))

    runs : runs_of (deposits_of w.seen) ≡ first_runs (gate_of w.target w.seen).next
    runs =
        let n = (gate_of w.target w.seen).next in
        runs_joined (deposits_of w.seen) (first_runs n) (first_spaced n)
        (first_same n (deposits_of w.seen)
        (all_deposited w.target w.block sound.target sound.block w.seen sound.legal (none_out w sound whole none)))

    all_given : w.target ≡ v.target → (gate_of w.target w.seen).cancelled ≡ false → (gate_of w.target w.seen).next ≡ (gate_of w.target w.seen).target
    all_given target goes =
        let drains = has.drained long some in
        let past = drains.before in
        let rest = drains.later.0 in
        let is : past ++ rest ≡ w.seen = drains.later.1 in
        let after = subst (λ h. After (gate_of w.target past) (gate_of w.target h)) is (after_legal w.target w.block past rest (subst (IsLegal w.target w.block) (sym is) sound.legal)) in
        let small = gate_seen w sound in
        let left =
        subst
        (λ t. ((gate_of t past).cancelled ≡ true) ⊎ (((gate_of t past).next ≡ (gate_of t past).target) × ((gate_of t past).sealed ≡ true)))
        (sym target) drains.left in
        elim left [
          | inl stopped ↦ absurd (false≢true (sym goes ∙ after.cancelled stopped))
          | inr even ↦ omega (arith, even.0, after.next, after.target even.1, small.0)
        ]

    pub complete : w.target ≡ v.target → IsComplete w
    complete target = record { others = other_entries; runs = runs; all = all_given target }

    -- the campaign was cancelled just where the opening pass cancelled it
    pub own_cancels : (gate_of w.target w.seen).cancelled ≡ have_cancel (calls_of 0 w.seen)
    own_cancels =
        gate_cancelled w.target w.seen
        ∙ same_bool (have_cancel w.seen) (have_cancel (calls_of 0 w.seen)) (λ has_one. by_owner (any_cancel w.seen has_one)) (among_calls 0 w.seen)
      where
        by_owner : (n : ℕ) × (have_cancel (calls_of n w.seen) ≡ true) → have_cancel (calls_of 0 w.seen) ≡ true
        by_owner who =
            elim (cases_Bool (who.0 == 0)) [
              | inl mine ↦ subst (λ n. have_cancel (calls_of n w.seen) ≡ true) (eqb-true who.0 0 mine) who.1
              | inr other ↦ absurd (false≢true (sym (work_cancels (calls_of who.0 w.seen) (other_entries who.0 (eqb-false who.0 0 other))) ∙ who.1))
            ]

-- the outside behind a write, as it is told
abbrev pub IsBehind : Outside → Outside → Type 0
IsBehind middle now = (now.left ≡ middle.left) × (now.heard ≡ middle.heard) × (now.reads ≡ middle.reads)

same_outside : (m n : Outside) → IsBehind m n → n.held ≡ m.held → n.writes ≡ m.writes → n ≡ m
same_outside m n behind held writes =
    ap (λ x. placed x n.heard n.held n.reads n.writes) behind.0
    ∙ (ap (λ x. placed m.left x n.held n.reads n.writes) behind.1
    ∙ (ap (λ x. placed m.left m.heard x n.reads n.writes) held
    ∙ (ap (λ x. placed m.left m.heard m.held x n.writes) behind.2 ∙ ap (λ x. placed m.left m.heard m.held m.reads x) writes)))
  where
    placed : Option (List (List ℕ)) → List Heard → Option (List ℕ) → ℕ → ℕ → Outside
    placed left heard held reads writes = record { left = left; heard = heard; held = held; reads = reads; writes = writes }

module _ {B : Type 0} (terms : WorkTerms) (before middle now : Outside) (w : View B) (text : List ℕ) (cancelled : Bool) (behind : IsBehind middle now)
    (final : IsFinal terms w text) (gate : (gate_of w.target w.seen).cancelled ≡ cancelled) where
  -- nothing more was written
  still : (ended : LinesEnd) → LinesRead terms ended before middle (calls_of 0 w.seen) → now.held ≡ middle.held → now.writes ≡ middle.writes
      → LinesRead terms ended before now (calls_of 0 w.seen)
  still ended read held writes = subst (λ o. LinesRead terms ended before o (calls_of 0 w.seen)) (sym (same_outside middle now behind held writes)) read

  reported : (is : Bool) → LinesRead terms lines.AllRead before middle (calls_of 0 w.seen) → IsComplete w → cancelled ≡ have_cancel (calls_of 0 w.seen) → cancelled ≡ is
      → Gained middle.held now.held text → Counts false middle.writes now.writes → Reports terms is before now w
  reported is read complete own_cancels so gained counts = record {
    middle = middle;
    text = text;
    read = read;
    final = final;
    written = record { left = behind.0; heard = behind.1; reads = behind.2; writes = counts; written = gained };
    complete = complete;
    gate = gate ∙ so;
    cancels = sym (read_cancels terms before middle (calls_of 0 w.seen) read) ∙ (sym own_cancels ∙ so);
  }

  pub close_ends : (short : Bool) (ended : LinesEnd) (end : ConsoleEnd) → LinesRead terms ended before middle (calls_of 0 w.seen)
      → (short ≡ false → IsComplete w) → (short ≡ false → cancelled ≡ have_cancel (calls_of 0 w.seen))
      → ClosesRan short ended end cancelled middle.held now.held middle.writes now.writes text → EndsAs end terms before now w
  close_ends true ended end read all cancels closes =
      subst (λ e. EndsAs e terms before now w) (sym closes.0) (ended, still ended read closes.1 closes.2)
  close_ends false lines.ReadFault end read all cancels closes =
      subst (λ e. EndsAs e terms before now w) (sym closes.0) (still lines.ReadFault read closes.1 closes.2)
  close_ends false lines.WriteFault end read all cancels closes =
      subst (λ e. EndsAs e terms before now w) (sym closes.0) (inl (still lines.WriteFault read closes.1 closes.2))
  close_ends false lines.OutOfMemory end read all cancels closes =
      subst (λ e. EndsAs e terms before now w) (sym closes.0) (lines.OutOfMemory, still lines.OutOfMemory read closes.1 closes.2)
  close_ends false lines.AllRead Finished read all cancels closes =
      reported false read (all refl) (cancels refl) closes.0 closes.1 closes.2
  close_ends false lines.AllRead Cancelled read all cancels closes =
      reported true read (all refl) (cancels refl) closes.0 closes.1 closes.2
  close_ends false lines.AllRead WriteFault read all cancels closes =
      inr
      (record {
        middle = middle;
        text = text;
        read = read;
        final = final;
        written = record { left = behind.0; heard = behind.1; reads = behind.2; writes = closes.1; written = closes.0 };
      })
  close_ends false lines.AllRead OutOfMemory read all cancels closes = (lines.AllRead, still lines.AllRead read closes.0 closes.1)
  close_ends false lines.AllRead ReadFault read all cancels closes = absurd closes

-- what stands at the end of a console, with the final report by the gate, the runs and the totals of the whole history
pub ends_as : {B : Type 0} (terms : WorkTerms) (workers : ℕ) (ran : Ran) (before middle now : Outside) (samples block : ℕ) (v w : View B) → IsFirst samples block v
    → HasRan terms workers ran before middle v w → IsSound w → IsWhole w → 0 < workers → w.target ≡ v.target → IsBehind middle now
    → (end : ConsoleEnd) (gate : Gate) (runs : List Run) (totals : Sheet) (names : List (List ℕ))
    → gate ≡ gate_of w.target w.seen → runs ≡ runs_of (deposits_of w.seen) → StandsFor terms.system terms.seed totals (map samples_of runs) → names ≡ terms.system.zone_names
    → ClosesRan ran.short ran.lines end gate.cancelled middle.held now.held middle.writes now.writes (interim_text names gate runs totals)
    → EndsAs end terms before now w
ends_as terms workers ran before middle now samples block v w first has sound whole some target behind end gate runs totals names gate_is runs_are stands names_are closes =
    let whole_gate = gate_of w.target w.seen in
    let whole_runs = runs_of (deposits_of w.seen) in
    let text = interim_text terms.system.zone_names whole_gate whole_runs totals in
    let final : IsFinal terms w text = record {
      totals = totals;
      stands = subst (λ rs. StandsFor terms.system terms.seed totals (map samples_of rs)) runs_are stands;
      is = refl;
    } in
    let by_names = subst (λ ns. ClosesRan ran.short ran.lines end gate.cancelled middle.held now.held middle.writes now.writes (interim_text ns gate runs totals)) names_are closes in
    let by_runs = subst (λ rs. ClosesRan ran.short ran.lines end gate.cancelled middle.held now.held middle.writes now.writes (interim_text terms.system.zone_names gate rs totals)) runs_are by_names in
    let closed =
    subst (λ (g : Gate). ClosesRan ran.short ran.lines end g.cancelled middle.held now.held middle.writes now.writes (interim_text terms.system.zone_names g whole_runs totals)) gate_is by_runs in
    close_ends terms before middle now w text whole_gate.cancelled behind final refl ran.short ran.lines end
    (whole_read terms workers ran before middle samples block v w first has sound whole)
    (λ long. complete terms workers ran before middle samples block v w first has sound whole long some target)
    (λ long. own_cancels terms workers ran before middle samples block v w first has sound whole long some)
    closed
