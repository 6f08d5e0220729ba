-- One worker more beside the lines and the other workers: what they did with it.
use Rattle.std.proofs.Common.{◌≡◌, ◌≢◌, ◌==◌, ◌||◌, ◌⊎◌, ℕ, ◌+◌, ◌-◌, ◌<◌, min, inl, inr, Bool, true, false, [], ◌∷◌, ◌++◌, length, refl, ap, sym, ◌∙◌, subst, arith, append_assoc}
use Rattle.std.proofs.lemmas.Bool.{ne_eqb, or_parts, false≢true}
use Rattle.std.proofs.lemmas.List.{append-nil}
use Rattle.std.specs.List.{list_any}
use mathlib.Core.List.{IsPrefix}
use Rattle.campaign_core.specs.declared.call.Call.TheVariants.{Claim, Cancel}
use Rattle.campaign_core.specs.declared.call.Reply.{Reply}
use Rattle.campaign_core.specs.declared.call.Reply.TheVariants.{Range, Idle as IsIdle, Drained as IsDrained, Cancelled as IsCancelled, Marked}
use Rattle.campaign_core.specs.Ranges.{has_range}
use Rattle.campaign_core.specs.History.{entry, gate_of, ranges_of, deposits_of, out_of, calls_of}
use Rattle.campaign_core.proofs.WithoutLaws.{has-nil, has-without}
use Rattle.campaign_core.proofs.HistoryLaws.{ranges-nil, calls-nil, calls-append, prefix_trans, prefix_append}
use Rattle.campaign_core.proofs.MachineLaws.{claim_cases}
use Rattle.turn_book.specs.declared.view.View.{View}
use Rattle.turn_book.specs.Views.{newcomer, with_made, IsSameSeat, IsSound, TakesIn}
use Rattle.campaign.specs.Passes.{HasBoth, Says}
use Rattle.campaign_workers.specs.declared.working.WorkEnd.{WorkEnd}
use Rattle.campaign_workers.specs.declared.working.WorkEnd.TheVariants.{Idle, Drained, Cancelled, OutOfMemory}
use Rattle.campaign_workers.specs.Working.{is_short, AreWork, SameOut, Works, Stops, DidWork}
use Rattle.campaign_workers.proofs.WorkLaws.{work_both, works_none, stops_works}
use Rattle.campaign_workers.proofs.CrewLaws.{did_same, joins_more}
use Rattle.sample_run.specs.SampleWorks.{WorkTerms}
use Rattle.campaign_console.specs.declared.together.Ran.{Ran}
use Rattle.campaign_console.specs.declared.lines.LinesEnd.{LinesEnd}
use Rattle.campaign_console.specs.LineEnds.{Outside, LinesRead, LinesCalled}
use Rattle.campaign_console.specs.Together.{lines_alone, with_worker, SplitsOff, Worked, Drains, HasRan}
use Rattle.campaign_console.proofs.CallLaws.{read_asks, asks_out}

or_nothing : (b : Bool) → (b || false) ≡ b
or_nothing true = refl
or_nothing false = refl

module _ {B : Type 0} where
  -- the lines by themselves
  pub ran_alone : (terms : WorkTerms) (end : LinesEnd) (before now : Outside) (v w : View B) → LinesCalled terms end before now v w → HasRan terms 0 (lines_alone end) before now v w
  ran_alone terms end before now v w called = record {
    own = called.own;
    theirs = [];
    read = called.read;
    joins = record {
      number = called.adds.same.number;
      made = omega (arith, called.adds.same.made);
      joined = omega (arith, ap length called.adds.same.joined);
      seen = called.adds.seen;
    };
    calls = called.adds.calls ∙ sym (append-nil (v.calls ++ called.own));
    others = calls-nil 0;
    work = λ e. tt;
    out = λ e. asks_out v w called.own (read_asks terms end before now called.own called.read) called.adds.calls;
    drained = λ e some. absurd (omega arith);
  }

  -- a worker without memory for its runner gave up
  pub gave_up : (v w : View B) → Says v Cancel Marked w → DidWork v OutOfMemory w
  gave_up v w says = record { last = v; worked = works_none v; cancelled = says }

  -- a worker that isn't short of memory and doesn't end idle stopped where all was given out of a sealed campaign, or where
  -- it was cancelled
  record StopsLast (v w : View B) : Type 0 where
    reply : Reply
    stops : Stops v reply w
    gives : (first count : ℕ) → Range first count ≡ reply → ⊥
    idle : IsIdle ≡ reply → ⊥

  stopped : (v : View B) (end : WorkEnd) (w : View B) → is_short end ≡ false → end ≢ Idle → DidWork v end w → StopsLast v w
  stopped v Idle w e busy did = absurd (busy refl)
  stopped v Drained w e busy did = record { reply = IsDrained; stops = did; gives = λ first count q. cc; idle = λ q. cc }
  stopped v Cancelled w e busy did = record { reply = IsCancelled; stops = did; gives = λ first count q. cc; idle = λ q. cc }
  stopped v OutOfMemory w e busy did = absurd (false≢true (sym e))

  -- a number that isn't a pass's, nor of one that was joined into it, has no calls among its own
  not_owned : (n : View B) → IsSound n → n.number ≢ 0 → n.joined ≡ [] → calls_of 0 n.calls ≡ []
  not_owned n sound other nobody =
      sound.others 0
      (ap (λ l. list_any (λ m. m == 0) (n.number ∷ l)) nobody ∙ (or_nothing (n.number == 0) ∙ ne_eqb n.number 0 other))

  module _ (v u m n k w : View B) (split : u ≡ with_made v) (new : m ≡ newcomer v) (workers : ℕ) (end : WorkEnd) (did : DidWork m end n) (busy : end ≢ Idle)
      (taken : TakesIn k n w) (both : HasBoth k n w) (sound : IsSound n) (opened : 0 < v.made) where
    same : IsSameSeat m n
    same = did_same m end n did

    -- its number isn't 0
    pub its_number : n.number ≢ 0
    its_number z = omega (arith, z, same.number, ap (λ (x : View B). x.number) new, opened)

    nobody : n.joined ≡ []
    nobody = same.joined ∙ ap (λ (x : View B). x.joined) new

    module _ (stop : StopsLast m n) where
      worked : Works m n
      worked = stops_works m stop.reply n stop.stops

      own : n.calls ≡ worked.done
      own = worked.calls ∙ ap (λ (x : View B). x.calls ++ worked.done) new

      out_more : SameOut u k → SameOut v w
      out_more out r =
          let nothing : has_range (out_of n.calls) r ≡ false =
          stop.stops.out r ∙ (ap (λ (x : View B). has_range (out_of x.calls) r) new ∙ (has-without (deposits_of []) (ranges_of []) r ∙ rw (ranges-nil, has-nil r) refl)) in
          both r
          ∙ (ap (λ b. has_range (out_of k.calls) r || b) nothing
          ∙ (or_nothing (has_range (out_of k.calls) r) ∙ (out r ∙ ap (λ (x : View B). has_range (out_of x.calls) r) split)))

      drains_more : Drains v w
      drains_more =
          let last = stop.stops.last in
          let says = stop.stops.claimed in
          let before = last.seen ++ says.between in
          let e = entry last.number Claim stop.reply in
          let target : last.target ≡ v.target = stop.stops.worked.same.target ∙ ap (λ (x : View B). x.target) new in
          let ends : IsPrefix before n.seen = subst (λ (x : View B). IsPrefix before x.seen) (sym says.view) (prefix_append before (e ∷ [])) in
          record {
            before = before;
            later = prefix_trans before n.seen w.seen ends (subst (λ (x : View B). IsPrefix n.seen x.seen) (sym taken.view) taken.other_begins);
            left =
                subst
                (λ t. ((gate_of t before).cancelled ≡ true) ⊎ (((gate_of t before).next ≡ (gate_of t before).target) × ((gate_of t before).sealed ≡ true)))
                target
                (claim_cases last.block (gate_of last.target before)
                (λ reply.
                reply ≡ stop.reply
                → ((gate_of last.target before).cancelled ≡ true)
                ⊎ (((gate_of last.target before).next ≡ (gate_of last.target before).target) × ((gate_of last.target before).sealed ≡ true)))
                (λ stops q. inl stops)
                (λ goes all shut q. inr (all, shut))
                (λ goes all unsealed q. absurd (stop.idle q))
                (λ goes some q. absurd (stop.gives (gate_of last.target before).next (min last.block ((gate_of last.target before).target - (gate_of last.target before).next)) q))
                (sym says.replied));
          }

    pub ran_more : (terms : WorkTerms) (ran all : Ran) (before now : Outside) → HasRan terms workers ran before now u k → all.lines ≡ ran.lines → all.short ≡ (ran.short || is_short end)
        → HasRan terms (workers + 1) all before now v w
    ran_more terms ran all before now rest lines short = record {
      own = rest.own;
      theirs = rest.theirs ++ n.calls;
      read = subst (λ e. LinesRead terms e before now rest.own) (sym lines) rest.read;
      joins = joins_more v u m n k w split new workers rest.joins end did taken;
      calls =
          ap (λ (x : View B). x.calls) taken.view
          ∙ (ap (λ l. l ++ n.calls) (rest.calls ∙ ap (λ (x : View B). (x.calls ++ rest.own) ++ rest.theirs) split) ∙ append_assoc (v.calls ++ rest.own) rest.theirs n.calls);
      others = calls-append 0 rest.theirs n.calls ∙ (ap (λ l. l ++ calls_of 0 n.calls) rest.others ∙ not_owned n sound its_number nobody);
      work = λ e.
          let parts = or_parts ran.short (is_short end) (sym short ∙ e) in
          let stop = stopped m end n parts.1 busy did in
          work_both rest.theirs n.calls (rest.work parts.0) (subst AreWork (sym (own stop)) (worked stop).work);
      out = λ e.
          let parts = or_parts ran.short (is_short end) (sym short ∙ e) in
          out_more (stopped m end n parts.1 busy did) (rest.out parts.0);
      drained = λ e some.
          let parts = or_parts ran.short (is_short end) (sym short ∙ e) in
          drains_more (stopped m end n parts.1 busy did);
    }

  -- a worker's pass isn't the opening one
  pub worker_number : (v u m : View B) (end : WorkEnd) (n : View B) → SplitsOff v u m → Worked m end n → n.number ≢ 0
  worker_number v u m end n splits worked z =
      omega (arith, z, (did_same m end n worked.did).number, ap (λ (x : View B). x.number) splits.view, splits.some)

  -- a worker's pass that was split off, worked and was taken in
  pub ran_with : (v u m n k w : View B) (workers : ℕ) (end : WorkEnd) (terms : WorkTerms) (ran : Ran) (before now : Outside) → SplitsOff v u m → Worked m end n → TakesIn k n w → HasBoth k n w → IsSound n
      → HasRan terms workers ran before now u k → HasRan terms (workers + 1) (with_worker ran end) before now v w
  ran_with v u m n k w workers end terms ran before now splits worked taken both sound rest =
      ran_more v u m n k w splits.made splits.view workers end worked.did worked.busy taken both sound splits.some terms ran (with_worker ran end) before now rest refl refl
