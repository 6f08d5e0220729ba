-- One worker more in a crew: what the crew did with it.
use Rattle.std.proofs.Common.{◌≡◌, ◌||◌, ℕ, ◌+◌, ◌⊎◌, inl, inr, true, false, Bool, List, [], ◌∷◌, ◌++◌, length, min, ◌-◌, refl, ap, sym, ◌∙◌, subst, arith, append_assoc, length-append}
use Rattle.std.proofs.lemmas.Bool.{false≢true}
use Rattle.std.proofs.lemmas.List.{append-nil, length_push}
use mathlib.Core.List.{IsPrefix}
use Rattle.campaign_core.specs.declared.call.Call.TheVariants.{Claim, Cancel}
use Rattle.campaign_core.specs.declared.call.Reply.{Reply}
use Rattle.campaign_core.specs.declared.call.Reply.TheVariants.{Range, Idle as IsIdle, Drained as IsDrained, Cancelled as IsCancelled, Marked}
use Rattle.campaign_core.specs.Ranges.{has_range}
use Rattle.campaign_core.specs.History.{entry, gate_of, ranges_of, deposits_of, out_of}
use Rattle.campaign_core.proofs.WithoutLaws.{has-nil, has-without}
use Rattle.campaign_core.proofs.HistoryLaws.{ranges-nil, prefix_self, prefix_trans, prefix_append}
use Rattle.campaign_core.proofs.MachineLaws.{claim_cases}
use Rattle.turn_book.specs.declared.view.View.{View}
use Rattle.turn_book.specs.Views.{newcomer, with_made, IsSameSeat, TakesIn}
use Rattle.campaign.specs.Passes.{HasBoth}
use Rattle.campaign_workers.specs.declared.working.WorkEnd.{WorkEnd}
use Rattle.campaign_workers.specs.declared.working.WorkEnd.TheVariants.{Idle, Drained, Cancelled, OutOfMemory}
use Rattle.campaign_workers.specs.Working.{is_short, Stops, DidWork}
use Rattle.campaign_workers.specs.Crews.{Joins, CrewWorks, Reached}
use Rattle.campaign_workers.proofs.WorkLaws.{work_both, stops_works, same_says, same_then}

-- a list without its last element
pub one_fewer : {J : Type 0} (all rest : List J) (last : J) → all ≡ rest ++ last ∷ [] → length rest + 1 ≡ length all
one_fewer all rest last is = sym (ap length is ∙ length_push rest last)

module _ {B : Type 0} where
  -- a worker that wasn't short of memory stopped at a claim that gave no range
  pub record StopsSome (v w : View B) : Type 0 where
    pub reply : Reply
    pub stops : Stops v reply w
    pub none : (first count : ℕ) → Range first count ≡ reply → ⊥

  pub did_stop : (v : View B) (end : WorkEnd) (w : View B) → is_short end ≡ false → DidWork v end w → StopsSome v w
  did_stop v Idle w e did = record { reply = IsIdle; stops = did; none = λ first count q. cc }
  did_stop v Drained w e did = record { reply = IsDrained; stops = did; none = λ first count q. cc }
  did_stop v Cancelled w e did = record { reply = IsCancelled; stops = did; none = λ first count q. cc }
  did_stop v OutOfMemory w e did = absurd (false≢true (sym e))

  pub did_same : (v : View B) (end : WorkEnd) (w : View B) → DidWork v end w → IsSameSeat v w
  did_same v Idle w did = (stops_works v IsIdle w did).same
  did_same v Drained w did = (stops_works v IsDrained w did).same
  did_same v Cancelled w did = (stops_works v IsCancelled w did).same
  did_same v OutOfMemory w did = same_then v did.last w did.worked.same (same_says did.last Cancel Marked w did.cancelled)

  pub joins_none : (v : View B) → Joins 0 v v
  joins_none v = record { number = refl; made = omega arith; joined = omega arith; seen = prefix_self v.seen }

  pub crew_none : (v : View B) → CrewWorks v v
  crew_none v = record { done = []; calls = sym (append-nil v.calls); work = tt; out = λ r. refl }

  module _ (v u m n k w : View B) (split : u ≡ with_made v) (new : m ≡ newcomer v) (workers : ℕ) (joins : Joins workers u k)
      (end : WorkEnd) (did : DidWork m end n) (taken : TakesIn k n w) where
    same : IsSameSeat m n
    same = did_same m end n did

    -- one pass more was made and joined
    pub joins_more : Joins (workers + 1) v w
    joins_more = record {
      number = ap (λ (x : View B). x.number) taken.view ∙ (joins.number ∙ ap (λ (x : View B). x.number) split);
      made = omega (arith, ap (λ (x : View B). x.made) taken.view, joins.made, ap (λ (x : View B). x.made) split);
      joined =
          let nobody : length n.joined ≡ 0 = ap length (same.joined ∙ ap (λ (x : View B). x.joined) new) in
          omega (arith, ap (λ (x : View B). length x.joined) taken.view, length-append k.joined (n.number ∷ n.joined), joins.joined, ap (λ (x : View B). length x.joined) split);
      seen =
          prefix_trans v.seen k.seen w.seen (subst (λ (x : View B). IsPrefix x.seen k.seen) split joins.seen)
          (subst (λ (x : View B). IsPrefix k.seen x.seen) (sym taken.view) taken.keep_begins);
    }

    module _ (stop : StopsSome m n) where
      -- its calls are work too, and nothing more is out
      pub crew_more : CrewWorks u k → HasBoth k n w → CrewWorks v w
      crew_more crew both =
          let worked = stops_works m stop.reply n stop.stops in
          let own : n.calls ≡ worked.done = worked.calls ∙ ap (λ (x : View B). x.calls ++ worked.done) new in
          record {
            done = crew.done ++ worked.done;
            calls =
                ap (λ (x : View B). x.calls) taken.view
                ∙ (ap (λ l. l ++ n.calls) (crew.calls ∙ ap (λ (x : View B). x.calls ++ crew.done) split)
                ∙ (ap (λ l. (v.calls ++ crew.done) ++ l) own ∙ append_assoc v.calls crew.done worked.done));
            work = work_both crew.done worked.done crew.work worked.work;
            out = λ r.
                let nothing : has_range (out_of n.calls) r ≡ false =
                stop.stops.out r ∙ (ap (λ (x : View B). has_range (out_of x.calls) r) new ∙ (has-without (deposits_of []) (ranges_of []) r ∙ rw (ranges-nil, has-nil r) refl)) in
                both r
                ∙ (ap (λ b. has_range (out_of k.calls) r || b) nothing
                ∙ (or_nothing (has_range (out_of k.calls) r) ∙ (crew.out r ∙ ap (λ (x : View B). has_range (out_of x.calls) r) split)));
          }
        where
          or_nothing : (b : Bool) → (b || false) ≡ b
          or_nothing true = refl
          or_nothing false = refl

      -- its last claim found nothing left
      pub reached_more : Reached v w
      reached_more =
          let last = stop.stops.last in
          let says = stop.stops.claimed in
          let before = last.seen ++ says.between in
          let e = entry last.number Claim stop.reply in
          let target : last.target ≡ v.target = stop.stops.worked.same.target ∙ ap (λ (x : View B). x.target) new in
          let begins : IsPrefix v.seen last.seen = subst (λ (x : View B). IsPrefix x.seen last.seen) new stop.stops.worked.seen in
          let ends : IsPrefix before n.seen = subst (λ (x : View B). IsPrefix before x.seen) (sym says.view) (prefix_append before (e ∷ [])) in
          record {
            before = before;
            earlier = prefix_trans v.seen last.seen before begins (prefix_append last.seen says.between);
            later = prefix_trans before n.seen w.seen ends (subst (λ (x : View B). IsPrefix n.seen x.seen) (sym taken.view) taken.other_begins);
            left = subst (λ t. ((gate_of t before).cancelled ≡ true) ⊎ ((gate_of t before).next ≡ (gate_of t before).target)) target
                (claim_cases last.block (gate_of last.target before)
                (λ reply. reply ≡ stop.reply → ((gate_of last.target before).cancelled ≡ true) ⊎ ((gate_of last.target before).next ≡ (gate_of last.target before).target))
                (λ stopped q. inl stopped)
                (λ goes all shut q. inr all)
                (λ goes all unsealed q. inr all)
                (λ goes some q. absurd (stop.none (gate_of last.target before).next (min last.block ((gate_of last.target before).target - (gate_of last.target before).next)) q))
                (sym says.replied));
          }
