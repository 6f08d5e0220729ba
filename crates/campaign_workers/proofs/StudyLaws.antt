-- What a report on a whole round tells, and what an extension then comes to.
use Rattle.std.proofs.Common.{◌≡◌, ◌==◌, ◌&&◌, ℕ, ◌+◌, ◌≤◌, Bool, false, not, List, [], ◌∷◌, length, map, ap, sym, ◌∙◌, subst}
use Rattle.ra_base.specs.declared.limits.TheConstants.{MOST_SAMPLES}
use Rattle.campaign_core.specs.declared.gate.Gate.{Gate}
use Rattle.campaign_core.specs.declared.run.Run.{Run}
use Rattle.campaign_core.specs.declared.run.SampleRange.{SampleRange}
use Rattle.campaign_core.specs.declared.call.Call.TheVariants.{Interim as AskInterim}
use Rattle.campaign_core.specs.declared.call.Reply.TheVariants.{Interim}
use Rattle.campaign_core.specs.Ranges.{range, samples_of, AreSame}
use Rattle.turn_book.specs.declared.view.View.{View}
use Rattle.turn_book.specs.Views.{IsSound, IsSameSeat}
use Rattle.campaign.specs.declared.calls.Extend.{Extend as Extension}
use Rattle.campaign.specs.declared.calls.Extend.TheVariants.{Now as Raised}
use Rattle.campaign.specs.Passes.{is_enough_of, Says, Extends}
use Rattle.campaign_workers.specs.Standing.{StandsAt}
use Rattle.campaign_workers.specs.Studies.{is_enough_below}
use Rattle.campaign_workers.proofs.StandLaws.{report_runs, some_run, stands_extended}

-- the sum stands for the samples below a number, and it is told whether these are enough
pub record Reports {W S : Type 0} (stands : W → S → List SampleRange → Type 0) (is_enough : W → List SampleRange → Bool) (work : W) (n : ℕ) (sum : S) (enough : Bool) : Type 0 where
  pub is_sum : stands work sum (range 0 n ∷ [])
  pub tells : enough ≡ is_enough_below is_enough work n

module _ {B W S : Type 0} (stands : W → S → List SampleRange → Type 0) (is_enough : W → List SampleRange → Bool) where
  pub round_reported : ((work : W) (sum : S) (xs ys : List SampleRange) → AreSame xs ys → stands work sum xs → stands work sum ys)
      → ((work : W) (xs ys : List SampleRange) → AreSame xs ys → is_enough work xs ≡ is_enough work ys)
      → (v : View B) (gate : Gate) (runs : List Run) (w : View B) → Says v AskInterim (Interim gate runs) w → IsSound v → IsSound w
      → (n : ℕ) → 1 ≤ n → StandsAt n n v
      → (work : W) (sum : S) (enough : Bool) → stands work sum (map samples_of runs) → enough ≡ is_enough_of is_enough work runs
      → Reports stands is_enough work n sum enough
  round_reported stands_same enough_same v gate runs w says sound sound_w n some at work sum enough is tells =
      let same : AreSame (map samples_of runs) (range 0 n ∷ []) = report_runs v gate runs w says sound sound_w n at in
      let run : (length runs == 0) ≡ false = some_run runs n some same in
      record {
        is_sum = stands_same work sum (map samples_of runs) (range 0 n ∷ []) same is;
        tells = tells
            ∙ (ap (λ b. not b && is_enough work (map samples_of runs)) run
            ∙ enough_same work (map samples_of runs) (range 0 n ∷ []) same);
      }

module _ {B : Type 0} where
  -- an extension that was answered raised the target by what was asked
  pub round_extended : (v : View B) (more : ℕ) (answer : Extension) (w : View B) → Extends v more answer w → IsSound v → IsSound w → IsSameSeat v w
      → (n : ℕ) → StandsAt n n v → n + more ≤ MOST_SAMPLES → (target : ℕ) → answer ≡ Raised target → (target ≡ n + more) × StandsAt n target w
  round_extended v more answer w extends sound sound_w same n at fits target is =
      let raised = stands_extended v more answer w extends sound sound_w same n at fits in
      let e : Raised target ≡ Raised (n + more) = sym is ∙ raised.0 in
      let goal : target ≡ n + more = cc (e) in
      (goal, subst (λ t. StandsAt n t w) (sym goal) raised.1)
