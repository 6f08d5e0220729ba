-- Which shares are apart: those of a pass, those of two passes that are joined, and all that a history gives out.
use Rattle.std.proofs.Common.{◌≡◌, ◌&&◌, ◌||◌, ℕ, ◌≤◌, inl, inr, Bool, true, false, not, List, ◌++◌, refl, ap, sym, ◌∙◌, arith}
use Rattle.std.proofs.lemmas.Bool.{cases_Bool, false≢true, or_left}
use Rattle.campaign_core.specs.declared.run.SampleRange.{SampleRange}
use Rattle.campaign_core.specs.Ranges.{has_range, times, AreDisjoint}
use Rattle.campaign_core.specs.History.{ranges_of, deposits_of, out_of}
use Rattle.campaign_core.proofs.Totals.{times-append}
use Rattle.campaign_core.proofs.WithoutLaws.{has-append, has-nil, has-without, has_times, first_inside, times_without}
use Rattle.campaign_core.proofs.HistoryLaws.{ranges-nil, ranges-append, deposits-append}
use Rattle.campaign_core.proofs.GivenLaws.{given_among, given_apart, given_filled, some_owner, owned_given}
use Rattle.turn_book.specs.declared.view.View.{View}
use Rattle.turn_book.specs.Views.{owns, IsSound, TakesIn}
use Rattle.campaign.specs.Passes.{HasBoth}

-- fewer samples are disjoint too
fewer_apart : (xs ys : List SampleRange) → ((s : ℕ) → times s xs ≤ times s ys) → AreDisjoint ys → AreDisjoint xs
fewer_apart xs ys fewer apart s = (omega (arith, fewer s, (apart s).0), λ far. omega (arith, fewer s, (apart s).1 far))

module _ {B : Type 0} where
  -- no sample is given out twice in what a pass has seen
  pub seen_apart : (v : View B) → IsSound v → AreDisjoint (ranges_of v.seen)
  seen_apart v sound = given_apart v.target v.block sound.target sound.block v.seen sound.legal

  own_fewer : (v : View B) → IsSound v → (s : ℕ) → times s (ranges_of v.calls) ≤ times s (ranges_of v.seen)
  own_fewer v sound =
      given_among v.calls v.seen
      (λ n.
      elim (cases_Bool (owns v n)) [
        | inl own ↦ inr (sym (sound.mine n own))
        | inr other ↦ inl (sound.others n other)
      ])

  -- the ranges that were given to a pass are disjoint
  pub own_apart : (v : View B) → IsSound v → AreDisjoint (ranges_of v.calls)
  own_apart v sound = fewer_apart (ranges_of v.calls) (ranges_of v.seen) (own_fewer v sound) (seen_apart v sound)

  -- a range that was given to a pass was given out in what it has seen
  pub own_given : (v : View B) → IsSound v → (r : SampleRange) → has_range (ranges_of v.calls) r ≡ true → has_range (ranges_of v.seen) r ≡ true
  own_given v sound r has =
      let who = some_owner v.calls r has in
      elim (cases_Bool (owns v who.0)) [
        | inl own ↦ owned_given who.0 v.seen r (ap (λ l. has_range (ranges_of l) r) (sound.mine who.0 own) ∙ who.1)
        | inr other ↦
            absurd (false≢true (sym (ap (λ l. has_range (ranges_of l) r) (sound.others who.0 other) ∙ (ap (λ l. has_range l r) ranges-nil ∙ has-nil r)) ∙ who.1))
      ]

  pub own_filled : (v : View B) → IsSound v → (r : SampleRange) → has_range (ranges_of v.calls) r ≡ true → 1 ≤ r.count
  own_filled v sound r has = given_filled v.target v.block sound.target sound.block v.seen sound.legal r (own_given v sound r has)

  joined_given : (v other w : View B) → TakesIn v other w → ranges_of w.calls ≡ ranges_of v.calls ++ ranges_of other.calls
  joined_given v other w taken = ap (λ (u : View B). ranges_of u.calls) taken.view ∙ ranges-append v.calls other.calls

  joined_deposits : (v other w : View B) → TakesIn v other w → deposits_of w.calls ≡ deposits_of v.calls ++ deposits_of other.calls
  joined_deposits v other w taken = ap (λ (u : View B). deposits_of u.calls) taken.view ∙ deposits-append v.calls other.calls

  -- the shares that are out at two passes are disjoint
  pub joined_apart : (v other w : View B) → TakesIn v other w → AreDisjoint (out_of v.calls ++ out_of other.calls)
  joined_apart v other w taken =
      fewer_apart (out_of v.calls ++ out_of other.calls) (ranges_of w.calls)
      (λ s.
      omega (arith, times-append s (out_of v.calls) (out_of other.calls), times-append s (ranges_of v.calls) (ranges_of other.calls), ap (times s) (joined_given v other w taken), times_without s (deposits_of v.calls) (ranges_of v.calls), times_without s (deposits_of other.calls) (ranges_of other.calls)))
      (own_apart w taken.sound)

  -- no range was given to both
  not_both : (v other w : View B) → TakesIn v other w → (r : SampleRange) → has_range (ranges_of v.calls) r ≡ true → has_range (ranges_of other.calls) r ≡ true → ⊥
  not_both v other w taken r one two =
      let given = joined_given v other w taken in
      let has : has_range (ranges_of w.calls) r ≡ true = ap (λ l. has_range l r) given ∙ (has-append (ranges_of v.calls) (ranges_of other.calls) r ∙ or_left (has_range (ranges_of v.calls) r) (has_range (ranges_of other.calls) r) one) in
      let inside = first_inside r (own_filled w taken.sound r has) in
      omega (arith, (own_apart w taken.sound r.first).0, ap (times r.first) given, times-append r.first (ranges_of v.calls) (ranges_of other.calls), has_times (ranges_of v.calls) r r.first one inside, has_times (ranges_of other.calls) r r.first two inside)

  -- what is out at either pass is out after their join, and nothing else
  pub joined_out : (v other w : View B) → TakesIn v other w → IsSound v → IsSound other → HasBoth v other w
  joined_out v other w taken sound_v sound_o r =
      has-without (deposits_of w.calls) (ranges_of w.calls) r
      ∙ (ap (λ l. has_range l r && not (has_range (deposits_of w.calls) r)) (joined_given v other w taken)
      ∙ (ap (λ l. has_range (ranges_of v.calls ++ ranges_of other.calls) r && not (has_range l r)) (joined_deposits v other w taken)
      ∙ (ap (λ b. b && not (has_range (deposits_of v.calls ++ deposits_of other.calls) r)) (has-append (ranges_of v.calls) (ranges_of other.calls) r)
      ∙ (ap (λ b. (has_range (ranges_of v.calls) r || has_range (ranges_of other.calls) r) && not b) (has-append (deposits_of v.calls) (deposits_of other.calls) r)
      ∙ (apart (has_range (ranges_of v.calls) r) (has_range (ranges_of other.calls) r) (has_range (deposits_of v.calls) r) (has_range (deposits_of other.calls) r) (sound_v.given r) (sound_o.given r) (not_both v other w taken r)
      ∙ (ap (λ b. b || (has_range (ranges_of other.calls) r && not (has_range (deposits_of other.calls) r))) (sym (has-without (deposits_of v.calls) (ranges_of v.calls) r))
      ∙ ap (λ b. has_range (out_of v.calls) r || b) (sym (has-without (deposits_of other.calls) (ranges_of other.calls) r))))))))
    where
      apart : (gv go dv do_ : Bool) → (dv ≡ true → gv ≡ true) → (do_ ≡ true → go ≡ true) → (gv ≡ true → go ≡ true → ⊥) → ((gv || go) && not (dv || do_)) ≡ ((gv && not dv) || (go && not do_))
      apart true true dv do_ a b n = absurd (n refl refl)
      apart true false true do_ a b n = refl
      apart true false false true a b n = absurd (false≢true (b refl))
      apart true false false false a b n = refl
      apart false true true do_ a b n = absurd (false≢true (a refl))
      apart false true false true a b n = refl
      apart false true false false a b n = refl
      apart false false true do_ a b n = absurd (false≢true (a refl))
      apart false false false true a b n = absurd (false≢true (b refl))
      apart false false false false a b n = refl
