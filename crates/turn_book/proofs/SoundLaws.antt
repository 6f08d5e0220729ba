-- What a sound view tells: of its numbers, and of the deposits among its own calls.
use Rattle.std.proofs.Common.{◌≡◌, ℕ, zero, suc, ◌+◌, ◌<◌, ◌≤◌, inl, inr, true, length, ap, sym, ◌∙◌, arith}
use Rattle.std.proofs.lemmas.Bool.{cases_Bool, cases_lt, false≢true}
use Rattle.campaign_core.specs.declared.run.SampleRange.{SampleRange}
use Rattle.campaign_core.specs.Ranges.{has_range}
use Rattle.campaign_core.specs.History.{gate_of, deposits_of, calls_of}
use Rattle.campaign_core.proofs.Totals.{sum_below, below-zero, below-suc}
use Rattle.campaign_core.proofs.WithoutLaws.{has-nil}
use Rattle.campaign_core.proofs.HistoryLaws.{deposits-nil}
use Rattle.campaign_core.proofs.GivenLaws.{some_depositor, owned_deposits}
use Rattle.campaign_core.proofs.MachineLaws.{sound_history}
use Rattle.turn_book.specs.declared.view.View.{View}
use Rattle.turn_book.specs.Words.{IsGate}
use Rattle.turn_book.specs.Views.{how_often, numbers_of, owns, IsSound}
use Rattle.turn_book.proofs.JoinLemmas.{length_often, all_below_from, all_among}

most_below : (f : ℕ → ℕ) (m : ℕ) → ((i : ℕ) → f i ≤ 1) → sum_below f m ≤ m
most_below f zero small = omega (arith, below-zero f)
most_below f (suc m) small = omega (arith, below-suc f m, most_below f m small, small m)

module _ {B : Type 0} (v : View B) (sound : IsSound v) where
  -- the opening seat took in no more seats than it made
  pub few_joined : v.number ≡ 0 → length v.joined + 1 ≤ v.made
  few_joined opening =
      let all = length_often v.made (numbers_of v) (all_below_from v.made (numbers_of v) (sound.below opening)) in
      omega (arith, all, most_below (λ i. how_often i (numbers_of v)) v.made sound.apart)

  -- where it took in all, each number below the number made is among its own
  pub every_number : v.number ≡ 0 → length v.joined + 1 ≡ v.made → (n : ℕ) → n < v.made → owns v n ≡ true
  every_number opening all n l =
      all_among v.made (numbers_of v) (all_below_from v.made (numbers_of v) (sound.below opening)) sound.apart (omega (arith, all)) n l

  -- and then its calls are all calls of the history
  pub every_call : v.number ≡ 0 → length v.joined + 1 ≡ v.made → (n : ℕ) → calls_of n v.seen ≡ calls_of n v.calls
  every_call opening all n =
      elim (cases_Bool (owns v n)) [
        | inl own ↦ sound.mine n own
        | inr other ↦
            elim (cases_lt n v.made) [
              | inl l ↦ absurd (false≢true (sym other ∙ every_number opening all n l))
              | inr le ↦ sound.callers opening n le ∙ sym (sound.others n other)
            ]
      ]

  -- what was deposited among a seat's own calls is deposited in what it has seen
  pub own_deposit : (r : SampleRange) → has_range (deposits_of v.calls) r ≡ true → has_range (deposits_of v.seen) r ≡ true
  own_deposit r has =
      let who = some_depositor v.calls r has in
      elim (cases_Bool (owns v who.0)) [
        | inl own ↦ owned_deposits who.0 v.seen r (ap (λ l. has_range (deposits_of l) r) (sound.mine who.0 own) ∙ who.1)
        | inr other ↦
            absurd (false≢true (sym (ap (λ l. has_range (deposits_of l) r) (sound.others who.0 other) ∙ (ap (λ l. has_range l r) deposits-nil ∙ has-nil r)) ∙ who.1))
      ]

  -- the gate that a seat has seen is within the limits
  pub gate_seen : IsGate (gate_of v.target v.seen)
  gate_seen =
      let whole = sound_history v.target v.block sound.target sound.block v.seen sound.legal in
      (whole.next, whole.target)
