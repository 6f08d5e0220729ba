use Rattle.std.proofs.Common.{◌≡◌, ◌≤◌, ◌∷◌, ◌++◌, [], sym, ap, ◌∙◌, subst, arith}
use Rattle.campaign_core.specs.declared.run.SampleRange.{SampleRange}
use Rattle.campaign_core.specs.declared.call.Call.TheVariants.{Deposit}
use Rattle.campaign_core.specs.declared.call.Reply.TheVariants.{Deposited}
use Rattle.campaign_core.specs.Ranges.{range, AreDisjoint}
use Rattle.campaign_core.specs.History.{deposits_of}
use Rattle.campaign_core.proofs.MachineLaws.{run_samples}
use Rattle.turn_book.specs.Seated.{view_of}
use Rattle.campaign.specs.Books.{IsBook}
use Rattle.campaign.specs.Passes.{Says}
use Rattle.campaign.proofs.PassLaws.{deposit_apart, deposits_apart, says_deposit, out_taken, range_is}
use Rattle.campaign.proofs.calls.Shared+Book+W+W.deposit.Goals as goal

pub add-requires-clause-book : goal.add-requires-clause-book
add-requires-clause-book g c κs within =
    let v = view_of c.args.pass.now.seat in
    let t = view_of c.take-held.new.seat in
    let r = range c.first-first.result c.count-count.result in
    let is : r ≡ c.args.done.share = range_is c.first-first.result c.count-count.result c.args.done.share (c.first-first.ensures.value ∙ ap (λ (s : SampleRange). s.first) c.into_parts-share.ensures.share) (c.count-count.ensures.value ∙ ap (λ (s : SampleRange). s.count) c.into_parts-share.ensures.share) in
    let full : 1 ≤ r.count = omega (arith, c.count-count.ensures.value, c.count-count.ensures.share.0) in
    let apart = deposit_apart t c.take-held.ensures.seat.sound r.first r.count (out_taken v t r c.args.done.share c.take-held.ensures.taken is c.requires.out) in (
      deposits_of t.seen,
      subst (λ b. IsBook g.W.Work.stands b (deposits_of t.seen)) (sym c.book_mut.ensures.value) c.take-held.ensures.book,
      subst (λ s. AreDisjoint (deposits_of t.seen ++ s ∷ [])) (sym (run_samples r full)) apart,
    )

pub deposit-requires-clause-book : goal.deposit-requires-clause-book
deposit-requires-clause-book g c κs within =
    let v = view_of c.args.pass.now.seat in
    let t = view_of c.take-held.new.seat in
    let r = range c.first-first.result c.count-count.result in
    let is : r ≡ c.args.done.share = range_is c.first-first.result c.count-count.result c.args.done.share (c.first-first.ensures.value ∙ ap (λ (s : SampleRange). s.first) c.into_parts-share.ensures.share) (c.count-count.ensures.value ∙ ap (λ (s : SampleRange). s.count) c.into_parts-share.ensures.share) in
    let full : 1 ≤ r.count = omega (arith, c.count-count.ensures.value, c.count-count.ensures.share.0) in
    let apart = deposit_apart t c.take-held.ensures.seat.sound r.first r.count (out_taken v t r c.args.done.share c.take-held.ensures.taken is c.requires.out) in
    let same = run_samples r full in
    subst (λ s. IsBook g.W.Work.stands c.add.new.self (deposits_of t.seen ++ s ∷ [])) same
    (c.in-Ok.ensures.book (deposits_of t.seen)
    (subst (λ b. IsBook g.W.Work.stands b (deposits_of t.seen)) (sym c.book_mut.ensures.value) c.take-held.ensures.book)
    (subst (λ s. AreDisjoint (deposits_of t.seen ++ s ∷ [])) (sym same) apart))

pub returns-in-Ok-clause-made : goal.returns-in-Ok-clause-made
returns-in-Ok-clause-made g c =
    let v = view_of c.args.pass.now.seat in
    let t = view_of c.take-held.new.seat in
    let w = view_of c.deposit.new.seat in
    let is : range c.first-first.result c.count-count.result ≡ c.args.done.share = range_is c.first-first.result c.count-count.result c.args.done.share (c.first-first.ensures.value ∙ ap (λ (s : SampleRange). s.first) c.into_parts-share.ensures.share) (c.count-count.ensures.value ∙ ap (λ (s : SampleRange). s.count) c.into_parts-share.ensures.share) in
    subst (λ (r : SampleRange). Says v (Deposit r.first r.count) (Deposited c.deposit.result) w) is
    (says_deposit v t c.first-first.result c.count-count.result c.deposit.result w c.requires.pass.free c.take-held.ensures.taken c.deposit.ensures.made)

pub returns-in-Ok-clause-once : goal.returns-in-Ok-clause-once
returns-in-Ok-clause-once g c = deposits_apart (view_of c.deposit.new.seat) c.deposit.ensures.seat.sound

pub returns-in-Err-clause-once : goal.returns-in-Err-clause-once
returns-in-Err-clause-once g c = deposits_apart (view_of c.leave.new.seat) c.leave.ensures.seat.sound
