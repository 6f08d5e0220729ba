use Rattle.std.proofs.Common.{◌≡◌, refl, lit≤, ap, ◌∙◌}
use Rattle.turn_book.specs.Seated.{view_of}
use Rattle.campaign_tests.proofs.of_turn_book.an_exchange_finds_another_gate.Goals as goal

pub swap_gate-requires-clause-step : goal.swap_gate-requires-clause-step
swap_gate-requires-clause-step g c =
    let block : (view_of c.look-found.new.seat).block ≡ 2 = c.look-found.ensures.same.block ∙ (ap (λ v. v.block) c.split-second.ensures.view ∙ c.in_ok-book.ensures.block) in
    λ lifetimes. rw block ((lit≤ tt, lit≤ tt), (lit≤ tt, lit≤ tt), refl, refl)
