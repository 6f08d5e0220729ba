use Rattle.std.proofs.Common.{◌≡◌, ◌++◌, ◌∷◌, ◌||◌, ◌==◌, [], List, ℕ, Vec, Global, ap, sym, ◌∙◌}
use Rattle.std.proofs.lemmas.List.{get_or_default}
use Rattle.zone_network.specs.Network.{no_link, touches_at}
use Rattle.zone_network.specs.declared.links.Link.{Link}
use Rattle.ra_base.proofs.Passing.{passing_pushed, passing_same}
use Rattle.zone_network.proofs.links.LinkList.of.Goals as goal
use Rattle.zone_network.proofs.links.LinkList.of.Goals.{then-touches+in_ok-push, else-touches}

pub loop-at-preserved : goal.loop-at-preserved
loop-at-preserved c =
    let read : touches_at c.args.ends.now c.args.zone c.loop-at.at ≡ c.touches.result =
    ap (λ (link : Link). (link.from == c.args.zone) || (link.to == c.args.zone))
    (get_or_default c.args.ends.now c.loop-at.at no_link _ c.loop-at-test.true)
    ∙ sym c.touches.ensures in
    elim c.if-touches.branch [
      | then-touches+in_ok-push w ↦
          ap (λ (v : Vec ℕ Global). v.items) w.links-is ∙ w.in_ok-push.ensures.items
          ∙ ap (λ (xs : List ℕ). xs ++ c.loop-at.at ∷ []) c.loop-at.invariant
          ∙ sym (passing_pushed (touches_at c.args.ends.now c.args.zone) c.loop-at.at (read ∙ w.if-touches.true))
      | else-touches w ↦
          ap (λ (v : Vec ℕ Global). v.items) w.links-is ∙ c.loop-at.invariant
          ∙ sym (passing_same (touches_at c.args.ends.now c.args.zone) c.loop-at.at (read ∙ w.if-touches.false))
    ]
