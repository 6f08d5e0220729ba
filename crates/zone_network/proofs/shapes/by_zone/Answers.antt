use Rattle.std.proofs.Common.{◌≡◌, ◌∙◌, List, ℕ, rules}
use Rattle.zone_network.specs.Network.{touching}
use Rattle.zone_network.proofs.LinkLists.{touching_pushed}
use Rattle.zone_network.proofs.shapes.by_zone.Goals as goal

pub loop-zone-preserved : goal.loop-zone-preserved
loop-zone-preserved c =
    let made : c.in_ok-of.field-0 ≡ touching c.args.links.now c.loop-zone.zone = search rules in
    ◌∙◌ {A = List (List ℕ)} c.in_ok-push.ensures.items
    (touching_pushed c.args.links.now c.loop-zone.zone c.loop-zone.lists.items c.in_ok-of.field-0 c.loop-zone.invariant made)
