use Rattle.std.proofs.Common.{◌≡◌, ◌<◌, length, List, ℕ, get_or, ap, ◌∙◌, arith, rules}
use Rattle.std.proofs.lemmas.List.FromFn.{length-map-range_with_len, get_or-map-range_with_len}
use Rattle.zone_network.specs.Network.{ShapeParts, touching, links_of}
use Rattle.zone_network.proofs.shapes.Shape.links_of.Goals as goal

pub index-requires : goal.index-requires
index-requires c =
    let size : length c.self.inside.zone_links.items ≡ c.args.self.now.zones =
    ap length c.self.invariant.1
    ∙ length-map-range_with_len (touching c.self.inside.links.items) 0 c.self.inside.zones
    ∙ ap (λ (s : ShapeParts). s.zones) c.self.view_is in
    let place : c.args.zone < length c.self.inside.zone_links.items = omega (arith, c.requires) in
    search (rules, place)

pub returns-clause-value : goal.returns-clause-value
returns-clause-value c =
    let zones : c.self.inside.zones ≡ c.args.self.now.zones = ap (λ (s : ShapeParts). s.zones) c.self.view_is in
    c.links.ensures ∙ c.index.ensures
    ∙ ap (λ (lists : List (List ℕ)). get_or lists c.args.zone c.index.result.now) c.self.invariant.1
    ∙ get_or-map-range_with_len (touching c.self.inside.links.items) 0 c.self.inside.zones c.args.zone c.args.zone
    c.index.result.now (omega (arith, c.requires)) (omega arith)
    ∙ ap (λ (s : ShapeParts). links_of s c.args.zone) c.self.view_is
