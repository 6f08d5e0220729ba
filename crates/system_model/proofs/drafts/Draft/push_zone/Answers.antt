use Rattle.std.proofs.Common.{◌≡◌, [], ◌∷◌, ◌++◌, ap, ◌∙◌, rules}
use Rattle.system_model.specs.System.{SystemParts}
use Rattle.system_model.proofs.DraftSteps.{parts_of-zone, AreDraftParts-zone}
use Rattle.system_model.proofs.drafts.Draft.push_zone.Goals as goal

pub invariant_of-self-2 : goal.invariant_of-self-2
invariant_of-self-2 c =
    let names : c.push.new.self.items ≡ c.self.inside.parts.zone_names.items ++ c.args.name.now ∷ [] = search rules in
    AreDraftParts-zone c.self.inside.parts c.args.self.now c.push.new.self c.args.name.now c.self.view_is names
    c.requires.room c.requires.name
    (ap (λ (s : SystemParts). s.hours) c.self.view_is ∙ c.requires.before_hours) c.self.invariant

pub returns-clause-ok : goal.returns-clause-ok
returns-clause-ok c =
    let names : c.push.new.self.items ≡ c.self.inside.parts.zone_names.items ++ c.args.name.now ∷ [] = search rules in
    parts_of-zone c.self.inside.parts c.push.new.self c.args.name.now names
    (ap (λ (s : SystemParts). s.hours) c.self.view_is ∙ c.requires.before_hours)
    ∙ ap (λ (s : SystemParts). record s { zone_names = s.zone_names ++ c.args.name.now ∷ [] }) c.self.view_is
