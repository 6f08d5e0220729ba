use Rattle.std.proofs.Common.{◌≡◌, [], ◌∷◌, ◌++◌, rules}
use Rattle.system_model.proofs.DraftSteps.{AreDraftParts-interface}
use Rattle.system_model.proofs.drafts.Draft.push_interface.Goals as goal

pub invariant_of-self-2 : goal.invariant_of-self-2
invariant_of-self-2 c =
    let parts : c.push.new.self.items ≡ c.self.inside.parts.interfaces.items ++ c.args.interface ∷ [] = search rules in
    let names : c.push-2.new.self.items ≡ c.self.inside.parts.interface_names.items ++ c.args.name.now ∷ [] = search rules in
    AreDraftParts-interface c.self.inside.parts c.args.self.now c.push.new.self c.push-2.new.self c.args.interface
    c.args.name.now c.self.view_is parts names c.requires.room c.requires.name c.requires.interface c.self.invariant
