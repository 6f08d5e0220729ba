use Rattle.std.proofs.Common.{◌≡◌, [], ◌∷◌, ◌++◌, rules}
use Rattle.system_model.proofs.DraftSteps.{AreDraftParts-storage}
use Rattle.system_model.proofs.drafts.Draft.push_storage.Goals as goal

pub invariant_of-self-2 : goal.invariant_of-self-2
invariant_of-self-2 c =
    let parts : c.push.new.self.items ≡ c.self.inside.parts.storages.items ++ c.args.storage ∷ [] = search rules in
    let names : c.push-2.new.self.items ≡ c.self.inside.parts.storage_names.items ++ c.args.name.now ∷ [] = search rules in
    AreDraftParts-storage c.self.inside.parts c.args.self.now c.push.new.self c.push-2.new.self c.args.storage
    c.args.name.now c.self.view_is parts names c.requires.room c.requires.name c.requires.storage c.requires.pooled_charge c.requires.pooled_discharge c.self.invariant
