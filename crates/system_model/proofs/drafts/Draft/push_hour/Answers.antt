use Rattle.std.proofs.Common.{◌≡◌, [], ◌∷◌, ◌++◌, length, ap, sym, ◌∙◌, rules, arith}
use Rattle.system_model.specs.System.{SystemParts, amounts_of, zone_count, hour_count}
use Rattle.system_model.proofs.HourLists.{length-hours_of}
use Rattle.system_model.proofs.DraftSteps.{parts_of-hour, AreDraftParts-hour}
use Rattle.system_model.proofs.drafts.Draft.push_hour.Goals as goal

pub overflow_add-self : goal.overflow_add-self
overflow_add-self c =
    let hours : c.self.inside.parts.hours ≡ hour_count c.args.self.now =
    sym (length-hours_of _ _ _ _) ∙ ap hour_count c.self.view_is in
    omega arith

pub invariant_of-self-2 : goal.invariant_of-self-2
invariant_of-self-2 c =
    let zones : zone_count c.args.self.now ≡ length c.self.inside.parts.zone_names.items =
    sym (ap zone_count c.self.view_is) in
    let load : c.append.new.list.items ≡ c.self.inside.parts.load.items ++ c.args.load.now = search rules in
    let variable : c.append-2.new.list.items ≡ c.self.inside.parts.variable.items ++ c.args.variable.now = search rules in
    AreDraftParts-hour c.self.inside.parts c.args.self.now c.append.new.list c.append-2.new.list c.args.load.now
    c.args.variable.now load variable c.self.view_is c.requires.room (rw zones at c.requires.amounts)
    c.self.invariant

pub returns-clause-ok : goal.returns-clause-ok
returns-clause-ok c =
    let zones : zone_count c.args.self.now ≡ length c.self.inside.parts.zone_names.items =
    sym (ap zone_count c.self.view_is) in
    let load : c.append.new.list.items ≡ c.self.inside.parts.load.items ++ c.args.load.now = search rules in
    let variable : c.append-2.new.list.items ≡ c.self.inside.parts.variable.items ++ c.args.variable.now = search rules in
    parts_of-hour c.self.inside.parts c.append.new.list c.append-2.new.list c.args.load.now c.args.variable.now load
    variable (c.requires.amounts.load_by_zone ∙ zones) (c.requires.amounts.variable_by_zone ∙ zones)
    c.self.invariant.filled
    ∙ ap (λ (s : SystemParts). record s { hours = s.hours ++ amounts_of c.args.load.now c.args.variable.now ∷ [] })
    c.self.view_is
