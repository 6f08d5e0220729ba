use Rattle.std.proofs.Common.{◌≡◌, ◌≤◌, ◌*◌, ◌+◌, ℕ, length, ap, sym, ◌∙◌, rules, arith, subst, get_or}
use Rattle.std.proofs.lemmas.List.{get_or_default}
use Rattle.ra_base.specs.declared.limits.TheConstants.{MOST_POOLED_MW}
use Rattle.system_model.specs.System.{SystemParts, IsValid, hourly_variable}
use Rattle.system_model.proofs.HourLists.{variable-hours_of}
use Rattle.system_model.proofs.SystemReads.{stands, hourly_variable-le}
use Rattle.system_model.proofs.systems.System.variable.Goals as goal

pub index-requires : goal.index-requires
index-requires c =
    let zones : c.len.result ≡ length c.self.inside.parts.zone_names.items = search rules in
    let at =
    stands c.self.inside.parts c.args.self.now c.len.result c.args.hour c.args.zone c.self.view_is zones
    c.self.invariant.filled c.requires.hour c.requires.zone in
    search (rules, at.variable)

pub returns-clause-value : goal.returns-clause-value
returns-clause-value c =
    let zones : c.len.result ≡ length c.self.inside.parts.zone_names.items = search rules in
    let at =
    stands c.self.inside.parts c.args.self.now c.len.result c.args.hour c.args.zone c.self.view_is zones
    c.self.invariant.filled c.requires.hour c.requires.zone in
    c.index.ensures
    ∙ get_or_default c.self.inside.parts.variable.items (c.args.hour * c.len.result + c.args.zone) c.index.result.now 0 at.variable
    ∙ ap (λ (n : ℕ). get_or c.self.inside.parts.variable.items (c.args.hour * n + c.args.zone) 0) zones
    ∙ sym (variable-hours_of (length c.self.inside.parts.zone_names.items) c.self.inside.parts.hours c.self.inside.parts.load.items c.self.inside.parts.variable.items c.args.hour c.args.zone at.hour at.zone)
    ∙ ap (λ (s : SystemParts). hourly_variable s c.args.hour c.args.zone) c.self.view_is

pub returns-clause-range : goal.returns-clause-range
returns-clause-range c =
    let valid : IsValid c.args.self.now = subst IsValid c.self.view_is c.self.invariant.valid in
    let most : hourly_variable c.args.self.now c.args.hour c.args.zone ≤ MOST_POOLED_MW =
    hourly_variable-le c.args.self.now c.args.hour c.args.zone valid c.requires.hour c.requires.zone in
    omega (arith, returns-clause-value c)
