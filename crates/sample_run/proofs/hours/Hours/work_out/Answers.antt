use Rattle.std.proofs.Common.{◌≡◌, List, ℕ, ap, refl, sym, ◌∙◌, subst}
use Rattle.system_model.specs.System.{IsValid}
use Rattle.outage_chronology.specs.Outages.{is_up}
use Rattle.cut_certificate.specs.Chain.{all_unserved}
use Rattle.cut_certificate.specs.Least.{IsLeastUnserved}
use Rattle.sample_totals.specs.declared.outcomes.HourOutcome.{HourOutcome}
use Rattle.sample_run.specs.HourNetwork.{network_of}
use Rattle.sample_run.specs.Run.{IsHour}
use Rattle.sample_run.specs.Moments.{Moment}
use Rattle.sample_run.proofs.HoursLemmas.{within-caps, kept-again, settled-inside, hour-made, least-made}
use Rattle.sample_run.proofs.hours.Hours.work_out.Goals as goal

pub apply-requires-clause-within : goal.apply-requires-clause-within
apply-requires-clause-within c =
    let standing = c.self.inside.chronology in
    let up = is_up c.self.inside.system.now standing.seed standing.sample standing.hour in
    let settled = settled-inside _ c.dispatch.new.self c.args.self.now c.self.view_is c.dispatch.ensures.at c.dispatch.ensures.settled in
    within-caps c.self.inside.system.now up c.self.inside.storages standing.hour
    (network_of c.self.inside.system.now up c.self.inside.storages.energies standing.hour) c.self.inside.outcome settled.0 c.self.invariant.storages refl settled.1.accepted

pub invariant_of-self : goal.invariant_of-self
invariant_of-self c =
    kept-again c.self.inside.system.now c.self.inside.chronology c.self.inside.sums c.self.inside.storages c.apply.new.storages c.self.inside.network c.self.inside.dispatcher
    c.self.inside.outcome c.apply.new.energy c.self.inside.chain c.apply.ensures.energies c.apply.ensures.storages c.self.invariant

-- the energies before the hour, inside and as a caller sees them
before_is : (c : goal.After-apply) → c.self.inside.storages.energies ≡ c.args.self.now.energies
before_is c = ap (λ (m : Moment). m.energies) c.self.view_is ∙ ap (λ (m : Moment). m.energies) c.dispatch.ensures.at

-- the system is valid
valid : (c : goal.After-apply) → IsValid c.self.inside.system.now
valid c = subst (λ (m : Moment). IsValid m.system) (sym c.self.view_is) c.dispatch.ensures.valid

pub returns-clause-hour : goal.returns-clause-hour
returns-clause-hour c =
    let standing = c.self.inside.chronology in
    let system = c.self.inside.system.now in
    let up = is_up system standing.seed standing.sample standing.hour in
    let outcome : HourOutcome = record c.self.inside.outcome { energy = c.apply.new.energy } in
    let number : c.self.inside.outcome.hour ≡ standing.hour =
    ap (λ (m : Moment). m.outcome.hour) c.self.view_is
    ∙ c.dispatch.ensures.hour
    ∙ sym (ap (λ (m : Moment). m.hour) c.dispatch.ensures.at)
    ∙ sym (ap (λ (m : Moment). m.hour) c.self.view_is) in
    let settled = settled-inside _ c.dispatch.new.self c.args.self.now c.self.view_is c.dispatch.ensures.at c.dispatch.ensures.settled in
    subst (λ (energies : List ℕ). IsHour system up energies standing.hour outcome) (before_is c)
    (hour-made system up c.self.inside.storages.energies standing.hour c.self.inside.outcome c.apply.new.energy settled.0 (valid c) number settled.1 c.apply.ensures.energies)

pub returns-clause-least : goal.returns-clause-least
returns-clause-least c =
    let standing = c.self.inside.chronology in
    let system = c.self.inside.system.now in
    let up = is_up system standing.seed standing.sample standing.hour in
    let settled = settled-inside _ c.dispatch.new.self c.args.self.now c.self.view_is c.dispatch.ensures.at c.dispatch.ensures.settled in
    subst (λ (energies : List ℕ). let n = network_of system up energies standing.hour in IsLeastUnserved n (all_unserved n c.self.inside.outcome)) (before_is c)
    (least-made system up c.self.inside.storages.energies standing.hour c.self.inside.outcome settled.0 (valid c) settled.1)
