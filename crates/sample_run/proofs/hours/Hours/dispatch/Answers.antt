use Rattle.std.proofs.Common.{ap, sym, ◌∙◌, subst}
use Rattle.outage_chronology.specs.Standing.{is_up_at}
use Rattle.zone_network.specs.Network.{NetworkParts}
use Rattle.cut_certificate.specs.declared.chains.Chain.{Chain}
use Rattle.hour_dispatch.specs.Ample.{ample_chain}
use Rattle.hour_dispatch.specs.Settled.{IsSettled}
use Rattle.sample_run.specs.HourNetwork.{network_of}
use Rattle.sample_run.specs.Moments.{Moment}
use Rattle.sample_run.proofs.AmpleSteps.{settled-still}
use Rattle.sample_run.proofs.HoursLemmas.{network-shape, sized-again, kept-dispatched, as-seen}
use Rattle.sample_run.proofs.hours.Hours.dispatch.Goals as goal

pub returns-then-is_ample-clause-settled : goal.returns-then-is_ample-clause-settled
returns-then-is_ample-clause-settled c =
    let system = c.self.inside.system.now in
    let standing = c.self.inside.chronology in
    let energies = c.self.inside.storages.energies in
    let n = network_of system (is_up_at standing) energies standing.hour in
    let proof : Chain = ample_chain n c.is_ample.new.needs in (
      proof,
      as-seen system standing energies c.args.self.now.energies c.keep_still.new.outcome proof c.self.invariant.chronology (ap (λ (m : Moment). m.energies) c.self.view_is)
          (settled-still system (is_up_at standing) energies standing.hour c.self.inside.network c.self.inside.outcome c.keep_still.new.outcome c.self.inside.chain c.is_ample.new.needs c.is_ample.new.charge c.hour-self-inside.result
          (c.is_ample.ensures.ample c.if-is_ample.true) (c.is_ample.ensures.needs c.if-is_ample.true) (c.is_ample.ensures.charge c.if-is_ample.true) c.self.invariant.shape c.self.invariant.sizes c.keep_still.ensures),
    )

pub best-requires-clause-shape : goal.best-requires-clause-shape
best-requires-clause-shape c =
    c.self.invariant.dispatches
    ∙ sym (ap (λ (n : NetworkParts). n.shape) c.set_hour.ensures ∙ network-shape c.self.inside.system.now (is_up_at c.self.inside.chronology) c.self.inside.storages.energies c.self.inside.chronology.hour)

pub best-requires-clause-sizes : goal.best-requires-clause-sizes
best-requires-clause-sizes c =
    sized-again c.self.inside.network c.set_hour.new.net c.self.inside.outcome c.hour-self-inside.result c.is_ample.new.charge c.self.inside.chain c.is_ample.new.needs
    (c.self.invariant.shape
    ∙ sym (ap (λ (n : NetworkParts). n.shape) c.set_hour.ensures ∙ network-shape c.self.inside.system.now (is_up_at c.self.inside.chronology) c.self.inside.storages.energies c.self.inside.chronology.hour))
    c.is_ample.ensures.charge_size c.is_ample.ensures.needs_size c.self.invariant.sizes

pub invariant_of-self-2 : goal.invariant_of-self-2
invariant_of-self-2 c =
    kept-dispatched c.self.inside.system.now c.self.inside.chronology c.self.inside.sums c.self.inside.storages c.self.inside.network c.set_hour.new.net c.self.inside.dispatcher c.best.new.self
    c.self.inside.outcome c.best.new.outcome c.self.inside.chain c.best.new.chain c.set_hour.ensures c.best.ensures.shape c.best.ensures.fit c.self.invariant

pub returns-clause-settled : goal.returns-clause-settled
returns-clause-settled c =
    let system = c.self.inside.system.now in
    let standing = c.self.inside.chronology in
    let energies = c.self.inside.storages.energies in
    let made : IsSettled c.set_hour.new.net c.best.new.outcome c.best.new.chain =
    record { fit = c.best.ensures.fit; accepted = c.best.ensures.accepted; cut = c.best.ensures.cut } in (
      c.best.new.chain,
      as-seen system standing energies c.args.self.now.energies c.best.new.outcome c.best.new.chain c.self.invariant.chronology (ap (λ (m : Moment). m.energies) c.self.view_is)
          (subst (λ (n : NetworkParts). IsSettled n c.best.new.outcome c.best.new.chain) c.set_hour.ensures made),
    )
