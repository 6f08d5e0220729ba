use Rattle.std.proofs.Common.{◌+◌, ℕ, ap, ◌∙◌, subst, arith}
use Rattle.transfer_flow.specs.Flow.{no_flow}
use Rattle.hour_dispatch.proofs.StartLemmas.{HasSupply, HasCaps, supply-start, supply-more, caps-start, caps-more, caps-most, start-balance, start-unused}
use Rattle.hour_dispatch.proofs.starting.start.Goals as goal

pub loop-zone-init : goal.loop-zone-init
loop-zone-init c =
    supply-start c.args.net.now c.clear.new.self (c.clear.ensures ∙ ap no_flow c.requires)

pub loop-zone-preserved : goal.loop-zone-preserved
loop-zone-preserved c =
    supply-more c.args.net.now c.loop-zone.flow c.set_spare.new.self c.loop-zone.zone c.supply.result
    (omega (arith, c.loop-zone-test.true, c.zones-zone-end.ensures.count)) c.loop-zone.invariant c.supply.ensures.value
    c.set_spare.ensures

pub loop-device-init : goal.loop-device-init
loop-device-init c =
    caps-start c.args.net.now c.loop-zone.flow
    (subst (λ (k : ℕ). HasSupply c.args.net.now c.loop-zone.flow k)
    (omega (arith, c.loop-zone-test.false, c.loop-zone.auto.zone-end, c.zones-zone-end.ensures.count)) c.loop-zone.invariant)

pub overflow_add-spare : goal.overflow_add-spare
overflow_add-spare c =
    omega (
      arith,
      caps-most c.args.net.now c.loop-device.flow c.loop-device.device c.device_zone-zone.result c.device_zone-zone.ensures.valid
          c.loop-device.invariant (omega (arith, c.loop-device-test.true, c.devices-device-end.ensures.count))
          c.device_zone-zone.ensures.among,
      c.spare.ensures.value,
      c.discharge_cap.ensures.most,
    )

pub loop-device-preserved : goal.loop-device-preserved
loop-device-preserved c =
    caps-more c.args.net.now c.loop-device.flow c.set_spare-in-loop-device.new.self c.loop-device.device
    c.device_zone-zone.result (c.spare.result + c.discharge_cap.result) c.loop-device.invariant c.device_zone-zone.ensures.among
    c.device_zone-zone.ensures.value (omega (arith, c.spare.ensures.value, c.discharge_cap.ensures.value))
    c.set_spare-in-loop-device.ensures

pub returns-clause-balance : goal.returns-clause-balance
returns-clause-balance c =
    start-balance c.args.net.now c.loop-device.flow
    (subst (λ (k : ℕ). HasCaps c.args.net.now c.loop-device.flow k)
    (omega (arith, c.loop-device-test.false, c.loop-device.auto.device-end, c.devices-device-end.ensures.count)) c.loop-device.invariant)

pub returns-clause-unused : goal.returns-clause-unused
returns-clause-unused c =
    start-unused c.args.net.now c.loop-device.flow
    (subst (λ (k : ℕ). HasCaps c.args.net.now c.loop-device.flow k)
    (omega (arith, c.loop-device-test.false, c.loop-device.auto.device-end, c.devices-device-end.ensures.count)) c.loop-device.invariant)
