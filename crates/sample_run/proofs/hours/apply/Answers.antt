use Rattle.std.proofs.Common.{arith}
use Rattle.sample_run.proofs.EnergySteps.{held-more, held-all, held-same}
use Rattle.sample_run.proofs.hours.apply.Goals as goal

pub loop-device-preserved : goal.loop-device-preserved
loop-device-preserved c =
    held-more c.args.system.now c.args.storages.now.energies c.args.charge.now c.args.discharge.now c.loop-device.storages c.apply.new.self c.loop-device.energy c.set.new.self
    c.loop-device.device c.get.result c.get-in-loop-device.result c.energy.result
    (omega (arith, c.loop-device-test.true, c.loop-device.auto.device-end, c.storages-device-end.ensures.count)) c.get.ensures c.get-in-loop-device.ensures c.apply.ensures c.energy.ensures.value c.set.ensures c.loop-device.invariant

pub returns-clause-energies : goal.returns-clause-energies
returns-clause-energies c =
    held-all _ _ _ _ _ _ _ (omega (arith, c.loop-device-test.false, c.loop-device.auto.device-end, c.storages-device-end.ensures.count)) c.loop-device.invariant

pub returns-clause-storages : goal.returns-clause-storages
returns-clause-storages c =
    held-same c.args.system.now _ _ _ c.loop-device.storages c.args.storages.now c.loop-device.energy _ (omega (arith, c.loop-device-test.false, c.loop-device.auto.device-end, c.storages-device-end.ensures.count)) c.requires.system c.loop-device.invariant
