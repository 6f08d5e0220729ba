use Rattle.std.proofs.Common.{ap, arith}
use Rattle.std.proofs.lemmas.List.{length-map}
use Rattle.std.proofs.lemmas.List.FromFn.{fill_by_all}
use Rattle.system_model.specs.declared.components.Storage.{Storage}
use Rattle.system_model.specs.System.{storage_count}
use Rattle.zone_network.specs.Network.{device_count}
use Rattle.outage_chronology.specs.Standing.{is_up_at}
use Rattle.sample_run.specs.HourNetwork.{device_caps}
use Rattle.sample_run.proofs.network.set_devices.Goals as goal

pub returns-clause-discharge : goal.returns-clause-discharge
returns-clause-discharge c =
    fill_by_all (λ k. (device_caps c.args.system.now (is_up_at c.args.chronology.now) c.args.storages.now.energies k).discharge)
    c.loop-device.net.discharge_caps (storage_count c.args.system.now) 0 c.loop-device.invariant.discharge_size
    (λ k below. c.loop-device.invariant.discharge k (omega (arith, c.loop-device-test.false, c.loop-device.auto.device-end, c.devices-device-end.ensures.count, ap device_count c.requires.shape, length-map c.args.system.now.storages (λ (storage : Storage). storage.zone))))

pub returns-clause-charge : goal.returns-clause-charge
returns-clause-charge c =
    fill_by_all (λ k. (device_caps c.args.system.now (is_up_at c.args.chronology.now) c.args.storages.now.energies k).charge)
    c.loop-device.net.charge_caps (storage_count c.args.system.now) 0 c.loop-device.invariant.charge_size
    (λ k below. c.loop-device.invariant.charge k (omega (arith, c.loop-device-test.false, c.loop-device.auto.device-end, c.devices-device-end.ensures.count, ap device_count c.requires.shape, length-map c.args.system.now.storages (λ (storage : Storage). storage.zone))))
