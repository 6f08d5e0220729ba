use Rattle.std.proofs.Common.{◌≡◌, ℕ, ◌+◌, ◌<◌, ◌≤◌, Bool, List, length, get_or, ap, sym, ◌∙◌, arith}
use Rattle.std.specs.Prelude.{slice_set}
use Rattle.std.proofs.lemmas.List.{length-set}
use Rattle.std.proofs.lemmas.List.Edits.{fill_by_more}
use Rattle.system_model.specs.declared.components.Storage.{Storage}
use Rattle.system_model.specs.System.{SystemParts, storage_count, storage_at, hourly_load}
use Rattle.outage_chronology.specs.Outages.{storage_component}
use Rattle.outage_chronology.specs.Standing.{is_up_at}
use Rattle.storage_state.specs.declared.storages.Caps.{Caps}
use Rattle.storage_state.specs.Energy.{caps_if}
use Rattle.sample_run.specs.HourNetwork.{device_caps}
use Rattle.sample_run.proofs.AmpleSteps.{covered-none, needs-size, zone-covered, device-covered, need-small, ample-by, needs-by, charge-by}
use Rattle.sample_run.proofs.ample.is_ample.Goals as goal
use Rattle.sample_run.proofs.ample.is_ample.Goals.{After-loop-device, After-supply-in-loop-device}

pub loop-zone-init : goal.loop-zone-init
loop-zone-init c = covered-none c.args.system.now (is_up_at c.args.chronology.now) c.args.storages.now.energies c.args.chronology.now.hour c.args.needs.now c.requires.needs

pub returns-then-load-supply-clause-needs_size : goal.returns-then-load-supply-clause-needs_size
returns-then-load-supply-clause-needs_size c =
    needs-size _ _ _ _ c.loop-zone.invariant
    ∙ sym c.requires.needs

pub set-requires : goal.set-requires
set-requires c =
    omega (
      arith,
      c.loop-zone-test.true,
      c.loop-zone.auto.zone-end,
      c.zones-zone-end.ensures.count,
      needs-size _ _ _ _ c.loop-zone.invariant,
    )

pub loop-zone-preserved : goal.loop-zone-preserved
loop-zone-preserved c =
    zone-covered c.args.system.now (is_up_at c.args.chronology.now) c.args.storages.now.energies c.args.chronology.now.hour c.loop-zone.needs c.set.new.self c.loop-zone.zone c.load-load.result c.supply.result
    c.loop-zone.invariant
    (omega (arith, c.loop-zone-test.true, c.loop-zone.auto.zone-end, c.zones-zone-end.ensures.count))
    (c.load-load.ensures.value ∙ ap (λ (h : ℕ). hourly_load c.args.system.now h c.loop-zone.zone) c.hour.ensures.value)
    c.supply.ensures.value c.if-load-supply.false c.set.ensures

pub get-need-requires : goal.get-need-requires
get-need-requires c =
    omega (
      arith,
      c.storage-zone.ensures.range.zone,
      needs-size _ _ _ _ c.loop-device.invariant.covered,
    )

-- what a zone needs so far is no more than its supply
covered : (c : After-supply-in-loop-device) → c.get-need.result ≤ c.supply-in-loop-device.result
covered c =
    omega (
      arith,
      c.get-need.ensures,
      c.supply-in-loop-device.ensures.value,
      need-small _ _ _ _ c.storage-zone.result.zone c.loop-device.invariant.covered c.storage-zone.ensures.range.zone,
    )

pub overflow_sub-supply : goal.overflow_sub-supply
overflow_sub-supply c = covered c

pub returns-then-cap-supply-clause-needs_size : goal.returns-then-cap-supply-clause-needs_size
returns-then-cap-supply-clause-needs_size c =
    needs-size _ _ _ _ c.loop-device.invariant.covered
    ∙ sym c.requires.needs

pub set-requires-in-loop-device : goal.set-requires-in-loop-device
set-requires-in-loop-device c =
    omega (
      arith,
      c.storage-zone.ensures.range.zone,
      needs-size _ _ _ _ c.loop-device.invariant.covered,
    )

pub loop-device-preserved : goal.loop-device-preserved
loop-device-preserved c =
    let system = c.args.system.now in
    let up = is_up_at c.args.chronology.now in
    let energies = c.args.storages.now.energies in
    let device = c.loop-device.device in
    let among : device < storage_count system =
    omega (arith, c.loop-device-test.true, c.loop-device.auto.device-end, c.storages-device-end.ensures.count) in
    let cap_is : c.caps-cap.result.charge ≡ (device_caps system up energies device).charge =
    ap (λ (caps : Caps). caps.charge)
    (c.caps-cap.ensures.value
    ∙ ap (λ (b : Bool). caps_if b (storage_at c.args.storages.now.system device) (get_or energies device 0)) (c.is_up-up.ensures ∙ ap (λ (units : ℕ). up (units + device)) c.units.ensures.count)
    ∙ ap (λ (s : SystemParts). caps_if (up (storage_component system device)) (storage_at s device) (get_or energies device 0)) c.requires.storages) in
    record {
      covered =
          device-covered system up energies c.args.chronology.now.hour c.loop-device.needs c.set-in-loop-device.new.self device c.storage-zone.result.zone c.caps-cap.result.charge (c.get-need.result + c.caps-cap.result.charge) c.supply-in-loop-device.result
          c.loop-device.invariant.covered among c.storage-zone.ensures.range.zone (ap (λ (s : Storage). s.zone) c.storage-zone.ensures.value) cap_is
          (ap (λ (need : ℕ). need + c.caps-cap.result.charge) c.get-need.ensures) c.supply-in-loop-device.ensures.value (omega (arith, c.if-cap-supply.false, c.get-need.ensures, c.supply-in-loop-device.ensures.value, need-small _ _ _ _ c.storage-zone.result.zone c.loop-device.invariant.covered c.storage-zone.ensures.range.zone)) c.set-in-loop-device.ensures;
      charge_size = ap length c.set-in-loop-device-2.ensures ∙ length-set c.loop-device.charge device _ ∙ c.loop-device.invariant.charge_size;
      charge =
          λ k below.
          ap (λ (xs : List ℕ). get_or xs k 0) (c.set-in-loop-device-2.ensures ∙ ap (λ (cap : ℕ). slice_set c.loop-device.charge device cap) cap_is)
          ∙ fill_by_more (λ i. (device_caps system up energies i).charge) c.loop-device.charge device 0 (omega (arith, among, c.loop-device.invariant.charge_size)) c.loop-device.invariant.charge k below;
    }

last-device : (c : After-loop-device) → c.loop-device.device ≡ storage_count c.args.system.now
last-device c = omega (arith, c.loop-device-test.false, c.loop-device.auto.device-end, c.storages-device-end.ensures.count)

pub returns-clause-ample : goal.returns-clause-ample
returns-clause-ample c is =
    ample-by _ _ _ _ (last-device c) c.loop-device.invariant.covered

pub returns-clause-needs : goal.returns-clause-needs
returns-clause-needs c is =
    needs-by _ _ _ _ (last-device c) c.loop-device.invariant.covered

pub returns-clause-charge : goal.returns-clause-charge
returns-clause-charge c is =
    charge-by c.args.system.now (is_up_at c.args.chronology.now) c.args.storages.now.energies c.args.chronology.now.hour c.loop-device.charge c.loop-device.device (last-device c) c.loop-device.invariant.charge_size c.loop-device.invariant.charge

pub returns-clause-needs_size : goal.returns-clause-needs_size
returns-clause-needs_size c =
    needs-size _ _ _ _ c.loop-device.invariant.covered
    ∙ sym c.requires.needs
