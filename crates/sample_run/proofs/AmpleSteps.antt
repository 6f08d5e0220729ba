-- An hour in which each zone's supply is enough, told without its network.
use Rattle.std.proofs.Common.{◌≡◌, ℕ, ◌+◌, ◌<◌, ◌≤◌, List, length, get_or, ap, sym, ◌∙◌, subst, arith}
use Rattle.std.specs.Prelude.{slice_set}
use Rattle.std.proofs.lemmas.List.{get_or-map}
use Rattle.std.proofs.lemmas.List.FromFn.{fill_by_all, length-map-range_with_len, get_or-map-range_with_len}
use Rattle.system_model.specs.declared.components.Storage.{Storage}
use Rattle.system_model.specs.System.{SystemParts, zone_count, storage_count, storage_at, no_storage, hourly_load}
use Rattle.zone_network.specs.Sums.{NumberSet}
use Rattle.zone_network.specs.Network.{ShapeParts, NetworkParts, device_count, supply_at, load_at, zone_of_device}
use Rattle.sample_totals.specs.declared.outcomes.HourOutcome.{HourOutcome}
use Rattle.cut_certificate.specs.declared.chains.Chain.{Chain}
use Rattle.cut_certificate.specs.Chain.{AreSized}
use Rattle.hour_dispatch.specs.Ample.{IsAmple, AreNeeds, ample_chain, zeros}
use Rattle.hour_dispatch.specs.Settled.{IsSettled}
use Rattle.hour_dispatch.proofs.AmpleLaws.{AreCovered, ample-settled, covered-zone, covered-device, covered-ample, covered-needs}
use Rattle.sample_run.specs.HourNetwork.{shape_of, network_of, device_caps, zone_supply}
use Rattle.sample_run.proofs.HoursLemmas.{network-shape, devices-count, charge-cap}

-- what the network of an hour says of a zone and of a device
pub zone-supply : (system : SystemParts) (up : NumberSet) (energies : List ℕ) (hour z : ℕ)
    → z < zone_count system
    → supply_at (network_of system up energies hour) z ≡ zone_supply system up hour z
unfolding network_of
zone-supply system up energies hour z below = get_or-map-range_with_len (zone_supply system up hour) 0 (zone_count system) z z 0 below (omega arith)

pub zone-load : (system : SystemParts) (up : NumberSet) (energies : List ℕ) (hour z : ℕ)
    → z < zone_count system
    → load_at (network_of system up energies hour) z ≡ hourly_load system hour z
unfolding network_of
zone-load system up energies hour z below = get_or-map-range_with_len (hourly_load system hour) 0 (zone_count system) z z 0 below (omega arith)

device-zone : (system : SystemParts) (up : NumberSet) (energies : List ℕ) (hour k : ℕ)
    → k < storage_count system
    → zone_of_device (network_of system up energies hour).shape k ≡ (storage_at system k).zone
unfolding network_of
device-zone system up energies hour k below = get_or-map (λ (storage : Storage). storage.zone) system.storages k no_storage 0 below

zones-is : (system : SystemParts) (up : NumberSet) (energies : List ℕ) (hour : ℕ) → (network_of system up energies hour).shape.zones ≡ zone_count system
zones-is system up energies hour = ap (λ (s : ShapeParts). s.zones) (network-shape system up energies hour)

-- what zones need, so far as it was gone through: of no zone, of one zone more, of one storage more, and of all
pub covered-none : (system : SystemParts) (up : NumberSet) (energies : List ℕ) (hour : ℕ) (needs : List ℕ)
    → length needs ≡ zone_count system
    → AreCovered (network_of system up energies hour) needs 0 0
covered-none system up energies hour needs size =
    record {
      size = size ∙ sym (zones-is system up energies hour);
      each = λ z below. absurd (no-less z below);
      covered = λ z below. absurd (no-less z below);
    }
  where
    no-less : (z : ℕ) → z < 0 → ⊥
    no-less z below = omega (arith, below)

pub needs-size : (system : SystemParts) (up : NumberSet) (energies : List ℕ) (hour : ℕ) {needs : List ℕ} {zones devices : ℕ}
    → AreCovered (network_of system up energies hour) needs zones devices
    → length needs ≡ zone_count system
needs-size system up energies hour {needs} {zones} {devices} so_far = so_far.size ∙ zones-is system up energies hour

pub zone-covered : (system : SystemParts) (up : NumberSet) (energies : List ℕ) (hour : ℕ) (needs needs' : List ℕ) (zone load supply : ℕ)
    → AreCovered (network_of system up energies hour) needs zone 0
    → zone < zone_count system
    → load ≡ hourly_load system hour zone
    → supply ≡ zone_supply system up hour zone
    → load ≤ supply
    → needs' ≡ slice_set needs zone load
    → AreCovered (network_of system up energies hour) needs' (zone + 1) 0
zone-covered system up energies hour needs needs' zone load supply so_far below load_is supply_is covers set =
    covered-zone (network_of system up energies hour) needs needs' zone load so_far (omega (arith, below, zones-is system up energies hour))
    (load_is ∙ sym (zone-load system up energies hour zone below))
    (omega (arith, covers, supply_is, zone-supply system up energies hour zone below)) set

pub device-covered : (system : SystemParts) (up : NumberSet) (energies : List ℕ) (hour : ℕ) (needs needs' : List ℕ) (k zone cap need supply : ℕ)
    → AreCovered (network_of system up energies hour) needs (zone_count system) k
    → k < storage_count system
    → zone < zone_count system
    → zone ≡ (storage_at system k).zone
    → cap ≡ (device_caps system up energies k).charge
    → need ≡ get_or needs zone 0 + cap
    → supply ≡ zone_supply system up hour zone
    → need ≤ supply
    → needs' ≡ slice_set needs zone need
    → AreCovered (network_of system up energies hour) needs' (zone_count system) (k + 1)
device-covered system up energies hour needs needs' k zone cap need supply so_far among below zone_is cap_is need_is supply_is covers set =
    let n = network_of system up energies hour in
    let zones = zones-is system up energies hour in
    let more : AreCovered n needs' n.shape.zones (k + 1) =
    covered-device n needs needs' k zone need (subst (λ (zs : ℕ). AreCovered n needs zs k) (sym zones) so_far) (omega (arith, below, zones))
    (zone_is ∙ sym (device-zone system up energies hour k among))
    (omega (arith, need_is, cap_is, charge-cap system up energies hour k among))
    (omega (arith, covers, supply_is, zone-supply system up energies hour zone below)) set in
    subst (λ (zs : ℕ). AreCovered n needs' zs (k + 1)) zones more

-- what is covered so far is no more than a zone's supply
pub need-small : (system : SystemParts) (up : NumberSet) (energies : List ℕ) (hour : ℕ) {needs : List ℕ} {devices : ℕ} (zone : ℕ)
    → AreCovered (network_of system up energies hour) needs (zone_count system) devices
    → zone < zone_count system
    → get_or needs zone 0 ≤ zone_supply system up hour zone
need-small system up energies hour {needs} {devices} zone so_far below =
    omega (arith, so_far.covered zone below, zone-supply system up energies hour zone below)

all-covered : (system : SystemParts) (up : NumberSet) (energies : List ℕ) (hour : ℕ) (needs : List ℕ) (devices : ℕ)
    → devices ≡ storage_count system
    → AreCovered (network_of system up energies hour) needs (zone_count system) devices
    → AreCovered (network_of system up energies hour) needs (network_of system up energies hour).shape.zones (device_count (network_of system up energies hour).shape)
all-covered system up energies hour needs devices all so_far =
    let n = network_of system up energies hour in
    subst (λ (zs : ℕ). AreCovered n needs zs (device_count n.shape)) (sym (zones-is system up energies hour))
    (subst (λ (ds : ℕ). AreCovered n needs (zone_count system) ds) (all ∙ sym (devices-count system n (network-shape system up energies hour))) so_far)

pub ample-by : (system : SystemParts) (up : NumberSet) (energies : List ℕ) (hour : ℕ) {needs : List ℕ} {devices : ℕ}
    → devices ≡ storage_count system
    → AreCovered (network_of system up energies hour) needs (zone_count system) devices
    → IsAmple (network_of system up energies hour)
ample-by system up energies hour {needs} {devices} all so_far =
    covered-ample (network_of system up energies hour) needs (all-covered system up energies hour needs devices all so_far)

pub needs-by : (system : SystemParts) (up : NumberSet) (energies : List ℕ) (hour : ℕ) {needs : List ℕ} {devices : ℕ}
    → devices ≡ storage_count system
    → AreCovered (network_of system up energies hour) needs (zone_count system) devices
    → AreNeeds (network_of system up energies hour) needs
needs-by system up energies hour {needs} {devices} all so_far =
    covered-needs (network_of system up energies hour) needs (all-covered system up energies hour needs devices all so_far)

pub charge-by : (system : SystemParts) (up : NumberSet) (energies : List ℕ) (hour : ℕ) (charge : List ℕ) (devices : ℕ)
    → devices ≡ storage_count system
    → length charge ≡ storage_count system
    → ((k : ℕ) → k < devices → get_or charge k 0 ≡ (device_caps system up energies k).charge)
    → charge ≡ (network_of system up energies hour).charge_caps
unfolding network_of
charge-by system up energies hour charge devices all size each =
    fill_by_all (λ k. (device_caps system up energies k).charge) charge (storage_count system) 0 size (λ k below. each k (omega (arith, all, below)))

caps-count : (system : SystemParts) (up : NumberSet) (energies : List ℕ) (hour : ℕ)
    → length (network_of system up energies hour).charge_caps ≡ storage_count system
unfolding network_of
caps-count system up energies hour = length-map-range_with_len (λ k. (device_caps system up energies k).charge) 0 (storage_count system)

-- such an hour is settled with no flow and no discharge
pub settled-still : (system : SystemParts) (up : NumberSet) (energies : List ℕ) (hour : ℕ) (kept : NetworkParts) (before after : HourOutcome) (chain : Chain) (needs charge : List ℕ) (number : ℕ)
    → IsAmple (network_of system up energies hour)
    → AreNeeds (network_of system up energies hour) needs
    → charge ≡ (network_of system up energies hour).charge_caps
    → kept.shape ≡ shape_of system
    → AreSized kept before chain
    → after ≡ record before { hour = number; unserved = zeros (length before.unserved); discharge = zeros (length before.discharge); charge = charge; cut = 0 }
    → IsSettled (network_of system up energies hour) after (ample_chain (network_of system up energies hour) needs)
settled-still system up energies hour kept before after chain needs charge number ample are caps shape sized is =
    let n = network_of system up energies hour in
    let as_kept : kept.shape ≡ n.shape = shape ∙ sym (network-shape system up energies hour) in
    let counted : length n.charge_caps ≡ device_count n.shape =
    caps-count system up energies hour ∙ sym (devices-count system n (network-shape system up energies hour)) in
    let proof = ample_chain n needs in
    let made = ample-settled n (record before { hour = number }) needs (sized.energy ∙ ap device_count as_kept) counted ample are in
    let zones = subst (λ (k : ℕ). IsSettled n (record before { hour = number; unserved = zeros k; discharge = zeros (device_count n.shape); charge = n.charge_caps; cut = 0 }) proof)
    (sym (sized.unserved ∙ ap (λ (s : ShapeParts). s.zones) as_kept)) made in
    let devices = subst (λ (k : ℕ). IsSettled n (record before { hour = number; unserved = zeros (length before.unserved); discharge = zeros k; charge = n.charge_caps; cut = 0 }) proof)
    (sym (sized.discharge ∙ ap device_count as_kept)) zones in
    let charges = subst (λ (cs : List ℕ). IsSettled n (record before { hour = number; unserved = zeros (length before.unserved); discharge = zeros (length before.discharge); charge = cs; cut = 0 }) proof)
    (sym caps) devices in
    subst (λ (o : HourOutcome). IsSettled n o proof) (sym is) charges
