-- What an hour leaves.
use Rattle.std.proofs.Common.{◌≡◌, ℕ, add-one, ◌+◌, ◌<◌, ◌≤◌, Bool, true, false, List, length, get_or, replicate, Result, Ok, IfOk, pos, refl, ap, sym, ◌∙◌, subst, arith}
use Rattle.std.proofs.lemmas.List.{length-map, length-replicate}
use Rattle.std.proofs.lemmas.List.FromFn.{length-map-range_with_len, get_or-map-range_with_len}
use Rattle.std.proofs.lemmas.List.Elements.{All-map, All-weaker}
use Rattle.system_model.specs.declared.components.Interface.{Interface}
use Rattle.system_model.specs.declared.components.Storage.{Storage}
use Rattle.system_model.specs.System.{SystemParts, IsValid, IsInterfaceAmong, IsStorageAmong, zone_count, storage_count, storage_at}
use Rattle.outage_chronology.specs.Outages.{is_up, storage_component, was_up}
use Rattle.outage_chronology.specs.Standing.{Standing, is_up_at, was_up_at}
use Rattle.storage_state.specs.Energy.{caps_if, caps_of}
use Rattle.storage_state.specs.Holdings.{Holdings, IsWithinCaps, carried_energies, energy_of, start_energies}
use Rattle.zone_network.specs.Sums.{NumberSet}
use Rattle.zone_network.specs.Network.{ShapeParts, NetworkParts, IsShape, IsLinkAmong, link_count, device_count, empty_network, discharge_cap_at, charge_cap_at}
use Rattle.sample_totals.specs.declared.outcomes.HourOutcome.{HourOutcome}
use Rattle.cut_certificate.specs.declared.chains.Chain.{Chain}
use Rattle.cut_certificate.specs.Chain.{empty_chain, AreSized, Fit, IsAccepted, all_unserved}
use Rattle.cut_certificate.specs.Least.{IsLeastUnserved}
use Rattle.hour_dispatch.specs.Settled.{IsSettled}
use Rattle.hour_dispatch.proofs.AmpleLaws.{settled-best, settled-least}
use Rattle.sample_run.specs.HourNetwork.{shape_of, link_of, network_of, device_caps, AreLinks}
use Rattle.sample_run.specs.Run.{IsHour, energies_after}
use Rattle.sample_run.specs.Moments.{Moment, IsKept, up_in}
use Rattle.sample_run.specs.declared.up_sums.UpSums.{UpSums}
use Rattle.sample_run.specs.UpSums.{AreSums, all_up}

-- the shape of a valid system's networks is one
pub shape-valid : (system : SystemParts) → IsValid system → IsShape (shape_of system)
shape-valid system valid =
    record {
      some = valid.zone;
      zones = valid.within.zones;
      links = omega (arith, length-map system.interfaces link_of, valid.within.interfaces.most);
      devices = omega (arith, length-map system.storages (λ (storage : Storage). storage.zone), valid.within.storages.most);
      each_link = All-map (IsLinkAmong (zone_count system)) link_of system.interfaces (All-weaker (IsInterfaceAmong (zone_count system)) (λ i. IsLinkAmong (zone_count system) (link_of i)) link_among system.interfaces valid.within.interfaces.each);
      each_device =
          All-map (λ zone. zone < zone_count system) (λ (storage : Storage). storage.zone) system.storages
          (All-weaker (IsStorageAmong (zone_count system)) (λ s. s.zone < zone_count system) zone_among system.storages valid.within.storages.each);
    }
  where
    link_among : (i : Interface) → IsInterfaceAmong (zone_count system) i → IsLinkAmong (zone_count system) (link_of i)
    link_among i is = record { start = is.start; end = is.end; apart = is.apart }

    zone_among : (s : Storage) → IsStorageAmong (zone_count system) s → s.zone < zone_count system
    zone_among s is = is.zone

pub network-shape : (system : SystemParts) (up : NumberSet) (energies : List ℕ) (hour : ℕ) → (network_of system up energies hour).shape ≡ shape_of system
unfolding network_of
network-shape system up energies hour = refl

pub devices-count : (system : SystemParts) (n : NetworkParts) → n.shape ≡ shape_of system → device_count n.shape ≡ storage_count system
devices-count system n is = ap device_count is ∙ length-map system.storages (λ (storage : Storage). storage.zone)

-- the sizes of an outcome and a chain are the same for each network of the shape, whatever the outcome's hour, and with
-- other charges and generation of the same sizes
pub sized-again : (n m : NetworkParts) (outcome : HourOutcome) (hour : ℕ) (charge : List ℕ) (chain : Chain) (generation : List ℕ)
    → n.shape ≡ m.shape
    → length charge ≡ length outcome.charge
    → length generation ≡ length chain.generation
    → AreSized n outcome chain
    → AreSized m (record outcome { hour = hour; charge = charge }) (record chain { generation = generation })
sized-again n m outcome hour charge chain generation same charges generations is =
    let sized = subst (λ (s : ShapeParts). AreSized (record n { shape = s }) outcome chain) same is in
    record {
      unserved = sized.unserved;
      discharge = sized.discharge;
      charge = charges ∙ sized.charge;
      energy = sized.energy;
      flows = sized.flows;
      generation = generations ∙ sized.generation;
      sets = sized.sets;
    }

-- what is settled for the components that the chronology has up, and by the storages' energies, is so as a caller sees
-- them
pub as-seen : (system : SystemParts) (standing : Standing) (energies seen : List ℕ) (outcome : HourOutcome) (chain : Chain)
    → standing.system ≡ system
    → energies ≡ seen
    → IsSettled (network_of system (is_up_at standing) energies standing.hour) outcome chain
    → IsSettled (network_of system (is_up system standing.seed standing.sample standing.hour) seen standing.hour) outcome chain
as-seen system standing energies seen outcome chain stands same is =
    subst (λ (held : List ℕ). IsSettled (network_of system (is_up system standing.seed standing.sample standing.hour) held standing.hour) outcome chain) same
    (subst (λ (s : SystemParts). IsSettled (network_of system (is_up s standing.seed standing.sample standing.hour) energies standing.hour) outcome chain) stands is)

-- what a feasible dispatch charges and discharges is within the caps of the storages, up or out
charge-below : (up : Bool) (storage : Storage) (energy : ℕ) → (caps_if up storage energy).charge ≤ (caps_of storage energy).charge
charge-below true storage energy = omega arith
charge-below false storage energy = omega arith

discharge-below : (up : Bool) (storage : Storage) (energy : ℕ) → (caps_if up storage energy).discharge ≤ (caps_of storage energy).discharge
discharge-below true storage energy = omega arith
discharge-below false storage energy = omega arith

pub charge-cap : (system : SystemParts) (up : NumberSet) (energies : List ℕ) (hour k : ℕ)
    → k < storage_count system
    → charge_cap_at (network_of system up energies hour) k ≡ (device_caps system up energies k).charge
unfolding network_of
charge-cap system up energies hour k below =
    get_or-map-range_with_len (λ d. (device_caps system up energies d).charge) 0 (storage_count system) k k 0 below (omega arith)

discharge-cap : (system : SystemParts) (up : NumberSet) (energies : List ℕ) (hour k : ℕ)
    → k < storage_count system
    → discharge_cap_at (network_of system up energies hour) k ≡ (device_caps system up energies k).discharge
unfolding network_of
discharge-cap system up energies hour k below =
    get_or-map-range_with_len (λ d. (device_caps system up energies d).discharge) 0 (storage_count system) k k 0 below (omega arith)

pub within-caps : (system : SystemParts) (up : NumberSet) (held : Holdings) (hour : ℕ) (n : NetworkParts) (outcome : HourOutcome) (chain : Chain)
    → held.system ≡ system
    → n ≡ network_of system up held.energies hour
    → IsAccepted n outcome chain
    → (k : ℕ)
    → k < storage_count system
    → IsWithinCaps held k (get_or outcome.charge k 0) (get_or outcome.discharge k 0)
within-caps system up held hour n outcome chain same is accepted k below =
    let among : k < device_count n.shape =
    omega (arith, devices-count system n (ap (λ (m : NetworkParts). m.shape) is ∙ network-shape system up held.energies hour)) in
    let storage = ap (λ (s : SystemParts). storage_at s k) same in
    record {
      charge =
          omega (
            arith,
            accepted.0.feasible.charge k among,
            ap (λ (m : NetworkParts). charge_cap_at m k) is,
            charge-cap system up held.energies hour k below,
            charge-below (up (storage_component system k)) (storage_at system k) (energy_of held k),
            ap (λ (s : Storage). (caps_of s (energy_of held k)).charge) storage,
          );
      discharge =
          omega (
            arith,
            accepted.0.feasible.discharge k among,
            ap (λ (m : NetworkParts). discharge_cap_at m k) is,
            discharge-cap system up held.energies hour k below,
            discharge-below (up (storage_component system k)) (storage_at system k) (energy_of held k),
            ap (λ (s : Storage). (caps_of s (energy_of held k)).discharge) storage,
          );
    }

-- what holds of a value that a call answered
pub answered : {A E : Type 0} (result : Result A E) (value : A) (P : A → Type 0) → result ≡ Ok value → IfOk result P → P value
answered result value P is holds = subst (λ r. IfOk r P) is holds

-- what is made for a system is kept from then on
pub kept-first : (system : SystemParts) (shape : ShapeParts) (standing : Standing) (sums : UpSums) (held : Holdings) (empty n : NetworkParts) (dispatcher : ShapeParts) (outcome : HourOutcome) (chain : Chain) (zones devices : ℕ)
    → shape ≡ shape_of system
    → standing.system ≡ system
    → AreSums system (is_up_at standing) sums
    → held ≡ record { system = system; energies = start_energies system }
    → empty ≡ empty_network shape
    → n ≡ record empty { forwards = n.forwards; backwards = n.backwards }
    → AreLinks system (is_up_at standing) n
    → dispatcher ≡ shape
    → chain ≡ empty_chain shape
    → zones ≡ shape.zones
    → devices ≡ device_count shape
    → outcome ≡ record { hour = 0; unserved = replicate zones 0; discharge = replicate devices 0; charge = replicate devices 0; energy = replicate devices 0; cut = 0 }
    → IsKept system standing sums held n dispatcher outcome chain
kept-first system shape standing sums held empty n dispatcher outcome chain zones devices made stands sum_up holds is_empty linked links dispatches none zones_are devices_are out =
    let at : n.shape ≡ shape = ap (λ (m : NetworkParts). m.shape) linked ∙ ap (λ (m : NetworkParts). m.shape) is_empty in
    let by_device : length (replicate devices 0) ≡ device_count n.shape =
    length-replicate devices 0 ∙ devices_are ∙ sym (ap device_count at) in
    let by_zone : length (replicate zones 0) ≡ n.shape.zones =
    length-replicate zones 0 ∙ zones_are ∙ sym (ap (λ (s : ShapeParts). s.zones) at) in
    record {
      chronology = stands;
      kept_sums = sum_up;
      storages = ap (λ (h : Holdings). h.system) holds;
      held = ap (λ (h : Holdings). length h.energies) holds ∙ length-map system.storages (λ (storage : Storage). storage.start);
      shape = at ∙ made;
      links = links;
      dispatches = dispatches ∙ made;
      sizes =
          record {
            unserved = ap (λ (o : HourOutcome). length o.unserved) out ∙ by_zone;
            discharge = ap (λ (o : HourOutcome). length o.discharge) out ∙ by_device;
            charge = ap (λ (o : HourOutcome). length o.charge) out ∙ by_device;
            energy = ap (λ (o : HourOutcome). length o.energy) out ∙ by_device;
            flows = ap (λ (c : Chain). length c.flows) none ∙ length-replicate (link_count shape) (pos 0) ∙ sym (ap link_count at);
            generation = ap (λ (c : Chain). length c.generation) none ∙ length-replicate shape.zones 0 ∙ sym (ap (λ (s : ShapeParts). s.zones) at);
            sets =
                ap (λ (c : Chain). length c.sets) none ∙ length-replicate (shape.zones + device_count shape + device_count shape) 0
                ∙ sym (ap (λ (s : ShapeParts). s.zones + device_count s + device_count s) at);
          };
    }

-- the links of an hour's network
pub network-links : (system : SystemParts) (up : NumberSet) (energies : List ℕ) (hour : ℕ) → AreLinks system up (network_of system up energies hour)
unfolding network_of
network-links system up energies hour = record { forwards = refl; backwards = refl }

-- what is kept still belongs to the system once the hour was dispatched
pub kept-dispatched : (system : SystemParts) (standing : Standing) (sums : UpSums) (held : Holdings) (before n : NetworkParts) (dispatcher dispatcher' : ShapeParts) (outcome outcome' : HourOutcome) (chain chain' : Chain)
    → n ≡ network_of system (is_up_at standing) held.energies standing.hour
    → dispatcher' ≡ n.shape
    → Fit n outcome' chain'
    → IsKept system standing sums held before dispatcher outcome chain
    → IsKept system standing sums held n dispatcher' outcome' chain'
kept-dispatched system standing sums held before n dispatcher dispatcher' outcome outcome' chain chain' is dispatches fit kept =
    let shape : n.shape ≡ shape_of system =
    ap (λ (m : NetworkParts). m.shape) is ∙ network-shape system (is_up_at standing) held.energies standing.hour in
    record {
      chronology = kept.chronology;
      kept_sums = kept.kept_sums;
      storages = kept.storages;
      held = kept.held;
      shape = shape;
      links = rw is (network-links system (is_up_at standing) held.energies standing.hour);
      dispatches = dispatches ∙ shape;
      sizes = fit.sizes;
    }

-- and with the energies after it
pub kept-again : (system : SystemParts) (standing : Standing) (sums : UpSums) (held held' : Holdings) (n : NetworkParts) (dispatcher : ShapeParts) (outcome : HourOutcome) (energies : List ℕ) (chain : Chain)
    → energies ≡ energies_after system held.energies outcome.charge outcome.discharge
    → held' ≡ record held { energies = energies }
    → IsKept system standing sums held n dispatcher outcome chain
    → IsKept system standing sums held' n dispatcher (record outcome { energy = energies }) chain
kept-again system standing sums held held' n dispatcher outcome energies chain after is kept =
    let size : length energies ≡ storage_count system = ap length after ∙ length-map-range_with_len _ 0 (storage_count system) in
    record {
      chronology = kept.chronology;
      kept_sums = kept.kept_sums;
      storages = ap (λ (h : Holdings). h.system) is ∙ kept.storages;
      held = ap (λ (h : Holdings). length h.energies) is ∙ size;
      shape = kept.shape;
      links = kept.links;
      dispatches = kept.dispatches;
      sizes =
          record {
            unserved = kept.sizes.unserved;
            discharge = kept.sizes.discharge;
            charge = kept.sizes.charge;
            energy = size ∙ sym (devices-count system n kept.shape);
            flows = kept.sizes.flows;
            generation = kept.sizes.generation;
            sets = kept.sizes.sets;
          };
    }

-- what is settled for an hour as it is seen is so for what is kept inside
pub settled-inside : (inside seen before : Moment)
    → inside ≡ seen
    → seen ≡ record before { outcome = seen.outcome }
    → ((chain : Chain) × IsSettled (network_of seen.system (up_in seen) before.energies seen.hour) seen.outcome chain)
    → (chain : Chain) × IsSettled (network_of inside.system (up_in inside) inside.energies inside.hour) inside.outcome chain
settled-inside inside seen before view at settled =
    let with_energies = subst (λ (energies : List ℕ). (chain : Chain) × IsSettled (network_of seen.system (up_in seen) energies seen.hour) seen.outcome chain)
    (sym (ap (λ (m : Moment). m.energies) at)) settled in
    subst (λ (m : Moment). (chain : Chain) × IsSettled (network_of m.system (up_in m) m.energies m.hour) m.outcome chain) (sym view) with_energies

-- the network of an hour of a valid system has a valid shape
network-shaped : (system : SystemParts) (up : NumberSet) (energies : List ℕ) (hour : ℕ) → IsValid system → IsShape (network_of system up energies hour).shape
network-shaped system up energies hour valid = subst IsShape (sym (network-shape system up energies hour)) (shape-valid system valid)

-- the outcome of a settled hour, with the energies after it, is that of the hour, and no feasible dispatch leaves less
-- unserved
pub hour-made : (system : SystemParts) (up : NumberSet) (before : List ℕ) (hour : ℕ) (outcome : HourOutcome) (energies : List ℕ) (chain : Chain)
    → IsValid system
    → outcome.hour ≡ hour
    → IsSettled (network_of system up before hour) outcome chain
    → energies ≡ energies_after system before outcome.charge outcome.discharge
    → IsHour system up before hour (record outcome { energy = energies })
hour-made system up before hour outcome energies chain valid number settled after =
    let n = network_of system up before hour in
    let shape = network-shape system up before hour in
    let best = (settled-best n outcome chain (network-shaped system up before hour valid) settled).best in
    record {
      number = number;
      zones = settled.fit.sizes.unserved ∙ ap (λ (s : ShapeParts). s.zones) shape;
      discharges = settled.fit.sizes.discharge ∙ devices-count system n shape;
      charges = settled.fit.sizes.charge ∙ devices-count system n shape;
      best = (best.0, best.1, record { unserved = best.2.unserved; discharge = best.2.discharge; charge = best.2.charge });
      energy = after;
      cut = settled.cut;
    }

pub least-made : (system : SystemParts) (up : NumberSet) (before : List ℕ) (hour : ℕ) (outcome : HourOutcome) (chain : Chain)
    → IsValid system
    → IsSettled (network_of system up before hour) outcome chain
    → IsLeastUnserved (network_of system up before hour) (all_unserved (network_of system up before hour) outcome)
least-made system up before hour outcome chain valid settled =
    settled-least (network_of system up before hour) outcome chain (network-shaped system up before hour valid) settled

-- what is kept is kept on over the next hour
pub kept-next : (system : SystemParts) (standing standing' : Standing) (sums sums' : UpSums) (held held' : Holdings) (n n' : NetworkParts) (dispatcher : ShapeParts) (outcome : HourOutcome) (chain : Chain)
    → standing'.system ≡ standing.system
    → held' ≡ record held { energies = carried_energies held.system held.energies }
    → IsKept system standing sums held n dispatcher outcome chain
    → AreSums system (is_up_at standing') sums'
    → AreLinks system (is_up_at standing') n'
    → n'.shape ≡ n.shape
    → IsKept system standing' sums' held' n' dispatcher outcome chain
kept-next system standing standing' sums sums' held held' n n' dispatcher outcome chain stands is kept sum_up links same =
    record {
      chronology = stands ∙ kept.chronology;
      kept_sums = sum_up;
      storages = ap (λ (h : Holdings). h.system) is ∙ kept.storages;
      held =
          ap (λ (h : Holdings). length h.energies) is ∙ length-map-range_with_len _ 0 (storage_count held.system)
          ∙ ap storage_count kept.storages;
      shape = same ∙ kept.shape;
      links = links;
      dispatches = kept.dispatches;
      sizes = sized-again n n' outcome outcome.hour outcome.charge chain chain.generation (sym same) refl refl kept.sizes;
    }

-- sums over all components are those before hour 0, and those of an hour are those before the next
pub sums-first : (system : SystemParts) (standing : Standing) (sums : UpSums) → standing.hour ≡ 0 → AreSums system all_up sums → AreSums system (was_up_at standing) sums
sums-first system standing sums first are =
    subst (λ (h : ℕ). AreSums system (was_up standing.system standing.seed standing.sample h) sums) (sym first) are

pub sums-next : (system : SystemParts) (standing standing' : Standing) (sums : UpSums)
    → standing' ≡ record standing { hour = standing.hour + 1 }
    → AreSums system (is_up_at standing) sums
    → AreSums system (was_up_at standing') sums
sums-next system standing standing' sums is are =
    subst (λ (s : Standing). AreSums system (was_up_at s) sums) (sym is)
    (subst (λ (h : ℕ). AreSums system (was_up standing.system standing.seed standing.sample h) sums) (sym (add-one standing.hour)) are)

-- and the links of an hour are those before the next
pub links-next : (system : SystemParts) (standing standing' : Standing) (n : NetworkParts)
    → standing' ≡ record standing { hour = standing.hour + 1 }
    → AreLinks system (is_up_at standing) n
    → AreLinks system (was_up_at standing') n
links-next system standing standing' n is are =
    subst (λ (s : Standing). AreLinks system (was_up_at s) n) (sym is)
    (subst (λ (h : ℕ). AreLinks system (was_up standing.system standing.seed standing.sample h) n) (sym (add-one standing.hour)) are)
