use Rattle.std.proofs.Common.{ℕ, ◌+◌, ◌<◌, ◌^◌, All, List, length, ap, sym, ◌∙◌, subst}
use Rattle.std.proofs.lemmas.Nat.{pow_pos}
use Rattle.std.proofs.lemmas.List.{length-replicate}
use Rattle.std.proofs.lemmas.List.Elements.{All-replicate}
use Rattle.zone_network.specs.Network.{ShapeParts, link_count, device_count}
use Rattle.sample_totals.specs.declared.outcomes.HourOutcome.{HourOutcome}
use Rattle.cut_certificate.specs.declared.chains.Chain.{Chain}
use Rattle.network_tests.proofs.of_cut_certificate.is_accepted.Goals as goal

pub put_masks-requires-clause-masks : goal.put_masks-requires-clause-masks
put_masks-requires-clause-masks g c =
    let zones = c.zones-zones.result in
    let P : List ℕ → Type 0 = λ sets. All (λ mask. mask < 2 ^ zones) sets in
    let e = c.loop-l.invariant.sets ∙ ap (λ (chain : Chain). chain.sets) c.in_ok-chain.ensures in
    subst P (sym e) (All-replicate (λ mask. mask < 2 ^ zones) _ 0 (pow_pos zones))

pub check_chain-requires : goal.check_chain-requires
check_chain-requires g c =
    let outcome = c.in_ok-outcome.ensures in
    let chain = c.in_ok-chain.ensures in
    let zones = c.zones-zones.ensures.count in
    let devices = c.devices.ensures.count in
    let shape = sym c.requires in
    record {
      sizes =
          record {
            unserved = c.put.ensures ∙ ap (λ (o : HourOutcome). length o.unserved) outcome ∙ length-replicate _ _ ∙ zones;
            discharge = c.put-2.ensures ∙ ap (λ (o : HourOutcome). length o.discharge) outcome ∙ length-replicate _ _ ∙ devices;
            charge = c.put-3.ensures ∙ ap (λ (o : HourOutcome). length o.charge) outcome ∙ length-replicate _ _ ∙ devices;
            energy = ap (λ (o : HourOutcome). length o.energy) outcome ∙ length-replicate _ _ ∙ devices;
            flows = c.loop-l.invariant.flows ∙ ap (λ (h : Chain). length h.flows) chain ∙ length-replicate _ _ ∙ ap link_count shape;
            generation = c.put-4.ensures ∙ ap length c.loop-l.invariant.generation ∙ ap (λ (h : Chain). length h.generation) chain ∙ length-replicate _ _ ∙ ap (λ (s : ShapeParts). s.zones) shape;
            sets = c.put_masks.ensures.size ∙ ap length c.loop-l.invariant.sets ∙ ap (λ (h : Chain). length h.sets) chain ∙ length-replicate _ _ ∙ ap (λ (s : ShapeParts). s.zones + device_count s + device_count s) shape;
          };
      masks =
          let P : ℕ → Type 0 = λ bits. All (λ mask. mask < 2 ^ bits) c.put_masks.new.sets in
          subst P zones c.put_masks.ensures.masks;
    }
