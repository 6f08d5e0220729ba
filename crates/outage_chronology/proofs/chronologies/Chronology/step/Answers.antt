use Rattle.std.proofs.Common.{◌≡◌, ◌≤◌, length, arith, ap, ◌∙◌}
use Rattle.std.specs.Prelude.{vec_capacity}
use Rattle.sample_streams.proofs.HourLaws.{written_over}
use Rattle.outage_chronology.specs.Outages.{component_count}
use Rattle.system_model.specs.System.{SystemParts, hour_count}
use Rattle.outage_chronology.specs.Standing.{Standing}
use Rattle.outage_chronology.proofs.KeptLemmas.{AreDraws, stepped}
use Rattle.outage_chronology.proofs.chronologies.Chronology.step.Goals as goal

pub invariant_of-self : goal.invariant_of-self
invariant_of-self c =
    let old = c.self.inside in
    let kept = c.self.invariant in
    let count = component_count old.system.now in
    let words = c.words.result.now in
    let masks = c.go_on.new.masks in
    let of_states = c.go_on.new.thresholds in
    let changed = c.go_on.new.changed in
    let before_is = c.deref_mut.ensures.value in
    let before_size : length c.deref_mut.result.now ≡ count = ap length before_is ∙ kept.up.len in
    let masks_size : length masks ≡ count = omega arith in
    let states_size : length of_states ≡ count = omega (arith, ap length c.deref_mut-2.ensures.value, kept.states_room) in
    let masks_are = written_over old.masks.items masks old.masks.len (omega arith) (omega arith) in
    let states_are = written_over old.of_states.items of_states old.of_states.len (omega arith) (omega (arith, states_size, kept.states_room)) in
    let system_is : old.system.now ≡ c.args.self.now.system = ap (λ (s : Standing). s.system) c.self.view_is in
    let hour_is : old.hour ≡ c.args.self.now.hour = ap (λ (s : Standing). s.hour) c.self.view_is in
    let hours : hour_count old.system.now ≡ hour_count c.args.self.now.system = ap (λ (s : SystemParts). hour_count s) system_is in
    let drawn : AreDraws c.step.new.self words = record { each = c.words.ensures.each; small = c.words.ensures.range } in
    let gone = rw (before_size, before_is, c.deref.ensures.value, c.deref-2.ensures.value) at c.go_on.ensures in
    let large : count ≤ vec_capacity changed = omega arith in
    rw (masks_are, states_are)
    (stepped old.system.now old.hour old.draws c.step.new.self old.thresholds words old.masks.items old.of_states.items old.changed.items masks of_states changed.items (vec_capacity old.changed) (vec_capacity changed) kept (omega arith) c.step.ensures
    drawn masks_size states_size gone.thresholds (λ k l. gone.masks k l) gone.changed large)
