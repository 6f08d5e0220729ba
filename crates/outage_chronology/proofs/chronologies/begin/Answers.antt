use Rattle.std.proofs.Common.{◌≡◌, ℕ, ◌<◌, true, length, get_or, arith}
use Rattle.std.specs.Prelude.{vec_capacity}
use Rattle.outage_chronology.specs.Outages.{component_count}
use Rattle.outage_chronology.specs.Masks.{up_mask}
use Rattle.outage_chronology.proofs.KeptLemmas.{AreDraws, started}
use Rattle.outage_chronology.proofs.chronologies.begin.Goals as goal

pub returns : goal.returns
returns c system fresh =
    let words = c.words.result.now in
    let before = c.set_all_up.new.masks in
    let masks = c.go_on.new.masks in
    let of_states = c.set_thresholds.new.thresholds in
    let changed = c.go_on.new.changed in
    let before_size : length before ≡ component_count system = omega (arith, fresh.masks_room) in
    let masks_size : length masks ≡ component_count system = omega (arith, fresh.masks_room) in
    let states_size : length of_states ≡ component_count system = omega (arith, fresh.states_room) in
    let drawn : AreDraws c.args.draws.now words = record { each = c.words.ensures.each; small = c.words.ensures.range } in
    let up : (k : ℕ) → k < component_count system → get_or before k 0 ≡ up_mask true = λ k l. c.set_all_up.ensures k (omega arith) in
    let gone = rw (c.deref-2.ensures.value, c.deref-3.ensures.value, before_size) at c.go_on.ensures in
    let states = rw (c.deref-4.ensures.value, c.deref-5.ensures.value) at c.set_thresholds.ensures in
    started system c.args.draws.now c.args.thresholds.now words before masks of_states changed.items (vec_capacity changed) fresh.valid fresh.components fresh.first fresh.decided
    drawn masks_size states_size (λ k l. states k (omega arith)) up (λ k l. gone.masks k l) gone.changed (omega (arith, fresh.room_for_all))
