use Rattle.std.proofs.Common.{arith, ap, ◌∙◌}
use Rattle.std.specs.Prelude.{vec_capacity}
use Rattle.sample_streams.specs.HourDraws.{DrawnHour}
use Rattle.sample_streams.proofs.HourLaws.{written_over}
use Rattle.outage_chronology.specs.Kept.{AreFresh}
use Rattle.outage_chronology.proofs.chronologies.Chronology.new.Goals as goal

pub invariant_of-result : goal.invariant_of-result
invariant_of-result c =
    let system = c.args.system.now in
    let draws = c.in_ok-draws.draws in
    let masks = c.in_ok-masks.masks in
    let of_states = c.in_ok-of_states.of_states in
    let count_is = c.component_count-count.ensures.count in
    let fresh : AreFresh system draws c.in_ok-thresholds.thresholds c.deref_mut.result.now c.deref_mut-2.result.now (vec_capacity c.in_ok-changed.changed) = record {
      valid = c.component_count-count.ensures.valid;
      components = ap (λ (d : DrawnHour). d.components) c.in_ok-draws.ensures ∙ count_is;
      first = ap (λ (d : DrawnHour). d.hour) c.in_ok-draws.ensures;
      decided = c.in_ok-thresholds.ensures;
      masks_room = omega (arith, count_is, c.in_ok-masks.ensures.len);
      states_room = omega (arith, count_is, c.in_ok-of_states.ensures.len);
      room_for_all = omega (arith, count_is, c.in_ok-changed.ensures.capacity);
    } in
    rw (written_over masks.items c.begin.new.masks masks.len (omega arith) (omega arith), written_over of_states.items c.begin.new.of_states of_states.len (omega arith) (omega arith))
    (c.begin.ensures system fresh)
