use Rattle.std.proofs.Common.{◌≡◌, ◌+◌, [], ◌∷◌, drop, sym, ◌∙◌, rules, arith}
use Rattle.system_tables.specs.Hours.{next_column_in}
use Rattle.system_tables.proofs.TurnLaws.{in_turn-end, in_turn-ok, stops}
use Rattle.system_tables.proofs.HourLaws.{drop-next, drop-past}
use Rattle.system_tables.proofs.hours.add_zone_columns.Goals as goal

pub returns-in_err-add_zone_column-clause-exact : goal.returns-in_err-add_zone_column-clause-exact
returns-in_err-add_zone_column-clause-exact c =
    let next : drop c.loop-zone.zone c.args.zones.now ≡ c.name.result.now ∷ drop (c.loop-zone.zone + 1) c.args.zones.now =
    drop-next c.args.zones.now c.loop-zone.zone c.name.result.now [] (omega arith) (sym c.name.ensures) in
    let stopped = stops (next_column_in c.args.required c.args.table c.args.header.now.row) [] c.loop-zone.columns.items
    c.add_zone_column.new.columns.items c.args.zones.now (drop c.loop-zone.zone c.args.zones.now) c.name.result.now
    (drop (c.loop-zone.zone + 1) c.args.zones.now) c.in_err-add_zone_column.field-0.0 c.loop-zone.invariant.same next
    c.in_err-add_zone_column.ensures.exact in
    search (rules, stopped)

pub loop-zone-preserved : goal.loop-zone-preserved
loop-zone-preserved c =
    let next : drop c.loop-zone.zone c.args.zones.now ≡ c.name.result.now ∷ drop (c.loop-zone.zone + 1) c.args.zones.now =
    drop-next c.args.zones.now c.loop-zone.zone c.name.result.now [] (omega arith) (sym c.name.ensures) in
    record {
      same =
          in_turn-ok (next_column_in c.args.required c.args.table c.args.header.now.row) c.loop-zone.columns.items
          c.add_zone_column.new.columns.items (drop c.loop-zone.zone c.args.zones.now) c.name.result.now
          (drop (c.loop-zone.zone + 1) c.args.zones.now) next c.in_ok-add_zone_column.ensures.exact
          ∙ c.loop-zone.invariant.same;
      size = omega (arith, c.in_ok-add_zone_column.ensures.size, c.loop-zone.invariant.size);
    }

pub returns-clause-exact : goal.returns-clause-exact
returns-clause-exact c =
    sym c.loop-zone.invariant.same
    ∙ in_turn-end (next_column_in c.args.required c.args.table c.args.header.now.row) c.loop-zone.columns.items
    (drop c.loop-zone.zone c.args.zones.now) (drop-past c.args.zones.now c.loop-zone.zone (omega arith))
