use Rattle.std.proofs.Common.{◌≡◌, [], ◌∷◌, ◌++◌, List, get_or, sym, ap, ◌∙◌, arith}
use Rattle.system_model.specs.System.{SystemParts, HourAmounts, amounts_of, zone_count, hour_count}
use Rattle.system_tables.proofs.HourLaws.{hour_among, pushed-more, pushed-counted}
use Rattle.system_tables.proofs.hours.push_hours.Goals as goal

pub push_hour-requires-clause-room : goal.push_hour-requires-clause-room
push_hour-requires-clause-room c =
    omega (arith, ap hour_count c.loop-hour.invariant.pushed, pushed-counted c.args.loads.now.rows c.args.variables.now.rows c.loop-hour.hour, c.requires.few)

pub push_hour-requires-clause-amounts : goal.push_hour-requires-clause-amounts
push_hour-requires-clause-amounts c =
    let zones : zone_count c.loop-hour.draft ≡ zone_count c.args.draft.now = ap zone_count c.loop-hour.invariant.pushed in
    rw (zones, c.copy.ensures.row, c.copy-in-loop-hour.ensures.row)
    (hour_among (zone_count c.args.draft.now) c.args.loads.now.rows c.args.variables.now.rows c.loop-hour.hour
    c.requires.loads.each c.requires.variables.each (omega arith) (omega (arith, c.requires.size)))

pub loop-hour-preserved : goal.loop-hour-preserved
loop-hour-preserved c =
    let added : c.push_hour.new.self ≡ record c.loop-hour.draft {
      hours = c.loop-hour.draft.hours ++ amounts_of (get_or c.args.loads.now.rows c.loop-hour.hour []) (get_or c.args.variables.now.rows c.loop-hour.hour []) ∷ [];
    } =
    rw (← c.copy.ensures.row, ← c.copy-in-loop-hour.ensures.row) c.in_ok-push_hour.ensures.ok in
    record {
      pushed =
          added
          ∙ ap (λ (s : SystemParts). record s {
            hours = s.hours ++ amounts_of (get_or c.args.loads.now.rows c.loop-hour.hour []) (get_or c.args.variables.now.rows c.loop-hour.hour []) ∷ [];
          }) c.loop-hour.invariant.pushed
          ∙ ap (λ (h : List HourAmounts). record c.args.draft.now { hours = h })
          (sym (pushed-more c.args.loads.now.rows c.args.variables.now.rows c.loop-hour.hour));
      load = c.copy.ensures.width;
      variable = c.copy-in-loop-hour.ensures.width;
    }
