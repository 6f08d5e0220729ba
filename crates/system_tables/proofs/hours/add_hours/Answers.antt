use Rattle.std.proofs.Common.{◌≡◌, [], ◌∷◌, Ok, None, sym, ◌∙◌, ap, rules}
use Rattle.system_tables.specs.Hours.{hour_in, hours_above}
use Rattle.system_tables.proofs.TurnLaws.{in_turn-end, in_turn-ok}
use Rattle.system_tables.proofs.HourLaws.{hours-stop}
use Rattle.system_tables.proofs.hours.add_hours.Goals as goal

pub rows-preserved : goal.rows-preserved
rows-preserved c =
    let next : c.rows.rows.rest ≡ c.next.new.self.row ∷ c.next.new.self.rest =
    c.next.ensures.found (c.in_ok-next.was ∙ ap Ok c.if-branch.true) in
    record {
      same =
          in_turn-ok (hour_in c.args.table c.args.limit c.args.hour c.args.columns.now c.args.width)
          (hours_above c.rows.wanted c.rows.amounts.rows) (hours_above c.add_hour.new.wanted c.add_hour.new.amounts.rows)
          c.rows.rows.rest c.next.new.self.row c.next.new.self.rest next c.in_ok-add_hour.ensures.exact
          ∙ c.rows.invariant.same;
      room = c.in_ok-add_hour.ensures.room;
      rows = c.in_ok-add_hour.ensures.rows;
      size = c.in_ok-add_hour.ensures.size;
    }

pub returns-in_err-add_hour-clause-exact : goal.returns-in_err-add_hour-clause-exact
returns-in_err-add_hour-clause-exact c =
    let next : c.rows.rows.rest ≡ c.next.new.self.row ∷ c.next.new.self.rest =
    c.next.ensures.found (c.in_ok-next.was ∙ ap Ok c.if-branch.true) in
    let stopped = hours-stop
    (hour_in c.args.table c.args.limit c.args.hour c.args.columns.now c.args.width)
    (hours_above None []) (hours_above c.rows.wanted c.rows.amounts.rows) (hours_above c.add_hour.new.wanted c.add_hour.new.amounts.rows)
    c.args.rows.now.rest c.rows.rows.rest c.next.new.self.row c.next.new.self.rest c.in_err-add_hour.field-0.0
    c.add_hour.new.amounts.rows c.rows.invariant.same next c.in_err-add_hour.ensures.exact in
    search (rules, stopped)

pub returns-clause-exact : goal.returns-clause-exact
returns-clause-exact c = (
  c.rows.wanted,
  sym c.rows.invariant.same
      ∙ in_turn-end (hour_in c.args.table c.args.limit c.args.hour c.args.columns.now c.args.width)
      (hours_above c.rows.wanted c.rows.amounts.rows) c.rows.rows.rest
      (c.next.ensures.none (c.in_ok-next.was ∙ ap Ok c.if-branch.false)),
)
