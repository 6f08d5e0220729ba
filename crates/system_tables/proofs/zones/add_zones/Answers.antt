use Rattle.std.proofs.Common.{◌≡◌, ◌∷◌, Ok, sym, ◌∙◌, ap, rules}
use Rattle.system_tables.specs.Zones.{zone_in}
use Rattle.system_tables.proofs.TurnLaws.{in_turn-end, in_turn-ok, stops}
use Rattle.system_tables.proofs.zones.add_zones.Goals as goal

pub rows-preserved : goal.rows-preserved
rows-preserved c =
    let next : c.rows.rows.rest ≡ c.next.new.self.row ∷ c.next.new.self.rest =
    c.next.ensures.found (c.in_ok-next.was ∙ ap Ok c.if-branch.true) in
    record {
      same =
          in_turn-ok (zone_in c.args.columns c.args.width) c.rows.draft c.add_zone.new.draft c.rows.rows.rest
          c.next.new.self.row c.next.new.self.rest next c.in_ok-add_zone.ensures.exact
          ∙ c.rows.invariant.same;
      so_far = c.in_ok-add_zone.ensures.so_far;
    }

pub returns-in_err-add_zone-clause-exact : goal.returns-in_err-add_zone-clause-exact
returns-in_err-add_zone-clause-exact c =
    let next : c.rows.rows.rest ≡ c.next.new.self.row ∷ c.next.new.self.rest =
    c.next.ensures.found (c.in_ok-next.was ∙ ap Ok c.if-branch.true) in
    let stopped = stops (zone_in c.args.columns c.args.width) c.args.draft.now c.rows.draft c.add_zone.new.draft
    c.args.rows.now.rest c.rows.rows.rest c.next.new.self.row c.next.new.self.rest c.in_err-add_zone.field-0.0
    c.rows.invariant.same next c.in_err-add_zone.ensures.exact in
    search (rules, stopped)

pub returns-clause-exact : goal.returns-clause-exact
returns-clause-exact c =
    sym c.rows.invariant.same
    ∙ in_turn-end (zone_in c.args.columns c.args.width) c.rows.draft c.rows.rows.rest
    (c.next.ensures.none (c.in_ok-next.was ∙ ap Ok c.if-branch.false))
