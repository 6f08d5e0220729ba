use Rattle.std.proofs.Common.{◌≡◌, ◌∷◌, Ok, sym, ◌∙◌, ap, rules}
use Rattle.system_tables.specs.Storages.{storage_in}
use Rattle.system_tables.proofs.TurnLaws.{in_turn-end, in_turn-ok, stops}
use Rattle.system_tables.proofs.storages.add_storages.Goals as goal

pub rows-preserved : goal.rows-preserved
rows-preserved c =
    let next : c.rows.rows.rest ≡ c.next.new.self.row ∷ c.next.new.self.rest =
    c.next.ensures.found (c.in_ok-next.was ∙ ap Ok c.if-branch.true) in
    record {
      same =
          in_turn-ok (storage_in c.args.columns.now c.args.width) c.rows.draft c.add_storage.new.draft c.rows.rows.rest
          c.next.new.self.row c.next.new.self.rest next c.in_ok-add_storage.ensures.exact
          ∙ c.rows.invariant.same;
      so_far = c.in_ok-add_storage.ensures.so_far;
    }

pub returns-in_err-add_storage-clause-exact : goal.returns-in_err-add_storage-clause-exact
returns-in_err-add_storage-clause-exact c =
    let next : c.rows.rows.rest ≡ c.next.new.self.row ∷ c.next.new.self.rest =
    c.next.ensures.found (c.in_ok-next.was ∙ ap Ok c.if-branch.true) in
    let stopped = stops (storage_in c.args.columns.now c.args.width) c.args.draft.now c.rows.draft c.add_storage.new.draft
    c.args.rows.now.rest c.rows.rows.rest c.next.new.self.row c.next.new.self.rest c.in_err-add_storage.field-0.0
    c.rows.invariant.same next c.in_err-add_storage.ensures.exact in
    search (rules, stopped)

pub returns-clause-exact : goal.returns-clause-exact
returns-clause-exact c =
    sym c.rows.invariant.same
    ∙ in_turn-end (storage_in c.args.columns.now c.args.width) c.rows.draft c.rows.rows.rest
    (c.next.ensures.none (c.in_ok-next.was ∙ ap Ok c.if-branch.false))
