use Rattle.std.proofs.Common.{◌≡◌, ◌+◌, [], ◌∷◌, ◌++◌, None, length, get_or, take, drop, refl, sym, ◌∙◌, ap, rules, arith}
use Rattle.std.proofs.Math.ListN.{length-set}
use Rattle.std.proofs.lemmas.List.{take_all}
use Rattle.system_tables.specs.Hours.{next_amount_in}
use Rattle.system_tables.proofs.TurnLaws.{in_turn-end, in_turn-ok, in_turn-err}
use Rattle.system_tables.proofs.HourLaws.{drop-next, drop-past, next_amount-ok, next_amount-err, take-set-more, sum-set-more}
use Rattle.system_tables.proofs.hours.zone_amounts.Goals as goal

pub returns-in_err-mw-clause-exact : goal.returns-in_err-mw-clause-exact
returns-in_err-mw-clause-exact c =
    let column = get_or c.args.columns.now c.loop-zone.zone None in
    let next : drop c.loop-zone.zone c.args.columns.now ≡ get_or c.args.columns.now c.loop-zone.zone None ∷ drop (c.loop-zone.zone + 1) c.args.columns.now =
    drop-next c.args.columns.now c.loop-zone.zone (get_or c.args.columns.now c.loop-zone.zone None) None (omega arith) refl in
    let stopped =
    sym c.loop-zone.invariant.same
    ∙ in_turn-err (next_amount_in c.args.place c.args.row.now.row) (take c.loop-zone.zone c.loop-zone.amounts)
    (drop c.loop-zone.zone c.args.columns.now) (get_or c.args.columns.now c.loop-zone.zone None)
    (drop (c.loop-zone.zone + 1) c.args.columns.now) c.in_err-mw.field-0.0 next
    (next_amount-err c.args.place c.args.row.now.row (take c.loop-zone.zone c.loop-zone.amounts)
    (get_or c.args.columns.now c.loop-zone.zone None) c.in_err-mw.field-0.0 (sym c.in_err-mw.ensures.exact)) in
    search (rules, stopped)

pub loop-zone-preserved : goal.loop-zone-preserved
loop-zone-preserved c =
    let next : drop c.loop-zone.zone c.args.columns.now ≡ get_or c.args.columns.now c.loop-zone.zone None ∷ drop (c.loop-zone.zone + 1) c.args.columns.now =
    drop-next c.args.columns.now c.loop-zone.zone (get_or c.args.columns.now c.loop-zone.zone None) None (omega arith) refl in
    let more : take (c.loop-zone.zone + 1) c.set.new.self ≡ take c.loop-zone.zone c.loop-zone.amounts ++ c.in_ok-mw.mw ∷ [] =
    take-set-more c.loop-zone.amounts c.set.new.self c.loop-zone.zone c.in_ok-mw.mw c.set.ensures (omega (arith, c.loop-zone.invariant.size)) in
    record {
      same =
          in_turn-ok (next_amount_in c.args.place c.args.row.now.row) (take c.loop-zone.zone c.loop-zone.amounts)
          (take (c.loop-zone.zone + 1) c.set.new.self) (drop c.loop-zone.zone c.args.columns.now)
          (get_or c.args.columns.now c.loop-zone.zone None) (drop (c.loop-zone.zone + 1) c.args.columns.now) next
          (rw more (next_amount-ok c.args.place c.args.row.now.row (take c.loop-zone.zone c.loop-zone.amounts)
          (get_or c.args.columns.now c.loop-zone.zone None) c.in_ok-mw.mw (sym c.in_ok-mw.ensures.exact)))
          ∙ c.loop-zone.invariant.same;
      size = ap length c.set.ensures ∙ length-set c.loop-zone.amounts c.loop-zone.zone c.in_ok-mw.mw ∙ c.loop-zone.invariant.size;
      total = omega (arith, c.loop-zone.invariant.total, sum-set-more c.loop-zone.amounts c.set.new.self c.loop-zone.zone c.in_ok-mw.mw more);
      most = omega (arith, c.loop-zone.invariant.most, c.in_ok-mw.ensures.within);
    }

pub returns-clause-exact : goal.returns-clause-exact
returns-clause-exact c =
    rw (← take_all c.loop-zone.zone c.loop-zone.amounts (omega (arith, c.loop-zone.invariant.size)))
    (sym c.loop-zone.invariant.same
    ∙ in_turn-end (next_amount_in c.args.place c.args.row.now.row) (take c.loop-zone.zone c.loop-zone.amounts)
    (drop c.loop-zone.zone c.args.columns.now) (drop-past c.args.columns.now c.loop-zone.zone (omega arith)))
