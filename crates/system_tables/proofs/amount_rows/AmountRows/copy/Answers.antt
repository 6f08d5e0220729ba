use Rattle.std.proofs.Common.{◌≡◌, ◌+◌, ◌*◌, ◌<◌, ◌++◌, ◌∷◌, ℕ, List, [], length, get_or, take, sym, ap, ◌∙◌, rules, arith}
use Rattle.std.proofs.Math.ListN.{length-set}
use Rattle.std.proofs.lemmas.List.{get_or_default, take_all}
use Rattle.system_tables.specs.AmountRows.{HeldRows}
use Rattle.system_tables.proofs.AmountRowLaws.{length-row_of, held_row, copied-more}
use Rattle.system_tables.proofs.HourLaws.{take-set-more}
use Rattle.system_tables.proofs.amount_rows.AmountRows.copy.Goals as goal

pub overflow_mul-start : goal.overflow_mul-start
overflow_mul-start c =
    let held =
    held_row c.self.inside.width c.self.inside.count c.self.inside.amounts.items c.args.self.now.rows c.args.at
    (ap (λ (h : HeldRows). h.rows) c.self.view_is) c.self.invariant c.requires.at in
    search (rules, held.ends)

pub overflow_add-start : goal.overflow_add-start
overflow_add-start c =
    let held =
    held_row c.self.inside.width c.self.inside.count c.self.inside.amounts.items c.args.self.now.rows c.args.at
    (ap (λ (h : HeldRows). h.rows) c.self.view_is) c.self.invariant c.requires.at in
    search (rules, held.ends)

pub index-requires : goal.index-requires
index-requires c =
    let held =
    held_row c.self.inside.width c.self.inside.count c.self.inside.amounts.items c.args.self.now.rows c.args.at
    (ap (λ (h : HeldRows). h.rows) c.self.view_is) c.self.invariant c.requires.at in
    let place : c.args.at * c.self.inside.width + c.loop-place.place < length c.self.inside.amounts.items = omega (arith, held.ends) in
    search (rules, place)

pub loop-place-preserved : goal.loop-place-preserved
loop-place-preserved c =
    let width : c.self.inside.width ≡ c.args.self.now.width = ap (λ (held : HeldRows). held.width) c.self.view_is in
    let held =
    held_row c.self.inside.width c.self.inside.count c.self.inside.amounts.items c.args.self.now.rows c.args.at
    (ap (λ (h : HeldRows). h.rows) c.self.view_is) c.self.invariant c.requires.at in
    let place : c.args.at * c.self.inside.width + c.loop-place.place < length c.self.inside.amounts.items = omega (arith, held.ends) in
    let amount : get_or c.self.inside.amounts.items (c.args.at * c.self.inside.width + c.loop-place.place) 0 ≡ c.index.result.now =
    sym (c.index.ensures
    ∙ get_or_default c.self.inside.amounts.items (c.args.at * c.self.inside.width + c.loop-place.place) c.index.result.now 0 place) in
    let more : take (c.loop-place.place + 1) c.set.new.self ≡ take c.loop-place.place c.loop-place.row ++ c.index.result.now ∷ [] =
    take-set-more c.loop-place.row c.set.new.self c.loop-place.place c.index.result.now c.set.ensures
    (omega (arith, c.loop-place.invariant.width)) in
    record {
      copied =
          more
          ∙ ap (λ (xs : List ℕ). xs ++ c.index.result.now ∷ []) (c.loop-place.invariant.copied ∙ ap (take c.loop-place.place) held.is)
          ∙ sym (copied-more c.self.inside.width c.self.inside.count c.self.inside.amounts.items c.args.at c.loop-place.place
          c.index.result.now 0 c.self.invariant held.below (omega arith) amount)
          ∙ sym (ap (take (c.loop-place.place + 1)) held.is);
      width = ap length c.set.ensures ∙ length-set c.loop-place.row c.loop-place.place c.index.result.now ∙ c.loop-place.invariant.width;
    }

pub returns-clause-row : goal.returns-clause-row
returns-clause-row c =
    let width : c.self.inside.width ≡ c.args.self.now.width = ap (λ (held : HeldRows). held.width) c.self.view_is in
    let held =
    held_row c.self.inside.width c.self.inside.count c.self.inside.amounts.items c.args.self.now.rows c.args.at
    (ap (λ (h : HeldRows). h.rows) c.self.view_is) c.self.invariant c.requires.at in
    let size : length (get_or c.args.self.now.rows c.args.at []) ≡ c.self.inside.width =
    ap length held.is
    ∙ length-row_of c.self.inside.width c.self.inside.count c.self.inside.amounts.items c.args.at c.self.invariant held.below in
    sym (take_all c.loop-place.place c.loop-place.row (omega (arith, c.loop-place.invariant.width)))
    ∙ c.loop-place.invariant.copied
    ∙ take_all c.loop-place.place (get_or c.args.self.now.rows c.args.at []) (omega arith)
