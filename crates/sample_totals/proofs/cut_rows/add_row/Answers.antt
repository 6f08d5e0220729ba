use Rattle.std.proofs.Common.{◌≡◌, ◌<◌, length, get_or, arith, ap, sym, subst, List, rules}
use Rattle.std.specs.List.{insert}
use Rattle.std.proofs.lemmas.List.{get_or_read}
use Rattle.sample_totals.specs.declared.cut_rows.CutRow.{CutRow}
use Rattle.sample_totals.specs.CutRows.{no_row, AddsRows}
use Rattle.std.specs.Prelude.{[], ◌∷◌}
use Rattle.sample_totals.proofs.CutRowsLemmas.{own_hours, AddsRows-insert, AddsRows-set}
use Rattle.sample_totals.proofs.cut_rows.add_row.Goals as goal
use Rattle.sample_totals.proofs.cut_rows.add_row.Goals.{else-at-len-via-then-at-len+else-index-more, else-at-len-via-else-at-len}

pub overflow_add-row : goal.overflow_add-row
overflow_add-row c =
    let own = own_hours c.args.rows.now.items c.place_of-at.result c.args.more.mask c.index_mut-row.result.now c.index.result.now (omega arith) c.index_mut-row.ensures.value c.index.ensures c.if-index-more.true in
    omega (arith, own.1)

pub overflow_add-row-then-index-more : goal.overflow_add-row-then-index-more
overflow_add-row-then-index-more c =
    let own = own_hours c.args.rows.now.items c.place_of-at.result c.args.more.mask c.index_mut-row.result.now c.index.result.now (omega arith) c.index_mut-row.ensures.value c.index.ensures c.if-index-more.true in
    omega (arith, own.2)

pub returns-then-index-more-clause-added : goal.returns-then-index-more-clause-added
returns-then-index-more-clause-added c =
    let rows = c.args.rows.now.items in
    let at = c.place_of-at.result in
    let within : at < length rows = omega arith in
    let own = own_hours rows at c.args.more.mask c.index_mut-row.result.now c.index.result.now within c.index_mut-row.ensures.value c.index.ensures c.if-index-more.true in
    AddsRows-set rows at c.index_mut-row.result.now c.args.more within (get_or_read rows at _ within c.index_mut-row.ensures.value no_row) own.0

pub returns-else-at-len-clause-added : goal.returns-else-at-len-clause-added
returns-else-at-len-clause-added c =
    let rows = c.args.rows.now.items in
    let at = c.place_of-at.result in
    let stops = rw c.deref.ensures.value at c.place_of-at.ensures.above in
    let passed = rw c.deref.ensures.value at c.place_of-at.ensures.below in
    let above : at < length rows → c.args.more.mask < (get_or rows at no_row).mask = λ h.
    elim c.else-at-len.branch [
      | else-at-len-via-then-at-len+else-index-more w ↦
          let is : w.index.result.now ≡ get_or rows at no_row = get_or_read rows at w.index.result.now h w.index.ensures no_row in
          let mask_is = ap (λ (r : CutRow). r.mask) is in
          omega (arith, w.if-index-more.false, mask_is, stops h)
      | else-at-len-via-else-at-len w ↦ absurd (omega (arith, w.if-at-len.false))
    ] in
    let added = AddsRows-insert rows at c.args.more (omega arith) passed above in
    let e : c.insert.new.self.items ≡ insert rows at c.args.more = search rules in
    subst (λ (xs : List CutRow). AddsRows rows (c.args.more ∷ []) xs) (sym e) added
