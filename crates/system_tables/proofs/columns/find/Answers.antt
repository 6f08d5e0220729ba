use Rattle.std.proofs.Common.{◌≡◌, true, false, List, ℕ, [], sym, ap, ◌∙◌, subst, get_or, arith}
use Rattle.std.specs.Str.{bytes_eq}
use Rattle.system_tables.proofs.NameLaws.{not-true, not-false}
use Rattle.system_tables.proofs.ColumnLaws.{AreSoFar, so_far-twice, so_far-first, so_far-other, so_far-some, so_far-none}
use Rattle.system_tables.proofs.columns.find.Goals as goal

pub loop-at-preserved-then-ne : goal.loop-at-preserved-then-ne
loop-at-preserved-then-ne c =
    let other : bytes_eq (get_or c.args.header.now.row c.loop-at.at []) c.args.name.now ≡ false =
    ap (λ (f : List ℕ). bytes_eq f c.args.name.now) (sym c.field.ensures) ∙ not-true _ _ c.ne.ensures c.if-ne.true in
    so_far-other c.args.header.now.row c.args.name.now c.loop-at.at c.loop-at.first c.loop-at.invariant (omega arith) other

pub loop-at-preserved : goal.loop-at-preserved
loop-at-preserved c =
    let same : bytes_eq (get_or c.args.header.now.row c.loop-at.at []) c.args.name.now ≡ true =
    ap (λ (f : List ℕ). bytes_eq f c.args.name.now) (sym c.field.ensures) ∙ not-false _ _ c.ne.ensures c.if-ne.false in
    so_far-first c.args.header.now.row c.args.name.now c.loop-at.at c.loop-at.first c.loop-at.invariant (omega arith) same (sym c.if-is_some.ensures)

pub returns-then-is_some : goal.returns-then-is_some
returns-then-is_some c =
    let same : bytes_eq (get_or c.args.header.now.row c.loop-at.at []) c.args.name.now ≡ true =
    ap (λ (f : List ℕ). bytes_eq f c.args.name.now) (sym c.field.ensures) ∙ not-false _ _ c.ne.ensures c.if-ne.false in
    so_far-twice c.args.header.now.row c.args.name.now c.loop-at.at c.loop-at.first c.loop-at.invariant (omega arith) same (sym c.if-is_some.ensures)

pub returns-in-Some : goal.returns-in-Some
returns-in-Some c =
    so_far-some c.args.header.now.row c.args.name.now c.loop-at.at c.in-Some.at (subst (AreSoFar c.args.header.now.row c.args.name.now c.loop-at.at) c.in-Some.is c.loop-at.invariant) (omega arith)

pub returns-in-None : goal.returns-in-None
returns-in-None c =
    so_far-none c.args.header.now.row c.args.name.now c.loop-at.at (subst (AreSoFar c.args.header.now.row c.args.name.now c.loop-at.at) c.in-None.is c.loop-at.invariant) (omega arith)
