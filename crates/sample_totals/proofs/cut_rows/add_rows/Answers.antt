use Rattle.std.proofs.Common.{arith, refl}
use Rattle.sample_totals.proofs.CutRowsLemmas.{AddsFirst-none, AddsFirst-more, AddsFirst-all, next_hours, next_unserved}
use Rattle.sample_totals.proofs.cut_rows.add_rows.Goals as goal

pub loop-row-init : goal.loop-row-init
loop-row-init c = (AddsFirst-none c.args.rows.now.items c.args.more.now, omega arith)

pub add_row-requires-clause-hours : goal.add_row-requires-clause-hours
add_row-requires-clause-hours c =
    next_hours c.args.rows.now.items c.args.more.now c.loop-row.row-index c.loop-row.rows.items _ _ c.loop-row-test.true refl c.loop-row.invariant.0 (c.requires.hours _)

pub add_row-requires-clause-unserved : goal.add_row-requires-clause-unserved
add_row-requires-clause-unserved c =
    next_unserved c.args.rows.now.items c.args.more.now c.loop-row.row-index c.loop-row.rows.items _ _ c.loop-row-test.true refl c.loop-row.invariant.0 (c.requires.unserved _)

pub loop-row-preserved : goal.loop-row-preserved
loop-row-preserved c =
    (AddsFirst-more c.args.rows.now.items c.args.more.now c.loop-row.row-index c.loop-row.rows.items c.add_row.new.rows.items _ c.loop-row-test.true refl c.loop-row.invariant.0 c.add_row.ensures.added, omega (arith, c.add_row.ensures.one_more, c.add_row.ensures.capacity))

pub returns : goal.returns
returns c =
    AddsFirst-all c.args.rows.now.items c.args.more.now c.loop-row.row-index c.loop-row.rows.items (omega arith) c.loop-row.invariant.0
