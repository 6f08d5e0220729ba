use Rattle.std.proofs.Common.{◌∙◌, arith}
use Rattle.std.proofs.lemmas.Result.{on_ok_weaker}
use Rattle.outage_table.proofs.FarLaws.{left_made, left_same, left_descending, left_within, left_past}
use Rattle.outage_table.proofs.high.settle.Goals as goal

pub take_over-requires-clause-falling : goal.take_over-requires-clause-falling
take_over-requires-clause-falling c x y h =
    let left = left_made c.args.near.now.items c.args.bounds.now.items c.deref.result.now c.truncate.new.self.items c.len-2.result c.height_at-past.result c.requires.descending c.deref.ensures.value (omega arith) c.height_at-past.ensures c.truncate.ensures.items in
    rw (left_same _ _ _ _ x left, left_same _ _ _ _ y left) (c.requires.falling x y h)

pub take_over-requires-clause-descending : goal.take_over-requires-clause-descending
take_over-requires-clause-descending c =
    left_descending _ _ _ _
    (left_made c.args.near.now.items c.args.bounds.now.items c.deref.result.now c.truncate.new.self.items c.len-2.result c.height_at-past.result c.requires.descending c.deref.ensures.value (omega arith) c.height_at-past.ensures c.truncate.ensures.items)

pub take_over-requires-clause-past : goal.take_over-requires-clause-past
take_over-requires-clause-past c i h =
    let left = left_made c.args.near.now.items c.args.bounds.now.items c.deref.result.now c.truncate.new.self.items c.len-2.result c.height_at-past.result c.requires.descending c.deref.ensures.value (omega arith) c.height_at-past.ensures c.truncate.ensures.items in
    omega (arith, left_past _ _ _ _ i left (omega arith))

pub returns-clause-ok : goal.returns-clause-ok
returns-clause-ok c =
    let left = left_made c.args.near.now.items c.args.bounds.now.items c.deref.result.now c.truncate.new.self.items c.len-2.result c.height_at-past.result c.requires.descending c.deref.ensures.value (omega arith) c.height_at-past.ensures c.truncate.ensures.items in
    on_ok_weaker c.take_over.result (λ same x. same x ∙ left_same _ _ _ _ x left) c.take_over.ensures.ok

pub returns-clause-within : goal.returns-clause-within
returns-clause-within c most few within =
    let left = left_made c.args.near.now.items c.args.bounds.now.items c.deref.result.now c.truncate.new.self.items c.len-2.result c.height_at-past.result c.requires.descending c.deref.ensures.value (omega arith) c.height_at-past.ensures c.truncate.ensures.items in
    c.take_over.ensures.within most few (λ i. left_within _ _ _ _ most i left within)
