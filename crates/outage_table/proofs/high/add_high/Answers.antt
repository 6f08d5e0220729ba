use Rattle.std.proofs.Common.{◌≡◌, ◌+◌, ◌≤◌, ◌++◌, ℕ, length, get_or, take, drop, refl, sym, subst, ◌∙◌, arith}
use Rattle.std.proofs.lemmas.Result.{on_ok_weaker}
use Rattle.outage_table.specs.Fleet.{AreFalling, end_of}
use Rattle.outage_table.proofs.HeightLaws.{raised_descending, raised_within}
use Rattle.outage_table.proofs.TableLaws.{given_back}
use Rattle.outage_table.proofs.FarLaws.{added_made, all_added, filled_falling, moved-falls}
use Rattle.outage_table.proofs.high.add_high.Goals as goal

pub mix_high-requires : goal.mix_high-requires
mix_high-requires c =
    subst (λ xs. AreFalling (λ x. get_or xs x 0)) (sym c.deref_mut.ensures.value)
    (filled_falling c.args.ends.now.near.items c.fill.new.near.items c.args.ends.now.far.items
    (subst (λ bs. (x : ℕ) → end_of c.fill.new.near.items bs x ≡ end_of c.args.ends.now.near.items bs x) c.deref-2.ensures.value c.in_ok-fill.ensures.ok) c.requires.falling)

pub settle-requires-clause-falling : goal.settle-requires-clause-falling
settle-requires-clause-falling c x y h =
    let added = added_made c.args.ends.now.near.items c.fill.new.near.items c.deref_mut.result.now c.mix_high.new.ends c.args.ends.now.far.items c.deref.result.now c.deref-2.result.now c.deref_mut-2.result.now c.raise.new.bounds
    c.calm_from.result c.max.result (c.max.result + c.args.capacity) c.args.capacity c.small.result c.args.share.out c.args.share.all
    c.requires.descending c.deref.ensures.value c.deref-2.ensures.value c.deref_mut.ensures.value c.deref_mut-2.ensures.value (omega (arith, c.max.ensures)) refl
    c.calm_from.ensures.calm c.in_ok-fill.ensures.ok (omega (arith, c.in_ok-fill.ensures.len)) c.small.ensures c.mix_high.ensures (omega arith) c.raise.ensures (omega arith) in
    let near : take c.fill.new.near.len (c.mix_high.new.ends ++ drop (length c.mix_high.new.ends) c.fill.new.near.items) ≡ c.mix_high.new.ends
    = given_back _ _ c.fill.new.near.len (omega (arith, added.mixed_long)) (omega arith) in
    let far : take c.args.ends.now.far.len (c.raise.new.bounds ++ drop (length c.raise.new.bounds) c.args.ends.now.far.items) ≡ c.raise.new.bounds
    = given_back _ _ c.args.ends.now.far.len (omega (arith, added.raised_long)) (omega arith) in
    rw (near, far, all_added _ _ _ _ _ _ _ _ _ _ added x, all_added _ _ _ _ _ _ _ _ _ _ added y)
    (moved-falls (end_of c.args.ends.now.near.items c.args.ends.now.far.items) c.args.share.out c.args.share.all c.args.capacity c.requires.falling.falls c.args.share.weighed c.args.share.part x y h)

pub settle-requires-clause-descending : goal.settle-requires-clause-descending
settle-requires-clause-descending c =
    let added = added_made c.args.ends.now.near.items c.fill.new.near.items c.deref_mut.result.now c.mix_high.new.ends c.args.ends.now.far.items c.deref.result.now c.deref-2.result.now c.deref_mut-2.result.now c.raise.new.bounds
    c.calm_from.result c.max.result (c.max.result + c.args.capacity) c.args.capacity c.small.result c.args.share.out c.args.share.all
    c.requires.descending c.deref.ensures.value c.deref-2.ensures.value c.deref_mut.ensures.value c.deref_mut-2.ensures.value (omega (arith, c.max.ensures)) refl
    c.calm_from.ensures.calm c.in_ok-fill.ensures.ok (omega (arith, c.in_ok-fill.ensures.len)) c.small.ensures c.mix_high.ensures (omega arith) c.raise.ensures (omega arith) in
    let far : take c.args.ends.now.far.len (c.raise.new.bounds ++ drop (length c.raise.new.bounds) c.args.ends.now.far.items) ≡ c.raise.new.bounds
    = given_back _ _ c.args.ends.now.far.len (omega (arith, added.raised_long)) (omega arith) in
    rw far (raised_descending c.args.ends.now.far.items c.raise.new.bounds c.args.capacity c.requires.descending added.raised_long added.raises)

pub returns-clause-ok : goal.returns-clause-ok
returns-clause-ok c =
    let added = added_made c.args.ends.now.near.items c.fill.new.near.items c.deref_mut.result.now c.mix_high.new.ends c.args.ends.now.far.items c.deref.result.now c.deref-2.result.now c.deref_mut-2.result.now c.raise.new.bounds
    c.calm_from.result c.max.result (c.max.result + c.args.capacity) c.args.capacity c.small.result c.args.share.out c.args.share.all
    c.requires.descending c.deref.ensures.value c.deref-2.ensures.value c.deref_mut.ensures.value c.deref_mut-2.ensures.value (omega (arith, c.max.ensures)) refl
    c.calm_from.ensures.calm c.in_ok-fill.ensures.ok (omega (arith, c.in_ok-fill.ensures.len)) c.small.ensures c.mix_high.ensures (omega arith) c.raise.ensures (omega arith) in
    let near : take c.fill.new.near.len (c.mix_high.new.ends ++ drop (length c.mix_high.new.ends) c.fill.new.near.items) ≡ c.mix_high.new.ends
    = given_back _ _ c.fill.new.near.len (omega (arith, added.mixed_long)) (omega arith) in
    let far : take c.args.ends.now.far.len (c.raise.new.bounds ++ drop (length c.raise.new.bounds) c.args.ends.now.far.items) ≡ c.raise.new.bounds
    = given_back _ _ c.args.ends.now.far.len (omega (arith, added.raised_long)) (omega arith) in
    on_ok_weaker c.settle.result
    (λ same x. same x ∙ rw (near, far) (all_added _ _ _ _ _ _ _ _ _ _ added x)) c.settle.ensures.ok

pub returns-clause-within : goal.returns-clause-within
returns-clause-within c most few within =
    let added = added_made c.args.ends.now.near.items c.fill.new.near.items c.deref_mut.result.now c.mix_high.new.ends c.args.ends.now.far.items c.deref.result.now c.deref-2.result.now c.deref_mut-2.result.now c.raise.new.bounds
    c.calm_from.result c.max.result (c.max.result + c.args.capacity) c.args.capacity c.small.result c.args.share.out c.args.share.all
    c.requires.descending c.deref.ensures.value c.deref-2.ensures.value c.deref_mut.ensures.value c.deref_mut-2.ensures.value (omega (arith, c.max.ensures)) refl
    c.calm_from.ensures.calm c.in_ok-fill.ensures.ok (omega (arith, c.in_ok-fill.ensures.len)) c.small.ensures c.mix_high.ensures (omega arith) c.raise.ensures (omega arith) in
    let near : take c.fill.new.near.len (c.mix_high.new.ends ++ drop (length c.mix_high.new.ends) c.fill.new.near.items) ≡ c.mix_high.new.ends
    = given_back _ _ c.fill.new.near.len (omega (arith, added.mixed_long)) (omega arith) in
    let far : take c.args.ends.now.far.len (c.raise.new.bounds ++ drop (length c.raise.new.bounds) c.args.ends.now.far.items) ≡ c.raise.new.bounds
    = given_back _ _ c.args.ends.now.far.len (omega (arith, added.raised_long)) (omega arith) in
    let first : get_or c.deref.result.now 0 0 ≤ most = rw c.deref.ensures.value (within 0) in
    c.settle.ensures.within (most + c.args.capacity)
    (omega (arith, added.long, c.max.ensures, c.calm_from.ensures.within))
    (λ i. rw far (raised_within c.args.ends.now.far.items c.raise.new.bounds c.args.capacity most added.raised_long within added.raises i))
