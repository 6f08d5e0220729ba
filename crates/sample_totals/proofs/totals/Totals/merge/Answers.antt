use Rattle.std.proofs.Common.{◌≡◌, ◌+◌, ◌++◌, length, vec_len, take, drop, arith, refl, sym, ap, ◌∙◌}
use Rattle.sample_totals.specs.Totals.{Sheet, AddsTotals}
use Rattle.sample_totals.proofs.Counting.{written_over}
use Rattle.sample_totals.proofs.TotalsLemmas.{sheet, totals-joined, IsSheet-joined}
use Rattle.sample_totals.proofs.totals.Totals.merge.Goals as goal

-- the new totals are the old ones and the others'
added : (c : goal.After-add_rows) → AddsTotals c.args.self.now c.args.more.now (sheet (c.self.inside.samples + c.more.inside.samples) c.plus-self-inside.result c.plus-self-inside-2.result c.plus-self-inside-3.result c.plus-self-inside-4.result c.merge_zones.new.zones c.add_rows.new.rows.items)
added c =
    let zones = rw (c.deref_mut.ensures.value, c.deref.ensures.value) at c.merge_zones.ensures in
    let rows = rw (c.reserve.ensures.items, c.deref-2.ensures.value) at c.add_rows.ensures in
    let long : length c.merge_zones.new.zones ≡ length c.self.inside.zones.items = omega arith in
    rw (← c.self.view_is, ← c.more.view_is) (record {
      samples = refl;
      hours = c.plus-self-inside.ensures;
      days = c.plus-self-inside-2.ensures;
      events = c.plus-self-inside-3.ensures;
      unserved = c.plus-self-inside-4.ensures;
      zone_count = long;
      zones = zones;
      cuts = rows;
    })

written : (c : goal.After-add_rows) → take (vec_len c.self.inside.zones) (c.merge_zones.new.zones ++ drop (length c.merge_zones.new.zones) c.self.inside.zones.items) ≡ c.merge_zones.new.zones
written c =
    let len : vec_len c.self.inside.zones ≡ length c.self.inside.zones.items = omega arith in
    let long : length c.merge_zones.new.zones ≡ length c.self.inside.zones.items = omega arith in
    written_over c.self.inside.zones.items c.merge_zones.new.zones (vec_len c.self.inside.zones) (sym len) (long ∙ sym len)

pub returns-clause-parts : goal.returns-clause-parts
returns-clause-parts c = rw (written c) (added c)

pub returns-clause-ok : goal.returns-clause-ok
returns-clause-ok c runs more_runs is more_is =
    let adds = rw (is, more_is) at (added c) in
    rw (written c) (totals-joined (length c.args.self.now.zones) runs more_runs _ adds)

pub invariant_of-self-2 : goal.invariant_of-self-2
invariant_of-self-2 c =
    let samples_are : c.self.inside.samples ≡ c.args.self.now.samples = ap (λ (x : Sheet). x.samples) c.self.view_is in
    let more_are : c.more.inside.samples ≡ c.args.more.now.samples = ap (λ (x : Sheet). x.samples) c.more.view_is in
    let adds = rw (← c.self.view_is, ← c.more.view_is) at (added c) in
    let agree : length c.self.inside.zones.items ≡ length c.more.inside.zones.items = ap (λ (x : Sheet). length x.zones) c.self.view_is ∙ c.requires.zones ∙ sym (ap (λ (x : Sheet). length x.zones) c.more.view_is) in
    rw (written c) (IsSheet-joined _ _ _ c.self.invariant c.more.invariant (omega (arith, c.requires.few)) agree adds)
