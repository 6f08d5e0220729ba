use Rattle.std.proofs.Common.{◌≡◌, ◌≤◌, length, vec_len, take, drop, ◌++◌, arith, sym, ap, ◌∙◌}
use Rattle.sample_totals.specs.Totals.{Sheet}
use Rattle.sample_totals.proofs.Counting.{written_over}
use Rattle.sample_totals.proofs.TotalsLemmas.{totals-more, IsSheet-more, ZonesMore, sheet}
use Rattle.sample_totals.proofs.totals.Totals.add.Goals as goal

pub invariant_of-self-2 : goal.invariant_of-self-2
invariant_of-self-2 c =
    let t = c.self.inside in
    let zs = c.add_zones.new.zones in
    let f = c.args.sample.now.figures in
    let len : vec_len t.zones ≡ length t.zones.items = omega arith in
    let long : length zs ≡ length t.zones.items = omega arith in
    let written : take (vec_len t.zones) (zs ++ drop (length zs) t.zones.items) ≡ zs = written_over t.zones.items zs (vec_len t.zones) (sym len) (long ∙ sym len) in
    let gained = rw c.deref_mut.ensures.value at c.add_zones.ensures.gained in
    let small = rw c.deref_mut.ensures.value at c.add_zones.ensures.small in
    let zones_more : ZonesMore t.zones.items f.zones zs = record { len = long; each = gained } in
    let agree : length f.zones ≡ length t.zones.items = sym (ap (λ (x : Sheet). length x.zones) c.self.view_is ∙ c.requires.zones) in
    let few : t.samples ≤ 999999 = (let e : t.samples ≡ c.args.self.now.samples = ap (λ (x : Sheet). x.samples) c.self.view_is in omega (arith, c.requires.few)) in
    let added = rw c.reserve.ensures.items at c.add_rows.ensures in
    let in_order = rw agree at c.cuts-cuts.ensures.ascending in
    rw (written, c.with-self-inside.ensures, c.with-self-inside-2.ensures, c.with-self-inside-3.ensures, c.with-self-inside-4.ensures)
    (IsSheet-more (sheet t.samples t.hours t.days t.events t.unserved t.zones.items t.cuts.items) c.hours.result c.days.result c.events.result c.unserved.result f.zones c.cuts-cuts.result.now zs c.add_rows.new.rows.items c.self.invariant (omega arith) c.hours.ensures.bound c.days.ensures.bound c.events.ensures.bound c.unserved.ensures.bound small zones_more added in_order c.cuts-cuts.ensures.hours c.cuts-cuts.ensures.unserved)

pub returns-clause-ok : goal.returns-clause-ok
returns-clause-ok c runs run is f_is =
    let t = c.self.inside in
    let zs = c.add_zones.new.zones in
    let f = c.args.sample.now.figures in
    let len : vec_len t.zones ≡ length t.zones.items = omega arith in
    let long : length zs ≡ length t.zones.items = omega arith in
    let written : take (vec_len t.zones) (zs ++ drop (length zs) t.zones.items) ≡ zs = written_over t.zones.items zs (vec_len t.zones) (sym len) (long ∙ sym len) in
    let gained = rw c.deref_mut.ensures.value at c.add_zones.ensures.gained in
    let zones_more : ZonesMore t.zones.items f.zones zs = record { len = long; each = gained } in
    let added = rw (c.reserve.ensures.items, c.cuts-cuts.ensures.value) at c.add_rows.ensures in
    rw (written, c.with-self-inside.ensures, c.with-self-inside-2.ensures, c.with-self-inside-3.ensures, c.with-self-inside-4.ensures, c.hours.ensures.value, c.days.ensures.value, c.events.ensures.value, c.unserved.ensures.value)
    (totals-more (length c.args.self.now.zones) runs run (sheet t.samples t.hours t.days t.events t.unserved t.zones.items t.cuts.items) f zs c.add_rows.new.rows.items zones_more added (c.self.view_is ∙ is) f_is)
