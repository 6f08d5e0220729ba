use Rattle.std.proofs.Common.{◌≡◌, ◌<◌, ◌≤◌, ◌^◌, ◌++◌, length, vec_len, take, drop, Some, cond, not, Bool, true, false, refl, sym, ap, ◌∙◌, arith}
use Rattle.std.specs.Int.{from_bool}
use Rattle.std.specs.Prelude.{sum}
use Rattle.sample_totals.specs.Results.{is_same_day, is_next_hour, Tally}
use Rattle.sample_totals.proofs.Counting.{written_over}
use Rattle.sample_totals.proofs.ResultsLemmas.{tally-quiet, tally-short, make, ZonesGain, IsInRange-quiet, IsInRange-more}
use Rattle.sample_totals.proofs.results.SampleResult.add_hour.Goals as goal

bool_byte-is : (b : Bool) → from_bool b ≡ cond b 1 0
bool_byte-is true = refl
bool_byte-is false = refl

bool_byte-le : (b : Bool) → from_bool b ≤ 1
bool_byte-le true = omega arith
bool_byte-le false = omega arith

pub invariant_of-self : goal.invariant_of-self
invariant_of-self c =
    let t = c.self.inside in
    let o = c.args.outcome.now in
    let room_is : t.room ≡ c.args.self.now.room = ap (λ (x : Tally). x.room) c.self.view_is in
    let counted_is : t.counted ≡ c.args.self.now.counted = ap (λ (x : Tally). x.counted) c.self.view_is in
    let in_zones : o.cut < 2 ^ length t.zones.items = rw (← ap (λ (x : Tally). length x.figures.zones) c.self.view_is) at c.requires.cut in
    let none : sum o.unserved ≡ 0 = sym c.total_of-unserved.ensures ∙ c.if-unserved-eq0.true in
    let added = rw c.if-unserved-eq0.true at c.add_cut.ensures.added in (
      omega (arith, c.self.invariant.0, c.add_cut.ensures.capacity),
      IsInRange-quiet (make t.room t.counted t.last t.hours t.days t.events t.unserved t.zones.items t.cuts.items) o.cut o.unserved c.add_cut.new.rows.items c.self.invariant.1 (omega (arith, c.requires.next, c.requires.room)) none in_zones added (omega (arith, c.add_cut.ensures.one_more)),
    )

pub returns-then-unserved-eq0-clause-run : goal.returns-then-unserved-eq0-clause-run
returns-then-unserved-eq0-clause-run c run e =
    let t = c.self.inside in
    let o = c.args.outcome.now in
    let none : sum o.unserved ≡ 0 = sym c.total_of-unserved.ensures ∙ c.if-unserved-eq0.true in
    let added = rw c.total_of-unserved.ensures at c.add_cut.ensures.added in
    let room_is : t.room ≡ c.args.self.now.room = ap (λ (x : Tally). x.room) c.self.view_is in
    let was = rw (← room_is) at (c.self.view_is ∙ e) in
    rw (← room_is) (tally-quiet (length c.args.self.now.figures.zones) run (make t.room t.counted t.last t.hours t.days t.events t.unserved t.zones.items t.cuts.items) o c.add_cut.new.rows.items none c.requires.cut added was)

pub invariant_of-self-2 : goal.invariant_of-self-2
invariant_of-self-2 c =
    let t = c.self.inside in
    let o = c.args.outcome.now in
    let new = c.add_unserved.new.energies in
    let room_is : t.room ≡ c.args.self.now.room = ap (λ (x : Tally). x.room) c.self.view_is in
    let counted_is : t.counted ≡ c.args.self.now.counted = ap (λ (x : Tally). x.counted) c.self.view_is in
    let in_zones : o.cut < 2 ^ length t.zones.items = rw (← ap (λ (x : Tally). length x.figures.zones) c.self.view_is) at c.requires.cut in
    let len : vec_len t.zones ≡ length t.zones.items = omega arith in
    let long : length new ≡ length t.zones.items = omega arith in
    let written : take (vec_len t.zones) (new ++ drop (length new) t.zones.items) ≡ new = written_over t.zones.items new (vec_len t.zones) (sym len) (long ∙ sym len) in
    let gains = rw c.deref_mut.ensures.value at c.add_unserved.ensures in
    let gain : ZonesGain t.zones.items o.unserved new = record { len = long; each = gains } in
    let day_le : c.from.result ≤ 1 = rw c.from.ensures (bool_byte-le c.starts_day.result) in
    let event_le : c.from-2.result ≤ 1 = rw c.from-2.ensures (bool_byte-le c.starts_event.result) in (
      omega (arith, c.self.invariant.0, c.add_cut.ensures.capacity),
      rw written (IsInRange-more (make t.room t.counted t.last t.hours t.days t.events t.unserved t.zones.items t.cuts.items) (Some o.hour) c.total_of-unserved.result o.cut 1 c.from.result c.from-2.result o.unserved new c.add_cut.new.rows.items c.self.invariant.1 (omega (arith, c.requires.next, c.requires.room)) (omega (arith, c.total_of-unserved.ensures, c.requires.small)) c.requires.small in_zones (omega arith) day_le event_le gain c.add_cut.ensures.added (omega (arith, c.add_cut.ensures.one_more))),
    )

pub returns-clause-run : goal.returns-clause-run
returns-clause-run c run e =
    let t = c.self.inside in
    let o = c.args.outcome.now in
    let new = c.add_unserved.new.energies in
    let zones = length c.args.self.now.figures.zones in
    let room_is : t.room ≡ c.args.self.now.room = ap (λ (x : Tally). x.room) c.self.view_is in
    let counted_is : o.hour ≡ t.counted = c.requires.next ∙ sym (ap (λ (x : Tally). x.counted) c.self.view_is) in
    let len : vec_len t.zones ≡ length t.zones.items = omega arith in
    let long : length new ≡ length t.zones.items = omega arith in
    let written : take (vec_len t.zones) (new ++ drop (length new) t.zones.items) ≡ new = written_over t.zones.items new (vec_len t.zones) (sym len) (long ∙ sym len) in
    let gains = rw c.deref_mut.ensures.value at c.add_unserved.ensures in
    let gain : ZonesGain t.zones.items o.unserved new = record { len = long; each = gains } in
    let sum_is : c.total_of-unserved.result ≡ sum o.unserved = c.total_of-unserved.ensures in
    let added = rw sum_is at c.add_cut.ensures.added in
    let some : 0 < sum o.unserved = (let ne = c.if-unserved-eq0.false in omega (arith, sum_is, ne)) in
    let day_is : c.from.result ≡ cond (not (is_same_day t.last t.counted)) 1 0 = c.from.ensures ∙ bool_byte-is c.starts_day.result ∙ ap (λ b. cond b 1 0) (c.starts_day.ensures ∙ ap (λ h. not (is_same_day t.last h)) counted_is) in
    let event_is : c.from-2.result ≡ cond (not (is_next_hour t.last t.counted)) 1 0 = c.from-2.ensures ∙ bool_byte-is c.starts_event.result ∙ ap (λ b. cond b 1 0) (c.starts_event.ensures ∙ ap (λ h. not (is_next_hour t.last h)) counted_is) in
    let was = rw (← room_is) at (c.self.view_is ∙ e) in
    rw (written, sum_is, day_is, event_is, ← room_is)
    (tally-short zones run (make t.room t.counted t.last t.hours t.days t.events t.unserved t.zones.items t.cuts.items) o new c.add_cut.new.rows.items o.hour counted_is some c.requires.cut gain added was)
