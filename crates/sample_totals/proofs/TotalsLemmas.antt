use Rattle.std.proofs.Common.{◌≡◌, ℕ, zero, suc, ◌+◌, ◌-◌, ◌*◌, ◌^◌, ◌<◌, ◌≤◌, List, [], ◌∷◌, ◌++◌, length, get_or, replicate, refl, sym, ap, ◌∙◌, arith, subst, ⊎_elim}
use Rattle.std.specs.Prelude.{map, sum_by}
use Rattle.std.specs.List.{range_with_len}
use Rattle.std.proofs.lemmas.List.{length-append, get_or_past, length-replicate}
use Rattle.std.proofs.lemmas.List.Sums.{sum_by_push, sum_by-cons, sum_by-append}
use Rattle.std.proofs.lemmas.List.FromFn.{fill_by_all, get_or-map-range_with_len, length-map-range_with_len}
use Rattle.std.proofs.lemmas.Bool.{cases_lt}
use Rattle.sample_totals.specs.declared.outcomes.HourOutcome.{HourOutcome}
use Rattle.sample_totals.specs.declared.cut_rows.CutRow.{CutRow}
use Rattle.sample_totals.specs.declared.estimates.Sums.{Sums}
use Rattle.sample_totals.specs.CutRows.{rows_of, hours_at, cut_unserved, AreRows, AddsRows, masks}
use Rattle.sample_totals.specs.Estimates.{AreSums, no_sums, with_value, joined_sums}
use Rattle.sample_totals.specs.Results.{short_hours, short_days, short_events, unserved_energy, zone_energy, cut_hours, cut_energy, Figures, figures_of}
use Rattle.sample_totals.specs.Totals.{Sheet, sums_of, totals_of, IsSheet, AddsTotals}
use Rattle.sample_totals.proofs.CutRowsLemmas.{rows_are, hours_at-none, cut_unserved-none, AreRows-rows_of, hours_at-rows_of, cut_unserved-rows_of}
use Rattle.sample_totals.proofs.EstimatesLemmas.{AreSums-more, AreSums-none, AreSums-joined}
use Rattle.sample_totals.proofs.ResultsLemmas.{cut_energy-none}

abbrev pub sheet : ℕ → Sums → Sums → Sums → Sums → List Sums → List CutRow → Sheet
sheet samples hours days events unserved zones cuts = record { samples = samples; hours = hours; days = days; events = events; unserved = unserved; zones = zones; cuts = cuts }

pub same_sheet : (t t' : Sheet) → t.samples ≡ t'.samples → t.hours ≡ t'.hours → t.days ≡ t'.days → t.events ≡ t'.events → t.unserved ≡ t'.unserved → t.zones ≡ t'.zones → t.cuts ≡ t'.cuts → t ≡ t'
same_sheet t t' a b c d e f g =
    ap (λ x. sheet x t.hours t.days t.events t.unserved t.zones t.cuts) a
    ∙ ap (λ x. sheet t'.samples x t.days t.events t.unserved t.zones t.cuts) b
    ∙ ap (λ x. sheet t'.samples t'.hours x t.events t.unserved t.zones t.cuts) c
    ∙ ap (λ x. sheet t'.samples t'.hours t'.days x t.unserved t.zones t.cuts) d
    ∙ ap (λ x. sheet t'.samples t'.hours t'.days t'.events x t.zones t.cuts) e
    ∙ ap (λ x. sheet t'.samples t'.hours t'.days t'.events t'.unserved x t.cuts) f
    ∙ ap (λ x. sheet t'.samples t'.hours t'.days t'.events t'.unserved t'.zones x) g

pub same_sums : (s t : Sums) → s.total ≡ t.total → s.squares ≡ t.squares → s ≡ t
same_sums s t a b = ap (λ x. record { total = x; squares = s.squares }) a ∙ ap (λ x. record { total = t.total; squares = x }) b

-- ---- no sample
sums-none : (figure : List HourOutcome → ℕ) → no_sums ≡ sums_of figure []
unfolding sums_of
sums-none figure = refl

zones-none : (n zones : ℕ) → replicate zones no_sums ≡ map (λ zone. sums_of (λ run. zone_energy run zone) []) (range_with_len n zones)
unfolding sums_of
zones-none n zero = refl
zones-none n (suc zones) = ap (λ r. no_sums ∷ r) (zones-none (n + 1) zones)

rows-none : (zones : ℕ) → [] ≡ rows_of (λ (m : ℕ). sum_by (λ run. cut_hours run m) []) (λ (m : ℕ). sum_by (λ run. cut_energy run m) []) (masks zones)
rows-none zones = rows_are (λ (m : ℕ). 0) (λ (m : ℕ). 0) 1 (2 ^ zones - 1) [] tt (λ m g l. hours_at-none m) (λ m g l. cut_unserved-none m)

pub totals-none : (zones : ℕ) → sheet 0 no_sums no_sums no_sums no_sums (replicate zones no_sums) [] ≡ totals_of zones []
unfolding totals_of
totals-none zones = same_sheet (sheet 0 no_sums no_sums no_sums no_sums (replicate zones no_sums) []) (totals_of zones []) refl (sums-none short_hours) (sums-none short_days) (sums-none short_events) (sums-none unserved_energy) (zones-none 0 zones) (rows-none zones)

AreSums-no : (n : ℕ) → AreSums no_sums n
AreSums-no n = record { total = omega arith; squares = omega arith; spread = omega arith }

nothing-at : (n z : ℕ) → get_or (replicate n no_sums) z no_sums ≡ no_sums
nothing-at zero z = refl
nothing-at (suc n) zero = refl
nothing-at (suc n) (suc z) = nothing-at n z

pub IsSheet-none : (zones : ℕ) → zones < 2 ^ 8 → IsSheet (sheet 0 no_sums no_sums no_sums no_sums (replicate zones no_sums) [])
IsSheet-none zones few = record {
  samples = omega arith;
  hours = AreSums-none;
  days = AreSums-none;
  events = AreSums-none;
  unserved = AreSums-none;
  few_zones = rw (length-replicate {A = Sums} zones no_sums) few;
  zones = λ z. rw (nothing-at zones z) AreSums-none;
  rows = tt;
  row_hours = λ m. omega (arith, hours_at-none m);
  row_unserved = λ m. omega (arith, cut_unserved-none m);
}

-- ---- one more sample
sums-more : (figure : List HourOutcome → ℕ) (runs : List (List HourOutcome)) (run : List HourOutcome) → with_value (sums_of figure runs) (figure run) ≡ sums_of figure (runs ++ run ∷ [])
unfolding sums_of
sums-more figure runs run = same_sums (with_value (sums_of figure runs) (figure run)) (sums_of figure (runs ++ run ∷ [])) (sym (sum_by_push figure runs run)) (sym (sum_by_push (λ r. figure r * figure r) runs run))

pub energy-none : (runs : List (List HourOutcome)) (m : ℕ) → sum_by (λ run. cut_hours run m) runs ≡ 0 → sum_by (λ run. cut_energy run m) runs ≡ 0
energy-none [] m h = refl
energy-none (run ∷ runs) m h =
    let hs = sum_by-cons (λ (r : List HourOutcome). cut_hours r m) run runs in
    let es = sum_by-cons (λ (r : List HourOutcome). cut_energy r m) run runs in
    omega (arith, es, cut_energy-none run m (omega (arith, hs)), energy-none runs m (omega (arith, hs)))

-- the zones' sums after one more sample
pub record ZonesMore (old : List Sums) (values : List ℕ) (new : List Sums) : Type 0 where
  pub len : length new ≡ length old
  pub each : (z : ℕ) → z < length old → get_or new z no_sums ≡ with_value (get_or old z no_sums) (get_or values z 0)

pub totals-more : (zones : ℕ) (runs : List (List HourOutcome)) (run : List HourOutcome) (t : Sheet) (f : Figures) (zs : List Sums) (rows : List CutRow) → ZonesMore t.zones f.zones zs → AddsRows t.cuts f.cuts rows → t ≡ totals_of zones runs → f ≡ figures_of zones run
    → sheet (t.samples + 1) (with_value t.hours f.hours) (with_value t.days f.days) (with_value t.events f.events) (with_value t.unserved f.unserved) zs rows ≡ totals_of zones (runs ++ run ∷ [])
unfolding totals_of figures_of
totals-more zones runs run t f zs rows more_zones more_rows is f_is =
    let old = totals_of zones runs in
    let figs = figures_of zones run in
    let shape = λ (x : Sheet) (y : Figures). sheet (x.samples + 1) (with_value x.hours y.hours) (with_value x.days y.days) (with_value x.events y.events) (with_value x.unserved y.unserved) zs rows in
    let zones_more : ZonesMore old.zones figs.zones zs = subst (λ (y : Figures). ZonesMore old.zones y.zones zs) f_is (subst (λ (x : Sheet). ZonesMore x.zones f.zones zs) is more_zones) in
    let adds : AddsRows old.cuts figs.cuts rows = subst (λ (y : Figures). AddsRows old.cuts y.cuts rows) f_is (subst (λ (x : Sheet). AddsRows x.cuts f.cuts rows) is more_rows) in
    let long : length old.zones ≡ zones = length-map-range_with_len (λ zone. sums_of (λ r. zone_energy r zone) runs) 0 zones in
    let zone_at : (k : ℕ) → k < zones → get_or zs k no_sums ≡ sums_of (λ r. zone_energy r k) (runs ++ run ∷ []) = λ k l.
    let was = get_or-map-range_with_len (λ zone. sums_of (λ r. zone_energy r zone) runs) 0 zones k k no_sums l (omega arith) in
    let value = get_or-map-range_with_len (zone_energy run) 0 zones k k 0 l (omega arith) in
    zones_more.each k (omega (arith, long)) ∙ ap (λ s. with_value s (get_or figs.zones k 0)) was ∙ ap (λ v. with_value (sums_of (λ r. zone_energy r k) runs) v) value ∙ sums-more (λ r. zone_energy r k) runs run in
    ap (λ x. shape x f) is ∙ ap (λ y. shape old y) f_is ∙
    same_sheet (shape old figs) (totals_of zones (runs ++ run ∷ []))
    (omega (arith, length-append runs (run ∷ [])))
    (sums-more short_hours runs run)
    (sums-more short_days runs run)
    (sums-more short_events runs run)
    (sums-more unserved_energy runs run)
    (fill_by_all (λ zone. sums_of (λ r. zone_energy r zone) (runs ++ run ∷ [])) zs zones no_sums (zones_more.len ∙ long) zone_at)
    (rows_are (λ m. sum_by (λ r. cut_hours r m) (runs ++ run ∷ [])) (λ m. sum_by (λ r. cut_energy r m) (runs ++ run ∷ [])) 1 (2 ^ zones - 1) rows
    (adds.ascending 1 (1 + (2 ^ zones - 1))
    (AreRows-rows_of (λ m. sum_by (λ r. cut_hours r m) runs) (λ m. sum_by (λ r. cut_energy r m) runs) 1 (2 ^ zones - 1))
    (AreRows-rows_of (cut_hours run) (cut_energy run) 1 (2 ^ zones - 1)))
    (λ m g l. omega (
      arith,
      adds.hours m,
      hours_at-rows_of (λ k. sum_by (λ r. cut_hours r k) runs) (λ k. sum_by (λ r. cut_energy r k) runs) 1 (2 ^ zones - 1) m g l,
      hours_at-rows_of (cut_hours run) (cut_energy run) 1 (2 ^ zones - 1) m g l,
      sum_by_push (λ (r : List HourOutcome). cut_hours r m) runs run,
    ))
    (λ m g l. omega (
      arith,
      adds.unserved m,
      cut_unserved-rows_of (λ k. sum_by (λ r. cut_hours r k) runs) (λ k. sum_by (λ r. cut_energy r k) runs) 1 (2 ^ zones - 1) m g l (energy-none runs m),
      cut_unserved-rows_of (cut_hours run) (cut_energy run) 1 (2 ^ zones - 1) m g l (cut_energy-none run m),
      sum_by_push (λ (r : List HourOutcome). cut_energy r m) runs run,
    )))

pub IsSheet-more : (t : Sheet) (hours days events unserved : ℕ) (values : List ℕ) (cuts : List CutRow) (zs : List Sums) (rows : List CutRow) → IsSheet t → t.samples < 1000000 → hours ≤ 8784 → days ≤ 8784 → events ≤ 8784 → unserved ≤ 1756800000 → ((z : ℕ) → z < length t.zones → get_or values z 0 ≤ 1756800000) → ZonesMore t.zones values zs → AddsRows t.cuts cuts rows → AreRows 1 (2 ^ length t.zones) cuts → ((m : ℕ) → hours_at cuts m ≤ 8784) → ((m : ℕ) → cut_unserved cuts m ≤ 1756800000)
    → IsSheet (sheet (t.samples + 1) (with_value t.hours hours) (with_value t.days days) (with_value t.events events) (with_value t.unserved unserved) zs rows)
IsSheet-more t hours days events unserved values cuts zs rows is few h d e u vs more_zones added in_order hs us =
    let zone_is : (z : ℕ) → AreSums (get_or zs z no_sums) (t.samples + 1) = λ z.
    ⊎_elim
    (λ (l : z < length t.zones). rw (more_zones.each z l) (AreSums-more (get_or t.zones z no_sums) t.samples (get_or values z 0) (is.zones z) (vs z l)))
    (λ (g : length t.zones ≤ z). rw (get_or_past zs z no_sums (omega (arith, more_zones.len))) (AreSums-no (t.samples + 1)))
    (cases_lt z (length t.zones)) in
    record {
      samples = omega arith;
      hours = AreSums-more t.hours t.samples hours is.hours (omega arith);
      days = AreSums-more t.days t.samples days is.days (omega arith);
      events = AreSums-more t.events t.samples events is.events (omega arith);
      unserved = AreSums-more t.unserved t.samples unserved is.unserved (omega arith);
      few_zones = omega (arith, is.few_zones, more_zones.len);
      zones = zone_is;
      rows = rw more_zones.len (added.ascending 1 (2 ^ length t.zones) is.rows in_order);
      row_hours = λ m. omega (arith, added.hours m, is.row_hours m, hs m);
      row_unserved = λ m. omega (arith, added.unserved m, is.row_unserved m, us m);
    }

-- ---- two totals
sums-joined : (figure : List HourOutcome → ℕ) (runs more : List (List HourOutcome)) → joined_sums (sums_of figure runs) (sums_of figure more) ≡ sums_of figure (runs ++ more)
unfolding sums_of
sums-joined figure runs more = same_sums (joined_sums (sums_of figure runs) (sums_of figure more)) (sums_of figure (runs ++ more)) (sym (sum_by-append figure runs more)) (sym (sum_by-append (λ r. figure r * figure r) runs more))

-- totals of runs that gained those of more runs are those of both
pub totals-joined : (zones : ℕ) (runs more : List (List HourOutcome)) (t : Sheet) → AddsTotals (totals_of zones runs) (totals_of zones more) t → t ≡ totals_of zones (runs ++ more)
unfolding totals_of
totals-joined zones runs more t adds =
    let both = runs ++ more in
    let old = totals_of zones runs in
    let count = λ (rs : List (List HourOutcome)) (m : ℕ). sum_by (λ (r : List HourOutcome). cut_hours r m) rs in
    let energy = λ (rs : List (List HourOutcome)) (m : ℕ). sum_by (λ (r : List HourOutcome). cut_energy r m) rs in
    let long : length old.zones ≡ zones = length-map-range_with_len (λ zone. sums_of (λ r. zone_energy r zone) runs) 0 zones in
    let zone_at : (k : ℕ) → k < zones → get_or t.zones k no_sums ≡ sums_of (λ r. zone_energy r k) both = λ k l.
    let was = get_or-map-range_with_len (λ zone. sums_of (λ r. zone_energy r zone) runs) 0 zones k k no_sums l (omega arith) in
    let gained = get_or-map-range_with_len (λ zone. sums_of (λ r. zone_energy r zone) more) 0 zones k k no_sums l (omega arith) in
    adds.zones k (omega (arith, long)) ∙ ap (λ s. joined_sums s (get_or (totals_of zones more).zones k no_sums)) was ∙ ap (λ s. joined_sums (sums_of (λ r. zone_energy r k) runs) s) gained ∙ sums-joined (λ r. zone_energy r k) runs more in
    same_sheet t (totals_of zones both)
    (adds.samples ∙ sym (length-append runs more))
    (adds.hours ∙ sums-joined short_hours runs more)
    (adds.days ∙ sums-joined short_days runs more)
    (adds.events ∙ sums-joined short_events runs more)
    (adds.unserved ∙ sums-joined unserved_energy runs more)
    (fill_by_all (λ zone. sums_of (λ r. zone_energy r zone) both) t.zones zones no_sums (adds.zone_count ∙ long) zone_at)
    (rows_are (count both) (energy both) 1 (2 ^ zones - 1) t.cuts
    (adds.cuts.ascending 1 (1 + (2 ^ zones - 1)) (AreRows-rows_of (count runs) (energy runs) 1 (2 ^ zones - 1)) (AreRows-rows_of (count more) (energy more) 1 (2 ^ zones - 1)))
    (λ m g l. omega (
      arith,
      adds.cuts.hours m,
      hours_at-rows_of (count runs) (energy runs) 1 (2 ^ zones - 1) m g l,
      hours_at-rows_of (count more) (energy more) 1 (2 ^ zones - 1) m g l,
      sum_by-append (λ (r : List HourOutcome). cut_hours r m) runs more,
    ))
    (λ m g l. omega (
      arith,
      adds.cuts.unserved m,
      cut_unserved-rows_of (count runs) (energy runs) 1 (2 ^ zones - 1) m g l (energy-none runs m),
      cut_unserved-rows_of (count more) (energy more) 1 (2 ^ zones - 1) m g l (energy-none more m),
      sum_by-append (λ (r : List HourOutcome). cut_energy r m) runs more,
    )))

joined-are : (sums more new : Sums) (n m k : ℕ) → AreSums sums n → AreSums more m → new ≡ joined_sums sums more → k ≡ n + m → AreSums new k
joined-are sums more new n m k are more_are e f = rw (e, f) (AreSums-joined sums more n m are more_are)

pub IsSheet-joined : (old more new : Sheet) → IsSheet old → IsSheet more → old.samples + more.samples ≤ 1000000 → length old.zones ≡ length more.zones → AddsTotals old more new → IsSheet new
IsSheet-joined old more new is more_is few agree adds =
    let zone_is : (z : ℕ) → AreSums (get_or new.zones z no_sums) new.samples = λ z.
    ⊎_elim
    (λ (l : z < length old.zones). joined-are (get_or old.zones z no_sums) (get_or more.zones z no_sums) (get_or new.zones z no_sums) old.samples more.samples new.samples (is.zones z) (more_is.zones z) (adds.zones z l) adds.samples)
    (λ (g : length old.zones ≤ z). rw (get_or_past new.zones z no_sums (omega (arith, adds.zone_count))) (AreSums-no new.samples))
    (cases_lt z (length old.zones)) in
    record {
      samples = omega (arith, adds.samples);
      hours = joined-are old.hours more.hours new.hours old.samples more.samples new.samples is.hours more_is.hours adds.hours adds.samples;
      days = joined-are old.days more.days new.days old.samples more.samples new.samples is.days more_is.days adds.days adds.samples;
      events = joined-are old.events more.events new.events old.samples more.samples new.samples is.events more_is.events adds.events adds.samples;
      unserved = joined-are old.unserved more.unserved new.unserved old.samples more.samples new.samples is.unserved more_is.unserved adds.unserved adds.samples;
      few_zones = omega (arith, is.few_zones, adds.zone_count);
      zones = zone_is;
      rows = rw adds.zone_count (adds.cuts.ascending 1 (2 ^ length old.zones) is.rows (rw (sym agree) at more_is.rows));
      row_hours = λ m. omega (arith, adds.cuts.hours m, is.row_hours m, more_is.row_hours m, adds.samples);
      row_unserved = λ m. omega (arith, adds.cuts.unserved m, is.row_unserved m, more_is.row_unserved m, adds.samples);
    }
