use Rattle.std.proofs.Common.{◌≡◌, ℕ, zero, suc, ◌+◌, ◌-◌, ◌*◌, ◌/◌, ◌%◌, ◌^◌, ◌<◌, ◌≤◌, Bool, true, false, not, ◌&&◌, cond, eqb, List, [], ◌∷◌, ◌++◌, length, get_or, replicate, Option, Some, None, refl, sym, ap, ◌∙◌, arith, subst, ⊎_elim}
use Rattle.std.specs.Prelude.{map, sum}
use Rattle.std.specs.List.{range_with_len}
use Rattle.std.proofs.lemmas.List.{get_or_append_left, get_or_past, length-append, length-replicate}
use Rattle.std.proofs.Math.Seq.{get_or-append_seam}
use Rattle.std.proofs.lemmas.List.Sums.{sum_by_push, sum_by-cons, get_or-le-sum_by}
use Rattle.std.proofs.lemmas.List.FromFn.{fill_by_all, get_or-map-range_with_len, length-map-range_with_len}
use Rattle.std.proofs.lemmas.Bool.{cases_Bool, cases_eq, cases_lt, eq-eqb, ne_eqb, lt-ltb, le-ltb, cond-true, cond-false}
use Rattle.ra_base.specs.declared.limits.TheConstants.{MOST_POOLED_MW}
use Rattle.sample_totals.specs.declared.outcomes.HourOutcome.{HourOutcome}
use Rattle.sample_totals.specs.declared.cut_rows.CutRow.{CutRow}
use Rattle.sample_totals.specs.CutRows.{rows_of, hour_rows, AddsRows, masks}
use Rattle.sample_totals.proofs.CutRowsLemmas.{rows_are, hours_at-none, cut_unserved-none, AreRows-hour, hours_at-hour, cut_unserved-hour, hours_at-hour_le, cut_unserved-hour_le, AreRows-rows_of, hours_at-rows_of, cut_unserved-rows_of}
use Rattle.sample_totals.specs.Results.{no_outcome, is_short, is_short_at, is_short_day, is_short_before, short_hours, short_days, short_events, unserved_energy, zone_energy, cut_hours, cut_energy, figures_of, last_short_below, Tally, tally_of, is_same_day, is_next_hour, IsInRange}
use Rattle.sample_totals.proofs.Counting.{count_to, count_more, count_same, count_changed, any_same, any_none, any_at}

-- ---- single hours, before and after one more
short-old : (run : List HourOutcome) (o : HourOutcome) (h : ℕ) → h < length run → is_short_at (run ++ o ∷ []) h ≡ is_short_at run h
unfolding is_short_at
short-old run o h l = ap is_short (get_or_append_left run (o ∷ []) no_outcome h l)

short-new : (run : List HourOutcome) (o : HourOutcome) → is_short_at (run ++ o ∷ []) (length run) ≡ is_short o
unfolding is_short_at
short-new run o = ap is_short (get_or-append_seam run o [] no_outcome)

short-past : (run : List HourOutcome) (h : ℕ) → length run ≤ h → is_short_at run h ≡ false
unfolding is_short_at
short-past run h l = ap is_short (get_or_past run h no_outcome l)

length-more : (run : List HourOutcome) (o : HourOutcome) → length (run ++ o ∷ []) ≡ suc (length run)
length-more run o = omega (arith, length-append run (o ∷ []))

-- an hour that isn't the new one
short-other : (run : List HourOutcome) (o : HourOutcome) (h : ℕ) → (h ≡ length run → ⊥) → is_short_at (run ++ o ∷ []) h ≡ is_short_at run h
short-other run o h ne =
    ⊎_elim
    (λ (l : h < length run). short-old run o h l)
    (λ (g : length run ≤ h). let far : length (run ++ o ∷ []) ≤ h = omega (arith, length-more run o, ne) in short-past (run ++ o ∷ []) h far ∙ sym (short-past run h g))
    (cases_lt h (length run))

-- ---- days
day-same : (run run' : List HourOutcome) (day : ℕ) → ((h : ℕ) → h < 24 → is_short_at run' (24 * day + h) ≡ is_short_at run (24 * day + h)) → is_short_day run' day ≡ is_short_day run day
unfolding is_short_day
day-same run run' day h = any_same (λ hour. is_short_at run' (24 * day + hour)) (λ hour. is_short_at run (24 * day + hour)) 24 h

day-none : (run : List HourOutcome) (day : ℕ) → ((h : ℕ) → h < 24 → is_short_at run (24 * day + h) ≡ false) → is_short_day run day ≡ false
unfolding is_short_day
day-none run day h = any_none (λ hour. is_short_at run (24 * day + hour)) 24 h

day-at : (run : List HourOutcome) (day h : ℕ) → h < 24 → is_short_at run (24 * day + h) ≡ true → is_short_day run day ≡ true
unfolding is_short_day
day-at run day h l holds = any_at (λ hour. is_short_at run (24 * day + hour)) 24 h l holds

-- the day of an hour that falls short
day-of : (run : List HourOutcome) (h : ℕ) → is_short_at run h ≡ true → is_short_day run (h / 24) ≡ true
day-of run h holds =
    let e : 24 * (h / 24) + h % 24 ≡ h = omega arith in
    day-at run (h / 24) (h % 24) (omega arith) (rw e holds)

-- ---- the last hour that fell short
pub data Last (run : List HourOutcome) : ℕ → Option ℕ → Type 0 where
  never : (n : ℕ) → ((k : ℕ) → k < n → is_short_at run k ≡ false) → Last run n None
  at : (n l : ℕ) → l < n → is_short_at run l ≡ true → ((k : ℕ) → l < k → k < n → is_short_at run k ≡ false) → Last run n (Some l)

pub last-is : (run : List HourOutcome) (n : ℕ) → Last run n (last_short_below run n)
unfolding last_short_below
last-is run zero = never zero (λ k l. absurd (omega arith))
last-is run (suc n) =
    ⊎_elim
    (λ (holds : is_short_at run n ≡ true). rw holds (at (suc n) n (omega arith) holds (λ k g l. absurd (omega arith))))
    (λ (fails : is_short_at run n ≡ false). rw fails (go (last_short_below run n) fails (last-is run n)))
    (cases_Bool (is_short_at run n))
  where
    go : (o : Option ℕ) → is_short_at run n ≡ false → Last run n o → Last run (suc n) o
    go None fails (never n' all) = never (suc n) (λ k l. ⊎_elim (λ (e : k ≡ n). rw e fails) (λ (ne : k ≡ n → ⊥). all k (omega (arith, ne))) (cases_eq k n))
    go (Some l) fails (at n' l' below holds all) = at (suc n) l (omega arith) holds (λ k g b. ⊎_elim (λ (e : k ≡ n). rw e fails) (λ (ne : k ≡ n → ⊥). all k g (omega (arith, ne))) (cases_eq k n))

pub same_day-is : (run : List HourOutcome) (n : ℕ) (last : Option ℕ) → length run ≤ n → Last run n last → is_short_day run (n / 24) ≡ is_same_day last n
same_day-is run n None end (never n' all) =
    day-none run (n / 24) (λ h l. ⊎_elim
    (λ (below : 24 * (n / 24) + h < n). all (24 * (n / 24) + h) below)
    (λ (above : n ≤ 24 * (n / 24) + h). short-past run _ (omega arith))
    (cases_lt (24 * (n / 24) + h) n))
same_day-is run n (Some l) end (at n' l' below holds all) =
    ⊎_elim
    (λ (same : l / 24 ≡ n / 24).
    let there : is_short_day run (n / 24) ≡ true = rw same at (day-of run l holds) in
    there ∙ sym (eq-eqb (l / 24) (n / 24) same))
    (λ (other : l / 24 ≡ n / 24 → ⊥).
    day-none run (n / 24) (λ h r. ⊎_elim
    (λ (b : 24 * (n / 24) + h < n). all (24 * (n / 24) + h) (omega (arith, other)) b)
    (λ (above : n ≤ 24 * (n / 24) + h). short-past run _ (omega arith))
    (cases_lt (24 * (n / 24) + h) n))
    ∙ sym (ne_eqb (l / 24) (n / 24) other))
    (cases_eq (l / 24) (n / 24))

pub next_hour-is : (run : List HourOutcome) (n : ℕ) (last : Option ℕ) → Last run n last → is_short_before run n ≡ is_next_hour last n
next_hour-is run zero None (never n' all) = refl
next_hour-is run zero (Some l) (at n' l' below holds all) = absurd (omega arith)
next_hour-is run (suc n) None (never n' all) = all n (omega arith)
next_hour-is run (suc n) (Some l) (at n' l' below holds all) =
    ⊎_elim
    (λ (here : l ≡ n). let e : l + 1 ≡ suc n = omega arith in (rw here at holds) ∙ sym (eq-eqb (l + 1) (suc n) e))
    (λ (there : l ≡ n → ⊥). all n (omega (arith, there)) (omega arith) ∙ sym (ne_eqb (l + 1) (suc n) (λ e. there (omega arith))))
    (cases_eq l n)

-- ---- figures, before and after one more hour
before-same : (run : List HourOutcome) (o : HourOutcome) (h : ℕ) → h ≤ length run → is_short_before (run ++ o ∷ []) h ≡ is_short_before run h
before-same run o zero l = refl
before-same run o (suc h) l = short-old run o h (omega arith)

hours-more : (run : List HourOutcome) (o : HourOutcome) → short_hours (run ++ o ∷ []) ≡ short_hours run + cond (is_short o) 1 0
unfolding short_hours
hours-more run o = sum_by_push (λ (p : HourOutcome). cond (is_short p) 1 0) run o

energy-more : (run : List HourOutcome) (o : HourOutcome) → unserved_energy (run ++ o ∷ []) ≡ unserved_energy run + sum o.unserved
unfolding unserved_energy
energy-more run o = sum_by_push (λ (p : HourOutcome). sum p.unserved) run o

zone-more : (run : List HourOutcome) (o : HourOutcome) (z : ℕ) → zone_energy (run ++ o ∷ []) z ≡ zone_energy run z + get_or o.unserved z 0
unfolding zone_energy
zone-more run o z = sum_by_push (λ (p : HourOutcome). get_or p.unserved z 0) run o

cut_hours-more : (run : List HourOutcome) (o : HourOutcome) (m : ℕ) → cut_hours (run ++ o ∷ []) m ≡ cut_hours run m + cond (eqb o.cut m) 1 0
unfolding cut_hours
cut_hours-more run o m = sum_by_push (λ (p : HourOutcome). cond (eqb p.cut m) 1 0) run o

cut_energy-more : (run : List HourOutcome) (o : HourOutcome) (m : ℕ) → cut_energy (run ++ o ∷ []) m ≡ cut_energy run m + cond (eqb o.cut m) (sum o.unserved) 0
unfolding cut_energy
cut_energy-more run o m = sum_by_push (λ (p : HourOutcome). cond (eqb p.cut m) (sum p.unserved) 0) run o

events-more : (run : List HourOutcome) (o : HourOutcome) → short_events (run ++ o ∷ []) ≡ short_events run + cond (is_short o && not (is_short_before run (length run))) 1 0
unfolding short_events
events-more run o =
    let run' = run ++ o ∷ [] in
    let n = length run in
    let p = λ (h : ℕ). is_short_at run h && not (is_short_before run h) in
    let p' = λ (h : ℕ). is_short_at run' h && not (is_short_before run' h) in
    let long : count_to p' (length run') ≡ count_to p' (suc n) = ap (λ k. count_to p' k) (length-more run o) in
    let old : count_to p' n ≡ count_to p n = count_same p' p n (λ k l. ap (λ b. b && not (is_short_before run' k)) (short-old run o k l) ∙ ap (λ b. is_short_at run k && not b) (before-same run o k (omega arith))) in
    let last : p' n ≡ (is_short o && not (is_short_before run n)) = ap (λ b. b && not (is_short_before run' n)) (short-new run o) ∙ ap (λ b. is_short o && not b) (before-same run o n (omega arith)) in
    long ∙ count_more p' n ∙ ap (λ k. k + cond (p' n) 1 0) old ∙ ap (λ b. count_to p n + cond b 1 0) last

days-count : (run : List HourOutcome) → count_to (is_short_day run) (suc (length run)) ≡ short_days run
unfolding short_days
days-count run =
    let n = length run in
    let none : is_short_day run n ≡ false = day-none run n (λ h l. short-past run _ (omega arith)) in
    let e : cond {A = ℕ} (is_short_day run n) 1 0 ≡ 0 = rw none refl in
    omega (arith, count_more (is_short_day run) n, e)

days-more_short : (run : List HourOutcome) (o : HourOutcome) → is_short o ≡ true → short_days (run ++ o ∷ []) ≡ short_days run + cond (is_short_day run (length run / 24)) 0 1
unfolding short_days
days-more_short run o falls =
    let run' = run ++ o ∷ [] in
    let n = length run in
    let p = is_short_day run in
    let p' = is_short_day run' in
    let long : count_to p' (length run') ≡ count_to p' (suc n) = ap (λ k. count_to p' k) (length-more run o) in
    let others : (k : ℕ) → (k ≡ n / 24 → ⊥) → p' k ≡ p k = λ k ne. day-same run run' k (λ h l. short-other run o (24 * k + h) (λ e. ne (omega arith))) in
    let mine : p' (n / 24) ≡ true = day-of run' n (short-new run o ∙ falls) in
    long ∙ count_changed p' p (n / 24) (suc n) (omega arith) others mine ∙ ap (λ k. k + cond (p (n / 24)) 0 1) (days-count run)

days-more_quiet : (run : List HourOutcome) (o : HourOutcome) → is_short o ≡ false → short_days (run ++ o ∷ []) ≡ short_days run
unfolding short_days
days-more_quiet run o quiet =
    let run' = run ++ o ∷ [] in
    let n = length run in
    let p = is_short_day run in
    let p' = is_short_day run' in
    let long : count_to p' (length run') ≡ count_to p' (suc n) = ap (λ k. count_to p' k) (length-more run o) in
    let every : (h : ℕ) → is_short_at run' h ≡ is_short_at run h = λ h. ⊎_elim
    (λ (e : h ≡ n). rw e (short-new run o ∙ quiet ∙ sym (short-past run n (omega arith))))
    (λ (ne : h ≡ n → ⊥). short-other run o h ne)
    (cases_eq h n) in
    long ∙ count_same p' p (suc n) (λ k l. day-same run run' k (λ h l. every (24 * k + h))) ∙ days-count run

last-more : (run : List HourOutcome) (o : HourOutcome) (n : ℕ) → n ≤ length run → last_short_below (run ++ o ∷ []) n ≡ last_short_below run n
unfolding last_short_below
last-more run o zero l = refl
last-more run o (suc n) l =
    let rest = last-more run o n (omega arith) in
    ap (λ b. cond b (Some n) (last_short_below (run ++ o ∷ []) n)) (short-old run o n (omega arith)) ∙ ap (λ r. cond (is_short_at run n) (Some n) r) rest

last-new : (run : List HourOutcome) (o : HourOutcome) → last_short_below (run ++ o ∷ []) (length (run ++ o ∷ [])) ≡ cond (is_short o) (Some (length run)) (last_short_below run (length run))
unfolding last_short_below
last-new run o =
    let run' = run ++ o ∷ [] in
    ap (λ k. last_short_below run' k) (length-more run o)
    ∙ ap (λ b. cond b (Some (length run)) (last_short_below run' (length run))) (short-new run o)
    ∙ ap (λ r. cond (is_short o) (Some (length run)) r) (last-more run o (length run) (omega arith))

-- a mask without hours has no energy
pub cut_energy-none : (run : List HourOutcome) (m : ℕ) → cut_hours run m ≡ 0 → cut_energy run m ≡ 0
unfolding cut_hours cut_energy
cut_energy-none [] m h = refl
cut_energy-none (o ∷ run) m h =
    let hs = sum_by-cons (λ (p : HourOutcome). cond (eqb p.cut m) 1 0) o run in
    let es = sum_by-cons (λ (p : HourOutcome). cond (eqb p.cut m) (sum p.unserved) 0) o run in
    ⊎_elim
    (λ (is : eqb o.cut m ≡ true). let one : cond {A = ℕ} (eqb o.cut m) 1 0 ≡ 1 = cond-true _ _ _ is in absurd (omega (arith, hs, one)))
    (λ (isnt : eqb o.cut m ≡ false).
    let none : cond {A = ℕ} (eqb o.cut m) 1 0 ≡ 0 = cond-false _ _ _ isnt in
    let nothing : cond (eqb o.cut m) (sum o.unserved) 0 ≡ 0 = cond-false _ _ _ isnt in
    let rest = cut_energy-none run m (omega (arith, hs, none)) in
    omega (arith, es, nothing, rest))
    (cases_Bool (eqb o.cut m))

-- ---- tallies
abbrev pub make : ℕ → ℕ → Option ℕ → ℕ → ℕ → ℕ → ℕ → List ℕ → List CutRow → Tally
make room counted last hours days events unserved zones cuts = record {
  room = room;
  counted = counted;
  last = last;
  figures = record { hours = hours; days = days; events = events; unserved = unserved; zones = zones; cuts = cuts };
}

-- tallies with the same parts are one
pub same_tally : (t t' : Tally) → t.room ≡ t'.room → t.counted ≡ t'.counted → t.last ≡ t'.last → t.figures.hours ≡ t'.figures.hours → t.figures.days ≡ t'.figures.days → t.figures.events ≡ t'.figures.events → t.figures.unserved ≡ t'.figures.unserved → t.figures.zones ≡ t'.figures.zones → t.figures.cuts ≡ t'.figures.cuts → t ≡ t'
same_tally t t' a b c d e f g h i =
    ap (λ x. make x t.counted t.last t.figures.hours t.figures.days t.figures.events t.figures.unserved t.figures.zones t.figures.cuts) a
    ∙ ap (λ x. make t'.room x t.last t.figures.hours t.figures.days t.figures.events t.figures.unserved t.figures.zones t.figures.cuts) b
    ∙ ap (λ x. make t'.room t'.counted x t.figures.hours t.figures.days t.figures.events t.figures.unserved t.figures.zones t.figures.cuts) c
    ∙ ap (λ x. make t'.room t'.counted t'.last x t.figures.days t.figures.events t.figures.unserved t.figures.zones t.figures.cuts) d
    ∙ ap (λ x. make t'.room t'.counted t'.last t'.figures.hours x t.figures.events t.figures.unserved t.figures.zones t.figures.cuts) e
    ∙ ap (λ x. make t'.room t'.counted t'.last t'.figures.hours t'.figures.days x t.figures.unserved t.figures.zones t.figures.cuts) f
    ∙ ap (λ x. make t'.room t'.counted t'.last t'.figures.hours t'.figures.days t'.figures.events x t.figures.zones t.figures.cuts) g
    ∙ ap (λ x. make t'.room t'.counted t'.last t'.figures.hours t'.figures.days t'.figures.events t'.figures.unserved x t.figures.cuts) h
    ∙ ap (λ x. make t'.room t'.counted t'.last t'.figures.hours t'.figures.days t'.figures.events t'.figures.unserved t'.figures.zones x) i

-- no hour yet
energies-none : (low zones : ℕ) → map (zone_energy []) (range_with_len low zones) ≡ replicate zones 0
unfolding zone_energy
energies-none low zero = refl
energies-none low (suc zones) = ap (λ r. 0 ∷ r) (energies-none (low + 1) zones)

cuts-none : (zones : ℕ) → [] ≡ rows_of (cut_hours []) (cut_energy []) (masks zones)
unfolding cut_hours cut_energy
cuts-none zones = rows_are (cut_hours []) (cut_energy []) 1 (2 ^ zones - 1) [] tt (λ m g l. hours_at-none m) (λ m g l. cut_unserved-none m)

pub tally-none : (room zones : ℕ) → make room 0 None 0 0 0 0 (replicate zones 0) [] ≡ tally_of room zones []
unfolding tally_of figures_of last_short_below short_hours short_days short_events unserved_energy
tally-none room zones = same_tally (make room 0 None 0 0 0 0 (replicate zones 0) []) (tally_of room zones []) refl refl refl refl refl refl refl (sym (energies-none 0 zones)) (cuts-none zones)

-- a part is within the sum
get_or-le-sum : (values : List ℕ) (z : ℕ) → get_or values z 0 ≤ sum values
get_or-le-sum values z =
    ⊎_elim
    (λ (inside : z < length values). get_or-le-sum_by (λ (x : ℕ). x) values z 0 inside)
    (λ (past : length values ≤ z). let none : get_or values z 0 ≡ 0 = get_or_past values z 0 past in omega (arith, none))
    (cases_lt z (length values))

-- what each zone lacks is added to its energy
pub record ZonesGain (old values new : List ℕ) : Type 0 where
  pub len : length new ≡ length old
  pub each : (z : ℕ) → z < length old → get_or new z 0 ≡ get_or old z 0 + get_or values z 0

pub ZonesGain-none : (old values : List ℕ) → sum values ≡ 0 → ZonesGain old values old
ZonesGain-none old values none = record {
  len = refl;
  each = λ z l. omega (arith, get_or-le-sum values z, none);
}

-- the energies and the rows of a run and one more hour
zones-more : (zones : ℕ) (run : List HourOutcome) (o : HourOutcome) (new : List ℕ) → ZonesGain (figures_of zones run).zones o.unserved new → new ≡ map (zone_energy (run ++ o ∷ [])) (range_with_len 0 zones)
unfolding figures_of
zones-more zones run o new gain =
    let long : length (figures_of zones run).zones ≡ zones = length-map-range_with_len (zone_energy run) 0 zones in
    fill_by_all (zone_energy (run ++ o ∷ [])) new zones 0 (gain.len ∙ long) (λ k l.
    let was = get_or-map-range_with_len (zone_energy run) 0 zones k k 0 l (omega arith) in
    omega (arith, gain.each k (omega (arith, long)), was, zone-more run o k))

cuts-more : (zones : ℕ) (run : List HourOutcome) (o : HourOutcome) (rows : List CutRow) → o.cut < 2 ^ zones → AddsRows (figures_of zones run).cuts (hour_rows o.cut (sum o.unserved)) rows → rows ≡ rows_of (cut_hours (run ++ o ∷ [])) (cut_energy (run ++ o ∷ [])) (masks zones)
unfolding figures_of
cuts-more zones run o rows few adds =
    rows_are (cut_hours (run ++ o ∷ [])) (cut_energy (run ++ o ∷ [])) 1 (2 ^ zones - 1) rows
    (adds.ascending 1 (1 + (2 ^ zones - 1)) (AreRows-rows_of (cut_hours run) (cut_energy run) 1 (2 ^ zones - 1)) (AreRows-hour (1 + (2 ^ zones - 1)) o.cut (sum o.unserved) (omega arith)))
    (λ m g l. omega (arith, adds.hours m, hours_at-hour o.cut (sum o.unserved) m (omega arith), hours_at-rows_of (cut_hours run) (cut_energy run) 1 (2 ^ zones - 1) m g l, cut_hours-more run o m))
    (λ m g l. omega (arith, adds.unserved m, cut_unserved-hour o.cut (sum o.unserved) m (omega arith), cut_unserved-rows_of (cut_hours run) (cut_energy run) 1 (2 ^ zones - 1) m g l (cut_energy-none run m), cut_energy-more run o m))

-- an hour that doesn't fall short
pub tally-quiet : (zones : ℕ) (run : List HourOutcome) (t : Tally) (o : HourOutcome) (rows : List CutRow) → sum o.unserved ≡ 0 → o.cut < 2 ^ zones → AddsRows t.figures.cuts (hour_rows o.cut (sum o.unserved)) rows → t ≡ tally_of t.room zones run
    → make t.room (t.counted + 1) t.last t.figures.hours t.figures.days t.figures.events t.figures.unserved t.figures.zones rows ≡ tally_of t.room zones (run ++ o ∷ [])
unfolding tally_of figures_of
tally-quiet zones run t o rows none few added e =
    let old = tally_of t.room zones run in
    let shape = λ (x : Tally). make t.room (x.counted + 1) x.last x.figures.hours x.figures.days x.figures.events x.figures.unserved x.figures.zones rows in
    let adds : AddsRows old.figures.cuts (hour_rows o.cut (sum o.unserved)) rows = subst (λ (x : Tally). AddsRows x.figures.cuts (hour_rows o.cut (sum o.unserved)) rows) e added in
    let calm : is_short o ≡ false = le-ltb 0 (sum o.unserved) (omega (arith, none)) in
    let no_hour : cond {A = ℕ} (is_short o) 1 0 ≡ 0 = cond-false _ _ _ calm in
    let no_event : cond {A = ℕ} (is_short o && not (is_short_before run (length run))) 1 0 ≡ 0 = ap (λ b. cond (b && not (is_short_before run (length run))) 1 0) calm in
    ap shape e ∙
    same_tally (shape old) (tally_of t.room zones (run ++ o ∷ [])) refl
    (omega (arith, length-more run o))
    (sym (last-new run o ∙ cond-false _ _ _ calm))
    (omega (arith, hours-more run o, no_hour))
    (sym (days-more_quiet run o calm))
    (omega (arith, events-more run o, no_event))
    (omega (arith, energy-more run o, none))
    (zones-more zones run o old.figures.zones (ZonesGain-none old.figures.zones o.unserved none))
    (cuts-more zones run o rows few adds)

not-flips : (b : Bool) → cond {A = ℕ} (not b) 1 0 ≡ cond b 0 1
not-flips true = refl
not-flips false = refl

-- an hour that falls short
pub tally-short : (zones : ℕ) (run : List HourOutcome) (t : Tally) (o : HourOutcome) (energies : List ℕ) (rows : List CutRow) (hour : ℕ) → hour ≡ t.counted → 0 < sum o.unserved → o.cut < 2 ^ zones → ZonesGain t.figures.zones o.unserved energies → AddsRows t.figures.cuts (hour_rows o.cut (sum o.unserved)) rows → t ≡ tally_of t.room zones run
    → make t.room (t.counted + 1) (Some hour) (t.figures.hours + 1) (t.figures.days + cond (not (is_same_day t.last t.counted)) 1 0) (t.figures.events + cond (not (is_next_hour t.last t.counted)) 1 0) (t.figures.unserved + sum o.unserved) energies rows
    ≡ tally_of t.room zones (run ++ o ∷ [])
unfolding tally_of figures_of
tally-short zones run t o energies rows hour hour_is some few gain added e =
    let old = tally_of t.room zones run in
    let n = length run in
    let last = last_short_below run n in
    let shape = λ (x : Tally). make t.room (x.counted + 1) (Some x.counted) (x.figures.hours + 1) (x.figures.days + cond (not (is_same_day x.last x.counted)) 1 0) (x.figures.events + cond (not (is_next_hour x.last x.counted)) 1 0) (x.figures.unserved + sum o.unserved) energies rows in
    let adds : AddsRows old.figures.cuts (hour_rows o.cut (sum o.unserved)) rows = subst (λ (x : Tally). AddsRows x.figures.cuts (hour_rows o.cut (sum o.unserved)) rows) e added in
    let gains : ZonesGain old.figures.zones o.unserved energies = subst (λ (x : Tally). ZonesGain x.figures.zones o.unserved energies) e gain in
    let falls : is_short o ≡ true = lt-ltb 0 (sum o.unserved) some in
    let one : cond {A = ℕ} (is_short o) 1 0 ≡ 1 = cond-true _ _ _ falls in
    let day : is_short_day run (n / 24) ≡ is_same_day last n = same_day-is run n last (omega arith) (last-is run n) in
    let next : is_short_before run n ≡ is_next_hour last n = next_hour-is run n last (last-is run n) in
    let started : cond {A = ℕ} (is_short o && not (is_short_before run n)) 1 0 ≡ cond (not (is_next_hour last n)) 1 0 = ◌∙◌ {b = cond (not (is_short_before run n)) 1 0} (ap (λ b. cond (b && not (is_short_before run n)) 1 0) falls) (ap (λ b. cond (not b) 1 0) next) in
    let new_day : cond {A = ℕ} (is_short_day run (n / 24)) 0 1 ≡ cond (not (is_same_day last n)) 1 0 = ◌∙◌ {b = cond (is_same_day last n) 0 1} (ap (λ b. cond b 0 1) day) (sym (not-flips (is_same_day last n))) in
    rw hour_is (ap shape e) ∙
    same_tally (shape old) (tally_of t.room zones (run ++ o ∷ [])) refl
    (omega (arith, length-more run o))
    (sym (last-new run o ∙ cond-true _ _ _ falls))
    (omega (arith, hours-more run o, one))
    (omega (arith, days-more_short run o falls, new_day))
    (omega (arith, events-more run o, started))
    (omega (arith, energy-more run o))
    (zones-more zones run o energies gains)
    (cuts-more zones run o rows few adds)

-- ---- ranges
zeros-at : (n z : ℕ) → get_or (replicate {A = ℕ} n 0) z 0 ≡ 0
zeros-at zero z = refl
zeros-at (suc n) zero = refl
zeros-at (suc n) (suc z) = zeros-at n z

pub IsInRange-none : (room zones : ℕ) → room ≤ 8784 → 0 < zones → zones ≤ 32 → IsInRange (make room 0 None 0 0 0 0 (replicate zones 0) [])
IsInRange-none room zones few some_zone few_zones = record {
  room = few;
  counted = omega arith;
  hours = omega arith;
  days = omega arith;
  events = omega arith;
  unserved = omega arith;
  some_zone = rw (length-replicate {A = ℕ} zones 0) some_zone;
  few_zones = rw (length-replicate {A = ℕ} zones 0) few_zones;
  zones = λ z. omega (arith, zeros-at zones z);
  few_rows = omega arith;
  rows = tt;
  row_hours = λ m. omega (arith, hours_at-none m);
  row_unserved = λ m. omega (arith, cut_unserved-none m);
}

-- a tally after one more hour, whose parts grow by at most that hour's
pub IsInRange-more : (t : Tally) (last : Option ℕ) (u cut hours days events : ℕ) (values energies : List ℕ) (rows : List CutRow) → IsInRange t → t.counted < t.room → u ≤ MOST_POOLED_MW → sum values ≤ MOST_POOLED_MW → cut < 2 ^ length t.figures.zones → hours ≤ 1 → days ≤ 1 → events ≤ 1 → ZonesGain t.figures.zones values energies → AddsRows t.figures.cuts (hour_rows cut u) rows → length rows ≤ length t.figures.cuts + 1
    → IsInRange (make t.room (t.counted + 1) last (t.figures.hours + hours) (t.figures.days + days) (t.figures.events + events) (t.figures.unserved + u) energies rows)
IsInRange-more t last u cut hours days events values energies rows is l small few_mw in_zones few_hours few_days few_events gain added few =
    record {
      room = is.room;
      counted = omega arith;
      hours = omega (arith, is.hours);
      days = omega (arith, is.days);
      events = omega (arith, is.events);
      unserved = omega (arith, is.unserved);
      some_zone = omega (arith, gain.len, is.some_zone);
      few_zones = omega (arith, gain.len, is.few_zones);
      zones = λ z. ⊎_elim
          (λ (inside : z < length t.figures.zones). omega (arith, gain.each z inside, is.zones z, get_or-le-sum values z))
          (λ (past : length t.figures.zones ≤ z). let none : get_or energies z 0 ≡ 0 = get_or_past energies z 0 (omega (arith, gain.len)) in omega (arith, none))
          (cases_lt z (length t.figures.zones));
      few_rows = omega (arith, is.few_rows);
      rows = rw gain.len (added.ascending 1 (2 ^ length t.figures.zones) is.rows (AreRows-hour (2 ^ length t.figures.zones) cut u in_zones));
      row_hours = λ m. omega (arith, added.hours m, hours_at-hour_le cut u m, is.row_hours m);
      row_unserved = λ m. omega (arith, added.unserved m, cut_unserved-hour_le cut u m, is.row_unserved m);
    }

pub IsInRange-quiet : (t : Tally) (cut : ℕ) (values : List ℕ) (rows : List CutRow) → IsInRange t → t.counted < t.room → sum values ≡ 0 → cut < 2 ^ length t.figures.zones → AddsRows t.figures.cuts (hour_rows cut 0) rows → length rows ≤ length t.figures.cuts + 1
    → IsInRange (make t.room (t.counted + 1) t.last t.figures.hours t.figures.days t.figures.events t.figures.unserved t.figures.zones rows)
IsInRange-quiet t cut values rows is l none in_zones added few =
    let none_is : sum values ≤ MOST_POOLED_MW = omega (arith, none) in
    let zero : (n : ℕ) → n + 0 ≡ n = λ n. omega arith in
    let more = IsInRange-more t t.last 0 cut 0 0 0 values t.figures.zones rows is l (omega arith) none_is in_zones (omega arith) (omega arith) (omega arith) (ZonesGain-none t.figures.zones values none) added few in
    rw (zero t.figures.hours, zero t.figures.days, zero t.figures.events, zero t.figures.unserved) at more
