-- How the hours of a run come in.
use Rattle.std.proofs.Common.{◌≡◌, ℕ, zero, suc, ◌+◌, ◌^◌, ◌<◌, ◌≤◌, inl, inr, List, [], ◌∷◌, ◌++◌, length, get_or, refl, ap, sym, ◌∙◌, subst, arith, add-one, length-append}
use Rattle.std.specs.Prelude.{map, sum, sum_by}
use Rattle.std.specs.List.{range_with_len}
use Rattle.std.proofs.lemmas.Bool.{cases_eq}
use Rattle.std.proofs.lemmas.List.{get_or_append_left}
use Rattle.std.proofs.Math.Seq.{get_or-append_seam}
use Rattle.std.proofs.lemmas.List.Elements.{All-get_or}
use Rattle.std.proofs.lemmas.List.FromFn.{fill_by_all, length-map-range_with_len, get_or-map-range_with_len, sum_by-map-range_with_len_more}
use Rattle.ra_base.specs.declared.limits.TheConstants.{MOST_POOLED_MW}
use Rattle.system_model.specs.System.{SystemParts, IsValid, IsHourAmong, zone_count, hour_count, hour_at, hourly_load, no_hour}
use Rattle.outage_chronology.specs.Outages.{is_up}
use Rattle.storage_state.specs.Holdings.{start_energies, carried_energies}
use Rattle.zone_network.specs.Sums.{NumberSet}
use Rattle.zone_network.specs.Network.{ShapeParts, load_at}
use Rattle.sample_totals.specs.declared.outcomes.HourOutcome.{HourOutcome}
use Rattle.sample_totals.specs.Results.{Tally, no_outcome, tally_of, figures_of, zone_energy}
use Rattle.cut_certificate.specs.Chain.{all_unserved}
use Rattle.cut_certificate.specs.Least.{IsLeastUnserved}
use Rattle.sample_run.specs.HourNetwork.{network_of}
use Rattle.sample_run.specs.Run.{IsHour, IsRun, IsLeast, HasFigures, energies_before, outcome_at}
use Rattle.sample_run.specs.Moments.{Moment, up_in}
use Rattle.sample_run.proofs.HoursLemmas.{network-shape}
use Rattle.sample_run.proofs.RunLaws.{run-only}

-- a sum of larger terms is larger
sum-range : (f g : ℕ → ℕ) (n : ℕ) → ((k : ℕ) → k < n → f k ≤ g k) → sum_by (λ x. x) (map f (range_with_len 0 n)) ≤ sum_by (λ x. x) (map g (range_with_len 0 n))
sum-range f g zero h = omega arith
sum-range f g (suc n) h =
    let e : n + 1 ≡ suc n = omega arith in
    let more_f = rw e at (sum_by-map-range_with_len_more (λ (x : ℕ). x) f 0 n n (omega arith)) in
    let more_g = rw e at (sum_by-map-range_with_len_more (λ (x : ℕ). x) g 0 n n (omega arith)) in
    omega (arith, more_f, more_g, sum-range f g n (λ k below. h k (omega arith)), h n (omega arith))

sum-lists : (xs ys : List ℕ) (n : ℕ) → length xs ≡ n → length ys ≡ n → ((k : ℕ) → k < n → get_or xs k 0 ≤ get_or ys k 0) → sum xs ≤ sum ys
sum-lists xs ys n len_x len_y h =
    omega (
      arith,
      ap sum (fill_by_all (λ k. get_or xs k 0) xs n 0 len_x (λ k below. refl)),
      ap sum (fill_by_all (λ k. get_or ys k 0) ys n 0 len_y (λ k below. refl)),
      sum-range (λ k. get_or xs k 0) (λ k. get_or ys k 0) n h,
    )

-- no more load is unserved than the zones ask
load-of : (system : SystemParts) (up : NumberSet) (energies : List ℕ) (hour z : ℕ) → z < zone_count system → load_at (network_of system up energies hour) z ≡ hourly_load system hour z
unfolding network_of
load-of system up energies hour z below = get_or-map-range_with_len (hourly_load system hour) 0 (zone_count system) z z 0 below (omega arith)

pub hour-small : (system : SystemParts) (up : NumberSet) (energies : List ℕ) (hour : ℕ) (outcome : HourOutcome)
    → IsValid system
    → hour < hour_count system
    → IsHour system up energies hour outcome
    → sum outcome.unserved ≤ MOST_POOLED_MW
hour-small system up energies hour outcome valid early is =
    let among : IsHourAmong (zone_count system) (hour_at system hour) =
    All-get_or (IsHourAmong (zone_count system)) system.hours hour no_hour early valid.within.hours.each in
    let zones : (network_of system up energies hour).shape.zones ≡ zone_count system =
    ap (λ (s : ShapeParts). s.zones) (network-shape system up energies hour) in
    let all : sum outcome.unserved ≤ sum (hour_at system hour).load =
    sum-lists outcome.unserved (hour_at system hour).load (zone_count system) is.zones among.load_by_zone
    (λ z below. omega (arith, is.best.2.unserved z (omega (arith, zones)), load-of system up energies hour z below)) in
    omega (arith, all, among.load)

-- what a tally has room for, and how far it has come
pub tally-counted : (room zones : ℕ) (run : List HourOutcome) → (tally_of room zones run).counted ≡ length run
unfolding tally_of
tally-counted room zones run = refl

pub tally-room : (room zones : ℕ) (run : List HourOutcome) → (tally_of room zones run).room ≡ room
unfolding tally_of
tally-room room zones run = refl

pub tally-zones : (room zones : ℕ) (run : List HourOutcome) → length (tally_of room zones run).figures.zones ≡ zones
unfolding tally_of figures_of
tally-zones room zones run = length-map-range_with_len (zone_energy run) 0 zones

pub tally-figures : (room zones : ℕ) (run : List HourOutcome) → (tally_of room zones run).figures ≡ figures_of zones run
unfolding tally_of
tally-figures room zones run = refl

-- an hour of the system, seed and sample
pub record Stands (system : SystemParts) (seed sample hour : ℕ) (moment : Moment) : Type 0 where
  pub system_is : moment.system ≡ system
  pub seed_is : moment.seed ≡ seed
  pub sample_is : moment.sample ≡ sample
  pub hour_is : moment.hour ≡ hour

-- no feasible dispatch of an hour leaves less load unserved
abbrev pub Leaves : SystemParts → ℕ → ℕ → ℕ → List ℕ → HourOutcome → Type 0
Leaves system seed sample h energies o =
    let n = network_of system (is_up system seed sample h) energies h in
    IsLeastUnserved n (all_unserved n o)

-- what a list of outcomes is after so many hours
pub record IsPart (system : SystemParts) (seed sample : ℕ) (run : List HourOutcome) (count : ℕ) : Type 0 where
  pub size : length run ≡ count
  pub each : (h : ℕ) → h < count → IsHour system (is_up system seed sample h) (energies_before system run h) h (outcome_at run h)
  pub least : (h : ℕ) → h < count → Leaves system seed sample h (energies_before system run h) (outcome_at run h)

-- the first hours of a sample have run
pub record IsAt (system : SystemParts) (seed sample : ℕ) (moment : Moment) (result : Tally) (count : ℕ) : Type 0 where
  pub run : List HourOutcome
  pub part : IsPart system seed sample run count
  pub stands : (hour : ℕ) → hour + 1 ≡ count → Stands system seed sample hour moment
  pub next : carried_energies system moment.energies ≡ energies_before system run count
  pub result_is : result ≡ tally_of (hour_count system) (zone_count system) run

-- an outcome more at the end leaves the energies before the hours up to it
before-more : (system : SystemParts) (run : List HourOutcome) (outcome : HourOutcome) (h : ℕ) → h ≤ length run → energies_before system (run ++ outcome ∷ []) h ≡ energies_before system run h
before-more system run outcome zero below = refl
before-more system run outcome (suc h) below =
    ap (λ (o : HourOutcome). carried_energies system o.energy) (get_or_append_left run (outcome ∷ []) no_outcome h (omega arith))

pub at-end : (run : List HourOutcome) (outcome : HourOutcome) (h : ℕ) → h ≡ length run → outcome_at (run ++ outcome ∷ []) h ≡ outcome
at-end run outcome h e = ap (λ (k : ℕ). outcome_at (run ++ outcome ∷ []) k) e ∙ get_or-append_seam run outcome [] no_outcome

pub part-more : (system : SystemParts) (seed sample : ℕ) (run : List HourOutcome) (outcome : HourOutcome) (count : ℕ)
    → IsPart system seed sample run count
    → IsHour system (is_up system seed sample count) (energies_before system run count) count outcome
    → Leaves system seed sample count (energies_before system run count) outcome
    → IsPart system seed sample (run ++ outcome ∷ []) (count + 1)
part-more system seed sample run outcome count part is least =
    record {
      size = omega (arith, length-append run (outcome ∷ []), part.size);
      each =
          λ h below.
          elim (cases_eq h count) [
            | inl here ↦
                subst (λ (k : ℕ). IsHour system (is_up system seed sample k) (energies_before system (run ++ outcome ∷ []) k) k (outcome_at (run ++ outcome ∷ []) k)) (sym here)
                (subst (λ (o : HourOutcome). IsHour system (is_up system seed sample count) (energies_before system (run ++ outcome ∷ []) count) count o) (sym (at-end run outcome count (sym part.size)))
                (subst (λ (e : List ℕ). IsHour system (is_up system seed sample count) e count outcome) (sym (before-more system run outcome count (omega (arith, part.size)))) is))
            | inr other ↦
                subst (λ (o : HourOutcome). IsHour system (is_up system seed sample h) (energies_before system (run ++ outcome ∷ []) h) h o) (sym (get_or_append_left run (outcome ∷ []) no_outcome h (omega (arith, part.size))))
                (subst (λ (e : List ℕ). IsHour system (is_up system seed sample h) e h (outcome_at run h)) (sym (before-more system run outcome h (omega (arith, part.size)))) (part.each h (omega arith)))
          ];
      least =
          λ h below.
          elim (cases_eq h count) [
            | inl here ↦
                subst (λ (k : ℕ). Leaves system seed sample k (energies_before system (run ++ outcome ∷ []) k) (outcome_at (run ++ outcome ∷ []) k)) (sym here)
                (subst (λ (o : HourOutcome). Leaves system seed sample count (energies_before system (run ++ outcome ∷ []) count) o) (sym (at-end run outcome count (sym part.size)))
                (subst (λ (e : List ℕ). Leaves system seed sample count e outcome) (sym (before-more system run outcome count (omega (arith, part.size)))) least))
            | inr other ↦
                subst (λ (o : HourOutcome). Leaves system seed sample h (energies_before system (run ++ outcome ∷ []) h) o) (sym (get_or_append_left run (outcome ∷ []) no_outcome h (omega (arith, part.size))))
                (subst (λ (e : List ℕ). Leaves system seed sample h e (outcome_at run h)) (sym (before-more system run outcome h (omega (arith, part.size)))) (part.least h (omega arith)))
          ];
    }

pub part-start : (system : SystemParts) (seed sample : ℕ) → IsPart system seed sample [] 0
part-start system seed sample =
    record { size = refl; each = λ h below. absurd (omega arith); least = λ h below. absurd (omega arith) }

-- what the hours of a sample show is of the system, the seed and the sample
pub hour-shown : (system : SystemParts) (seed sample count : ℕ) (moment : Moment) (energies : List ℕ)
    → Stands system seed sample count moment
    → IsHour moment.system (up_in moment) energies moment.hour moment.outcome
    → IsHour system (is_up system seed sample count) energies count moment.outcome
hour-shown system seed sample count moment energies at is =
    subst (λ (h : ℕ). IsHour system (is_up system seed sample h) energies h moment.outcome) at.hour_is
    (subst (λ (n : ℕ). IsHour system (is_up system seed n moment.hour) energies moment.hour moment.outcome) at.sample_is
    (subst (λ (s : ℕ). IsHour system (is_up system s moment.sample moment.hour) energies moment.hour moment.outcome) at.seed_is
    (subst (λ (s : SystemParts). IsHour s (is_up s moment.seed moment.sample moment.hour) energies moment.hour moment.outcome) at.system_is is)))

pub least-shown : (system : SystemParts) (seed sample count : ℕ) (moment : Moment) (energies : List ℕ)
    → Stands system seed sample count moment
    → Leaves moment.system moment.seed moment.sample moment.hour energies moment.outcome
    → Leaves system seed sample count energies moment.outcome
least-shown system seed sample count moment energies at is =
    subst (λ (h : ℕ). Leaves system seed sample h energies moment.outcome) at.hour_is
    (subst (λ (n : ℕ). Leaves system seed n moment.hour energies moment.outcome) at.sample_is
    (subst (λ (s : ℕ). Leaves system s moment.sample moment.hour energies moment.outcome) at.seed_is
    (subst (λ (s : SystemParts). Leaves s moment.seed moment.sample moment.hour energies moment.outcome) at.system_is is)))

-- one hour more, whose energies before it are those that the hours so far leave
at-more : (system : SystemParts) (seed sample count : ℕ) (run : List HourOutcome) (moment : Moment) (before : List ℕ) (result result' : Tally)
    → IsPart system seed sample run count
    → Stands system seed sample count moment
    → before ≡ energies_before system run count
    → IsHour moment.system (up_in moment) before moment.hour moment.outcome
    → Leaves moment.system moment.seed moment.sample moment.hour before moment.outcome
    → moment.energies ≡ moment.outcome.energy
    → result ≡ tally_of (hour_count system) (zone_count system) run
    → ((r : List HourOutcome) → result ≡ tally_of result.room (length result.figures.zones) r → result' ≡ tally_of result.room (length result.figures.zones) (r ++ moment.outcome ∷ []))
    → IsAt system seed sample moment result' (count + 1)
at-more system seed sample count run moment before result result' part at same is least held result_is adds =
    let room : result.room ≡ hour_count system = ap (λ (t : Tally). t.room) result_is ∙ tally-room (hour_count system) (zone_count system) run in
    let zones : length result.figures.zones ≡ zone_count system =
    ap (λ (t : Tally). length t.figures.zones) result_is ∙ tally-zones (hour_count system) (zone_count system) run in
    record {
      run = run ++ moment.outcome ∷ [];
      part =
          part-more system seed sample run moment.outcome count part
          (subst (λ (e : List ℕ). IsHour system (is_up system seed sample count) e count moment.outcome) same (hour-shown system seed sample count moment before at is))
          (subst (λ (e : List ℕ). Leaves system seed sample count e moment.outcome) same (least-shown system seed sample count moment before at least));
      stands = λ hour e. subst (λ (h : ℕ). Stands system seed sample h moment) (omega arith) at;
      next =
          ap (carried_energies system) held
          ∙ ap (λ (o : HourOutcome). carried_energies system o.energy) (sym (at-end run moment.outcome count (sym part.size)))
          ∙ ap (energies_before system (run ++ moment.outcome ∷ [])) (sym (add-one count));
      result_is =
          adds run (result_is ∙ ap (λ (r : ℕ). tally_of r (zone_count system) run) (sym room) ∙ ap (λ (z : ℕ). tally_of result.room z run) (sym zones))
          ∙ ap (λ (r : ℕ). tally_of r (length result.figures.zones) (run ++ moment.outcome ∷ [])) room
          ∙ ap (λ (z : ℕ). tally_of (hour_count system) z (run ++ moment.outcome ∷ [])) zones;
    }

-- where the first hour of a sample stands, and where the one after an hour does
pub stands-first : (system : SystemParts) (seed sample : ℕ) (old moment : Moment)
    → old.system ≡ system
    → old.seed ≡ seed
    → moment ≡ record old { sample = sample; hour = 0; energies = moment.outcome.energy; outcome = moment.outcome }
    → Stands system seed sample 0 moment
stands-first system seed sample old moment sys_is seed_is at =
    record {
      system_is = ap (λ (m : Moment). m.system) at ∙ sys_is;
      seed_is = ap (λ (m : Moment). m.seed) at ∙ seed_is;
      sample_is = ap (λ (m : Moment). m.sample) at;
      hour_is = ap (λ (m : Moment). m.hour) at;
    }

pub stands-next : (system : SystemParts) (seed sample hour : ℕ) (old moment : Moment)
    → Stands system seed sample hour old
    → moment ≡ record old { hour = old.hour + 1; energies = moment.outcome.energy; outcome = moment.outcome }
    → Stands system seed sample (suc hour) moment
stands-next system seed sample hour old moment stood at =
    record {
      system_is = ap (λ (m : Moment). m.system) at ∙ stood.system_is;
      seed_is = ap (λ (m : Moment). m.seed) at ∙ stood.seed_is;
      sample_is = ap (λ (m : Moment). m.sample) at ∙ stood.sample_is;
      hour_is = ap (λ (m : Moment). m.hour) at ∙ ap (λ (h : ℕ). h + 1) stood.hour_is ∙ add-one hour;
    }

-- the first hour
pub at-first : (system : SystemParts) (seed sample : ℕ) (old moment : Moment) (result result' : Tally)
    → old.system ≡ system
    → old.seed ≡ seed
    → moment ≡ record old { sample = sample; hour = 0; energies = moment.outcome.energy; outcome = moment.outcome }
    → IsHour moment.system (up_in moment) (start_energies moment.system) 0 moment.outcome
    → (let n = network_of moment.system (up_in moment) (start_energies moment.system) 0 in IsLeastUnserved n (all_unserved n moment.outcome))
    → result ≡ tally_of (hour_count system) (zone_count system) []
    → ((r : List HourOutcome) → result ≡ tally_of result.room (length result.figures.zones) r → result' ≡ tally_of result.room (length result.figures.zones) (r ++ moment.outcome ∷ []))
    → IsAt system seed sample moment result' 1
at-first system seed sample old moment result result' sys_is seed_is at is least result_is adds =
    let hour_is : 0 ≡ moment.hour = sym (ap (λ (m : Moment). m.hour) at) in
    let one : 0 + 1 ≡ 1 = omega arith in
    subst (IsAt system seed sample moment result') one
    (at-more system seed sample 0 [] moment (start_energies moment.system) result result'
    (part-start system seed sample)
    (stands-first system seed sample old moment sys_is seed_is at)
    (ap start_energies (ap (λ (m : Moment). m.system) at ∙ sys_is))
    (subst (λ (h : ℕ). IsHour moment.system (up_in moment) (start_energies moment.system) h moment.outcome) hour_is is)
    (subst (λ (h : ℕ). IsLeastUnserved (network_of moment.system (up_in moment) (start_energies moment.system) h) (all_unserved (network_of moment.system (up_in moment) (start_energies moment.system) h) moment.outcome)) hour_is least)
    (ap (λ (m : Moment). m.energies) at) result_is adds)

-- the next hour
pub at-next : (system : SystemParts) (seed sample count : ℕ) (old moment : Moment) (result result' : Tally)
    → 0 < count
    → IsAt system seed sample old result count
    → moment ≡ record old { hour = old.hour + 1; energies = moment.outcome.energy; outcome = moment.outcome }
    → IsHour moment.system (up_in moment) (carried_energies old.system old.energies) moment.hour moment.outcome
    → (let n = network_of moment.system (up_in moment) (carried_energies old.system old.energies) moment.hour in IsLeastUnserved n (all_unserved n moment.outcome))
    → ((r : List HourOutcome) → result ≡ tally_of result.room (length result.figures.zones) r → result' ≡ tally_of result.room (length result.figures.zones) (r ++ moment.outcome ∷ []))
    → IsAt system seed sample moment result' (count + 1)
at-next system seed sample zero old moment result result' some was at is least adds = absurd (omega arith)
at-next system seed sample (suc hour) old moment result result' some was at is least adds =
    let stood = was.stands hour (omega arith) in
    at-more system seed sample (suc hour) was.run moment (carried_energies old.system old.energies) result result' was.part
    (stands-next system seed sample hour old moment stood at)
    (ap (λ (s : SystemParts). carried_energies s old.energies) stood.system_is ∙ was.next)
    is least (ap (λ (m : Moment). m.energies) at) was.result_is adds

-- the hours that ran are all
pub at-last : (system : SystemParts) (seed sample count : ℕ) (moment : Moment) (result : Tally)
    → count ≡ hour_count system
    → IsAt system seed sample moment result count
    → HasFigures system seed sample result.figures
at-last system seed sample count moment result all at =
    let part = subst (IsPart system seed sample at.run) all at.part in (
      at.run,
      run-only system seed sample at.run (record { hours = part.size; each = part.each }),
      ap (λ (t : Tally). t.figures) at.result_is ∙ tally-figures (hour_count system) (zone_count system) at.run,
    )

pub least-last : (system : SystemParts) (seed sample count : ℕ) (moment : Moment) (result : Tally)
    → count ≡ hour_count system
    → IsAt system seed sample moment result count
    → (run : List HourOutcome)
    → IsRun system seed sample run
    → IsLeast system seed sample run
least-last system seed sample count moment result all at run is =
    let part = subst (IsPart system seed sample at.run) all at.part in
    let only = run-only system seed sample at.run (record { hours = part.size; each = part.each }) in
    subst (IsLeast system seed sample) (sym (only.only run is)) (record { each = part.least })

-- what the calls of an hour need
pub at-counted : (system : SystemParts) (seed sample count : ℕ) (moment : Moment) (result : Tally) → IsAt system seed sample moment result count → result.counted ≡ count
at-counted system seed sample count moment result at =
    ap (λ (t : Tally). t.counted) at.result_is ∙ tally-counted (hour_count system) (zone_count system) at.run ∙ at.part.size

pub at-room : (system : SystemParts) (seed sample count : ℕ) (moment : Moment) (result : Tally) → IsAt system seed sample moment result count → result.room ≡ hour_count system
at-room system seed sample count moment result at =
    ap (λ (t : Tally). t.room) at.result_is ∙ tally-room (hour_count system) (zone_count system) at.run

pub at-zones : (system : SystemParts) (seed sample count : ℕ) (moment : Moment) (result : Tally) → IsAt system seed sample moment result count → length result.figures.zones ≡ zone_count system
at-zones system seed sample count moment result at =
    ap (λ (t : Tally). length t.figures.zones) at.result_is ∙ tally-zones (hour_count system) (zone_count system) at.run

-- what `add_hour` asks of an outcome and a result
pub record FitsIn (outcome : HourOutcome) (result : Tally) : Type 0 where
  pub next : outcome.hour ≡ result.counted
  pub room : outcome.hour < result.room
  pub zones : length outcome.unserved ≡ length result.figures.zones
  pub cut : outcome.cut < 2 ^ length result.figures.zones
  pub small : sum outcome.unserved ≤ MOST_POOLED_MW

pub fits-in : (system : SystemParts) (up : NumberSet) (energies : List ℕ) (hour : ℕ) (read outcome : HourOutcome) (result : Tally)
    → IsValid system
    → hour < hour_count system
    → IsHour system up energies hour outcome
    → read ≡ outcome
    → result.counted ≡ hour
    → result.room ≡ hour_count system
    → length result.figures.zones ≡ zone_count system
    → FitsIn read result
fits-in system up energies hour read outcome result valid early is same counted room zones =
    subst (λ (o : HourOutcome). FitsIn o result) (sym same)
    (record {
      next = is.number ∙ sym counted;
      room = omega (arith, is.number, room);
      zones = is.zones ∙ sym zones;
      cut =
          subst (λ (z : ℕ). outcome.cut < 2 ^ z) (ap (λ (s : ShapeParts). s.zones) (network-shape system up energies hour) ∙ sym zones) is.cut.among;
      small = hour-small system up energies hour outcome valid early is;
    })
