-- How the hours of a run reach recorders.
use Rattle.std.proofs.Common.{◌≡◌, ℕ, zero, suc, ◌+◌, ◌<◌, List, [], ◌∷◌, ◌++◌, map, refl, ap, sym, ◌∙◌, subst, arith, add-one}
use Rattle.std.proofs.lemmas.List.{flat_map_more, append-nil}
use Rattle.system_model.specs.System.{SystemParts, hour_count}
use Rattle.outage_chronology.specs.Outages.{is_up}
use Rattle.storage_state.specs.Holdings.{start_energies, carried_energies}
use Rattle.sample_totals.specs.declared.outcomes.HourOutcome.{HourOutcome}
use Rattle.sample_totals.specs.Recorders.{Seen, with_line}
use Rattle.cut_certificate.specs.Chain.{all_unserved}
use Rattle.cut_certificate.specs.Least.{IsLeastUnserved}
use Rattle.sample_run.specs.HourNetwork.{network_of}
use Rattle.sample_run.specs.Run.{IsHour, energies_before}
use Rattle.sample_run.specs.Moments.{Moment, up_in}
use Rattle.sample_run.specs.Trace.{AreFirstHours, with_lines, with_line_before, HasLines, HasBroken}
use Rattle.sample_run.proofs.RunLaws.{run-only}
use Rattle.sample_run.proofs.RunSteps.{Stands, IsPart, Leaves, part-start, part-more, hour-shown, least-shown, at-end, stands-first, stands-next}

-- no line, and one line more
lines-none : (seen : Seen) → with_lines [] seen ≡ seen
lines-none seen = ap (λ (t : List ℕ). record seen { text = t }) (append-nil seen.text)

lines-more : (outcomes : List HourOutcome) (outcome : HourOutcome) (seen : Seen) → with_line outcome (with_lines outcomes seen) ≡ with_lines (outcomes ++ outcome ∷ []) seen
lines-more outcomes outcome seen = ap (λ (t : List ℕ). record seen { text = t }) (flat_map_more seen.line seen.text outcomes outcome)

all-none : (all : List Seen) → all ≡ map (with_lines []) all
all-none [] = refl
all-none (seen ∷ all) = ap (λ (s : Seen). s ∷ all) (sym (lines-none seen)) ∙ ap (λ (rest : List Seen). with_lines [] seen ∷ rest) (all-none all)

pub all-more : (outcomes : List HourOutcome) (outcome : HourOutcome) (all : List Seen) → map (with_line outcome) (map (with_lines outcomes) all) ≡ map (with_lines (outcomes ++ outcome ∷ [])) all
all-more outcomes outcome [] = refl
all-more outcomes outcome (seen ∷ all) =
    ap (λ (s : Seen). s ∷ map (with_line outcome) (map (with_lines outcomes) all)) (lines-more outcomes outcome seen)
    ∙ ap (λ (rest : List Seen). with_lines (outcomes ++ outcome ∷ []) seen ∷ rest) (all-more outcomes outcome all)

-- the first hours of a sample have run, and the recorders have their lines
pub record IsTraced (system : SystemParts) (seed sample : ℕ) (moment : Moment) (count : ℕ) (before now : List Seen) : Type 0 where
  pub run : List HourOutcome
  pub part : IsPart system seed sample run count
  pub stands : (hour : ℕ) → hour + 1 ≡ count → Stands system seed sample hour moment
  pub next : carried_energies system moment.energies ≡ energies_before system run count
  pub lines : now ≡ map (with_lines run) before

-- an hour that ran, behind the hours of the recorders' lines
pub record IsNext (system : SystemParts) (seed sample : ℕ) (moment : Moment) (count : ℕ) (before now : List Seen) : Type 0 where
  pub run : List HourOutcome
  pub part : IsPart system seed sample (run ++ moment.outcome ∷ []) (count + 1)
  pub stands : Stands system seed sample count moment
  pub next : carried_energies system moment.energies ≡ energies_before system (run ++ moment.outcome ∷ []) (count + 1)
  pub lines : now ≡ map (with_lines run) before

next-more : (system : SystemParts) (seed sample count : ℕ) (run : List HourOutcome) (moment : Moment) (energies : List ℕ) (before now : List Seen)
    → IsPart system seed sample run count
    → Stands system seed sample count moment
    → energies ≡ energies_before system run count
    → IsHour moment.system (up_in moment) energies moment.hour moment.outcome
    → Leaves moment.system moment.seed moment.sample moment.hour energies moment.outcome
    → moment.energies ≡ moment.outcome.energy
    → now ≡ map (with_lines run) before
    → IsNext system seed sample moment count before now
next-more system seed sample count run moment energies before now part at same is least held lines =
    record {
      run = run;
      part =
          part-more system seed sample run moment.outcome count part
          (subst (λ (e : List ℕ). IsHour system (is_up system seed sample count) e count moment.outcome) same (hour-shown system seed sample count moment energies at is))
          (subst (λ (e : List ℕ). Leaves system seed sample count e moment.outcome) same (least-shown system seed sample count moment energies at least));
      stands = at;
      next =
          ap (carried_energies system) held
          ∙ ap (λ (o : HourOutcome). carried_energies system o.energy) (sym (at-end run moment.outcome count (sym part.size)))
          ∙ ap (energies_before system (run ++ moment.outcome ∷ [])) (sym (add-one count));
      lines = lines;
    }

-- the first hour
pub next-first : (system : SystemParts) (seed sample : ℕ) (old moment : Moment) (before : List Seen)
    → old.system ≡ system
    → old.seed ≡ seed
    → moment ≡ record old { sample = sample; hour = 0; energies = moment.outcome.energy; outcome = moment.outcome }
    → IsHour moment.system (up_in moment) (start_energies moment.system) 0 moment.outcome
    → (let n = network_of moment.system (up_in moment) (start_energies moment.system) 0 in IsLeastUnserved n (all_unserved n moment.outcome))
    → IsNext system seed sample moment 0 before before
next-first system seed sample old moment before sys_is seed_is at is least =
    let hour_is : 0 ≡ moment.hour = sym (ap (λ (m : Moment). m.hour) at) in
    next-more system seed sample 0 [] moment (start_energies moment.system) before before
    (part-start system seed sample)
    (stands-first system seed sample old moment sys_is seed_is at)
    (ap start_energies (ap (λ (m : Moment). m.system) at ∙ sys_is))
    (subst (λ (h : ℕ). IsHour moment.system (up_in moment) (start_energies moment.system) h moment.outcome) hour_is is)
    (subst (λ (h : ℕ). IsLeastUnserved (network_of moment.system (up_in moment) (start_energies moment.system) h) (all_unserved (network_of moment.system (up_in moment) (start_energies moment.system) h) moment.outcome)) hour_is least)
    (ap (λ (m : Moment). m.energies) at) (all-none before)

-- the next hour
pub next-next : (system : SystemParts) (seed sample count : ℕ) (old moment : Moment) (before now : List Seen)
    → 0 < count
    → IsTraced system seed sample old count before now
    → moment ≡ record old { hour = old.hour + 1; energies = moment.outcome.energy; outcome = moment.outcome }
    → IsHour moment.system (up_in moment) (carried_energies old.system old.energies) moment.hour moment.outcome
    → (let n = network_of moment.system (up_in moment) (carried_energies old.system old.energies) moment.hour in IsLeastUnserved n (all_unserved n moment.outcome))
    → IsNext system seed sample moment count before now
next-next system seed sample zero old moment before now some was at is least = absurd (omega arith)
next-next system seed sample (suc hour) old moment before now some was at is least =
    let stood = was.stands hour (omega arith) in
    next-more system seed sample (suc hour) was.run moment (carried_energies old.system old.energies) before now was.part
    (stands-next system seed sample hour old moment stood at)
    (ap (λ (s : SystemParts). carried_energies s old.energies) stood.system_is ∙ was.next)
    is least (ap (λ (m : Moment). m.energies) at) was.lines

-- once the recorders have the hour's lines
pub traced-more : (system : SystemParts) (seed sample count : ℕ) (moment : Moment) (read : HourOutcome) (before now now' : List Seen)
    → IsNext system seed sample moment count before now
    → read ≡ moment.outcome
    → now' ≡ map (with_line read) now
    → IsTraced system seed sample moment (count + 1) before now'
traced-more system seed sample count moment read before now now' is same lines =
    record {
      run = is.run ++ moment.outcome ∷ [];
      part = is.part;
      stands = λ hour e. subst (λ (h : ℕ). Stands system seed sample h moment) (omega arith) is.stands;
      next = is.next;
      lines =
          lines ∙ ap (λ (o : HourOutcome). map (with_line o) now) same ∙ ap (map (with_line moment.outcome)) is.lines
          ∙ all-more is.run moment.outcome before;
    }

-- where a recorder broke off
pub traced-broken : (system : SystemParts) (seed sample count : ℕ) (moment : Moment) (read : HourOutcome) (place hour : ℕ) (before now now' : List Seen)
    → IsNext system seed sample moment count before now
    → read ≡ moment.outcome
    → hour ≡ count
    → now' ≡ with_line_before place read now
    → HasBroken system seed sample place hour before now'
traced-broken system seed sample count moment read place hour before now now' is same at broken = (
  is.run,
  moment.outcome,
  subst (λ (h : ℕ). AreFirstHours system seed sample (h + 1) (is.run ++ moment.outcome ∷ [])) (sym at)
      (record { size = is.part.size; each = is.part.each }),
  broken ∙ ap (λ (o : HourOutcome). with_line_before place o now) same ∙ ap (with_line_before place moment.outcome) is.lines,
)

-- the hours that ran are all
pub traced-last : (system : SystemParts) (seed sample count : ℕ) (moment : Moment) (before now : List Seen)
    → count ≡ hour_count system
    → IsTraced system seed sample moment count before now
    → HasLines system seed sample before now
traced-last system seed sample count moment before now all is =
    let part = subst (IsPart system seed sample is.run) all is.part in (
      is.run,
      run-only system seed sample is.run (record { hours = part.size; each = part.each }),
      record { each = part.least },
      is.lines,
    )
