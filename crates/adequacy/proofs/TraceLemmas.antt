-- What a trace does to the recorders, over what is seen of them.
use Rattle.std.proofs.Common.{◌≡◌, ℕ, ◌<◌, zero, suc, Bool, true, false, List, [], ◌∷◌, ◌++◌, map, length, Option, Result, Ok, Err, cond, refl, sym, ap, ◌∙◌, subst, take, drop, arith}
use Rattle.std.proofs.lemmas.List.{length-map, take-append-le, take_all}
use Rattle.system_model.specs.System.{SystemParts}
use Rattle.sample_totals.specs.declared.outcomes.HourOutcome.{HourOutcome}
use Rattle.sample_totals.specs.Recorders.{Seen}
use Rattle.sample_run.specs.Trace.{with_lines, with_line_before, place_of, hour_of, is_refusal, HasLines, HasBroken, CountsAt}
use Rattle.sample_run.specs.declared.traces.TraceError.{TraceError}
use Rattle.sample_run.specs.declared.traces.TraceError.TheVariants as stop
use Rattle.adequacy.specs.Traces.{is_chosen, chosen, kept, error_of, texts, untold, AreChosen, HasTraced, IsTraced}
use Rattle.adequacy.specs.declared.traces.TextError.{TextError}
use Rattle.adequacy.specs.declared.traces.TextError.TheVariants.{Refused, OutOfMemory}
use Rattle.adequacy.specs.declared.words.request.TraceTerms.{TraceTerms}

seen-one : {R : Type 0} (see : R → Seen) (b : Bool) (r : R) (rest : List R) (all : List Seen)
    → map see rest ≡ all → map see (cond b (r ∷ rest) rest) ≡ cond b (see r ∷ all) all
seen-one see true r rest all is = ap (λ (t : List Seen). see r ∷ t) is
seen-one see false r rest all is = is

-- what is seen of the recorders that are kept is what is chosen of all that is seen
pub seen_kept : {R : Type 0} (see : R → Seen) (named : Option ℕ) (recorders : List R) → map see (kept see named recorders) ≡ chosen named (map see recorders)
seen_kept see named [] = refl
seen_kept see named (r ∷ rest) =
    seen-one see (is_chosen named (see r).kind) r (kept see named rest) (chosen named (map see rest)) (seen_kept see named rest)

untold-lines : (run : List HourOutcome) (all : List Seen) → map untold (map (with_lines run) all) ≡ map untold all
untold-lines run [] = refl
untold-lines run (seen ∷ rest) = ap (λ (t : List Seen). untold seen ∷ t) (untold-lines run rest)

untold-broken : (place : ℕ) (outcome : HourOutcome) (all : List Seen) → map untold (with_line_before place outcome all) ≡ map untold all
untold-broken zero outcome all = refl
untold-broken (suc place) outcome [] = refl
untold-broken (suc place) outcome (seen ∷ rest) = ap (λ (t : List Seen). untold seen ∷ t) (untold-broken place outcome rest)

-- the recorders that a trace's list keeps are the chosen ones, however many hours their texts have
chosen_left : {R : Type 0} (see : R → Seen) (named : Option ℕ) (before left now : List R)
    → left ≡ kept see named before → map untold (map see now) ≡ map untold (map see left)
    → AreChosen named (map see before) (map see now)
chosen_left see named before left now is told =
    told ∙ ap (λ (all : List _). map untold (map see all)) is ∙ ap (map untold) (seen_kept see named before)

-- a recorder keeps its kind and its lines through all hours, and where one broke off
told_lines : {R : Type 0} (see : R → Seen) (system : SystemParts) (seed sample : ℕ) (before now : List R)
    → HasLines system seed sample (map see before) (map see now) → map untold (map see now) ≡ map untold (map see before)
told_lines see system seed sample before now lines = ap (map untold) lines.3 ∙ untold-lines lines.0 (map see before)

told_broken : {R : Type 0} (see : R → Seen) (system : SystemParts) (seed sample place hour : ℕ) (before now : List R)
    → HasBroken system seed sample place hour (map see before) (map see now) → map untold (map see now) ≡ map untold (map see before)
told_broken see system seed sample place hour before now lines =
    ap (map untold) lines.3 ∙ untold-broken place lines.1 (map (with_lines lines.0) (map see before))
    ∙ untold-lines lines.0 (map see before)

-- a sample's hours have gone through recorders,
pub traced_all : {R : Type 0} (see : R → Seen) (count : R → ℕ) (system : SystemParts) (seed sample : ℕ) (before now : List R)
    → HasLines system seed sample (map see before) (map see now) → map count now ≡ map count before
    → HasTraced see count system seed sample (Ok tt) before now
traced_all see count system seed sample before now lines counts = record { lines = lines; counts = counts }

-- or have broken off
pub traced_part : {R : Type 0} (see : R → Seen) (count : R → ℕ) (system : SystemParts) (seed sample : ℕ) (error : TraceError) (before now : List R)
    → HasBroken system seed sample (place_of error) (hour_of error) (map see before) (map see now)
    → place_of error < length before
    → CountsAt (place_of error) (is_refusal error) (map count before) (map count now)
    → HasTraced see count system seed sample (Err (error_of error)) before now
traced_part see count system seed sample (stop.Refused at hour) before now broken within counts = record {
  told = told_broken see system seed sample at hour before now broken;
  place = at;
  within = within;
  counts = counts;
}
traced_part see count system seed sample (stop.OutOfMemory at hour) before now broken within counts =
    told_broken see system seed sample at hour before now broken

same_size : {R : Type 0} (see : R → Seen) (before now : List R) → map untold (map see now) ≡ map untold (map see before)
    → length now ≡ length before
same_size see before now told =
    sym (length-map now see) ∙ (sym (length-map (map see now) untold) ∙ (ap (λ (all : List Seen). length all) told
    ∙ (length-map (map see before) untold ∙ length-map before see)))

-- a trace leaves as many recorders,
pub traced_size : {R : Type 0} (see : R → Seen) (count : R → ℕ) (system : SystemParts) (seed sample : ℕ) (made : Result (Unit {0}) TextError) (before now : List R)
    → HasTraced see count system seed sample made before now → length now ≡ length before
traced_size see count system seed sample (Ok done) before now traced =
    same_size see before now (told_lines see system seed sample before now traced.lines)
traced_size see count system seed sample (Err Refused) before now traced = same_size see before now traced.told
traced_size see count system seed sample (Err OutOfMemory) before now traced = same_size see before now traced

-- so the list that lent them holds just these
pub written_back : {R : Type 0} (old lent now : List R) (n : ℕ) → length old ≡ n → lent ≡ old → length now ≡ length lent
    → take n (now ++ drop (length now) old) ≡ now
written_back old lent now n size is same =
    let many = ap (λ (all : List _). length all) is in
    take-append-le n now (drop (length now) old) (omega (arith, size, many, same)) ∙ take_all n now (omega (arith, size, many, same))

-- the texts after all hours are those of the trace
pub trace_made : {R : Type 0} (see : R → Seen) (count : R → ℕ) (system : SystemParts) (terms : TraceTerms) (before left now : List R) (bytes : List ℕ)
    → left ≡ kept see terms.recorder before → HasTraced see count system terms.seed terms.sample (Ok tt) left now
    → bytes ≡ texts (map see now) → IsTraced see count system terms (Ok bytes) before now
trace_made see count system terms before left now bytes is traced there = (
  record {
    traced = map see now;
    lines =
        subst (λ (all : List Seen). HasLines system terms.seed terms.sample all (map see now))
        (ap (map see) is ∙ seen_kept see terms.recorder before) traced.lines;
    is = there;
  },
  record {
    are =
        chosen_left see terms.recorder before left now is
        (told_lines see system terms.seed terms.sample left now traced.lines);
    counts = traced.counts ∙ ap (map count) is;
  },
)

-- memory for them wasn't found
pub trace_unmade : {R : Type 0} (see : R → Seen) (count : R → ℕ) (system : SystemParts) (terms : TraceTerms) (before left now : List R)
    → left ≡ kept see terms.recorder before → HasTraced see count system terms.seed terms.sample (Ok tt) left now
    → IsTraced see count system terms (Err OutOfMemory) before now
trace_unmade see count system terms before left now is traced =
    chosen_left see terms.recorder before left now is
    (told_lines see system terms.seed terms.sample left now traced.lines)

-- the hours broke off
pub trace_stopped : {R : Type 0} (see : R → Seen) (count : R → ℕ) (system : SystemParts) (terms : TraceTerms) (error : TextError) (before left now : List R)
    → left ≡ kept see terms.recorder before → HasTraced see count system terms.seed terms.sample (Err error) left now
    → IsTraced see count system terms (Err error) before now
trace_stopped see count system terms Refused before left now is traced = record {
  are = chosen_left see terms.recorder before left now is traced.told;
  place = traced.place;
  within = subst (λ (all : List _). traced.place < length all) is traced.within;
  counts = subst (λ (all : List _). CountsAt traced.place true (map count all) (map count now)) is traced.counts;
}
trace_stopped see count system terms OutOfMemory before left now is traced = chosen_left see terms.recorder before left now is traced
