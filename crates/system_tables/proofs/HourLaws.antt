use Rattle.std.proofs.Common.{◌≡◌, ℕ, ◌+◌, ◌<◌, ◌≤◌, List, [], ◌∷◌, ◌++◌, length, get_or, take, drop, set, sum, map, replicate, All, Option, Result, Ok, Err, refl, sym, ap, ◌∙◌, suc, arith}
use Rattle.std.proofs.Math.Seq.{take-suc-set}
use Rattle.std.proofs.lemmas.List.{at_drop_more, at_drop_all}
use Rattle.std.proofs.lemmas.List.{length-replicate}
use Rattle.std.proofs.lemmas.List.Elements.{All-replicate, All-get_or}
use Rattle.std.proofs.lemmas.List.Folds.{sum_by-replicate}
use Rattle.std.proofs.lemmas.List.FromFn.{map-range_with_len_more, length-map-range_with_len}
use Rattle.std.proofs.lemmas.List.Sums.{sum_by_push}
use Rattle.std.specs.List.{range_with_len}
use Rattle.system_model.specs.System.{HourAmounts, amounts_of, IsHourAmong}
use Rattle.system_tables.specs.declared.columns.FoundColumn.{FoundColumn}
use Rattle.system_tables.specs.declared.faults.Place.{Place}
use Rattle.system_tables.specs.declared.faults.TableFault.{TableFault}
use Rattle.system_tables.specs.declared.faults.ReadError.{ReadError}
use Rattle.system_tables.specs.declared.faults.ReadError.TheVariants.{Table, OutOfMemory}
use Rattle.system_tables.specs.AmountRows.{HeldRows, no_rows}
use Rattle.system_tables.specs.Faults.{◌>>=◌, in_turn}
use Rattle.system_tables.specs.Hours.{HoursAbove, IsHoursRead, IsAmountRow, AreAmountRows, amount_in, next_amount_in}
use Rattle.system_tables.specs.Outcome.{GivesNow}
use Rattle.system_tables.proofs.TurnLaws.{in_turn-err}

pub drop-next : {A : Type 0} (xs : List A) (i : ℕ) (x d : A)
    → i < length xs
    → get_or xs i d ≡ x
    → drop i xs ≡ x ∷ drop (i + 1) xs
drop-next {A} xs i x d below is =
    at_drop_more (λ (ys : List A). ys) xs i d below ∙ ap (λ (y : A). y ∷ drop (i + 1) xs) is

pub drop-past : {A : Type 0} (xs : List A) (i : ℕ) → length xs ≤ i → drop i xs ≡ []
drop-past {A} xs i past = at_drop_all (λ (ys : List A). ys) xs i past

-- a loop over hours ends at the fault of a row
pub hours-stop : (one : HoursAbove → List (List ℕ) → Result HoursAbove TableFault) (start above left : HoursAbove)
    (first all : List (List (List ℕ))) (row : List (List ℕ)) (rows : List (List (List ℕ))) (e : ReadError) (amounts : List (List ℕ))
    → in_turn one above all ≡ in_turn one start first
    → all ≡ row ∷ rows
    → GivesNow {U = Unit {0}} (one above row) (Err e) left
    → IsHoursRead {U = Unit {0}} (in_turn one start first) (Err e) amounts
hours-stop one start above left first all row rows (Table fault) amounts same next h =
    sym same ∙ in_turn-err one above all row rows fault next h
hours-stop one start above left first all row rows OutOfMemory amounts same next h = tt

pub next_amount-ok : (place : Place) (row : List (List ℕ)) (before : List ℕ) (column : Option FoundColumn) (mw : ℕ)
    → amount_in place row column ≡ Ok mw
    → next_amount_in place row before column ≡ Ok (before ++ mw ∷ [])
unfolding next_amount_in
next_amount-ok place row before column mw e =
    ap (λ (r : Result ℕ TableFault). r >>= (λ a. Ok (before ++ a ∷ []))) e

pub next_amount-err : (place : Place) (row : List (List ℕ)) (before : List ℕ) (column : Option FoundColumn) (fault : TableFault)
    → amount_in place row column ≡ Err fault
    → next_amount_in place row before column ≡ Err fault
unfolding next_amount_in
next_amount-err place row before column fault e =
    ap (λ (r : Result ℕ TableFault). r >>= (λ a. Ok (before ++ a ∷ []))) e

pub take-set-more : (amounts new : List ℕ) (i mw : ℕ)
    → new ≡ set amounts i mw
    → i < length amounts
    → take (i + 1) new ≡ take i amounts ++ mw ∷ []
take-set-more amounts new i mw e below =
    let more : i + 1 ≡ suc i = omega arith in
    rw (e, more) (take-suc-set amounts i mw below)

pub sum-set-more : (amounts new : List ℕ) (i mw : ℕ)
    → take (i + 1) new ≡ take i amounts ++ mw ∷ []
    → sum (take (i + 1) new) ≡ sum (take i amounts) + mw
sum-set-more amounts new i mw e = ap sum e ∙ sum_by_push (λ (x : ℕ). x) (take i amounts) mw

sum-zeros : (n : ℕ) → sum (replicate n 0) ≡ 0
sum-zeros n = sum_by-replicate (λ (x : ℕ). x) n 0 ∙ omega arith

-- rows of zeros are within the limit
pub zero_rows : (hours zones : ℕ) (held : HeldRows)
    → held ≡ record (no_rows zones) { rows = replicate hours (replicate zones 0) }
    → AreAmountRows zones held
zero_rows hours zones held is =
    rw is
    record {
      width = refl;
      each =
          All-replicate (IsAmountRow zones) hours (replicate zones 0)
          (record { size = length-replicate zones 0; within = omega (arith, sum-zeros zones) });
    }

-- an hour of two rows
pub hour_among : (zones : ℕ) (loads variables : List (List ℕ)) (hour : ℕ)
    → All (IsAmountRow zones) loads
    → All (IsAmountRow zones) variables
    → hour < length loads
    → hour < length variables
    → IsHourAmong zones (amounts_of (get_or loads hour []) (get_or variables hour []))
hour_among zones loads variables hour l v below among =
    let load : IsAmountRow zones (get_or loads hour []) = All-get_or (IsAmountRow zones) loads hour [] below l in
    let variable : IsAmountRow zones (get_or variables hour []) = All-get_or (IsAmountRow zones) variables hour [] among v in
    record { load_by_zone = load.size; variable_by_zone = variable.size; load = load.within; variable = variable.within }

abbrev pub pushed : List (List ℕ) → List (List ℕ) → ℕ → List HourAmounts
pushed loads variables hours =
    map (λ hour. amounts_of (get_or loads hour []) (get_or variables hour [])) (range_with_len 0 hours)

pub pushed-more : (loads variables : List (List ℕ)) (hour : ℕ)
    → pushed loads variables (hour + 1)
    ≡ pushed loads variables hour ++ amounts_of (get_or loads hour []) (get_or variables hour []) ∷ []
pushed-more loads variables hour =
    map-range_with_len_more (λ h. amounts_of (get_or loads h []) (get_or variables h [])) 0 hour hour (omega arith)

pub pushed-counted : (loads variables : List (List ℕ)) (hours : ℕ) → length (pushed loads variables hours) ≡ hours
pushed-counted loads variables hours =
    length-map-range_with_len (λ h. amounts_of (get_or loads h []) (get_or variables h [])) 0 hours
