-- Laws that callers of this crate cite.
use Rattle.std.proofs.Common.{◌≡◌, ℕ, zero, suc, ◌+◌, ◌-◌, ◌*◌, ◌^◌, List, [], ◌∷◌, ◌++◌, length, refl, sym, ap, ◌∙◌, arith}
use Rattle.std.specs.Prelude.{map, sum_by, IsPermutation}
use Rattle.std.specs.List.{range_with_len}
use Rattle.std.proofs.lemmas.List.Sums.{sum_by-cons}
use Rattle.std.proofs.lemmas.List.Sorted.{sum_by-IsPermutation}
use Rattle.std.proofs.lemmas.List.Folds.{fold-map}
use Rattle.std.proofs.lemmas.List.FromFn.{length-map-range_with_len}
use Rattle.sample_totals.specs.declared.outcomes.HourOutcome.{HourOutcome}
use Rattle.sample_totals.specs.CutRows.{rows_of, masks}
use Rattle.sample_totals.specs.Results.{short_hours, short_days, short_events, unserved_energy, zone_energy, cut_hours, cut_energy, figures_of}
use Rattle.sample_totals.specs.Totals.{Sheet, sums_of, totals_of, AddsTotals}
use Rattle.sample_totals.proofs.CutRowsLemmas.{rows_are, AreRows-rows_of, hours_at-rows_of, cut_unserved-rows_of}
use Rattle.sample_totals.proofs.TotalsLemmas.{same_sheet, same_sums, energy-none, totals-joined}

-- a run's figures have as many zones as they were made for
pub law_figure_zones : (zones : ℕ) (run : List HourOutcome) → length (figures_of zones run).zones ≡ zones
unfolding figures_of
law_figure_zones zones run = length-map-range_with_len (zone_energy run) 0 zones

-- totals of runs have as many samples, and as many zones as they were made for
pub law_samples : (zones : ℕ) (runs : List (List HourOutcome)) → (totals_of zones runs).samples ≡ length runs
unfolding totals_of
law_samples zones runs = refl

pub law_zones : (zones : ℕ) (runs : List (List HourOutcome)) → length (totals_of zones runs).zones ≡ zones
unfolding totals_of
law_zones zones runs = length-map-range_with_len (λ zone. sums_of (λ run. zone_energy run zone) runs) 0 zones

-- totals of runs that have gained the totals of more runs are those of both
pub law_merged : (zones : ℕ) (runs more : List (List HourOutcome)) (t : Sheet) → AddsTotals (totals_of zones runs) (totals_of zones more) t → t ≡ totals_of zones (runs ++ more)
law_merged zones runs more t adds = totals-joined zones runs more t adds

-- ---- the order of the runs doesn't matter
ones : (runs : List (List HourOutcome)) → sum_by (λ (run : List HourOutcome). 1) runs ≡ length runs
ones [] = refl
ones (run ∷ runs) = omega (arith, sum_by-cons (λ (r : List HourOutcome). 1) run runs, ones runs)

sums-same : (figure : List HourOutcome → ℕ) (runs others : List (List HourOutcome)) → ((figure : List HourOutcome → ℕ) → sum_by figure runs ≡ sum_by figure others) → sums_of figure runs ≡ sums_of figure others
unfolding sums_of
sums-same figure runs others same = same_sums (sums_of figure runs) (sums_of figure others) (same figure) (same (λ run. figure run * figure run))

energies-same : (runs others : List (List HourOutcome)) → ((figure : List HourOutcome → ℕ) → sum_by figure runs ≡ sum_by figure others) → (low zones : ℕ) → map (λ zone. sums_of (λ run. zone_energy run zone) runs) (range_with_len low zones) ≡ map (λ zone. sums_of (λ run. zone_energy run zone) others) (range_with_len low zones)
energies-same runs others same low zero = refl
energies-same runs others same low (suc zones) =
    ap (λ s. s ∷ map (λ zone. sums_of (λ run. zone_energy run zone) runs) (range_with_len (low + 1) zones)) (sums-same (λ run. zone_energy run low) runs others same)
    ∙ ap (λ rest. sums_of (λ run. zone_energy run low) others ∷ rest) (energies-same runs others same (low + 1) zones)

-- runs with the same sum of each figure have the same totals
pub law_same_sums : (zones : ℕ) (runs others : List (List HourOutcome)) → ((figure : List HourOutcome → ℕ) → sum_by figure runs ≡ sum_by figure others) → totals_of zones runs ≡ totals_of zones others
unfolding totals_of
law_same_sums zones runs others same =
    let count = λ (rs : List (List HourOutcome)) (m : ℕ). sum_by (λ (r : List HourOutcome). cut_hours r m) rs in
    let energy = λ (rs : List (List HourOutcome)) (m : ℕ). sum_by (λ (r : List HourOutcome). cut_energy r m) rs in
    same_sheet (totals_of zones runs) (totals_of zones others)
    (sym (ones runs) ∙ same (λ run. 1) ∙ ones others)
    (sums-same short_hours runs others same)
    (sums-same short_days runs others same)
    (sums-same short_events runs others same)
    (sums-same unserved_energy runs others same)
    (energies-same runs others same 0 zones)
    (rows_are (count others) (energy others) 1 (2 ^ zones - 1) (rows_of (count runs) (energy runs) (masks zones))
    (AreRows-rows_of (count runs) (energy runs) 1 (2 ^ zones - 1))
    (λ m g l. hours_at-rows_of (count runs) (energy runs) 1 (2 ^ zones - 1) m g l ∙ same (λ run. cut_hours run m))
    (λ m g l. cut_unserved-rows_of (count runs) (energy runs) 1 (2 ^ zones - 1) m g l (energy-none runs m) ∙ same (λ run. cut_energy run m)))

-- the same runs in another order
pub law_order : (zones : ℕ) (runs others : List (List HourOutcome)) → IsPermutation runs others → totals_of zones runs ≡ totals_of zones others
law_order zones runs others moved = law_same_sums zones runs others (λ figure. sym (sum_by-IsPermutation figure runs others moved))

-- the runs of numbered samples: where each weight of the numbers has the same sum, the totals are the same
pub law_numbered : (zones : ℕ) (run : ℕ → List HourOutcome) (samples others : List ℕ) → ((weight : ℕ → ℕ) → sum_by weight samples ≡ sum_by weight others) → totals_of zones (map run samples) ≡ totals_of zones (map run others)
law_numbered zones run samples others same =
    law_same_sums zones (map run samples) (map run others) (λ figure.
    fold-map (λ a x. a + figure x) run 0 samples ∙ same (λ sample. figure (run sample)) ∙ sym (fold-map (λ a x. a + figure x) run 0 others))
