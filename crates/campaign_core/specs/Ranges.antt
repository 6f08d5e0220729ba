-- Ranges of samples: what their samples weigh, and the runs that they make.
use Rattle.std.specs.Prelude.{◌≡◌, ℕ, zero, suc, ◌+◌, ◌-◌, ◌≤◌, Bool, false, ◌&&◌, not, ◌==◌, nat_le, nat_lt, List, [], ◌∷◌, fold, count_by, sum_by, max}
use Rattle.std.specs.List.{filter, list_any, range_with_len}
use Rattle.ra_base.specs.declared.limits.TheConstants.{MOST_SAMPLES}
use Rattle.campaign_core.specs.declared.run.SampleRange.{SampleRange}
use Rattle.campaign_core.specs.declared.run.Run.{Run}

abbrev pub range : ℕ → ℕ → SampleRange
range first count = record { first = first; count = count }

abbrev pub run : ℕ → ℕ → Run
run first last = record { first = first; last = last }

-- the samples of a run as a range
abbrev pub samples_of : Run → SampleRange
samples_of r = range r.first (r.last + 1 - r.first)

-- whether two ranges are one
abbrev pub is_same : SampleRange → SampleRange → Bool
is_same r s = (r.first == s.first) && (r.count == s.count)

-- whether a range stands among these
unfoldable pub has_range : List SampleRange → SampleRange → Bool
has_range ranges r = list_any (λ s. is_same s r) ranges

-- these ranges without those
unfoldable pub without : List SampleRange → List SampleRange → List SampleRange
without those ranges = filter (λ r. not (has_range those r)) ranges

-- whether a sample is one of a range
abbrev pub has_sample : ℕ → SampleRange → Bool
has_sample sample r = nat_le r.first sample && nat_lt sample (r.first + r.count)

-- in how many of these ranges a sample is
unfoldable pub times : ℕ → List SampleRange → ℕ
times sample ranges = count_by (has_sample sample) ranges

-- the weights of the samples of a range, added up
unfoldable pub weight_of : (ℕ → ℕ) → SampleRange → ℕ
weight_of weight r = sum_by weight (range_with_len r.first r.count)

-- the weights of the samples of these ranges, added up
unfoldable pub total : (ℕ → ℕ) → List SampleRange → ℕ
total weight ranges = sum_by (weight_of weight) ranges

-- two lists of ranges have the same samples, each as often, however they are ordered and cut
abbrev pub AreSame : List SampleRange → List SampleRange → Type 0
AreSame xs ys = (weight : ℕ → ℕ) → total weight xs ≡ total weight ys

-- no sample is in two of the ranges, and each is below the most samples of a study
abbrev pub AreDisjoint : List SampleRange → Type 0
AreDisjoint ranges =
    (sample : ℕ) → (times sample ranges ≤ 1) × (MOST_SAMPLES ≤ sample → times sample ranges ≡ 0)

-- no range is empty
abbrev pub AreFilled : List SampleRange → Type 0
AreFilled [] = Unit {0}
AreFilled (r ∷ rs) = (1 ≤ r.count) × AreFilled rs

-- whether a sample is among these ranges
unfoldable pub is_in : List SampleRange → ℕ → Bool
is_in ranges sample = list_any (has_sample sample) ranges

-- whether the sample before this one passes a test
abbrev pub is_before : (ℕ → Bool) → ℕ → Bool
is_before test zero = false
is_before test (suc sample) = test sample

-- a sample begins a run where it passes the test and the one before it doesn't
abbrev pub begins_run : (ℕ → Bool) → ℕ → Bool
begins_run test sample = test sample && not (is_before test sample)

-- it ends a run where it passes the test and the one behind it doesn't
abbrev pub ends_run : (ℕ → Bool) → ℕ → Bool
ends_run test sample = test sample && not (test (suc sample))

-- each first sample with the last one of the same place
abbrev pub paired : List ℕ → List ℕ → List Run
paired [] lasts = []
paired (first ∷ firsts) [] = []
paired (first ∷ firsts) (last ∷ lasts) = run first last ∷ paired firsts lasts

-- the number behind the greatest sample of these ranges
unfoldable pub end_of : List SampleRange → ℕ
end_of ranges = fold (λ end r. max end (r.first + r.count)) 0 ranges

-- the maximal runs of the samples that are among these ranges, ascending
unfoldable pub runs_of : List SampleRange → List Run
runs_of ranges =
    let samples = range_with_len 0 (end_of ranges) in
    paired (filter (begins_run (is_in ranges)) samples) (filter (ends_run (is_in ranges)) samples)
