-- What a study comes to.
use Rattle.std.specs.Prelude.{ℕ, Bool, List, [], ◌∷◌}
use Rattle.campaign_core.specs.declared.run.SampleRange.{SampleRange}
use Rattle.campaign_core.specs.Ranges.{range}
use Rattle.campaign_workers.specs.Rounds.{IsStudyEnd}

-- whether the samples below this number are enough
abbrev pub is_enough_below : {W : Type 0} → (W → List SampleRange → Bool) → W → ℕ → Bool
is_enough_below is_enough work n = is_enough work (range 0 n ∷ [])

-- the sum stands for the samples below the number at which the study ends
pub record IsStudySum {W S : Type 0} (stands : W → S → List SampleRange → Type 0)
    (is_enough : W → List SampleRange → Bool) (work : W) (samples most : ℕ) (sum : S) : Type 0 where
  pub end : ℕ
  pub ends : IsStudyEnd samples most (is_enough_below is_enough work) end
  pub is_sum : stands work sum (range 0 end ∷ [])
