-- Laws that callers of this crate cite.
use Rattle.std.proofs.Common.{◌≡◌, ℕ, ◌+◌, inl, inr, List, [], ◌∷◌, ◌++◌, length, get_or, refl, sym, ◌∙◌, subst, arith, length-append}
use Rattle.std.proofs.lemmas.Bool.{cases_eq}
use Rattle.std.proofs.lemmas.List.{ext_get_or, get_or_append_left}
use Rattle.std.proofs.Math.Seq.{get_or-append_seam}
use Rattle.system_model.specs.System.{SystemParts}
use Rattle.sample_totals.specs.declared.outcomes.HourOutcome.{HourOutcome}
use Rattle.sample_run.specs.Run.{IsRun, AreFirstRuns}
use Rattle.sample_run.proofs.RunLaws.{run-only}

-- a sample has at most one run: two runs of it are the same
pub law_one_run : (system : SystemParts) (seed sample : ℕ) (run other : List HourOutcome)
    → IsRun system seed sample run
    → IsRun system seed sample other
    → other ≡ run
law_one_run system seed sample run other is is' = (run-only system seed sample run is).only other is'

-- the runs of no sample
pub law_no_runs : (system : SystemParts) (seed : ℕ) → AreFirstRuns system seed 0 []
law_no_runs system seed = record { size = refl; each = λ sample below. absurd (omega arith) }

-- the runs of one sample more
pub law_next_run : (system : SystemParts) (seed samples : ℕ) (runs : List (List HourOutcome)) (run : List HourOutcome)
    → AreFirstRuns system seed samples runs
    → IsRun system seed samples run
    → AreFirstRuns system seed (samples + 1) (runs ++ run ∷ [])
law_next_run system seed samples runs run first is =
    record {
      size = omega (arith, length-append runs (run ∷ []), first.size);
      each =
          λ sample below.
          elim (cases_eq sample samples) [
            | inl here ↦
                subst (λ (k : ℕ). IsRun system seed k (get_or (runs ++ run ∷ []) k [])) (first.size ∙ sym here)
                (subst (λ (r : List HourOutcome). IsRun system seed (length runs) r) (sym (get_or-append_seam runs run [] []))
                (subst (λ (k : ℕ). IsRun system seed k run) (sym first.size) is))
            | inr other ↦
                subst (IsRun system seed sample) (sym (get_or_append_left runs (run ∷ []) [] sample (omega (arith, first.size))))
                (first.each sample (omega arith))
          ];
    }

-- so many samples have one list of runs
pub law_only_runs : (system : SystemParts) (seed samples : ℕ) (runs others : List (List HourOutcome))
    → AreFirstRuns system seed samples runs
    → AreFirstRuns system seed samples others
    → others ≡ runs
law_only_runs system seed samples runs others first first' =
    ext_get_or [] others runs (first'.size ∙ sym first.size)
    (λ sample below.
    law_one_run system seed sample (get_or runs sample []) (get_or others sample [])
    (first.each sample (omega (arith, first'.size))) (first'.each sample (omega (arith, first'.size))))
