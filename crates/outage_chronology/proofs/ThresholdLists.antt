-- The lists of thresholds grown by one component.
use Rattle.std.proofs.Common.{◌≡◌, ℕ, ◌+◌, ◌<◌, List, [], ◌∷◌, ◌++◌, length, get_or, arith, sym, ap, ◌∙◌, below_more}
use Rattle.std.proofs.lemmas.List.{get_or_append_left, length-append}
use Rattle.std.proofs.Math.Seq.{get_or-append_seam}
use Rattle.system_model.specs.System.{SystemParts}
use Rattle.outage_chronology.specs.declared.thresholds.Thresholds.{Thresholds}
use Rattle.outage_chronology.specs.Outages.{component_rates}
use Rattle.outage_chronology.specs.Thresholds.{AreOfRates, AreOfFirst}

pub first_more : (count : ℕ) (system : SystemParts) (old new : Thresholds) (a b c : ℕ)
    → AreOfFirst count system old
    → AreOfRates (component_rates system count) a b c
    → new.starts_out.items ≡ old.starts_out.items ++ a ∷ []
    → new.fails.items ≡ old.fails.items ++ b ∷ []
    → new.is_repaired.items ≡ old.is_repaired.items ++ c ∷ []
    → AreOfFirst (count + 1) system new
first_more count system old new a b c are last starts fails repairs =
    let more : (xs : List ℕ) (x : ℕ) → length xs ≡ count → length (xs ++ x ∷ []) ≡ count + 1 = (λ xs x e. omega (arith, length-append xs (x ∷ []))) in
    let before : (xs : List ℕ) (x k : ℕ) → length xs ≡ count → k < count → get_or xs k 0 ≡ get_or (xs ++ x ∷ []) k 0 = (λ xs x k e l. sym (get_or_append_left xs (x ∷ []) 0 k (omega arith))) in
    let end : (xs : List ℕ) (x : ℕ) → length xs ≡ count → x ≡ get_or (xs ++ x ∷ []) count 0 = (λ xs x e. sym (ap (λ n. get_or (xs ++ x ∷ []) n 0) (sym e) ∙ get_or-append_seam xs x [] 0)) in
    let s = old.starts_out.items in
    let f = old.fails.items in
    let r = old.is_repaired.items in
    record {
      starts = ap length starts ∙ more s a are.starts;
      failures = ap length fails ∙ more f b are.failures;
      repairs = ap length repairs ∙ more r c are.repairs;
      each = rw (starts, fails, repairs) (below_more (λ k. AreOfRates (component_rates system k) (get_or (s ++ a ∷ []) k 0) (get_or (f ++ b ∷ []) k 0) (get_or (r ++ c ∷ []) k 0)) count
          (λ k l. rw (before s a k are.starts l, before f b k are.failures l, before r c k are.repairs l) at (are.each k l))
          (rw (end s a are.starts, end f b are.failures, end r c are.repairs) at last));
    }
