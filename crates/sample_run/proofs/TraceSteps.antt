-- How recorders take the hours.
use Rattle.std.proofs.Common.{◌≡◌, ℕ, ◌+◌, ◌<◌, Bool, List, ◌++◌, length, get_or, set, map, take, drop, ap, sym, ◌∙◌, subst, arith}
use Rattle.std.proofs.Math.Seq.{map-set_same}
use Rattle.std.proofs.lemmas.List.{map-set, get_or-map}
use Rattle.std.proofs.lemmas.List.Edits.{map_over_more}
use Rattle.ra_base.specs.Causes.{Counts}
use Rattle.sample_totals.specs.declared.outcomes.HourOutcome.{HourOutcome}
use Rattle.sample_totals.specs.Recorders.{Seen, with_line}
use Rattle.sample_run.specs.Trace.{CountsAt}

-- a recorder in whose place stands one that a reader can't tell from it
pub same-at : {X B : Type 0} (f : X → B) (rs : List X) (at : ℕ) (x y : X) → f y ≡ f (get_or rs at x) → map f (set rs at y) ≡ map f rs
same-at f rs at x y same = map-set_same f rs at y x same

-- one recorder more has the line of the hour
pub line-at : {X : Type 0} (seen : X → Seen) (outcome : HourOutcome) (rs : List X) (before : List Seen) (at : ℕ) (x y : X)
    → at < length rs
    → length before ≡ length rs
    → map seen rs ≡ map (with_line outcome) (take at before) ++ drop at before
    → seen y ≡ with_line outcome (seen (get_or rs at x))
    → map seen (set rs at y) ≡ map (with_line outcome) (take (at + 1) before) ++ drop (at + 1) before
line-at seen outcome rs before at x y among size so_far line =
    map-set seen rs at y
    ∙ ap (set (map seen rs) at) line
    ∙ map_over_more (with_line outcome) before (map seen rs) at (seen (get_or rs at x)) (omega (arith, size)) so_far
    (sym (get_or-map seen rs at x (seen (get_or rs at x)) among))

-- the counts where a recorder refused an hour, or found no memory
pub counts-at : {X : Type 0} (refusals : X → ℕ) (refused : Bool) (rs : List X) (before : List ℕ) (at : ℕ) (x y : X)
    → at < length rs
    → map refusals rs ≡ before
    → Counts refused (refusals (get_or rs at x)) (refusals y)
    → CountsAt at refused before (map refusals (set rs at y))
counts-at refusals refused rs before at x y among same counts =
    let was : refusals (get_or rs at x) ≡ get_or before at 0 =
    sym (get_or-map refusals rs at x 0 among) ∙ ap (λ (ns : List ℕ). get_or ns at 0) same in
    record {
      count = refusals y;
      counts = subst (λ (n : ℕ). Counts refused n (refusals y)) was counts;
      others = map-set refusals rs at y ∙ ap (λ (ns : List ℕ). set ns at (refusals y)) same;
    }
