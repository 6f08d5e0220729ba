use Rattle.std.proofs.Common.{arith, false, ◌≡◌, ◌≤◌, ◌<◌, ◌++◌, ◌∷◌, [], ◌-◌, length, take, drop, get_or, refl, ap, sym, ◌∙◌, ℕ}
use Rattle.std.proofs.lemmas.List.{length-take-le, length-drop}
use Rattle.std.specs.Prelude.{slice_set, vec_capacity}
use Rattle.std.specs.Int.{w32, bit_not}
use Rattle.outage_chronology.specs.Masks.{is_below}
use Rattle.outage_chronology.proofs.MaskSteps.{Given, of-slice, turned-stays, turned-lot, turned-changes, turns-by, turns_at, turned-none}
use Rattle.outage_chronology.proofs.masks.go_on.Goals as goal
use Rattle.outage_chronology.proofs.masks.go_on.Goals.{then-is_below, else-is_below, then-any_below, else-any_below}

pub loop-at-preserved : goal.loop-at-preserved
loop-at-preserved c =
    let at = c.loop-at.at in
    let g : Given = record { words = c.args.words.now; fails = c.args.fails.now; repairs = c.args.is_repaired.now; before = c.args.masks.now } in
    let old = c.args.thresholds.now in
    let far = c.loop-at.invariant.far in
    let is_mask = c.requires.masks at (omega arith) in
    let was = c.requires.thresholds at (omega arith) in
    let by = c.is_below.ensures ∙ ap (λ t. is_below (get_or g.words at 0) t) (far.thresholds_rest at (omega arith)) ∙ turns-by g old at (length g.before) (omega arith) c.requires.thresholds in
    elim c.if-is_below.branch [
      | then-is_below w ↦
          let m : c.if-is_below.masks ≡ slice_set c.loop-at.masks at (bit_not w32 (get_or c.loop-at.masks at 0)) = cc in
          let t : c.if-is_below.thresholds ≡ slice_set c.loop-at.thresholds at w.threshold_of.result = cc in
          let l : c.if-is_below.changed.items ≡ c.loop-at.changed.items ++ at ∷ [] = cc in
          let s : vec_capacity c.if-is_below.changed ≡ vec_capacity c.args.changed.now = cc in
          record {
            far =
                rw (m, t, l)
                (turned-changes g old c.loop-at.masks c.loop-at.thresholds c.loop-at.changed.items at w.threshold_of.result (omega arith) (omega arith) (sym by ∙ w.if-is_below.true) is_mask w.threshold_of.ensures far);
            masks_stay = omega arith;
            thresholds_stay = omega arith;
            space = s;
          }
      | else-is_below w ↦
          let m : c.if-is_below.masks ≡ c.loop-at.masks = cc in
          let t : c.if-is_below.thresholds ≡ c.loop-at.thresholds = cc in
          let l : c.if-is_below.changed.items ≡ c.loop-at.changed.items = cc in
          let s : vec_capacity c.if-is_below.changed ≡ vec_capacity c.args.changed.now = cc in
          record {
            far = rw (m, t, l) (turned-stays g old c.loop-at.masks c.loop-at.thresholds c.loop-at.changed.items at (sym by ∙ w.if-is_below.false) is_mask was far);
            masks_stay = omega arith;
            thresholds_stay = omega arith;
            space = s;
          }
    ]

pub loop-from-preserved : goal.loop-from-preserved
loop-from-preserved c =
    let from = c.loop-from.from in
    let to = c.min-to.result in
    let g : Given = record { words = c.args.words.now; fails = c.args.fails.now; repairs = c.args.is_repaired.now; before = c.args.masks.now } in
    let old = c.args.thresholds.now in
    let far = c.loop-from.invariant.far in
    let most : to ≤ length g.before = omega (arith, c.min-to.ensures) in
    let on : from ≤ to = omega (arith, c.min-to.ensures) in
    let size : length (take (to - from) (drop from g.words)) ≡ to - from =
    length-take-le (to - from) (drop from g.words) (omega (arith, most, length-drop from g.words)) in
    let stay : (k : ℕ) → from ≤ k → k < to → turns_at g k ≡ false =
    λ k past below.
    sym (turns-by g old k (length g.before) (omega (arith, most)) c.requires.thresholds)
    ∙ ap (λ (t : ℕ). is_below (get_or g.words k 0) t) (sym (far.thresholds_rest k past))
    ∙ ap (λ (t : ℕ). is_below (get_or g.words k 0) t) (sym (of-slice c.loop-from.thresholds from to k past below))
    ∙ ap (λ (w : ℕ). is_below w (get_or (take (to - from) (drop from c.loop-from.thresholds)) (k - from) 0)) (sym (of-slice g.words from to k past below))
    ∙ c.are_above.ensures c.if-not-are_above.false (k - from) (omega (arith, size)) in
    record {
      within = most;
      far = turned-lot g old c.loop-from.masks c.loop-from.thresholds c.loop-from.changed.items from to on stay (λ k below. c.requires.masks k (omega (arith, most))) (λ k below. c.requires.thresholds k (omega (arith, most))) far;
      masks_stay = c.loop-from.invariant.masks_stay;
      thresholds_stay = c.loop-from.invariant.thresholds_stay;
      space = c.loop-from.invariant.space;
    }

-- where no word is below its threshold, no mask turns
pub loop-from-init : goal.loop-from-init
loop-from-init c =
    let g : Given = record { words = c.args.words.now; fails = c.args.fails.now; repairs = c.args.is_repaired.now; before = c.args.masks.now } in
    let old = c.args.thresholds.now in
    let none = turned-none g old in
    let stay = λ (none_below : (k : ℕ) → k < length g.words → is_below (get_or g.words k 0) (get_or old k 0) ≡ false) (k : ℕ) (past : 0 ≤ k) (below : k < length g.before).
    sym (turns-by g old k (length g.before) below c.requires.thresholds) ∙ none_below k (omega (arith, c.requires.words)) in
    elim c.if-any_below.branch [
      | then-any_below w ↦ record {
        within = omega (arith, w.from-is);
        far = rw (w.from-is, c.clear.ensures.items) none;
        masks_stay = refl;
        thresholds_stay = refl;
        space = refl;
      }
      | else-any_below w ↦ record {
        within = omega (arith, w.from-is);
        far =
            rw (w.from-is, c.clear.ensures.items)
            (turned-lot g old g.before old [] 0 (length g.before) (omega arith) (stay (c.any_below.ensures w.if-any_below.false)) c.requires.masks c.requires.thresholds none);
        masks_stay = refl;
        thresholds_stay = refl;
        space = refl;
      }
    ]
