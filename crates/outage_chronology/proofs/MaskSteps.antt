-- How masks go on, step by step.
use Rattle.std.proofs.Common.{◌≡◌, ℕ, zero, suc, add-one, ◌+◌, ◌-◌, ◌<◌, ◌≤◌, inl, inr, Bool, true, false, List, [], ◌∷◌, ◌++◌, ◌&&◌, length, take, drop, get_or, get_or-take, get_or-drop, filter, refl, ap, sym, ◌∙◌, subst, arith}
use Rattle.std.specs.Prelude.{slice_set}
use Rattle.std.specs.List.{range_with_len}
use Rattle.std.proofs.lemmas.List.{get_or-set_same, get_or-set_other, length-append, length-take-le, length-drop}
use Rattle.std.specs.Int.{w32, bit_not}
use Rattle.std.proofs.lemmas.Bool.{cases_eq, cases_lt, false≢true}
use Rattle.outage_chronology.specs.Masks.{up_mask, says_up, is_below, threshold_of, AreOfStates, turns, turned}
use Rattle.ra_base.proofs.Passing.{passing_pushed, passing_same}

pub says-mask : (up : Bool) → says_up (up_mask up) ≡ up
says-mask true = refl
says-mask false = refl

-- no word so far is below its threshold, where all are above theirs
abbrev pub NoneBelow : List ℕ → List ℕ → Bool → ℕ → Type 0
NoneBelow words thresholds all count = all ≡ true → (k : ℕ) → k < count → is_below (get_or words k 0) (get_or thresholds k 0) ≡ false

pub none-more : (words thresholds : List ℕ) (all here : Bool) (at : ℕ)
    → (here ≡ true → is_below (get_or words at 0) (get_or thresholds at 0) ≡ false)
    → NoneBelow words thresholds all at
    → NoneBelow words thresholds (all && here) (at + 1)
none-more words thresholds true here at not_here so_far all_now k below =
    elim (cases_eq k at) [
      | inl now ↦ ap (λ (j : ℕ). is_below (get_or words j 0) (get_or thresholds j 0)) now ∙ not_here all_now
      | inr other ↦ so_far refl k (omega arith)
    ]
none-more words thresholds false here at not_here so_far all_now k below = absurd (false≢true all_now)

-- a number of a slice is one of the list
pub of-slice : (xs : List ℕ) (from to k : ℕ) → from ≤ k → k < to → get_or (take (to - from) (drop from xs)) (k - from) 0 ≡ get_or xs k 0
of-slice xs from to k past below =
    let at : from + (k - from) ≡ k = omega arith in
    get_or-take {A = ℕ} (to - from) (drop from xs) (k - from) 0 (omega arith) ∙ get_or-drop {A = ℕ} from xs (k - from) 0 ∙ ap (λ i. get_or xs i 0) at

-- a slice from a place on
abbrev rest_of : List ℕ → ℕ → List ℕ
rest_of xs from = take (length xs - from) (drop from xs)

-- where no word of the first so many is below its threshold, and none of the last, which begin no later, none is
pub none-of-both : (words thresholds : List ℕ) (whole last : ℕ)
    → length thresholds ≡ length words
    → whole ≤ length words
    → last ≤ whole
    → ((k : ℕ) → k < length (take whole words) → is_below (get_or (take whole words) k 0) (get_or (take whole thresholds) k 0) ≡ false)
    → ((k : ℕ) → k < length (rest_of words last) → is_below (get_or (rest_of words last) k 0) (get_or (rest_of thresholds last) k 0) ≡ false)
    → (k : ℕ)
    → k < length words
    → is_below (get_or words k 0) (get_or thresholds k 0) ≡ false
none-of-both words thresholds whole last sizes most before first rest k below =
    elim (cases_lt k whole) [
      | inl early ↦
          rw (sym (get_or-take {A = ℕ} whole words k 0 early), sym (get_or-take {A = ℕ} whole thresholds k 0 early))
          (first k (omega (arith, early, length-take-le whole words most)))
      | inr late ↦
          let size = length-take-le (length words - last) (drop last words) (omega (arith, length-drop last words)) in
          rw (sym (of-slice words last (length words) k (omega arith) below), sym (of-slice thresholds last (length thresholds) k (omega arith) (omega (arith, sizes))))
          (rest (k - last) (omega (arith, size)))
    ]

-- the thresholds are set one by one
pub states-more : (masks fails repairs thresholds : List ℕ) (at value : ℕ)
    → at < length thresholds
    → value ≡ threshold_of (says_up (get_or masks at 0)) (get_or fails at 0) (get_or repairs at 0)
    → AreOfStates masks fails repairs thresholds at
    → AreOfStates masks fails repairs (slice_set thresholds at value) (at + 1)
states-more masks fails repairs thresholds at value among is so_far k below =
    elim (cases_eq k at) [
      | inl here ↦
          ap (λ (j : ℕ). get_or (slice_set thresholds at value) j 0) here
          ∙ get_or-set_same thresholds at value 0 among
          ∙ is
          ∙ ap (λ (j : ℕ). threshold_of (says_up (get_or masks j 0)) (get_or fails j 0) (get_or repairs j 0)) (sym here)
      | inr other ↦ get_or-set_other thresholds at k value 0 other ∙ so_far k (omega arith)
    ]

-- what a turn goes by: the words, the thresholds of failure and repair, and the masks before it
pub record Given : Type 0 where
  pub words : List ℕ
  pub fails : List ℕ
  pub repairs : List ℕ
  pub before : List ℕ

abbrev pub turns_at : Given → ℕ → Bool
turns_at g k = turns (says_up (get_or g.before k 0)) (get_or g.words k 0) (get_or g.fails k 0) (get_or g.repairs k 0)

-- the masks so far have turned where they were to, and these are listed, and the thresholds are those of the states;
-- the others are as before
pub record HaveTurned (g : Given) (old_thresholds masks thresholds changed : List ℕ) (count : ℕ) : Type 0 where
  pub turned : (k : ℕ) → k < count → get_or masks k 0 ≡ up_mask (turned (says_up (get_or g.before k 0)) (turns_at g k))
  pub rest : (k : ℕ) → count ≤ k → get_or masks k 0 ≡ get_or g.before k 0
  pub states : AreOfStates masks g.fails g.repairs thresholds count
  pub thresholds_rest : (k : ℕ) → count ≤ k → get_or thresholds k 0 ≡ get_or old_thresholds k 0
  pub list : changed ≡ filter (turns_at g) (range_with_len 0 count)
  pub few : length changed ≤ count

pub turned-none : (g : Given) (thresholds : List ℕ) → HaveTurned g thresholds g.before thresholds [] 0
turned-none g thresholds =
    record {
      turned = λ k below. absurd (omega arith);
      rest = λ k past. refl;
      states = λ k below. absurd (omega arith);
      thresholds_rest = λ k past. refl;
      list = refl;
      few = omega arith;
    }

pub turned-stays : (g : Given) (old_thresholds masks thresholds changed : List ℕ) (at : ℕ)
    → turns_at g at ≡ false
    → get_or g.before at 0 ≡ up_mask (says_up (get_or g.before at 0))
    → get_or old_thresholds at 0 ≡ threshold_of (says_up (get_or g.before at 0)) (get_or g.fails at 0) (get_or g.repairs at 0)
    → HaveTurned g old_thresholds masks thresholds changed at
    → HaveTurned g old_thresholds masks thresholds changed (at + 1)
turned-stays g old_thresholds masks thresholds changed at stays is_mask was so_far =
    record {
      turned =
          λ k below.
          elim (cases_eq k at) [
            | inl here ↦
                ap (λ (j : ℕ). get_or masks j 0) here
                ∙ so_far.rest at (omega arith)
                ∙ is_mask
                ∙ ap (λ (b : Bool). up_mask (turned (says_up (get_or g.before at 0)) b)) (sym stays)
                ∙ ap (λ (j : ℕ). up_mask (turned (says_up (get_or g.before j 0)) (turns_at g j))) (sym here)
            | inr other ↦ so_far.turned k (omega arith)
          ];
      rest = λ k past. so_far.rest k (omega arith);
      states =
          λ k below.
          elim (cases_eq k at) [
            | inl here ↦
                ap (λ (j : ℕ). get_or thresholds j 0) here
                ∙ so_far.thresholds_rest at (omega arith)
                ∙ was
                ∙ ap (λ (m : ℕ). threshold_of (says_up m) (get_or g.fails at 0) (get_or g.repairs at 0)) (sym (so_far.rest at (omega arith)))
                ∙ ap (λ (j : ℕ). threshold_of (says_up (get_or masks j 0)) (get_or g.fails j 0) (get_or g.repairs j 0)) (sym here)
            | inr other ↦ so_far.states k (omega arith)
          ];
      thresholds_rest = λ k past. so_far.thresholds_rest k (omega arith);
      list = so_far.list ∙ sym (passing_same (turns_at g) at stays);
      few = omega (arith, so_far.few);
    }

-- nor do the masks of a lot of which none turns
pub turned-lot : (g : Given) (old_thresholds masks thresholds changed : List ℕ) (from to : ℕ)
    → from ≤ to
    → ((k : ℕ) → from ≤ k → k < to → turns_at g k ≡ false)
    → ((k : ℕ) → k < to → get_or g.before k 0 ≡ up_mask (says_up (get_or g.before k 0)))
    → AreOfStates g.before g.fails g.repairs old_thresholds to
    → HaveTurned g old_thresholds masks thresholds changed from
    → HaveTurned g old_thresholds masks thresholds changed to
turned-lot g old_thresholds masks thresholds changed from zero most stay are_masks was so_far =
    let none : from ≡ 0 = omega arith in
    subst (λ (m : ℕ). HaveTurned g old_thresholds masks thresholds changed m) none so_far
turned-lot g old_thresholds masks thresholds changed from (suc to) most stay are_masks was so_far =
    elim (cases_eq from (suc to)) [
      | inl here ↦ subst (λ (m : ℕ). HaveTurned g old_thresholds masks thresholds changed m) here so_far
      | inr other ↦
          subst (λ (m : ℕ). HaveTurned g old_thresholds masks thresholds changed m) (add-one to)
          (turned-stays g old_thresholds masks thresholds changed to (stay to (omega arith) (omega arith)) (are_masks to (omega arith)) (was to (omega arith))
          (turned-lot g old_thresholds masks thresholds changed from to (omega arith) (λ k past below. stay k past (omega arith)) (λ k below. are_masks k (omega arith)) (λ k below. was k (omega arith)) so_far))
    ]

pub turned-changes : (g : Given) (old_thresholds masks thresholds changed : List ℕ) (at threshold : ℕ)
    → at < length masks
    → at < length thresholds
    → turns_at g at ≡ true
    → get_or g.before at 0 ≡ up_mask (says_up (get_or g.before at 0))
    → threshold ≡ threshold_of (says_up (bit_not w32 (get_or masks at 0))) (get_or g.fails at 0) (get_or g.repairs at 0)
    → HaveTurned g old_thresholds masks thresholds changed at
    → HaveTurned g old_thresholds (slice_set masks at (bit_not w32 (get_or masks at 0))) (slice_set thresholds at threshold) (changed ++ at ∷ []) (at + 1)
turned-changes g old_thresholds masks thresholds changed at threshold among also_among changes is_mask is so_far =
    let value = bit_not w32 (get_or masks at 0) in
    let value_is : value ≡ up_mask (turned (says_up (get_or g.before at 0)) (turns_at g at)) =
    ap (λ (m : ℕ). bit_not w32 m) (so_far.rest at (omega arith) ∙ is_mask)
    ∙ flipped (says_up (get_or g.before at 0))
    ∙ ap (λ (b : Bool). up_mask (turned (says_up (get_or g.before at 0)) b)) (sym changes) in
    let same_mask : get_or (slice_set masks at value) at 0 ≡ value = get_or-set_same masks at value 0 among in
    record {
      turned =
          λ k below.
          elim (cases_eq k at) [
            | inl here ↦
                ap (λ (w : ℕ). get_or (slice_set masks at value) w 0) here
                ∙ same_mask
                ∙ value_is
                ∙ ap (λ (j : ℕ). up_mask (turned (says_up (get_or g.before j 0)) (turns_at g j))) (sym here)
            | inr other ↦ get_or-set_other masks at k value 0 other ∙ so_far.turned k (omega arith)
          ];
      rest = λ k past. get_or-set_other masks at k value 0 (λ e. omega arith) ∙ so_far.rest k (omega arith);
      states =
          λ k below.
          elim (cases_eq k at) [
            | inl here ↦
                ap (λ (j : ℕ). get_or (slice_set thresholds at threshold) j 0) here
                ∙ get_or-set_same thresholds at threshold 0 also_among
                ∙ is
                ∙ ap (λ (m : ℕ). threshold_of (says_up m) (get_or g.fails at 0) (get_or g.repairs at 0)) (sym same_mask)
                ∙ ap (λ (j : ℕ). threshold_of (says_up (get_or (slice_set masks at value) j 0)) (get_or g.fails j 0) (get_or g.repairs j 0)) (sym here)
            | inr other ↦
                get_or-set_other thresholds at k threshold 0 other
                ∙ so_far.states k (omega arith)
                ∙ ap (λ (m : ℕ). threshold_of (says_up m) (get_or g.fails k 0) (get_or g.repairs k 0)) (sym (get_or-set_other masks at k value 0 other))
          ];
      thresholds_rest = λ k past. get_or-set_other thresholds at k threshold 0 (λ e. omega arith) ∙ so_far.thresholds_rest k (omega arith);
      list = ap (λ (xs : List ℕ). xs ++ at ∷ []) so_far.list ∙ sym (passing_pushed (turns_at g) at changes);
      few = omega (arith, so_far.few, length-append changed (at ∷ []));
    }
  where
    flipped : (up : Bool) → bit_not w32 (up_mask up) ≡ up_mask (turned up true)
    flipped true = refl
    flipped false = refl

-- whether a state turns is told by the threshold that is kept for it
pub turns-by : (g : Given) (thresholds : List ℕ) (k count : ℕ) → k < count → AreOfStates g.before g.fails g.repairs thresholds count
    → is_below (get_or g.words k 0) (get_or thresholds k 0) ≡ turns_at g k
turns-by g thresholds k count below are = ap (λ t. is_below (get_or g.words k 0) t) (are k below)
