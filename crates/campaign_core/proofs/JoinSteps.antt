-- The loop that joins ascending runs in place.
use Rattle.std.proofs.Common.{◌≡◌, ℕ, suc, ◌+◌, ◌-◌, ◌<◌, ◌≤◌, List, [], ◌∷◌, ◌++◌, map, length, get_or, take, drop, set, length-set, refl, ap, sym, ◌∙◌, subst, arith, add-one, ◌==◌, true, false}
use Rattle.std.proofs.lemmas.Bool.{eqb-true, eqb-false}
use Rattle.std.proofs.lemmas.List.{get_or_default, take_more, take_more_set, drop_more, drop-drop, drop-set-lt, get_or-drop}
use Rattle.campaign_core.specs.declared.run.Run.{Run}
use Rattle.campaign_core.specs.Ranges.{run, samples_of, AreSame}
use Rattle.campaign_core.specs.Joining.{Ascends, Spaced}
use Rattle.campaign_core.proofs.RunSteps.{EndBelow, end_below_push, end_below_front, spaced_push, spaced_longer, spaced_last, joined_push, joined_longer}

-- of the first i of xs, which are joined, as many runs as said stand in front of ys, and from i on ys is as it was
pub record Joins (xs ys : List Run) (joined i : ℕ) : Type 0 where
  pub behind : joined ≤ i
  pub length : length ys ≡ length xs
  pub rest : drop i ys ≡ drop i xs
  pub spaced : Spaced 0 (take joined ys)
  pub same : AreSame (map samples_of (take joined ys)) (map samples_of (take i xs))
  pub ahead : (b : ℕ) × Ascends b (drop i xs) × EndBelow b (take joined ys)

pub joins_none : (xs : List Run) → Ascends 0 xs → Joins xs xs 0 0
joins_none xs up = record {
  behind = omega arith;
  length = refl;
  rest = refl;
  spaced = tt;
  same = λ w. refl;
  ahead = (0, up, tt);
}

module _ (xs ys : List Run) (i : ℕ) (r : Run) (within : i < length xs) (read : r ≡ get_or ys i r) where
  -- what is left begins with the run that is read
  next_is : (joined : ℕ) → Joins xs ys joined i → drop i xs ≡ r ∷ drop (i + 1) xs
  next_is joined j =
      let from_xs : drop i xs ≡ get_or xs i r ∷ drop (i + 1) xs = drop_more xs i r within in
      let same : get_or ys (i + 0) r ≡ get_or xs (i + 0) r = sym (get_or-drop i ys 0 r) ∙ (ap (λ l. get_or l 0 r) j.rest ∙ get_or-drop i xs 0 r) in
      let e : i + 0 ≡ i = omega arith in
      let here : get_or xs i r ≡ r = sym (rw e at same) ∙ sym read in
      from_xs ∙ ap (λ x. x ∷ drop (i + 1) xs) here

  rest_is : (joined k : ℕ) (x : Run) → Joins xs ys joined i → k ≤ i → drop (i + 1) (set ys k x) ≡ drop (i + 1) xs
  rest_is joined k x j le =
      drop-set-lt (i + 1) ys k x (omega arith) ∙ (sym (drop-drop 1 i ys) ∙ (ap (drop 1) j.rest ∙ drop-drop 1 i xs))

  ahead_is : (joined : ℕ) (j : Joins xs ys joined i) → Ascends j.ahead.0 (r ∷ drop (i + 1) xs)
  ahead_is joined j = subst (Ascends j.ahead.0) (next_is joined j) j.ahead.1

  -- the next run begins behind the last one
  pub joins_behind : (k : ℕ) (last : Run) → Joins xs ys (suc k) i → last ≡ get_or ys k last → last.last < r.first
  joins_behind k last j read_last =
      let front : take (k + 1) ys ≡ take k ys ++ get_or ys k last ∷ [] = take_more ys k last (omega (arith, j.behind, j.length)) in
      let below : EndBelow j.ahead.0 (take k ys ++ last ∷ []) = rw (read_last) (subst (EndBelow j.ahead.0) front (rw add-one j.ahead.2)) in
      omega (arith, (end_below_front j.ahead.0 (take k ys) last below).1, (ahead_is (suc k) j).0)

  filled_is : (joined : ℕ) (j : Joins xs ys joined i) → r.first ≤ r.last
  filled_is joined j = (ahead_is joined j).1

  after_is : (joined : ℕ) (j : Joins xs ys joined i) → Ascends (r.last + 1) (drop (i + 1) xs)
  after_is joined j = (ahead_is joined j).2

  taken_is : (joined : ℕ) (j : Joins xs ys joined i) → take (i + 1) xs ≡ take i xs ++ r ∷ []
  taken_is joined j =
      let same : get_or ys (i + 0) r ≡ get_or xs (i + 0) r = sym (get_or-drop i ys 0 r) ∙ (ap (λ l. get_or l 0 r) j.rest ∙ get_or-drop i xs 0 r) in
      let e : i + 0 ≡ i = omega arith in
      let here : get_or xs i r ≡ r = sym (rw e at same) ∙ sym read in
      take_more xs i r within ∙ ap (λ x. take i xs ++ x ∷ []) here

  put : (joined : ℕ) (j : Joins xs ys joined i) → take (joined + 1) (set ys joined r) ≡ take joined ys ++ r ∷ []
  put joined j = take_more_set ys joined r (omega (arith, j.behind, j.length))

  -- the run is put behind the others
  behind_others : (joined : ℕ) (j : Joins xs ys joined i) → Spaced 0 (take joined ys ++ r ∷ []) → Joins xs (set ys joined r) (joined + 1) (i + 1)
  behind_others joined j spaced = record {
    behind = omega (arith, j.behind);
    length = length-set ys joined r ∙ j.length;
    rest = rest_is joined joined r j j.behind;
    spaced = rw (put joined j) spaced;
    same = rw (put joined j, taken_is joined j) (joined_push (take i xs) (take joined ys) r j.same);
    ahead = (
      r.last + 1,
      after_is joined j,
      rw (put joined j) (end_below_push j.ahead.0 (r.last + 1) (take joined ys) r j.ahead.2 (omega (arith, (ahead_is joined j).0, filled_is joined j)) (omega arith)),
    );
  }

  pub joins_first : Joins xs ys 0 i → Joins xs (set ys 0 r) 1 (i + 1)
  joins_first j = behind_others 0 j (omega arith, filled_is 0 j, tt)

  pub joins_push : (k : ℕ) (last : Run) → Joins xs ys (suc k) i → last ≡ get_or ys k last → (last.last + 1 ≡ r.first → ⊥)
      → Joins xs (set ys (suc k) r) (suc k + 1) (i + 1)
  joins_push k last j read_last apart =
      let front : take (suc k) ys ≡ take k ys ++ last ∷ [] = rw add-one at (take_more ys k last (omega (arith, j.behind, j.length)) ∙ ap (λ x. take k ys ++ x ∷ []) (sym read_last)) in
      let below = joins_behind k last j read_last in
      let spaced = subst (Spaced 0) front j.spaced in
      behind_others (suc k) j (rw front (spaced_push 0 (take k ys) last r spaced (omega arith) (filled_is (suc k) j)))

  -- the last run is made longer
  pub joins_longer : (k : ℕ) (last : Run) → Joins xs ys (suc k) i → last ≡ get_or ys k last → last.last + 1 ≡ r.first
      → Joins xs (set ys k (run last.first r.last)) (suc k) (i + 1)
  joins_longer k last j read_last touch =
      let long = run last.first r.last in
      let front : take (suc k) ys ≡ take k ys ++ last ∷ [] = rw add-one at (take_more ys k last (omega (arith, j.behind, j.length)) ∙ ap (λ x. take k ys ++ x ∷ []) (sym read_last)) in
      let spaced = subst (Spaced 0) front j.spaced in
      let same = subst (λ l. AreSame (map samples_of l) (map samples_of (take i xs))) front j.same in
      let below = subst (EndBelow j.ahead.0) front j.ahead.2 in
      let now : take (suc k) (set ys k long) ≡ take k ys ++ long ∷ [] = rw add-one at (take_more_set ys k long (omega (arith, j.behind, j.length))) in
      let filled = spaced_last 0 (take k ys) last spaced in
      record {
        behind = omega (arith, j.behind);
        length = length-set ys k long ∙ j.length;
        rest = rest_is (suc k) k long j (omega (arith, j.behind));
        spaced = rw now (spaced_longer 0 (take k ys) last r.last spaced (omega (arith, touch, filled_is (suc k) j)));
        same = rw (now, taken_is (suc k) j) (joined_longer (take i xs) (take k ys) last r filled touch (filled_is (suc k) j) same);
        ahead = (
          r.last + 1,
          after_is (suc k) j,
          rw now (end_below_push j.ahead.0 (r.last + 1) (take k ys) long (end_below_front j.ahead.0 (take k ys) last below).0 (omega (arith, (ahead_is (suc k) j).0, filled_is (suc k) j)) (omega arith)),
        );
      }

-- the same steps as the code writes them, where an element past the end is d
module _ (d : Run) (xs ys : List Run) (joined i : ℕ) (within : i < length xs) (j : Joins xs ys joined i) where
  read_next : get_or ys i d ≡ get_or ys i (get_or ys i d)
  read_next = get_or_default ys i d (get_or ys i d) (omega (arith, j.length))

  read_last : 0 < joined → get_or ys (joined - 1) d ≡ get_or ys (joined - 1) (get_or ys (joined - 1) d)
  read_last some = get_or_default ys (joined - 1) d (get_or ys (joined - 1) d) (omega (arith, j.length, j.behind))

  joined_is : 0 < joined → suc (joined - 1) ≡ joined
  joined_is some = omega arith

  as_more : (some : 0 < joined) → Joins xs ys (suc (joined - 1)) i
  as_more some = subst (λ k. Joins xs ys k i) (sym (joined_is some)) j

  pub next_behind : 0 < joined → (get_or ys (joined - 1) d).last < (get_or ys i d).first
  next_behind some = joins_behind xs ys i (get_or ys i d) within read_next (joined - 1) (get_or ys (joined - 1) d) (as_more some) (read_last some)

  pub step_longer : 0 < joined → ((get_or ys (joined - 1) d).last + 1 == (get_or ys i d).first) ≡ true
      → Joins xs (set ys (joined - 1) (run (get_or ys (joined - 1) d).first (get_or ys i d).last)) joined (i + 1)
  step_longer some touch =
      let e = eqb-true ((get_or ys (joined - 1) d).last + 1) (get_or ys i d).first touch in
      let step = joins_longer xs ys i (get_or ys i d) within read_next (joined - 1) (get_or ys (joined - 1) d) (as_more some) (read_last some) e in
      subst (λ k. Joins xs (set ys (joined - 1) (run (get_or ys (joined - 1) d).first (get_or ys i d).last)) k (i + 1)) (joined_is some) step

  pub step_push : 0 < joined → ((get_or ys (joined - 1) d).last + 1 == (get_or ys i d).first) ≡ false
      → Joins xs (set ys joined (get_or ys i d)) (joined + 1) (i + 1)
  step_push some apart =
      let ne = eqb-false ((get_or ys (joined - 1) d).last + 1) (get_or ys i d).first apart in
      let step = joins_push xs ys i (get_or ys i d) within read_next (joined - 1) (get_or ys (joined - 1) d) (as_more some) (read_last some) ne in
      subst (λ k. Joins xs (set ys k (get_or ys i d)) (k + 1) (i + 1)) (joined_is some) step

  pub step_first : joined ≤ 0 → Joins xs (set ys joined (get_or ys i d)) (joined + 1) (i + 1)
  step_first none =
      let e : 0 ≡ joined = omega arith in
      let zero_is : Joins xs ys 0 i = subst (λ k. Joins xs ys k i) (sym e) j in
      subst (λ k. Joins xs (set ys k (get_or ys i d)) (k + 1) (i + 1)) e (joins_first xs ys i (get_or ys i d) within read_next zero_is)
