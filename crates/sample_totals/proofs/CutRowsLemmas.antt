use Rattle.std.proofs.Common.{◌≡◌, ℕ, zero, suc, ◌+◌, ◌<◌, ◌≤◌, true, false, cond, eqb, ltb, List, [], ◌∷◌, length, get_or, take, set, refl, sym, ap, ◌∙◌, arith, subst, ⊎_elim}
use Rattle.std.specs.List.{insert, range_with_len}
use Rattle.std.proofs.lemmas.List.Sums.{sum_by-cons, sum_by-insert, sum_by-set, get_or-le-sum_by, sum_by_more, sum_by-take-le}
use Rattle.std.proofs.lemmas.List.{take_all, get_or_read}
use Rattle.std.proofs.lemmas.Bool.{cases_Bool, eq-eqb, ne_eqb, cases_lt, cases_eq, lt-ltb, le-ltb, cond-true, cond-false}
use Rattle.sample_totals.specs.declared.cut_rows.CutRow.{CutRow}
use Rattle.sample_totals.specs.CutRows.{rows_of, hours_at, cut_unserved, hour_rows, AreRows, no_row, AddsRows}

-- what an amount adds at a mask
abbrev pub share : ℕ → ℕ → ℕ → ℕ
share mask amount m = cond (eqb mask m) amount 0

pub hours_at-cons : (row : CutRow) (rows : List CutRow) (m : ℕ) → hours_at (row ∷ rows) m ≡ share row.mask row.hours m + hours_at rows m
unfolding hours_at
hours_at-cons row rows m = sum_by-cons (λ (r : CutRow). share r.mask r.hours m) row rows

pub cut_unserved-cons : (row : CutRow) (rows : List CutRow) (m : ℕ) → cut_unserved (row ∷ rows) m ≡ share row.mask row.unserved m + cut_unserved rows m
unfolding cut_unserved
cut_unserved-cons row rows m = sum_by-cons (λ (r : CutRow). share r.mask r.unserved m) row rows

pub hours_at-none : (m : ℕ) → hours_at [] m ≡ 0
unfolding hours_at
hours_at-none m = refl

pub cut_unserved-none : (m : ℕ) → cut_unserved [] m ≡ 0
unfolding cut_unserved
cut_unserved-none m = refl

hours_at-insert : (rows : List CutRow) (i : ℕ) (row : CutRow) (m : ℕ) → hours_at (insert rows i row) m ≡ hours_at rows m + share row.mask row.hours m
unfolding hours_at
hours_at-insert rows i row m = sum_by-insert (λ (r : CutRow). share r.mask r.hours m) rows i row

cut_unserved-insert : (rows : List CutRow) (i : ℕ) (row : CutRow) (m : ℕ) → cut_unserved (insert rows i row) m ≡ cut_unserved rows m + share row.mask row.unserved m
unfolding cut_unserved
cut_unserved-insert rows i row m = sum_by-insert (λ (r : CutRow). share r.mask r.unserved m) rows i row

share-add : (mask a b m : ℕ) → share mask (a + b) m ≡ share mask a m + share mask b m
share-add mask a b m = ⊎_elim (λ (e : eqb mask m ≡ true). rw e refl) (λ (e : eqb mask m ≡ false). rw e refl) (cases_Bool (eqb mask m))

hours_at-set : (rows : List CutRow) (i : ℕ) (row : CutRow) (m : ℕ) → i < length rows → hours_at (set rows i row) m + share (get_or rows i no_row).mask (get_or rows i no_row).hours m ≡ hours_at rows m + share row.mask row.hours m
unfolding hours_at
hours_at-set rows i row m h = sum_by-set (λ (r : CutRow). share r.mask r.hours m) rows i row no_row h

cut_unserved-set : (rows : List CutRow) (i : ℕ) (row : CutRow) (m : ℕ) → i < length rows → cut_unserved (set rows i row) m + share (get_or rows i no_row).mask (get_or rows i no_row).unserved m ≡ cut_unserved rows m + share row.mask row.unserved m
unfolding cut_unserved
cut_unserved-set rows i row m h = sum_by-set (λ (r : CutRow). share r.mask r.unserved m) rows i row no_row h

-- a row's own hours are among those of its mask
pub hours_at-own : (rows : List CutRow) (i : ℕ) → i < length rows → (get_or rows i no_row).hours ≤ hours_at rows (get_or rows i no_row).mask
unfolding hours_at
hours_at-own rows i h =
    let mask = (get_or rows i no_row).mask in
    let least = get_or-le-sum_by (λ (r : CutRow). share r.mask r.hours mask) rows i no_row h in
    let e : eqb mask mask ≡ true = eq-eqb mask mask refl in
    let own : share mask (get_or rows i no_row).hours mask ≡ (get_or rows i no_row).hours = cond-true _ _ _ e in
    omega (arith, least, own)

pub cut_unserved-own : (rows : List CutRow) (i : ℕ) → i < length rows → (get_or rows i no_row).unserved ≤ cut_unserved rows (get_or rows i no_row).mask
unfolding cut_unserved
cut_unserved-own rows i h =
    let mask = (get_or rows i no_row).mask in
    let least = get_or-le-sum_by (λ (r : CutRow). share r.mask r.unserved mask) rows i no_row h in
    let e : eqb mask mask ≡ true = eq-eqb mask mask refl in
    let own : share mask (get_or rows i no_row).unserved mask ≡ (get_or rows i no_row).unserved = cond-true _ _ _ e in
    omega (arith, least, own)

-- a row that stands in its place keeps the order
AreRows-insert : (low end : ℕ) (rows : List CutRow) (at : ℕ) (row : CutRow) → AreRows low end rows → low ≤ row.mask → row.mask < end → 0 < row.hours → at ≤ length rows → ((k : ℕ) → k < at → (get_or rows k no_row).mask < row.mask) → (at < length rows → row.mask < (get_or rows at no_row).mask) → AreRows low end (insert rows at row)
AreRows-insert low end [] zero row are ge lt some within below above = (ge, lt, some, tt)
AreRows-insert low end [] (suc at) row are ge lt some within below above = absurd (omega arith)
AreRows-insert low end (first ∷ rows) zero row are ge lt some within below above =
    let over : row.mask < first.mask = above (omega arith) in
    (ge, lt, some, (omega arith, are.1, are.2, are.3))
AreRows-insert low end (first ∷ rows) (suc at) row are ge lt some within below above =
    let over : first.mask < row.mask = below 0 (omega arith) in
    (are.0, are.1, are.2, AreRows-insert (first.mask + 1) end rows at row are.3 (omega arith) lt some (omega arith) (λ k h. below (suc k) (omega arith)) (λ h. above (omega arith)))

AreRows-set : (low end : ℕ) (rows : List CutRow) (at : ℕ) (row : CutRow) → AreRows low end rows → at < length rows → row.mask ≡ (get_or rows at no_row).mask → 0 < row.hours → AreRows low end (set rows at row)
AreRows-set low end [] at row are h e some = absurd (omega arith)
AreRows-set low end (first ∷ rows) zero row are h e some =
    (omega arith, omega arith, some, rw e are.3)
AreRows-set low end (first ∷ rows) (suc at) row are h e some =
    (are.0, are.1, are.2, AreRows-set (first.mask + 1) end rows at row are.3 (omega arith) e some)

pub hours_at-one : (row : CutRow) (m : ℕ) → hours_at (row ∷ []) m ≡ share row.mask row.hours m
hours_at-one row m = omega (arith, hours_at-cons row [] m, hours_at-none m)

pub cut_unserved-one : (row : CutRow) (m : ℕ) → cut_unserved (row ∷ []) m ≡ share row.mask row.unserved m
cut_unserved-one row m = omega (arith, cut_unserved-cons row [] m, cut_unserved-none m)

-- a row of a new mask, put in its place
pub AddsRows-insert : (rows : List CutRow) (at : ℕ) (more : CutRow) → at ≤ length rows → ((k : ℕ) → k < at → (get_or rows k no_row).mask < more.mask) → (at < length rows → more.mask < (get_or rows at no_row).mask) → AddsRows rows (more ∷ []) (insert rows at more)
AddsRows-insert rows at more within below above = record {
  hours = λ m. omega (arith, hours_at-insert rows at more m, hours_at-one more m);
  unserved = λ m. omega (arith, cut_unserved-insert rows at more m, cut_unserved-one more m);
  ascending = λ low end old one. AreRows-insert low end rows at more old one.0 one.1 one.2 within below above;
}

-- a row of a mask that is there, added to it
pub AddsRows-set : (rows : List CutRow) (at : ℕ) (row more : CutRow) → at < length rows → row ≡ get_or rows at no_row → row.mask ≡ more.mask → AddsRows rows (more ∷ []) (set rows at (record { mask = row.mask; hours = row.hours + more.hours; unserved = row.unserved + more.unserved }))
AddsRows-set rows at row more h e same =
    let sum : CutRow = record { mask = row.mask; hours = row.hours + more.hours; unserved = row.unserved + more.unserved } in
    let mask_is : row.mask ≡ (get_or rows at no_row).mask = ap (λ (r : CutRow). r.mask) e in
    let hours_are : (m : ℕ) → hours_at (set rows at sum) m ≡ hours_at rows m + hours_at (more ∷ []) m = λ m.
    let split = share-add row.mask row.hours more.hours m in
    let mine : share row.mask more.hours m ≡ share more.mask more.hours m = ap (λ k. share k more.hours m) same in
    let old : share row.mask row.hours m ≡ share (get_or rows at no_row).mask (get_or rows at no_row).hours m = ap (λ (r : CutRow). share r.mask r.hours m) e in
    omega (arith, hours_at-set rows at sum m h, hours_at-one more m, split, mine, old) in
    let energy_is : (m : ℕ) → cut_unserved (set rows at sum) m ≡ cut_unserved rows m + cut_unserved (more ∷ []) m = λ m.
    let split = share-add row.mask row.unserved more.unserved m in
    let mine : share row.mask more.unserved m ≡ share more.mask more.unserved m = ap (λ k. share k more.unserved m) same in
    let old : share row.mask row.unserved m ≡ share (get_or rows at no_row).mask (get_or rows at no_row).unserved m = ap (λ (r : CutRow). share r.mask r.unserved m) e in
    omega (arith, cut_unserved-set rows at sum m h, cut_unserved-one more m, split, mine, old) in
    record {
      hours = hours_are;
      unserved = energy_is;
      ascending = λ low end are one. AreRows-set low end rows at sum are h mask_is (let some : 0 < more.hours = one.2 in omega arith);
    }

-- each row of rows in order is in order by itself
AreRows-at : (low end : ℕ) (rows : List CutRow) (i : ℕ) → AreRows low end rows → i < length rows → (low ≤ (get_or rows i no_row).mask) × ((get_or rows i no_row).mask < end) × (0 < (get_or rows i no_row).hours)
AreRows-at low end [] i are h = absurd (omega arith)
AreRows-at low end (row ∷ rows) zero are h = (are.0, are.1, are.2)
AreRows-at low end (row ∷ rows) (suc i) are h =
    let rest = AreRows-at (row.mask + 1) end rows i are.3 (omega arith) in
    (omega (arith, rest.0, are.0), rest.1, rest.2)

hours_at-take_more : (rows : List CutRow) (i m : ℕ) → i < length rows → hours_at (take (i + 1) rows) m ≡ hours_at (take i rows) m + share (get_or rows i no_row).mask (get_or rows i no_row).hours m
unfolding hours_at
hours_at-take_more rows i m h = sum_by_more (λ (r : CutRow). share r.mask r.hours m) rows i no_row h

cut_unserved-take_more : (rows : List CutRow) (i m : ℕ) → i < length rows → cut_unserved (take (i + 1) rows) m ≡ cut_unserved (take i rows) m + share (get_or rows i no_row).mask (get_or rows i no_row).unserved m
unfolding cut_unserved
cut_unserved-take_more rows i m h = sum_by_more (λ (r : CutRow). share r.mask r.unserved m) rows i no_row h

hours_at-take : (rows : List CutRow) (i m : ℕ) → hours_at (take i rows) m ≤ hours_at rows m
unfolding hours_at
hours_at-take rows i m = sum_by-take-le (λ (r : CutRow). share r.mask r.hours m) rows i

cut_unserved-take : (rows : List CutRow) (i m : ℕ) → cut_unserved (take i rows) m ≤ cut_unserved rows m
unfolding cut_unserved
cut_unserved-take rows i m = sum_by-take-le (λ (r : CutRow). share r.mask r.unserved m) rows i

-- the rows after the first i of `more`
pub record AddsFirst (old more : List CutRow) (i : ℕ) (rows : List CutRow) : Type 0 where
  pub hours : (m : ℕ) → hours_at rows m ≡ hours_at old m + hours_at (take i more) m
  pub unserved : (m : ℕ) → cut_unserved rows m ≡ cut_unserved old m + cut_unserved (take i more) m
  pub ascending : (low end : ℕ) → AreRows low end old → AreRows low end more → AreRows low end rows

pub AddsFirst-none : (old more : List CutRow) → AddsFirst old more 0 old
AddsFirst-none old more = record {
  hours = λ m. omega (arith, hours_at-none m);
  unserved = λ m. omega (arith, cut_unserved-none m);
  ascending = λ low end are _. are;
}

pub AddsFirst-more : (old more : List CutRow) (i : ℕ) (rows new : List CutRow) (row : CutRow) → i < length more → row ≡ get_or more i no_row → AddsFirst old more i rows → AddsRows rows (row ∷ []) new → AddsFirst old more (i + 1) new
AddsFirst-more old more i rows new row h e first adds =
    let one_hours : (m : ℕ) → hours_at (row ∷ []) m ≡ share (get_or more i no_row).mask (get_or more i no_row).hours m = λ m. hours_at-one row m ∙ ap (λ (r : CutRow). share r.mask r.hours m) e in
    let one_unserved : (m : ℕ) → cut_unserved (row ∷ []) m ≡ share (get_or more i no_row).mask (get_or more i no_row).unserved m = λ m. cut_unserved-one row m ∙ ap (λ (r : CutRow). share r.mask r.unserved m) e in
    record {
      hours = λ m. omega (arith, adds.hours m, first.hours m, one_hours m, hours_at-take_more more i m h);
      unserved = λ m. omega (arith, adds.unserved m, first.unserved m, one_unserved m, cut_unserved-take_more more i m h);
      ascending = λ low end olds mores.
          let at = AreRows-at low end more i mores h in
          let one : AreRows low end (row ∷ []) = subst (λ (r : CutRow). AreRows low end (r ∷ [])) (sym e) (at.0, at.1, at.2, tt) in
          adds.ascending low end (first.ascending low end olds mores) one;
    }

pub AddsFirst-all : (old more : List CutRow) (i : ℕ) (rows : List CutRow) → length more ≤ i → AddsFirst old more i rows → AddsRows old more rows
AddsFirst-all old more i rows h first =
    let whole = take_all i more h in
    record {
      hours = λ m. rw whole at (first.hours m);
      unserved = λ m. rw whole at (first.unserved m);
      ascending = first.ascending;
    }

-- the next row's own sums fit where those of all rows do
pub next_hours : (old more : List CutRow) (i : ℕ) (rows : List CutRow) (row : CutRow) (bound : ℕ) → i < length more → row ≡ get_or more i no_row → AddsFirst old more i rows → hours_at old row.mask + hours_at more row.mask < bound → hours_at rows row.mask + row.hours < bound
next_hours old more i rows row bound h e first fits =
    let m = row.mask in
    let own : share (get_or more i no_row).mask (get_or more i no_row).hours m ≡ row.hours = ap (λ (r : CutRow). share r.mask r.hours m) (sym e) ∙ cond-true _ _ _ (eq-eqb m m refl) in
    omega (arith, first.hours m, hours_at-take_more more i m h, hours_at-take more (i + 1) m, own)

pub next_unserved : (old more : List CutRow) (i : ℕ) (rows : List CutRow) (row : CutRow) (bound : ℕ) → i < length more → row ≡ get_or more i no_row → AddsFirst old more i rows → cut_unserved old row.mask + cut_unserved more row.mask < bound → cut_unserved rows row.mask + row.unserved < bound
next_unserved old more i rows row bound h e first fits =
    let m = row.mask in
    let own : share (get_or more i no_row).mask (get_or more i no_row).unserved m ≡ row.unserved = ap (λ (r : CutRow). share r.mask r.unserved m) (sym e) ∙ cond-true _ _ _ (eq-eqb m m refl) in
    omega (arith, first.unserved m, cut_unserved-take_more more i m h, cut_unserved-take more (i + 1) m, own)

-- what a row of a mask has is within a bound on that mask's sums
pub own_hours : (rows : List CutRow) (at mask : ℕ) (row test : CutRow) → at < length rows → row ≡ get_or rows at row → test ≡ get_or rows at test → test.mask ≡ mask → (row.mask ≡ mask) × (row.hours ≤ hours_at rows mask) × (row.unserved ≤ cut_unserved rows mask)
own_hours rows at mask row test h is test_is same =
    let row_is : row ≡ get_or rows at no_row = get_or_read rows at row h is no_row in
    let test_at : test ≡ get_or rows at no_row = get_or_read rows at test h test_is no_row in
    let there : (get_or rows at no_row).mask ≡ mask = sym (ap (λ (r : CutRow). r.mask) test_at) ∙ same in
    let P : CutRow → Type 0 = λ r. (r.mask ≡ mask) × (r.hours ≤ hours_at rows mask) × (r.unserved ≤ cut_unserved rows mask) in
    subst P (sym row_is) (there, (rw there at (hours_at-own rows at h)), (rw there at (cut_unserved-own rows at h)))

rows_of-cons_yes : (hours unserved : ℕ → ℕ) (m : ℕ) (ms : List ℕ) → 0 < hours m → rows_of hours unserved (m ∷ ms) ≡ record { mask = m; hours = hours m; unserved = unserved m } ∷ rows_of hours unserved ms
unfolding rows_of
rows_of-cons_yes hours unserved m ms h = rw (lt-ltb 0 (hours m) h) refl

rows_of-cons_no : (hours unserved : ℕ → ℕ) (m : ℕ) (ms : List ℕ) → hours m ≡ 0 → rows_of hours unserved (m ∷ ms) ≡ rows_of hours unserved ms
unfolding rows_of
rows_of-cons_no hours unserved m ms h = let no : ltb 0 (hours m) ≡ false = le-ltb 0 (hours m) (omega arith) in rw no refl

-- a mask below the first row's has nothing
hours_at-absent : (low end : ℕ) (rows : List CutRow) (m : ℕ) → AreRows low end rows → m < low → hours_at rows m ≡ 0
hours_at-absent low end [] m are h = hours_at-none m
hours_at-absent low end (row ∷ rows) m are h =
    let other : eqb row.mask m ≡ false = ne_eqb row.mask m (λ e. omega arith) in
    let mine : share row.mask row.hours m ≡ 0 = cond-false _ _ _ other in
    omega (arith, hours_at-cons row rows m, mine, hours_at-absent (row.mask + 1) end rows m are.3 (omega arith))

cut_unserved-absent : (low end : ℕ) (rows : List CutRow) (m : ℕ) → AreRows low end rows → m < low → cut_unserved rows m ≡ 0
cut_unserved-absent low end [] m are h = cut_unserved-none m
cut_unserved-absent low end (row ∷ rows) m are h =
    let other : eqb row.mask m ≡ false = ne_eqb row.mask m (λ e. omega arith) in
    let mine : share row.mask row.unserved m ≡ 0 = cond-false _ _ _ other in
    omega (arith, cut_unserved-cons row rows m, mine, cut_unserved-absent (row.mask + 1) end rows m are.3 (omega arith))

share_own : (mask amount : ℕ) → share mask amount mask ≡ amount
share_own mask amount = cond-true _ _ _ (eq-eqb mask mask refl)

share_other : (mask amount m : ℕ) → (mask ≡ m → ⊥) → share mask amount m ≡ 0
share_other mask amount m ne = cond-false _ _ _ (ne_eqb mask m ne)

same_row : (row : CutRow) (m h u : ℕ) → row.mask ≡ m → row.hours ≡ h → row.unserved ≡ u → row ≡ record { mask = m; hours = h; unserved = u }
same_row row m h u e f g = rw (← e, ← f, ← g) refl

-- rows in order are the rows of what they have at each mask
pub rows_are : (hours unserved : ℕ → ℕ) (low k : ℕ) (rows : List CutRow) → AreRows low (low + k) rows → ((m : ℕ) → low ≤ m → m < low + k → hours_at rows m ≡ hours m) → ((m : ℕ) → low ≤ m → m < low + k → cut_unserved rows m ≡ unserved m) → rows ≡ rows_of hours unserved (range_with_len low k)
unfolding rows_of
rows_are hours unserved low zero [] are hs us = refl
rows_are hours unserved low zero (row ∷ rows) are hs us = absurd (omega (arith, are.0, are.1))
rows_are hours unserved low (suc k) [] are hs us =
    let none : hours low ≡ 0 = omega (arith, hs low (omega arith) (omega arith), hours_at-none low) in
    let rest = rows_are hours unserved (low + 1) k [] tt (λ m g l. hs m (omega arith) (omega arith)) (λ m g l. us m (omega arith) (omega arith)) in
    rest ∙ sym (rows_of-cons_no hours unserved low (range_with_len (low + 1) k) none)
rows_are hours unserved low (suc k) (row ∷ rows) are hs us =
    let e : low + suc k ≡ low + 1 + k = omega arith in
    let after : AreRows (row.mask + 1) (low + 1 + k) rows = rw e at are.3 in
    ⊎_elim
    (λ (here : row.mask ≡ low).
    let mine : share row.mask row.hours low ≡ row.hours = rw (← here) (share_own row.mask row.hours) in
    let hours_is : row.hours ≡ hours low = omega (arith, hs low (omega arith) (omega arith), hours_at-cons row rows low, hours_at-absent (row.mask + 1) (low + 1 + k) rows low after (omega arith), mine) in
    let my_energy : share row.mask row.unserved low ≡ row.unserved = rw (← here) (share_own row.mask row.unserved) in
    let unserved_is : row.unserved ≡ unserved low = omega (arith, us low (omega arith) (omega arith), cut_unserved-cons row rows low, cut_unserved-absent (row.mask + 1) (low + 1 + k) rows low after (omega arith), my_energy) in
    let in_order : AreRows (low + 1) (low + 1 + k) rows = rw here at after in
    let rest = rows_are hours unserved (low + 1) k rows in_order
    (λ m g l. omega (arith, hs m (omega arith) (omega arith), hours_at-cons row rows m, share_other row.mask row.hours m (λ x. omega arith)))
    (λ m g l. omega (arith, us m (omega arith) (omega arith), cut_unserved-cons row rows m, share_other row.mask row.unserved m (λ x. omega arith))) in
    ap (λ r. r ∷ rows) (same_row row low (hours low) (unserved low) here hours_is unserved_is)
    ∙ ap (λ rs. record { mask = low; hours = hours low; unserved = unserved low } ∷ rs) rest
    ∙ sym (rows_of-cons_yes hours unserved low (range_with_len (low + 1) k) (let some : 0 < row.hours = are.2 in omega arith)))
    (λ (ne : row.mask ≡ low → ⊥).
    let over : low < row.mask = (let ge : low ≤ row.mask = are.0 in omega (arith, ne)) in
    let in_order : AreRows (low + 1) (low + 1 + k) (row ∷ rows) = (omega arith, rw e at are.1, are.2, after) in
    let none : hours low ≡ 0 = omega (arith, hs low (omega arith) (omega arith), hours_at-absent (low + 1) (low + 1 + k) (row ∷ rows) low in_order (omega arith)) in
    rows_are hours unserved (low + 1) k (row ∷ rows) in_order (λ m g l. hs m (omega arith) (omega arith)) (λ m g l. us m (omega arith) (omega arith))
    ∙ sym (rows_of-cons_no hours unserved low (range_with_len (low + 1) k) none))
    (cases_eq row.mask low)

AreRows-lower : (low less end : ℕ) (rows : List CutRow) → AreRows low end rows → less ≤ low → AreRows less end rows
AreRows-lower low less end [] are h = tt
AreRows-lower low less end (row ∷ rows) are h = (let ge : low ≤ row.mask = are.0 in omega arith, are.1, are.2, are.3)

-- the rows of amounts by mask are in order, and have these amounts
pub AreRows-rows_of : (hours unserved : ℕ → ℕ) (low k : ℕ) → AreRows low (low + k) (rows_of hours unserved (range_with_len low k))
unfolding rows_of
AreRows-rows_of hours unserved low zero = tt
AreRows-rows_of hours unserved low (suc k) =
    let e : low + 1 + k ≡ low + suc k = omega arith in
    let rest : AreRows (low + 1) (low + suc k) (rows_of hours unserved (range_with_len (low + 1) k)) = rw e at (AreRows-rows_of hours unserved (low + 1) k) in
    ⊎_elim
    (λ (some : 0 < hours low). subst (λ rs. AreRows low (low + suc k) rs) (sym (rows_of-cons_yes hours unserved low (range_with_len (low + 1) k) some))
    (omega arith, omega arith, some, rest))
    (λ (none : hours low ≤ 0). subst (λ rs. AreRows low (low + suc k) rs) (sym (rows_of-cons_no hours unserved low (range_with_len (low + 1) k) (omega arith)))
    (AreRows-lower (low + 1) low (low + suc k) _ rest (omega arith)))
    (cases_lt 0 (hours low))

pub hours_at-rows_of : (hours unserved : ℕ → ℕ) (low k m : ℕ) → low ≤ m → m < low + k → hours_at (rows_of hours unserved (range_with_len low k)) m ≡ hours m
unfolding rows_of
hours_at-rows_of hours unserved low zero m g l = absurd (omega arith)
hours_at-rows_of hours unserved low (suc k) m g l =
    let rows = rows_of hours unserved (range_with_len (low + 1) k) in
    let row : CutRow = record { mask = low; hours = hours low; unserved = unserved low } in
    let absent : m ≡ low → hours_at rows m ≡ 0 = λ x. hours_at-absent (low + 1) (low + 1 + k) rows m (AreRows-rows_of hours unserved (low + 1) k) (omega arith) in
    let present : (m ≡ low → ⊥) → hours_at rows m ≡ hours m = λ x. hours_at-rows_of hours unserved (low + 1) k m (omega (arith, x)) (omega arith) in
    ⊎_elim
    (λ (some : 0 < hours low). ap (λ rs. hours_at rs m) (rows_of-cons_yes hours unserved low (range_with_len (low + 1) k) some) ∙ hours_at-cons row rows m ∙
    ⊎_elim
    (λ (x : m ≡ low). let own : share low (hours low) m ≡ hours low = rw x (share_own low (hours low)) in let e : hours m ≡ hours low = ap hours x in omega (arith, absent x, own, e))
    (λ (x : m ≡ low → ⊥). omega (arith, present x, share_other low (hours low) m (λ y. x (sym y))))
    (cases_eq m low))
    (λ (none : hours low ≤ 0). ap (λ rs. hours_at rs m) (rows_of-cons_no hours unserved low (range_with_len (low + 1) k) (omega arith)) ∙
    ⊎_elim
    (λ (x : m ≡ low). let e : hours m ≡ hours low = ap hours x in omega (arith, absent x, e))
    (λ (x : m ≡ low → ⊥). present x)
    (cases_eq m low))
    (cases_lt 0 (hours low))

pub cut_unserved-rows_of : (hours unserved : ℕ → ℕ) (low k m : ℕ) → low ≤ m → m < low + k → (hours m ≡ 0 → unserved m ≡ 0) → cut_unserved (rows_of hours unserved (range_with_len low k)) m ≡ unserved m
unfolding rows_of
cut_unserved-rows_of hours unserved low zero m g l z = absurd (omega arith)
cut_unserved-rows_of hours unserved low (suc k) m g l z =
    let rows = rows_of hours unserved (range_with_len (low + 1) k) in
    let row : CutRow = record { mask = low; hours = hours low; unserved = unserved low } in
    let absent : m ≡ low → cut_unserved rows m ≡ 0 = λ x. cut_unserved-absent (low + 1) (low + 1 + k) rows m (AreRows-rows_of hours unserved (low + 1) k) (omega arith) in
    let present : (m ≡ low → ⊥) → cut_unserved rows m ≡ unserved m = λ x. cut_unserved-rows_of hours unserved (low + 1) k m (omega (arith, x)) (omega arith) z in
    ⊎_elim
    (λ (some : 0 < hours low). ap (λ rs. cut_unserved rs m) (rows_of-cons_yes hours unserved low (range_with_len (low + 1) k) some) ∙ cut_unserved-cons row rows m ∙
    ⊎_elim
    (λ (x : m ≡ low). let own : share low (unserved low) m ≡ unserved low = rw x (share_own low (unserved low)) in let e : unserved m ≡ unserved low = ap unserved x in omega (arith, absent x, own, e))
    (λ (x : m ≡ low → ⊥). omega (arith, present x, share_other low (unserved low) m (λ y. x (sym y))))
    (cases_eq m low))
    (λ (none : hours low ≤ 0). ap (λ rs. cut_unserved rs m) (rows_of-cons_no hours unserved low (range_with_len (low + 1) k) (omega arith)) ∙
    ⊎_elim
    (λ (x : m ≡ low). let e : hours m ≡ hours low = ap hours x in let f : unserved m ≡ 0 = z (omega arith) in omega (arith, absent x, f))
    (λ (x : m ≡ low → ⊥). present x)
    (cases_eq m low))
    (cases_lt 0 (hours low))

-- ---- the row of an hour
pub hour_rows-none : (cut u : ℕ) → cut ≡ 0 → hour_rows cut u ≡ []
hour_rows-none cut u e = cond-true _ _ _ (eq-eqb cut 0 e)

pub hour_rows-some : (cut u : ℕ) → (cut ≡ 0 → ⊥) → hour_rows cut u ≡ record { mask = cut; hours = 1; unserved = u } ∷ []
hour_rows-some cut u ne = cond-false _ _ _ (ne_eqb cut 0 ne)

pub AddsRows-none : (rows : List CutRow) → AddsRows rows [] rows
AddsRows-none rows = record {
  hours = λ m. omega (arith, hours_at-none m);
  unserved = λ m. omega (arith, cut_unserved-none m);
  ascending = λ low end are _. are;
}

pub AreRows-hour : (end cut u : ℕ) → cut < end → AreRows 1 end (hour_rows cut u)
AreRows-hour end cut u l =
    ⊎_elim
    (λ (e : cut ≡ 0). subst (λ rows. AreRows 1 end rows) (sym (hour_rows-none cut u e)) tt)
    (λ (ne : cut ≡ 0 → ⊥). subst (λ rows. AreRows 1 end rows) (sym (hour_rows-some cut u ne)) (omega (arith, ne), l, omega arith, tt))
    (cases_eq cut 0)

pub hours_at-hour : (cut u m : ℕ) → 0 < m → hours_at (hour_rows cut u) m ≡ share cut 1 m
hours_at-hour cut u m some =
    ⊎_elim
    (λ (e : cut ≡ 0). ap (λ rows. hours_at rows m) (hour_rows-none cut u e) ∙ hours_at-none m ∙ sym (share_other cut 1 m (λ x. omega arith)))
    (λ (ne : cut ≡ 0 → ⊥). ap (λ rows. hours_at rows m) (hour_rows-some cut u ne) ∙ hours_at-one (record { mask = cut; hours = 1; unserved = u }) m)
    (cases_eq cut 0)

pub cut_unserved-hour : (cut u m : ℕ) → 0 < m → cut_unserved (hour_rows cut u) m ≡ share cut u m
cut_unserved-hour cut u m some =
    ⊎_elim
    (λ (e : cut ≡ 0). ap (λ rows. cut_unserved rows m) (hour_rows-none cut u e) ∙ cut_unserved-none m ∙ sym (share_other cut u m (λ x. omega arith)))
    (λ (ne : cut ≡ 0 → ⊥). ap (λ rows. cut_unserved rows m) (hour_rows-some cut u ne) ∙ cut_unserved-one (record { mask = cut; hours = 1; unserved = u }) m)
    (cases_eq cut 0)

share-le : (mask amount m : ℕ) → share mask amount m ≤ amount
share-le mask amount m =
    ⊎_elim
    (λ (e : eqb mask m ≡ true). let is : share mask amount m ≡ amount = cond-true _ _ _ e in omega (arith, is))
    (λ (e : eqb mask m ≡ false). let is : share mask amount m ≡ 0 = cond-false _ _ _ e in omega (arith, is))
    (cases_Bool (eqb mask m))

pub hours_at-hour_le : (cut u m : ℕ) → hours_at (hour_rows cut u) m ≤ 1
hours_at-hour_le cut u m =
    ⊎_elim
    (λ (e : cut ≡ 0). let is = ap (λ rows. hours_at rows m) (hour_rows-none cut u e) in omega (arith, is, hours_at-none m))
    (λ (ne : cut ≡ 0 → ⊥). let is = ap (λ rows. hours_at rows m) (hour_rows-some cut u ne) in omega (arith, is, hours_at-one (record { mask = cut; hours = 1; unserved = u }) m, share-le cut 1 m))
    (cases_eq cut 0)

pub cut_unserved-hour_le : (cut u m : ℕ) → cut_unserved (hour_rows cut u) m ≤ u
cut_unserved-hour_le cut u m =
    ⊎_elim
    (λ (e : cut ≡ 0). let is = ap (λ rows. cut_unserved rows m) (hour_rows-none cut u e) in omega (arith, is, cut_unserved-none m))
    (λ (ne : cut ≡ 0 → ⊥). let is = ap (λ rows. cut_unserved rows m) (hour_rows-some cut u ne) in omega (arith, is, cut_unserved-one (record { mask = cut; hours = 1; unserved = u }) m, share-le cut u m))
    (cases_eq cut 0)
