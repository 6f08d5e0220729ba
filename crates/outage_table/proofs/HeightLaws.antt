-- Bounds that fall, and how many of them lie past a place.
use Rattle.std.proofs.Common.{◌≡◌, ℕ, zero, suc, ◌+◌, ◌-◌, ◌<◌, ◌≤◌, List, [], ◌∷◌, ◌++◌, length, get_or, take, replicate, min, cond, inl, inr, refl, sym, ap, ◌∙◌, arith}
use Rattle.std.proofs.lemmas.Bool.{cases_lt, cond_below, cond_above}
use Rattle.std.proofs.Math.Dec.{ltb}
use Rattle.std.proofs.lemmas.List.{get_or_past}
use Rattle.std.proofs.lemmas.List.Sums.{sum_by-cons}
use Rattle.outage_table.specs.Fleet.{height, AreDescending, raised_bound}

height-cons : (b : ℕ) (bs : List ℕ) (x : ℕ) → height (b ∷ bs) x ≡ cond (ltb x b) 1 0 + height bs x
height-cons b bs x = sum_by-cons (λ bound. cond (ltb x bound) 1 0) b bs

pub height-yes : (b : ℕ) (bs : List ℕ) (x : ℕ) → x < b → height (b ∷ bs) x ≡ suc (height bs x)
height-yes b bs x h =
    let more : 1 + height bs x ≡ suc (height bs x) = omega arith in
    height-cons b bs x ∙ ap (λ n. n + height bs x) (sym (cond_below x b 1 0 h)) ∙ more

pub height-no : (b : ℕ) (bs : List ℕ) (x : ℕ) → b ≤ x → height (b ∷ bs) x ≡ height bs x
height-no b bs x h =
    let same : 0 + height bs x ≡ height bs x = omega arith in
    height-cons b bs x ∙ ap (λ n. n + height bs x) (sym (cond_above x b 1 0 0 h refl)) ∙ same

descending-tail : (b : ℕ) (bs : List ℕ) → AreDescending (b ∷ bs) → AreDescending bs
descending-tail b bs d = record { falls = λ i j h. d.falls (suc i) (suc j) (omega arith) }

-- none of them lies past
pub none_past : (bs : List ℕ) (x : ℕ) → ((i : ℕ) → get_or bs i 0 ≤ x) → height bs x ≡ 0
none_past [] x h = refl
none_past (b ∷ bs) x h = height-no b bs x (h 0) ∙ none_past bs x (λ i. h (suc i))

pub first_not_past : (bs : List ℕ) (x : ℕ) → AreDescending bs → get_or bs 0 0 ≤ x → height bs x ≡ 0
first_not_past bs x d h = none_past bs x (λ i. omega (arith, d.falls 0 i (omega arith)))

-- all of them lie past
pub all_past : (bs : List ℕ) (x : ℕ) → ((i : ℕ) → i < length bs → x < get_or bs i 0) → height bs x ≡ length bs
all_past [] x h = refl
all_past (b ∷ bs) x h =
    let here = height-yes b bs x (h 0 (omega arith)) in
    let rest = all_past bs x (λ i l. h (suc i) (omega arith)) in
    omega arith

pub height-le : (bs : List ℕ) (i y : ℕ) → AreDescending bs → get_or bs i 0 ≤ y → height bs y ≤ i
height-le bs zero y d h = omega (arith, first_not_past bs y d h)
height-le [] (suc i) y d h = omega arith
height-le (b ∷ bs) (suc i) y d h =
    let rest = height-le bs i y (descending-tail b bs d) h in
    elim (cases_lt y b) [
      | inl past ↦ omega (arith, height-yes b bs y past)
      | inr near ↦ omega (arith, height-no b bs y near)
    ]

-- the first that doesn't lie past
pub height-next : (bs : List ℕ) (x : ℕ) → AreDescending bs → get_or bs (height bs x) 0 ≤ x
height-next [] x d = omega arith
height-next (b ∷ bs) x d = elim (cases_lt x b) [
  | inl past ↦ rw (height-yes b bs x past) (height-next bs x (descending-tail b bs d))
  | inr near ↦ rw (first_not_past (b ∷ bs) x d near) near
]

-- those before it do
pub height-past : (bs : List ℕ) (i x : ℕ) → AreDescending bs → i < height bs x → x < get_or bs i 0
height-past [] i x d h = absurd (omega arith)
height-past (b ∷ bs) zero x d h = elim (cases_lt x b) [
  | inl past ↦ past
  | inr near ↦ absurd (omega (arith, first_not_past (b ∷ bs) x d near))
]
height-past (b ∷ bs) (suc i) x d h = elim (cases_lt x b) [
  | inl past ↦ height-past bs i x (descending-tail b bs d) (omega (arith, height-yes b bs x past))
  | inr near ↦ absurd (omega (arith, first_not_past (b ∷ bs) x d near))
]

pub height-more : (bs : List ℕ) (i x : ℕ) → AreDescending bs → x < get_or bs i 0 → i < height bs x
height-more bs i x d h = elim (cases_lt i (height bs x)) [
  | inl less ↦ less
  | inr more ↦ absurd (omega (arith, d.falls (height bs x) i more, height-next bs x d))
]

pub height-le-length : (bs : List ℕ) (x : ℕ) → height bs x ≤ length bs
height-le-length [] x = omega arith
height-le-length (b ∷ bs) x =
    let rest = height-le-length bs x in
    elim (cases_lt x b) [
      | inl past ↦ omega (arith, height-yes b bs x past)
      | inr near ↦ omega (arith, height-no b bs x near)
    ]

pub height-falls : (bs : List ℕ) (x y : ℕ) → x ≤ y → height bs y ≤ height bs x
height-falls [] x y h = omega arith
height-falls (b ∷ bs) x y h =
    let rest = height-falls bs x y h in
    elim (cases_lt y b) [
      | inl past ↦ omega (arith, height-yes b bs y past, height-yes b bs x (let l : x < b = omega arith in l))
      | inr near ↦ elim (cases_lt x b) [
        | inl past ↦ omega (arith, height-no b bs y near, height-yes b bs x past)
        | inr near' ↦ omega (arith, height-no b bs y near, height-no b bs x near')
      ]
    ]

-- further bounds, all at one place
pub height-longer : (bs : List ℕ) (k n x : ℕ) → n ≤ x → height (bs ++ replicate {A = ℕ} k n) x ≡ height bs x
height-longer [] zero n x h = refl
height-longer [] (suc k) n x h = height-no n (replicate {A = ℕ} k n) x h ∙ height-longer [] k n x h
height-longer (b ∷ bs) k n x h =
    let rest = height-longer bs k n x h in
    elim (cases_lt x b) [
      | inl past ↦ omega (arith, height-yes b bs x past, height-yes b (bs ++ replicate {A = ℕ} k n) x past)
      | inr near ↦ omega (arith, height-no b bs x near, height-no b (bs ++ replicate {A = ℕ} k n) x near)
    ]

-- the first bounds, as many as lie past a place before
pub height-take : (bs : List ℕ) (k x : ℕ) → AreDescending bs → get_or bs k 0 ≤ x → height (take k bs) x ≡ height bs x
height-take bs zero x d h = sym (first_not_past bs x d h)
height-take [] (suc k) x d h = refl
height-take (b ∷ bs) (suc k) x d h =
    let rest = height-take bs k x (descending-tail b bs d) h in
    elim (cases_lt x b) [
      | inl past ↦ omega (arith, height-yes b bs x past, height-yes b (take k bs) x past)
      | inr near ↦ omega (arith, height-no b bs x near, height-no b (take k bs) x near)
    ]

-- Bounds that are moved, each no further than to where the bound before it was. Then each place that has fewer of
-- them past it than the place so far before it gets one more.
later_raised : (olds news : List ℕ) (before c x : ℕ) → AreDescending (before ∷ olds) → length news ≡ length olds → c ≤ x → x < before
    → ((k : ℕ) → k < length olds → get_or news k 0 ≡ raised_bound (before ∷ olds) c (suc k))
    → height news x ≡ height olds x + min (height olds (x - c) - height olds x) 1
later_raised [] [] before c x d same far past is = refl
later_raised [] (n ∷ news) before c x d same far past is = absurd (omega arith)
later_raised (o ∷ olds) [] before c x d same far past is = absurd (omega arith)
later_raised (o ∷ olds) (n ∷ news) before c x d same far past is =
    let tail = descending-tail before (o ∷ olds) d in
    let head : n ≡ min before (o + c) = is 0 (omega arith) in
    elim (cases_lt x o) [
      | inl here ↦
          (let rest = later_raised olds news o c x tail (omega arith) far here (λ k l. is (suc k) (omega arith)) in
          omega (
            arith,
            height-yes n news x (let h : x < n = omega arith in h),
            height-yes o olds x here,
            height-yes o olds (x - c) (let h : x - c < o = omega arith in h),
          ))
      | inr near ↦
          (let old_none = first_not_past (o ∷ olds) x tail near in
          let new_none : height news x ≡ 0 = none_past news x (λ k. low k near) in
          elim (cases_lt (x - c) o) [
            | inl reached ↦ omega (arith, height-yes n news x (let h : x < n = omega arith in h), height-yes o olds (x - c) reached)
            | inr beyond ↦ omega (arith, height-no n news x (let h : n ≤ x = omega arith in h), first_not_past (o ∷ olds) (x - c) tail beyond)
          ])
    ]
  where
    low : (k : ℕ) → o ≤ x → get_or news k 0 ≤ x
    low k near = elim (cases_lt k (length olds)) [
      | inl within ↦ omega (arith, is (suc k) (let l : suc k < length (o ∷ olds) = omega arith in l), d.falls 1 (suc k) (omega arith))
      | inr outside ↦ omega (arith, get_or_past news k 0 (let l : length news ≤ k = omega arith in l))
    ]

pub height-raised : (olds news : List ℕ) (c x : ℕ) → AreDescending olds → length news ≡ length olds → c ≤ x
    → ((k : ℕ) → k < length olds → get_or news k 0 ≡ raised_bound olds c k)
    → height news x ≡ height olds x + min (height olds (x - c) - height olds x) 1
height-raised olds news c x d same far is =
    later_raised olds news (get_or olds 0 0 + c + x + 1) c x (record { falls = λ i j h. top i j h }) same far (omega arith) (λ k l. first k l)
  where
    top : (i j : ℕ) → i ≤ j → get_or ((get_or olds 0 0 + c + x + 1) ∷ olds) j 0 ≤ get_or ((get_or olds 0 0 + c + x + 1) ∷ olds) i 0
    top zero zero h = omega arith
    top zero (suc j) h = omega (arith, d.falls 0 j (omega arith))
    top (suc i) zero h = absurd (omega arith)
    top (suc i) (suc j) h = d.falls i j (omega arith)

    first : (k : ℕ) → k < length olds → get_or news k 0 ≡ raised_bound ((get_or olds 0 0 + c + x + 1) ∷ olds) c (suc k)
    first zero l = omega (arith, is 0 l)
    first (suc k) l = is (suc k) l

-- such bounds still fall
pub raised_descending : (olds news : List ℕ) (c : ℕ) → AreDescending olds → length news ≡ length olds
    → ((k : ℕ) → k < length olds → get_or news k 0 ≡ raised_bound olds c k) → AreDescending news
raised_descending olds news c d same is = record {
  falls = λ i j h. elim (cases_lt j (length olds)) [
    | inl within ↦ rw (is i (let l : i < length olds = omega arith in l), is j within) (raised_falls i j h)
    | inr outside ↦ omega (arith, get_or_past news j 0 (let l : length news ≤ j = omega arith in l))
  ];
}
  where
    raised_falls : (i j : ℕ) → i ≤ j → raised_bound olds c j ≤ raised_bound olds c i
    raised_falls zero zero h = omega arith
    raised_falls zero (suc j) h = omega (arith, d.falls 0 j (omega arith))
    raised_falls (suc i) zero h = absurd (omega arith)
    raised_falls (suc i) (suc j) h = omega (arith, d.falls i j (omega arith), d.falls (suc i) (suc j) h)

pub raised_within : (olds news : List ℕ) (c most : ℕ) → length news ≡ length olds → ((i : ℕ) → get_or olds i 0 ≤ most)
    → ((k : ℕ) → k < length olds → get_or news k 0 ≡ raised_bound olds c k) → (i : ℕ) → get_or news i 0 ≤ most + c
raised_within olds news c most same within is i = elim (cases_lt i (length olds)) [
  | inl inside ↦ rw (is i inside) (bounded i)
  | inr outside ↦ omega (arith, get_or_past news i 0 (let l : length news ≤ i = omega arith in l))
]
  where
    bounded : (i : ℕ) → raised_bound olds c i ≤ most + c
    bounded zero = omega (arith, within 0)
    bounded (suc i) = omega (arith, within (suc i))
