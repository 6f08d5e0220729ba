-- Ends that are kept one by one up to a place and by bounds behind it.
use Rattle.std.proofs.Common.{◌≡◌, ℕ, zero, suc, ◌+◌, ◌-◌, ◌*◌, ◌<◌, ◌≤◌, List, [], ◌∷◌, ◌++◌, length, get_or, take, replicate, min, max, inl, inr, refl, sym, ap, subst, ◌∙◌, arith, length-append}
use Rattle.std.proofs.lemmas.Bool.{cases_lt}
use Rattle.std.proofs.lemmas.Bool.Decides.{nat_tests}
use Rattle.std.proofs.lemmas.List.{get_or_past, get_or-take, get_or_append_left, get_or-append_right, get_or-replicate, get_or_push, length-replicate, length-take-le, take_all}
use Rattle.fixed_interval.specs.Rounding.{ceil_div}
use Rattle.fixed_interval.proofs.Rounds.{ceil_div-more, ceil_div-none}
use Rattle.outage_table.proofs.Ends.{mean-le, ceil_div-le}
use Rattle.outage_table.specs.Fleet.{moved, AreFalling, height, end_of, AreDescending, raised_bound}
use Rattle.outage_table.proofs.HeightLaws.{all_past, height-le, height-next, height-past, height-le-length, height-longer, height-take, height-raised}

pub end_of-near : (near bounds : List ℕ) (x : ℕ) → x < length near → end_of near bounds x ≡ get_or near x 0
end_of-near near bounds x h = grind (arith, nat_tests)

pub end_of-far : (near bounds : List ℕ) (x : ℕ) → length near ≤ x → end_of near bounds x ≡ height bounds x
end_of-far near bounds x h = grind (arith, nat_tests)

-- where steps of the staircase are long enough, up to step `at`, an end is not far below the one `c` places before
pub calm_past : (bs : List ℕ) (c small at x : ℕ) → AreDescending bs → ((k : ℕ) → k < at → get_or bs (k + small) 0 + c ≤ get_or bs k 0)
    → get_or bs (at + small) 0 + c ≤ x → height bs (x - c) ≤ height bs x + small
calm_past bs c small at x d steps far = elim (cases_lt (height bs x) at) [
  | inl below ↦ (let long = steps (height bs x) below in
      let next = height-next bs x d in
      height-le bs (height bs x + small) (x - c) d (omega arith))
  | inr above ↦ (let low = height-le bs (at + small) (x - c) d (omega arith) in omega arith)
]

-- one more end is kept by itself
pub end_of-push : (near longer bounds : List ℕ) (e x : ℕ) → longer ≡ near ++ e ∷ [] → e ≡ height bounds (length near)
    → end_of longer bounds x ≡ end_of near bounds x
end_of-push near longer bounds e x all is = elim (cases_lt x (length near)) [
  | inl inside ↦
      end_of-near longer bounds x (omega (arith, ap length all, length-append near (e ∷ [])))
      ∙ ap (λ xs. get_or xs x 0) all ∙ get_or_append_left near (e ∷ []) 0 x inside ∙ sym (end_of-near near bounds x inside)
  | inr outside ↦ elim (cases_lt (length near) x) [
    | inl further ↦
        end_of-far longer bounds x (omega (arith, ap length all, length-append near (e ∷ []))) ∙ sym (end_of-far near bounds x outside)
    | inr there ↦
        (let at : length near ≡ x = omega arith in
        end_of-near longer bounds x (omega (arith, ap length all, length-append near (e ∷ [])))
        ∙ ap (λ xs. get_or xs x 0) all ∙ get_or_push near e 0 x at ∙ is ∙ ap (height bounds) at ∙ sym (end_of-far near bounds x outside))
  ]
]

-- The ends from `len` on are kept by bounds, and were the ends before.
pub record HasTaken (near before bounds : List ℕ) (len : ℕ) : Type 0 where
  pub descending : AreDescending bounds
  pub past : (i : ℕ) → i < length bounds → len < get_or bounds i 0
  pub far : (x : ℕ) → len ≤ x → height bounds x ≡ end_of near before x
  pub within : (most : ℕ) → length near ≤ most → ((i : ℕ) → get_or before i 0 ≤ most) → (i : ℕ) → get_or bounds i 0 ≤ most

pub take_none : (near bounds : List ℕ) (len : ℕ) → AreDescending bounds → ((i : ℕ) → i < length bounds → length near < get_or bounds i 0)
    → len ≡ length near → HasTaken near bounds bounds len
take_none near bounds len descending past is = record {
  descending = descending;
  past = λ i h. omega (arith, past i h);
  far = λ x h. sym (end_of-far near bounds x (omega arith));
  within = λ most h all i. all i;
}

-- what stands in bounds and further ones, all at one place
longer-at : (bounds : List ℕ) (k n i : ℕ) → length bounds ≤ i → i < length bounds + k → get_or (bounds ++ replicate {A = ℕ} k n) i 0 ≡ n
longer-at bounds k n i h l = get_or-append_right bounds (replicate {A = ℕ} k n) (length bounds) i 0 refl h ∙ get_or-replicate k (i - length bounds) n 0 (omega arith)

longer-past : (bounds : List ℕ) (k n i : ℕ) → length bounds + k ≤ i → get_or (bounds ++ replicate {A = ℕ} k n) i 0 ≡ 0
longer-past bounds k n i h = get_or_past (bounds ++ replicate {A = ℕ} k n) i 0 (omega (arith, length-append bounds (replicate {A = ℕ} k n), length-replicate {A = ℕ} k n))

longer-le : (bounds : List ℕ) (k n i most : ℕ) → ((i : ℕ) → get_or bounds i 0 ≤ most) → n ≤ most → get_or (bounds ++ replicate {A = ℕ} k n) i 0 ≤ most
longer-le bounds k n i most all h = elim (cases_lt i (length bounds)) [
  | inl inside ↦ omega (arith, get_or_append_left bounds (replicate {A = ℕ} k n) 0 i inside, all i)
  | inr outside ↦ elim (cases_lt i (length bounds + k)) [
    | inl new ↦ omega (arith, longer-at bounds k n i outside new)
    | inr past ↦ omega (arith, longer-past bounds k n i past)
  ]
]

longer-ge : (bounds : List ℕ) (k n i : ℕ) → ((i : ℕ) → i < length bounds → n ≤ get_or bounds i 0) → i < length bounds + k
    → n ≤ get_or (bounds ++ replicate {A = ℕ} k n) i 0
longer-ge bounds k n i all h = elim (cases_lt i (length bounds)) [
  | inl inside ↦ omega (arith, get_or_append_left bounds (replicate {A = ℕ} k n) 0 i inside, all i inside)
  | inr outside ↦ omega (arith, longer-at bounds k n i outside h)
]

longer-descending : (bounds : List ℕ) (k n : ℕ) → AreDescending bounds → ((i : ℕ) → i < length bounds → n ≤ get_or bounds i 0)
    → AreDescending (bounds ++ replicate {A = ℕ} k n)
longer-descending bounds k n d all = record {
  falls = λ i j h. elim (cases_lt j (length bounds)) [
    | inl inside ↦
        omega (
          arith,
          get_or_append_left bounds (replicate {A = ℕ} k n) 0 j inside,
          get_or_append_left bounds (replicate {A = ℕ} k n) 0 i (let l : i < length bounds = omega arith in l),
          d.falls i j h,
        )
    | inr outside ↦ elim (cases_lt j (length bounds + k)) [
      | inl new ↦ omega (arith, longer-at bounds k n j outside new, longer-ge bounds k n i all (let l : i < length bounds + k = omega arith in l))
      | inr past ↦ omega (arith, longer-past bounds k n j past)
    ]
  ];
}

height-longer-here : (bounds : List ℕ) (k n x : ℕ) → x < n → ((i : ℕ) → i < length bounds → n ≤ get_or bounds i 0)
    → height (bounds ++ replicate {A = ℕ} k n) x ≡ length bounds + k
height-longer-here bounds k n x h all =
    let long : length (bounds ++ replicate {A = ℕ} k n) ≡ length bounds + k = omega (arith, length-append bounds (replicate {A = ℕ} k n), length-replicate {A = ℕ} k n) in
    all_past (bounds ++ replicate {A = ℕ} k n) x (λ i l. omega (arith, longer-ge bounds k n i all (let l' : i < length bounds + k = omega arith in l'))) ∙ long

-- the last of the ends that are kept one by one goes to the bounds
pub take_more : (near before bounds longer : List ℕ) (len k end : ℕ) → ((x y : ℕ) → x ≤ y → end_of near before y ≤ end_of near before x)
    → HasTaken near before bounds len → 0 < len → len ≤ length near → end ≡ get_or near (len - 1) 0
    → longer ≡ take end bounds ++ replicate {A = ℕ} k len → length longer ≡ end → HasTaken near before longer (len - 1)
take_more near before bounds longer len k end falls has some within is all long =
    let here : end_of near before (len - 1) ≡ end = end_of-near near before (len - 1) (omega arith) ∙ sym is in
    let whole : height bounds len ≡ length bounds = all_past bounds len (λ i h. has.past i h) in
    let enough : length bounds ≤ end = omega (arith, falls (len - 1) len (omega arith), has.far len (omega arith)) in
    let all' : longer ≡ bounds ++ replicate {A = ℕ} k len = all ∙ ap (λ xs. xs ++ replicate {A = ℕ} k len) (take_all end bounds enough) in
    let count : length bounds + k ≡ end = omega (arith, ap length all', length-append bounds (replicate {A = ℕ} k len), length-replicate {A = ℕ} k len) in
    let above : (i : ℕ) → i < length bounds → len ≤ get_or bounds i 0 = λ i h. omega (arith, has.past i h) in
    rw all' (record {
      descending = longer-descending bounds k len has.descending above;
      past = λ i h. omega (arith, longer-ge bounds k len i above (let l : i < length bounds + k = omega (arith, length-append bounds (replicate {A = ℕ} k len), length-replicate {A = ℕ} k len) in l));
      far = λ x h. elim (cases_lt x len) [
        | inl last ↦
            (let at : x ≡ len - 1 = omega arith in
            height-longer-here bounds k len x last above ∙ count ∙ sym here ∙ ap (end_of near before) (sym at))
        | inr further ↦ height-longer bounds k len x further ∙ has.far x further
      ];
      within = λ most h bounded i. longer-le bounds k len i most (λ j. has.within most h bounded j) (omega arith);
    })

pub take_done : (near before bounds : List ℕ) (len : ℕ) → HasTaken near before bounds len → len ≤ length near
    → (x : ℕ) → end_of (take len near) bounds x ≡ end_of near before x
take_done near before bounds len has within x =
    let long = length-take-le len near within in
    elim (cases_lt x len) [
      | inl inside ↦
          end_of-near (take len near) bounds x (omega arith) ∙ get_or-take len near x 0 inside ∙ sym (end_of-near near before x (omega arith))
      | inr outside ↦ end_of-far (take len near) bounds x (omega arith) ∙ has.far x outside
    ]

-- ends that have moved still fall
moved_up-falls : (end : ℕ → ℕ) (out up c x y : ℕ) → ((i j : ℕ) → i ≤ j → end j ≤ end i) → 0 < out + up → x ≤ y
    → moved ceil_div out (out + up) c end y ≤ moved ceil_div out (out + up) c end x
moved_up-falls end out up c x y falls some h =
    rw (ceil_div-more out up (end y) (end (y - c)) some (falls (y - c) y (omega arith)), ceil_div-more out up (end x) (end (x - c)) some (falls (x - c) x (omega arith)))
    (ceil_div-le _ _ (out + up) some (mean-le out up (end y) (end (y - c)) (end x) (end (x - c)) (falls x y h) (falls (x - c) (y - c) (omega arith))))

pub moved-falls : (end : ℕ → ℕ) (out all c : ℕ) → ((i j : ℕ) → i ≤ j → end j ≤ end i) → 0 < all → out ≤ all
    → (x y : ℕ) → x ≤ y → moved ceil_div out all c end y ≤ moved ceil_div out all c end x
moved-falls end out all c falls some part x y h =
    let whole : out + (all - out) ≡ all = omega arith in
    subst (λ w. moved ceil_div out w c end y ≤ moved ceil_div out w c end x) whole (moved_up-falls end out (all - out) c x y falls (omega arith) h)

-- a share of nothing moves nothing
pub none_moved : (end : ℕ → ℕ) (all c x : ℕ) → 0 < all → end x ≡ moved ceil_div 0 all c end x
none_moved end all c x some =
    let nothing = ceil_div-none (0 * (end (x - c) - end x)) all some (omega arith) in
    omega arith

-- One more unit: the ends that are kept one by one are made anew, and the bounds are raised.
pub record IsAdded (near filled mixed far raised : List ℕ) (len c small out all : ℕ) : Type 0 where
  pub descending : AreDescending far
  pub fills : (x : ℕ) → end_of filled far x ≡ end_of near far x
  pub long : length filled ≡ len
  pub reaches : length near + c ≤ len
  pub calm : (x : ℕ) → len ≤ x → height far (x - c) ≤ height far x + small
  pub share : (d : ℕ) → d ≤ small → ceil_div (out * d) all ≡ min d 1
  pub mixes : (x : ℕ) → x < length filled → get_or mixed x 0 ≡ moved ceil_div out all c (λ y. get_or filled y 0) x
  pub mixed_long : length mixed ≡ length filled
  pub raises : (k : ℕ) → k < length far → get_or raised k 0 ≡ raised_bound far c k
  pub raised_long : length raised ≡ length far

-- from what the parts of an addition give
pub added_made : (near filled lent mixed far read filled_by lent_far raised : List ℕ) (calm most len c small out all : ℕ)
    → AreDescending far → read ≡ far → filled_by ≡ far → lent ≡ filled → lent_far ≡ far → most ≡ max (length near) calm → len ≡ most + c
    → ((x : ℕ) → calm + c ≤ x → height read (x - c) ≤ height read x + small)
    → ((x : ℕ) → end_of filled filled_by x ≡ end_of near filled_by x) → length filled ≡ max (length near) len
    → ((d : ℕ) → d ≤ small → ceil_div (out * d) all ≡ min d 1)
    → ((x : ℕ) → x < length lent → get_or mixed x 0 ≡ moved ceil_div out all c (λ y. get_or lent y 0) x) → length mixed ≡ length lent
    → ((k : ℕ) → k < length lent_far → get_or raised k 0 ≡ raised_bound lent_far c k) → length raised ≡ length lent_far
    → IsAdded near filled mixed far raised len c small out all
added_made near filled lent mixed far read filled_by lent_far raised calm most len c small out all d reads fills_by lends lends_far is_most is_len calms fills long share mixes mixed_long raises raised_long = record {
  descending = d;
  fills = subst (λ bs. (x : ℕ) → end_of filled bs x ≡ end_of near bs x) fills_by fills;
  long = omega arith;
  reaches = omega arith;
  calm = λ x h. subst (λ bs. height bs (x - c) ≤ height bs x + small) reads (calms x (omega arith));
  share = share;
  mixes = subst (λ xs. (x : ℕ) → x < length xs → get_or mixed x 0 ≡ moved ceil_div out all c (λ y. get_or xs y 0) x) lends mixes;
  mixed_long = mixed_long ∙ ap length lends;
  raises = subst (λ bs. (k : ℕ) → k < length bs → get_or raised k 0 ≡ raised_bound bs c k) lends_far raises;
  raised_long = raised_long ∙ ap length lends_far;
}

pub all_added : (near filled mixed far raised : List ℕ) (len c small out all : ℕ) → IsAdded near filled mixed far raised len c small out all
    → (x : ℕ) → end_of mixed raised x ≡ moved ceil_div out all c (end_of near far) x
all_added near filled mixed far raised len c small out all is x = elim (cases_lt x len) [
  | inl inside ↦
      (let here : get_or filled x 0 ≡ end_of near far x = sym (end_of-near filled far x (omega (arith, is.long))) ∙ is.fills x in
      let there : get_or filled (x - c) 0 ≡ end_of near far (x - c) = sym (end_of-near filled far (x - c) (omega (arith, is.long))) ∙ is.fills (x - c) in
      end_of-near mixed raised x (omega (arith, is.long, is.mixed_long)) ∙ is.mixes x (omega (arith, is.long))
      ∙ ap (λ n. n + ceil_div (out * (get_or filled (x - c) 0 - n)) all) here
      ∙ ap (λ n. end_of near far x + ceil_div (out * (n - end_of near far x)) all) there)
  | inr outside ↦
      (let here : end_of near far x ≡ height far x = end_of-far near far x (omega (arith, is.reaches)) in
      let there : end_of near far (x - c) ≡ height far (x - c) = end_of-far near far (x - c) (omega (arith, is.reaches)) in
      let part = is.share (height far (x - c) - height far x) (omega (arith, is.calm x outside)) in
      end_of-far mixed raised x (omega (arith, is.long, is.mixed_long))
      ∙ height-raised far raised c x is.descending is.raised_long (omega (arith, is.reaches)) is.raises
      ∙ ap (λ n. height far x + n) (sym part)
      ∙ sym (ap (λ n. n + ceil_div (out * (end_of near far (x - c) - n)) all) here ∙ ap (λ n. height far x + ceil_div (out * (n - height far x)) all) there))
]

-- The bounds that aren't past the last of the ends that are kept one by one are left out.
pub record AreLeft (near bounds left : List ℕ) (count : ℕ) : Type 0 where
  pub descending : AreDescending bounds
  pub counted : count ≡ height bounds (length near)
  pub first : left ≡ take count bounds

pub left_made : (near bounds lent left : List ℕ) (n count : ℕ) → AreDescending bounds → lent ≡ bounds → n ≡ length near
    → count ≡ height lent n → left ≡ take count bounds → AreLeft near bounds left count
left_made near bounds lent left n count descending lends all is first = record {
  descending = descending;
  counted = is ∙ ap (λ xs. height xs n) lends ∙ ap (height bounds) all;
  first = first;
}

pub left_same : (near bounds left : List ℕ) (count x : ℕ) → AreLeft near bounds left count → end_of near left x ≡ end_of near bounds x
left_same near bounds left count x are = elim (cases_lt x (length near)) [
  | inl inside ↦ end_of-near near left x inside ∙ sym (end_of-near near bounds x inside)
  | inr outside ↦
      end_of-far near left x outside ∙ ap (λ xs. height xs x) are.first
      ∙ height-take bounds count x are.descending
      (let next : get_or bounds count 0 ≤ length near = rw are.counted (height-next bounds (length near) are.descending) in omega arith)
      ∙ sym (end_of-far near bounds x outside)
]

take_past : (n : ℕ) (xs : List ℕ) (x : ℕ) → n ≤ x → get_or (take n xs) x 0 ≡ 0
take_past zero xs x h = refl
take_past (suc n) [] x h = refl
take_past (suc n) (y ∷ xs) zero h = absurd (omega arith)
take_past (suc n) (y ∷ xs) (suc x) h = take_past n xs x (omega arith)

pub left_descending : (near bounds left : List ℕ) (count : ℕ) → AreLeft near bounds left count → AreDescending left
left_descending near bounds left count are = rw are.first (record {
  falls = λ i j h. elim (cases_lt j count) [
    | inl inside ↦
        omega (arith, get_or-take count bounds j 0 inside, get_or-take count bounds i 0 (let l : i < count = omega arith in l), are.descending.falls i j h)
    | inr outside ↦ omega (arith, take_past count bounds j outside)
  ];
})

pub left_within : (near bounds left : List ℕ) (count most i : ℕ) → AreLeft near bounds left count → ((i : ℕ) → get_or bounds i 0 ≤ most)
    → get_or left i 0 ≤ most
left_within near bounds left count most i are h = rw are.first (elim (cases_lt i count) [
  | inl inside ↦ omega (arith, get_or-take count bounds i 0 inside, h i)
  | inr outside ↦ omega (arith, take_past count bounds i outside)
])

pub left_past : (near bounds left : List ℕ) (count i : ℕ) → AreLeft near bounds left count → i < length left → length near < get_or left i 0
left_past near bounds left count i are h =
    let few = height-le-length bounds (length near) in
    let inside : i < count = omega (arith, are.counted, ap length are.first, length-take-le count bounds (let l : count ≤ length bounds = omega (arith, are.counted) in l)) in
    rw (are.first, get_or-take count bounds i 0 inside) (height-past bounds i (length near) are.descending (rw are.counted at inside))

-- a list of ends that are kept one by one falls where all ends do
pub filled_falling : (near filled far : List ℕ) → ((x : ℕ) → end_of filled far x ≡ end_of near far x) → AreFalling (end_of near far)
    → AreFalling (λ x. get_or filled x 0)
filled_falling near filled far same falling = record {
  falls = λ x y h. elim (cases_lt y (length filled)) [
    | inl inside ↦
        rw (read x (let l : x < length filled = omega arith in l), read y inside) (falling.falls x y h)
    | inr outside ↦ omega (arith, get_or_past filled y 0 outside)
  ];
  part = λ x. elim (cases_lt x (length filled)) [
    | inl inside ↦ rw (read x inside) (falling.part x)
    | inr outside ↦ omega (arith, get_or_past filled x 0 outside)
  ];
}
  where
    read : (x : ℕ) → x < length filled → get_or filled x 0 ≡ end_of near far x
    read x h = sym (end_of-near filled far x h) ∙ same x
