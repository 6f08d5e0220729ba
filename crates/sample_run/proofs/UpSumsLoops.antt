-- How sums over the components that are up go from one set to another, component by component.
use Rattle.std.proofs.Common.{◌≡◌, ℕ, zero, suc, add-one, ◌+◌, ◌-◌, ◌<◌, ◌≤◌, ◌||◌, inl, inr, Bool, true, false, not, nat_lt, List, [], ◌∷◌, length, get_or, drop, filter, cond, refl, ap, sym, ◌∙◌, arith}
use Rattle.std.specs.List.{range_with_len}
use Rattle.std.proofs.Math.Seq.{drop-cons}
use Rattle.std.proofs.lemmas.List.{drop_all}
use Rattle.std.proofs.lemmas.Bool.{cases_eq, cases_lt, cases_Bool, cond-true, cond-false, lt-ltb, le-ltb, or_left, or_right, or_from, false≢true}
use Rattle.system_model.specs.System.{SystemParts}
use Rattle.outage_chronology.specs.Outages.{component_count, changes, differ}
use Rattle.outage_chronology.specs.Standing.{Standing, is_up_at, was_up_at, changed_at}
use Rattle.zone_network.specs.Sums.{NumberSet}
use Rattle.sample_run.specs.declared.up_sums.UpSums.{UpSums}
use Rattle.sample_run.specs.UpSums.{AreSums, CarrySame, with_state, all_up, none_up}
use Rattle.sample_run.proofs.UpSumsSteps.{sums-alike, state-there, state-other}

-- ---- all of them
abbrev pub first : ℕ → NumberSet
first count = λ k. nat_lt k count

pub added-none : (system : SystemParts) (sums : UpSums) → AreSums system none_up sums → AreSums system (first 0) sums
added-none system sums are = sums-alike system none_up (first 0) sums (λ k below. le-ltb k 0 (omega arith)) are

pub not-first : (k : ℕ) → first k k ≡ false
not-first k = le-ltb k k (omega arith)

pub added-more : (system : SystemParts) (sums : UpSums) (component : ℕ) → AreSums system (with_state (first component) component true) sums → AreSums system (first (component + 1)) sums
added-more system sums component are =
    sums-alike system (with_state (first component) component true) (first (component + 1)) sums
    (λ k below.
    elim (cases_eq k component) [
      | inl here ↦
          lt-ltb k (component + 1) (omega arith)
          ∙ sym (ap (with_state (first component) component true) here ∙ state-there (first component) component true)
      | inr other ↦ step k other ∙ sym (state-other (first component) component k true other)
    ]) are
  where
    step : (k : ℕ) → (k ≡ component → ⊥) → nat_lt k (component + 1) ≡ nat_lt k component
    step k other =
        elim (cases_lt k component) [
          | inl less ↦ lt-ltb k (component + 1) (omega arith) ∙ sym (lt-ltb k component less)
          | inr past ↦ le-ltb k (component + 1) (omega arith) ∙ sym (le-ltb k component past)
        ]

pub added-all : (system : SystemParts) (sums : UpSums) (count : ℕ) → component_count system ≤ count → AreSums system (first count) sums → AreSums system all_up sums
added-all system sums count all are = sums-alike system (first count) all_up sums (λ k below. sym (lt-ltb k count (omega arith))) are

-- ---- those that are out
abbrev pub first_or : NumberSet → ℕ → NumberSet
first_or up count = λ k. nat_lt k count || up k

pub returned-none : (system : SystemParts) (up : NumberSet) (sums : UpSums) → AreSums system up sums → AreSums system (first_or up 0) sums
returned-none system up sums are =
    sums-alike system up (first_or up 0) sums (λ k below. ap (λ (b : Bool). b || up k) (le-ltb k 0 (omega arith))) are

pub not-returned : (up : NumberSet) (k : ℕ) → up k ≡ false → first_or up k k ≡ false
not-returned up k out = or_from (nat_lt k k) (up k) (le-ltb k k (omega arith)) out

-- where one is up the set is the same already
next-same : (up : NumberSet) (component k : ℕ) → (k ≡ component → ⊥) → first_or up (component + 1) k ≡ first_or up component k
next-same up component k other =
    elim (cases_lt k component) [
      | inl less ↦ ap (λ (b : Bool). b || up k) (lt-ltb k (component + 1) (omega arith) ∙ sym (lt-ltb k component less))
      | inr past ↦ ap (λ (b : Bool). b || up k) (le-ltb k (component + 1) (omega arith) ∙ sym (le-ltb k component past))
    ]

next-there : (up : NumberSet) (component : ℕ) → first_or up (component + 1) component ≡ true
next-there up component = or_left (nat_lt component (component + 1)) (up component) (lt-ltb component (component + 1) (omega arith))

pub returned-more : (system : SystemParts) (up : NumberSet) (sums : UpSums) (component : ℕ)
    → AreSums system (with_state (first_or up component) component true) sums
    → AreSums system (first_or up (component + 1)) sums
returned-more system up sums component are =
    sums-alike system (with_state (first_or up component) component true) (first_or up (component + 1)) sums
    (λ k below.
    elim (cases_eq k component) [
      | inl here ↦
          ap (first_or up (component + 1)) here ∙ next-there up component
          ∙ sym (ap (with_state (first_or up component) component true) here ∙ state-there (first_or up component) component true)
      | inr other ↦ next-same up component k other ∙ sym (state-other (first_or up component) component k true other)
    ]) are

pub returned-same : (system : SystemParts) (up : NumberSet) (sums : UpSums) (component : ℕ)
    → up component ≡ true
    → AreSums system (first_or up component) sums
    → AreSums system (first_or up (component + 1)) sums
returned-same system up sums component is_up are =
    sums-alike system (first_or up component) (first_or up (component + 1)) sums
    (λ k below.
    elim (cases_eq k component) [
      | inl here ↦
          ap (first_or up (component + 1)) here ∙ next-there up component
          ∙ sym (or_right (nat_lt k component) (up k) (ap up here ∙ is_up))
      | inr other ↦ next-same up component k other
    ]) are

pub returned-all : (system : SystemParts) (up : NumberSet) (sums : UpSums) (count : ℕ) → component_count system ≤ count → AreSums system (first_or up count) sums → AreSums system all_up sums
returned-all system up sums count all are =
    sums-alike system (first_or up count) all_up sums (λ k below. sym (or_left (nat_lt k count) (up k) (lt-ltb k count (omega arith)))) are

-- ---- those that change
-- the numbers of a range that pass a test: the first of them, and the others
record IsNext (p : ℕ → Bool) (a m c : ℕ) (rest : List ℕ) : Type 0 where
  from : a ≤ c
  early : c < a + m
  passes : p c ≡ true
  none : (k : ℕ) → a ≤ k → k < c → p k ≡ false
  others : rest ≡ filter p (range_with_len (c + 1) (a + m - (c + 1)))

passing-next : (p : ℕ → Bool) (a m c : ℕ) (rest : List ℕ) → filter p (range_with_len a m) ≡ c ∷ rest → IsNext p a m c rest
passing-next p a zero c rest is = absurd (cc)
passing-next p a (suc m) c rest is =
    elim (cases_Bool (p a)) [
      | inl holds ↦
          let both : a ∷ filter p (range_with_len (a + 1) m) ≡ c ∷ rest = sym (cond-true (p a) (a ∷ filter p (range_with_len (a + 1) m)) (filter p (range_with_len (a + 1) m)) holds) ∙ is in
          let here : a ≡ c = cc in
          let tail : filter p (range_with_len (a + 1) m) ≡ rest = cc in
          let count : m ≡ a + suc m - (c + 1) = omega arith in
          record {
            from = omega arith;
            early = omega arith;
            passes = ap p (sym here) ∙ holds;
            none = λ k past before. absurd (omega arith);
            others =
                sym tail ∙ ap (λ (b : ℕ). filter p (range_with_len (b + 1) m)) here
                ∙ ap (λ (n : ℕ). filter p (range_with_len (c + 1) n)) count;
          }
      | inr fails ↦
          let later : filter p (range_with_len (a + 1) m) ≡ c ∷ rest = sym (cond-false (p a) (a ∷ filter p (range_with_len (a + 1) m)) (filter p (range_with_len (a + 1) m)) fails) ∙ is in
          let next : IsNext p (a + 1) m c rest = passing-next p (a + 1) m c rest later in
          let count : a + 1 + m - (c + 1) ≡ a + suc m - (c + 1) = omega arith in
          record {
            from = omega (arith, next.from);
            early = omega (arith, next.early);
            passes = next.passes;
            none =
                λ k past before.
                elim (cases_eq k a) [
                  | inl here ↦ ap p here ∙ fails
                  | inr other ↦ next.none k (omega arith) before
                ];
            others = next.others ∙ ap (λ (n : ℕ). filter p (range_with_len (c + 1) n)) count;
          }
    ]

passing-end : (p : ℕ → Bool) (a m : ℕ) → filter p (range_with_len a m) ≡ [] → (k : ℕ) → a ≤ k → k < a + m → p k ≡ false
passing-end p a zero is k past before = absurd (omega arith)
passing-end p a (suc m) is k past before =
    elim (cases_Bool (p a)) [
      | inl holds ↦
          let both : a ∷ filter p (range_with_len (a + 1) m) ≡ [] = sym (cond-true (p a) (a ∷ filter p (range_with_len (a + 1) m)) (filter p (range_with_len (a + 1) m)) holds) ∙ is in
          absurd (cc)
      | inr fails ↦
          let later : filter p (range_with_len (a + 1) m) ≡ [] = sym (cond-false (p a) (a ∷ filter p (range_with_len (a + 1) m)) (filter p (range_with_len (a + 1) m)) fails) ∙ is in
          elim (cases_eq k a) [
            | inl here ↦ ap p here ∙ fails
            | inr other ↦ passing-end p (a + 1) m later k (omega arith) (omega arith)
          ]
    ]

pub changes_at : Standing → NumberSet
changes_at standing = changes standing.system standing.seed standing.sample standing.hour

-- the components before one as they are in this hour, and the others as they were before it
abbrev pub up_until : Standing → ℕ → NumberSet
up_until standing component = λ k. cond (nat_lt k component) (is_up_at standing k) (was_up_at standing k)

until-past : (standing : Standing) (component k : ℕ) → k < component → up_until standing component k ≡ is_up_at standing k
until-past standing component k less = cond-true (nat_lt k component) (is_up_at standing k) (was_up_at standing k) (lt-ltb k component less)

until-later : (standing : Standing) (component k : ℕ) → component ≤ k → up_until standing component k ≡ was_up_at standing k
until-later standing component k past = cond-false (nat_lt k component) (is_up_at standing k) (was_up_at standing k) (le-ltb k component past)

unchanged : (a b : Bool) → differ a b ≡ false → b ≡ a
unchanged true true same = refl
unchanged true false same = cc
unchanged false true same = cc
unchanged false false same = refl

changed : (a b : Bool) → differ a b ≡ true → a ≡ not b
changed true true same = cc
changed true false same = refl
changed false true same = refl
changed false false same = cc

-- the sums have followed the first so many of the components that change
pub record HasFollowed (system : SystemParts) (standing : Standing) (sums : UpSums) (items : List ℕ) (index : ℕ) : Type 0 where
  pub until : ℕ
  pub among : until ≤ component_count system
  pub are : AreSums system (up_until standing until) sums
  pub left : drop index items ≡ filter (changes_at standing) (range_with_len until (component_count system - until))

pub followed-none : (system : SystemParts) (standing : Standing) (sums : UpSums) (items : List ℕ)
    → standing.system ≡ system
    → items ≡ changed_at standing
    → AreSums system (was_up_at standing) sums
    → HasFollowed system standing sums items 0
unfolding changes_at
followed-none system standing sums items same is are =
    record {
      until = 0;
      among = omega arith;
      are = sums-alike system (was_up_at standing) (up_until standing 0) sums (λ k below. until-later standing 0 k (omega arith)) are;
      left =
          is ∙ ap (λ (n : ℕ). filter (changes_at standing) (range_with_len 0 n)) (ap component_count same ∙ all);
    }
  where
    all : component_count system ≡ component_count system - 0
    all = omega arith

-- the next one is ready to turn
pub record IsReadyToTurn (system : SystemParts) (standing : Standing) (sums : UpSums) (items : List ℕ) (index component : ℕ) : Type 0 where
  pub among : component < component_count system
  pub are : AreSums system (up_until standing component) sums
  pub turns : up_until standing component component ≡ not (is_up_at standing component)
  pub left : drop (index + 1) items ≡ filter (changes_at standing) (range_with_len (component + 1) (component_count system - (component + 1)))

pub followed-ready : (system : SystemParts) (standing : Standing) (sums : UpSums) (items : List ℕ) (index component : ℕ)
    → index < length items
    → component ≡ get_or items index 0
    → HasFollowed system standing sums items index
    → IsReadyToTurn system standing sums items index component
unfolding changes_at
followed-ready system standing sums items index component below here has =
    let count = component_count system in
    let head : drop index items ≡ component ∷ drop (index + 1) items =
    drop-cons items index 0 below ∙ ap (λ (c : ℕ). c ∷ drop (suc index) items) (sym here) ∙ ap (λ (i : ℕ). component ∷ drop i items) (sym (add-one index)) in
    let next : IsNext (changes_at standing) has.until (count - has.until) component (drop (index + 1) items) =
    passing-next (changes_at standing) has.until (count - has.until) component (drop (index + 1) items) (sym has.left ∙ head) in
    let rest : has.until + (count - has.until) - (component + 1) ≡ count - (component + 1) = omega (arith, has.among) in
    record {
      among = omega (arith, next.early, has.among);
      are =
          sums-alike system (up_until standing has.until) (up_until standing component) sums
          (λ k less.
          elim (cases_lt k component) [
            | inl before ↦
                until-past standing component k before
                ∙ elim (cases_lt k has.until) [
                  | inl earlier ↦ sym (until-past standing has.until k earlier)
                  | inr past ↦
                      unchanged (was_up_at standing k) (is_up_at standing k) (next.none k past before)
                      ∙ sym (until-later standing has.until k past)
                ]
            | inr past ↦ until-later standing component k past ∙ sym (until-later standing has.until k (omega (arith, next.from)))
          ]) has.are;
      turns = until-later standing component component (omega arith) ∙ changed (was_up_at standing component) (is_up_at standing component) next.passes;
      left = next.others ∙ ap (λ (n : ℕ). filter (changes_at standing) (range_with_len (component + 1) n)) rest;
    }

pub followed-more : (system : SystemParts) (standing : Standing) (before sums : UpSums) (items : List ℕ) (index component : ℕ) (up : Bool)
    → up ≡ is_up_at standing component
    → IsReadyToTurn system standing before items index component
    → AreSums system (with_state (up_until standing component) component up) sums
    → HasFollowed system standing sums items (index + 1)
followed-more system standing before sums items index component up is ready are =
    record {
      until = component + 1;
      among = omega (arith, ready.among);
      are =
          sums-alike system (with_state (up_until standing component) component up) (up_until standing (component + 1)) sums
          (λ k less.
          elim (cases_eq k component) [
            | inl here ↦
                until-past standing (component + 1) k (omega arith)
                ∙ ap (is_up_at standing) here ∙ sym is
                ∙ sym (ap (with_state (up_until standing component) component up) here ∙ state-there (up_until standing component) component up)
            | inr other ↦
                elim (cases_lt k component) [
                  | inl earlier ↦ until-past standing (component + 1) k (omega arith) ∙ sym (until-past standing component k earlier)
                  | inr past ↦ until-later standing (component + 1) k (omega arith) ∙ sym (until-later standing component k past)
                ]
                ∙ sym (state-other (up_until standing component) component k up other)
          ]) are;
      left = ready.left;
    }

pub followed-all : (system : SystemParts) (standing : Standing) (sums : UpSums) (items : List ℕ) (index : ℕ)
    → length items ≤ index
    → HasFollowed system standing sums items index
    → AreSums system (is_up_at standing) sums
unfolding changes_at
followed-all system standing sums items index all has =
    let count = component_count system in
    let none : drop index items ≡ [] = drop_all index items all in
    let rest = passing-end (changes_at standing) has.until (count - has.until) (sym has.left ∙ none) in
    sums-alike system (up_until standing has.until) (is_up_at standing) sums
    (λ k less.
    elim (cases_lt k has.until) [
      | inl earlier ↦ sym (until-past standing has.until k earlier)
      | inr past ↦
          unchanged (was_up_at standing k) (is_up_at standing k) (rest k past (omega arith))
          ∙ sym (until-later standing has.until k past)
    ]) has.are

-- and so is the item that stands at a place of what changed
pub ready-at : (system : SystemParts) (standing : Standing) (sums : UpSums) (items : List ℕ) (index : ℕ)
    → items ≡ changed_at standing
    → index < length items
    → HasFollowed system standing sums (changed_at standing) index
    → IsReadyToTurn system standing sums (changed_at standing) index (get_or items index 0)
ready-at system standing sums items index is below =
    followed-ready system standing sums (changed_at standing) index (get_or items index 0) (omega (arith, ap length is, below)) (ap (λ (xs : List ℕ). get_or xs index 0) is)

-- ---- what lines carry, over one change and more
pub carry-more : (one two three : UpSums) (a b : Bool)
    → (a ≡ false → CarrySame one two)
    → (b ≡ false → CarrySame two three)
    → a || b ≡ false
    → CarrySame one three
carry-more one two three true b first second none = absurd (false≢true (sym none))
carry-more one two three false b first second none =
    record {
      forward = (second none).forward ∙ (first refl).forward;
      backward = (second none).backward ∙ (first refl).backward;
    }
