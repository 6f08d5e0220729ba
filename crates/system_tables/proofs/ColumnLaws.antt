use Rattle.std.proofs.Common.{◌≡◌, ℕ, ◌+◌, ◌<◌, ◌≤◌, Bool, true, false, if◌then◌else◌, List, [], ◌∷◌, ◌++◌, length, get_or, drop, Option, None, Some, refl, sym, ap, ◌∙◌}
use Rattle.std.specs.Option.{option_to_list, is_some}
use Rattle.std.specs.Str.{bytes_eq}
use Rattle.std.proofs.lemmas.Bool.{false≢true}
use Rattle.std.proofs.lemmas.List.{at_drop_more, at_drop_all}
use Rattle.system_tables.specs.declared.columns.Found.TheVariants.{Missing, At, Twice}
use Rattle.system_tables.specs.Columns.{places_from, found_in}

if-true : {A : Type 0} (b : Bool) (x y : A) → b ≡ true → (if b then x else y) ≡ x
if-true true x y e = refl
if-true false x y e = absurd (false≢true e)

if-false : {A : Type 0} (b : Bool) (x y : A) → b ≡ false → (if b then x else y) ≡ y
if-false true x y e = absurd (false≢true (sym e))
if-false false x y e = refl

places-cons : (at : ℕ) (name field : List ℕ) (fields : List (List ℕ))
    → places_from at name (field ∷ fields)
    ≡ (if bytes_eq field name then at ∷ places_from (at + 1) name fields else places_from (at + 1) name fields)
unfolding places_from
places-cons at name field fields = refl

places-none : (at : ℕ) (name : List ℕ) → places_from at name [] ≡ []
unfolding places_from
places-none at name = refl

drop-more : (fields : List (List ℕ)) (at : ℕ) → at < length fields → drop at fields ≡ get_or fields at [] ∷ drop (at + 1) fields
drop-more fields at below = at_drop_more (λ (xs : List (List ℕ)). xs) fields at [] below

pub places-other : (at : ℕ) (name : List ℕ) (fields : List (List ℕ))
    → at < length fields
    → bytes_eq (get_or fields at []) name ≡ false
    → places_from at name (drop at fields) ≡ places_from (at + 1) name (drop (at + 1) fields)
places-other at name fields below other =
    ap (places_from at name) (drop-more fields at below)
    ∙ places-cons at name (get_or fields at []) (drop (at + 1) fields)
    ∙ if-false (bytes_eq (get_or fields at []) name) _ _ other

pub places-same : (at : ℕ) (name : List ℕ) (fields : List (List ℕ))
    → at < length fields
    → bytes_eq (get_or fields at []) name ≡ true
    → places_from at name (drop at fields) ≡ at ∷ places_from (at + 1) name (drop (at + 1) fields)
places-same at name fields below same =
    ap (places_from at name) (drop-more fields at below)
    ∙ places-cons at name (get_or fields at []) (drop (at + 1) fields)
    ∙ if-true (bytes_eq (get_or fields at []) name) _ _ same

-- the places so far and those that follow
abbrev pub AreSoFar : List (List ℕ) → List ℕ → ℕ → Option ℕ → Type 0
AreSoFar fields name at first = places_from 0 name fields ≡ option_to_list first ++ places_from at name (drop at fields)

pub so_far-twice : (fields : List (List ℕ)) (name : List ℕ) (at : ℕ) (first : Option ℕ)
    → AreSoFar fields name at first
    → at < length fields
    → bytes_eq (get_or fields at []) name ≡ true
    → is_some first ≡ true
    → Twice ≡ found_in fields name
so_far-twice fields name at None h below same some = absurd (false≢true some)
so_far-twice fields name at (Some k) h below same some =
    let e : places_from 0 name fields ≡ k ∷ at ∷ places_from (at + 1) name (drop (at + 1) fields) =
    h ∙ ap (λ (xs : List ℕ). k ∷ xs) (places-same at name fields below same) in
    rw e refl

pub so_far-first : (fields : List (List ℕ)) (name : List ℕ) (at : ℕ) (first : Option ℕ)
    → AreSoFar fields name at first
    → at < length fields
    → bytes_eq (get_or fields at []) name ≡ true
    → is_some first ≡ false
    → AreSoFar fields name (at + 1) (Some at)
so_far-first fields name at None h below same none = h ∙ places-same at name fields below same
so_far-first fields name at (Some k) h below same none = absurd (false≢true (sym none))

pub so_far-other : (fields : List (List ℕ)) (name : List ℕ) (at : ℕ) (first : Option ℕ)
    → AreSoFar fields name at first
    → at < length fields
    → bytes_eq (get_or fields at []) name ≡ false
    → AreSoFar fields name (at + 1) first
so_far-other fields name at first h below other =
    h ∙ ap (λ (xs : List ℕ). option_to_list first ++ xs) (places-other at name fields below other)

past-end : (fields : List (List ℕ)) (name : List ℕ) (at : ℕ) → length fields ≤ at → places_from at name (drop at fields) ≡ []
past-end fields name at past =
    ap (places_from at name) (at_drop_all (λ (xs : List (List ℕ)). xs) fields at past) ∙ places-none at name

pub so_far-some : (fields : List (List ℕ)) (name : List ℕ) (at k : ℕ)
    → AreSoFar fields name at (Some k)
    → length fields ≤ at
    → At k ≡ found_in fields name
so_far-some fields name at k h past =
    let e : places_from 0 name fields ≡ k ∷ [] = h ∙ ap (λ (xs : List ℕ). k ∷ xs) (past-end fields name at past) in
    rw e refl

pub so_far-none : (fields : List (List ℕ)) (name : List ℕ) (at : ℕ)
    → AreSoFar fields name at None
    → length fields ≤ at
    → Missing ≡ found_in fields name
so_far-none fields name at h past =
    let e : places_from 0 name fields ≡ [] = h ∙ past-end fields name at past in
    rw e refl

pub so_far-start : (fields : List (List ℕ)) (name : List ℕ) → AreSoFar fields name 0 None
so_far-start fields name = refl
