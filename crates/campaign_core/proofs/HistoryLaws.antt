-- Histories that grow by an entry, their beginnings, and that a legal one is so from its first entry on.
use Rattle.std.proofs.Common.{◌≡◌, ℕ, ◌+◌, ◌==◌, Bool, true, false, ◌||◌, List, [], ◌∷◌, ◌++◌, sum_by, refl, ap, sym, ◌∙◌, subst, arith, append_assoc}
use Rattle.std.specs.List.{list_any}
use Rattle.std.proofs.lemmas.List.{append-nil, same_from_push}
use Rattle.std.proofs.lemmas.List.Folds.{list_any-append}
use Rattle.std.proofs.lemmas.List.Sums.{sum_by-append}
use Rattle.std.proofs.lemmas.List.Elements.{filter-append}
use Rattle.std.proofs.lemmas.Grind.{flat_map-append}
use mathlib.Core.List.{IsPrefix}
use Rattle.campaign_core.specs.declared.gate.Gate.{Gate}
use Rattle.campaign_core.specs.declared.call.Entry.{Entry}
use Rattle.campaign_core.specs.History.{range_in, claimed_in, raised_in, deposit_in, is_seal, is_cancel, gate_of, ranges_of, deposits_of, calls_of, Follows, IsLegal}
use Rattle.campaign_core.specs.Machine.{gate_after}

-- ---- what a history comes to, one entry longer

or_nothing : (b : Bool) → (b || false) ≡ b
or_nothing true = refl
or_nothing false = refl

any_push : (p : Entry → Bool) (h : List Entry) (e : Entry) → list_any p (h ++ e ∷ []) ≡ (list_any p h || p e)
any_push p h e = list_any-append p h (e ∷ []) ∙ ap (λ b. list_any p h || b) (or_nothing (p e))

sum_push : (f : Entry → ℕ) (h : List Entry) (e : Entry) → sum_by f (h ++ e ∷ []) ≡ sum_by f h + f e
sum_push f h e = omega (arith, sum_by-append f h (e ∷ []))

gate_is : (n m t u : ℕ) (s r c d : Bool) → n ≡ m → t ≡ u → s ≡ r → c ≡ d
    → ◌≡◌ {A = Gate} (record { next = n; target = t; sealed = s; cancelled = c }) (record { next = m; target = u; sealed = r; cancelled = d })
gate_is n m t u s r c d e f g h = rw (e, f, g, h) refl

pub gate-nil : (opening : ℕ) → gate_of opening [] ≡ record { next = 0; target = opening; sealed = false; cancelled = false }
unfolding gate_of
gate-nil opening = gate_is 0 0 (opening + 0) opening false false false false refl (omega arith) refl refl

pub gate_push : (opening : ℕ) (h : List Entry) (e : Entry) → gate_of opening (h ++ e ∷ []) ≡ gate_after (gate_of opening h) e.call e.reply
unfolding gate_of
gate_push opening h e =
    gate_is _ _ _ _ _ _ _ _
    (sum_push (λ (e : Entry). claimed_in e.reply) h e)
    (omega (arith, sum_push (λ (e : Entry). raised_in e.call e.reply) h e))
    (any_push (λ (e : Entry). is_seal e.call) h e)
    (any_push (λ (e : Entry). is_cancel e.call) h e)

pub ranges-nil : ranges_of [] ≡ []
unfolding ranges_of
ranges-nil = refl

pub ranges-append : (g h : List Entry) → ranges_of (g ++ h) ≡ ranges_of g ++ ranges_of h
unfolding ranges_of
ranges-append g h = flat_map-append (λ (e : Entry). range_in e.reply) g h

pub ranges-one : (e : Entry) → ranges_of (e ∷ []) ≡ range_in e.reply
unfolding ranges_of
ranges-one e = append-nil (range_in e.reply)

pub ranges_push : (h : List Entry) (e : Entry) → ranges_of (h ++ e ∷ []) ≡ ranges_of h ++ range_in e.reply
ranges_push h e = ranges-append h (e ∷ []) ∙ ap (λ l. ranges_of h ++ l) (ranges-one e)

pub deposits-nil : deposits_of [] ≡ []
unfolding deposits_of
deposits-nil = refl

pub deposits-append : (g h : List Entry) → deposits_of (g ++ h) ≡ deposits_of g ++ deposits_of h
unfolding deposits_of
deposits-append g h = flat_map-append (λ (e : Entry). deposit_in e.call) g h

pub deposits-one : (e : Entry) → deposits_of (e ∷ []) ≡ deposit_in e.call
unfolding deposits_of
deposits-one e = append-nil (deposit_in e.call)

pub deposits_push : (h : List Entry) (e : Entry) → deposits_of (h ++ e ∷ []) ≡ deposits_of h ++ deposit_in e.call
deposits_push h e = deposits-append h (e ∷ []) ∙ ap (λ l. deposits_of h ++ l) (deposits-one e)

pub calls-nil : (caller : ℕ) → calls_of caller [] ≡ []
unfolding calls_of
calls-nil caller = refl

pub calls-append : (caller : ℕ) (g h : List Entry) → calls_of caller (g ++ h) ≡ calls_of caller g ++ calls_of caller h
unfolding calls_of
calls-append caller g h = filter-append (λ (e : Entry). e.caller == caller) g h

-- ---- beginnings of lists

pub prefix_self : {A : Type 0} (xs : List A) → IsPrefix xs xs
prefix_self xs = ([], append-nil xs)

pub prefix_trans : {A : Type 0} (xs ys zs : List A) → IsPrefix xs ys → IsPrefix ys zs → IsPrefix xs zs
prefix_trans xs ys zs p q = (p.0 ++ q.0, sym (append_assoc xs p.0 q.0) ∙ (ap (λ w. w ++ q.0) p.1 ∙ q.1))

pub prefix_append : {A : Type 0} (xs ys : List A) → IsPrefix xs (xs ++ ys)
prefix_append xs ys = (ys, refl)

-- a list that isn't empty has a last element
pub last_of : {A : Type 0} (x : A) (xs : List A) → (front : List A) × (last : A) × (x ∷ xs ≡ front ++ last ∷ [])
last_of x [] = ([], x, refl)
last_of x (y ∷ xs) = let rest = last_of y xs in (x ∷ rest.0, rest.1, ap (λ l. x ∷ l) rest.2)

-- a fact of each list from its beginning on
pub by_pushes : {A : Type 0} (P : List A → Type 0) → P [] → ((xs : List A) (x : A) → P xs → P (xs ++ x ∷ [])) → (xs : List A) → P xs
by_pushes {A} P start push xs = go [] xs start
  where
    go : (front rest : List A) → P front → P (front ++ rest)
    go front [] h = subst P (sym (append-nil front)) h
    go front (x ∷ rest) h = subst P (append_assoc front (x ∷ []) rest) (go (front ++ x ∷ []) rest (push front x h))

-- ---- legal histories

empty≢push : (before : List Entry) (e : Entry) (after : List Entry) → [] ≡ before ++ e ∷ after → ⊥
empty≢push [] e after h = cc
empty≢push (x ∷ before) e after h = cc

pub legal-nil : (opening block : ℕ) → IsLegal opening block []
legal-nil opening block before e after h = absurd (empty≢push before e after h)

pub legal_prefix : (opening block : ℕ) (g h : List Entry) → IsPrefix g h → IsLegal opening block h → IsLegal opening block g
legal_prefix opening block g h p legal before e after is =
    legal before e (after ++ p.0) (sym p.1 ∙ (ap (λ l. l ++ p.0) is ∙ append_assoc before (e ∷ after) p.0))

pub legal_push : (opening block : ℕ) (h : List Entry) (e : Entry) → IsLegal opening block h → Follows opening block h e → IsLegal opening block (h ++ e ∷ [])
legal_push opening block h e legal follows before x [] is =
    let parts = same_from_push h before e x is in
    subst (λ b. Follows opening block b x) parts.0 (subst (Follows opening block h) parts.1 follows)
legal_push opening block h e legal follows before x (y ∷ after) is =
    let l = last_of y after in
    let cut : h ++ e ∷ [] ≡ (before ++ x ∷ l.0) ++ l.1 ∷ [] = is ∙ (ap (λ a. before ++ x ∷ a) l.2 ∙ sym (append_assoc before (x ∷ l.0) (l.1 ∷ []))) in
    legal before x l.0 (same_from_push h (before ++ x ∷ l.0) e l.1 cut).0

pub legal_last : (opening block : ℕ) (h : List Entry) (e : Entry) → IsLegal opening block (h ++ e ∷ []) → Follows opening block h e
legal_last opening block h e legal = legal h e [] refl

pub legal_front : (opening block : ℕ) (h : List Entry) (e : Entry) → IsLegal opening block (h ++ e ∷ []) → IsLegal opening block h
legal_front opening block h e legal = legal_prefix opening block h (h ++ e ∷ []) (e ∷ [], refl) legal

-- a fact of each legal history from its beginning on
pub legal_by_pushes : (opening block : ℕ) (P : List Entry → Type 0) → P []
    → ((h : List Entry) (e : Entry) → IsLegal opening block h → Follows opening block h e → P h → P (h ++ e ∷ []))
    → (h : List Entry) → IsLegal opening block h → P h
legal_by_pushes opening block P start push h legal =
    by_pushes (λ g. IsLegal opening block g → P g) (λ l. start)
    (λ g e before l. let front = legal_front opening block g e l in push g e front (legal_last opening block g e l) (before front))
    h legal
