-- Sums over lists, term by term.
use Rattle.std.proofs.Common.{◌≡◌, ℕ, ◌+◌, ◌*◌, ◌<◌, ◌≤◌, List, [], ◌∷◌, ◌++◌, length, map, take, get_or, sum, sum_by, sym, ap, ◌∙◌, arith}
use Rattle.std.proofs.lemmas.List.{take_more, map-append}
use Rattle.std.proofs.lemmas.List.Sums.{sum_by-cons, sum_by-append}

-- what holds of each term under two factors holds of the sums
pub sums_scaled : (f g : ℕ → ℕ) (a b : ℕ) (ns : List ℕ) → ((n : ℕ) → f n * a ≤ g n * b)
    → sum_by f ns * a ≤ sum_by g ns * b
sums_scaled f g a b [] h = omega arith
sums_scaled f g a b (n ∷ ns) h =
    let rest = sums_scaled f g a b ns h in
    let first = h n in
    rw (sum_by-cons f n ns, sum_by-cons g n ns) (omega arith)

-- terms at most `w` apart
pub sums_apart : (f g : ℕ → ℕ) (w : ℕ) (ns : List ℕ) → ((n : ℕ) → f n ≤ g n + w)
    → sum_by f ns ≤ sum_by g ns + w * length ns
sums_apart f g w [] h = omega arith
sums_apart f g w (n ∷ ns) h =
    let rest = sums_apart f g w ns h in
    let first = h n in
    rw (sum_by-cons f n ns, sum_by-cons g n ns) (omega arith)

-- terms at most `w` times the number apart
pub sums_apart_by : (f g : ℕ → ℕ) (w : ℕ) (ns : List ℕ) → ((n : ℕ) → f n ≤ g n + w * n)
    → sum_by f ns ≤ sum_by g ns + w * sum ns
sums_apart_by f g w [] h = omega arith
sums_apart_by f g w (n ∷ ns) h =
    let rest = sums_apart_by f g w ns h in
    let first = h n in
    rw (sum_by-cons f n ns, sum_by-cons g n ns, sum_by-cons (λ (m : ℕ). m) n ns) (omega arith)

-- a sum of smaller terms is not larger
pub sums_mapped-le : {X : Type 0} (e : ℕ → ℕ) (f g : X → ℕ) (xs : List X) → ((x : X) → e (f x) ≤ e (g x))
    → sum_by e (map f xs) ≤ sum_by e (map g xs)
sums_mapped-le e f g [] h = omega arith
sums_mapped-le e f g (x ∷ xs) h =
    let rest = sums_mapped-le e f g xs h in
    let first = h x in
    rw (sum_by-cons e (f x) (map f xs), sum_by-cons e (g x) (map g xs)) (omega arith)

-- one more term
pub sum_mapped_more : {X : Type 0} (e : ℕ → ℕ) (f : X → ℕ) (xs : List X) (i : ℕ) (d : X) (so_far next : ℕ)
    → i < length xs → so_far ≡ sum_by e (map f (take i xs)) → next ≡ sum_by e (f (get_or xs i d) ∷ [])
    → so_far + next ≡ sum_by e (map f (take (i + 1) xs))
sum_mapped_more e f xs i d so_far next h before one_more =
    let longer : map f (take (i + 1) xs) ≡ map f (take i xs) ++ f (get_or xs i d) ∷ []
    = ap (λ ys. map f ys) (take_more xs i d h) ∙ map-append f (take i xs) (get_or xs i d ∷ []) in
    rw (before, one_more, longer) (sym (sum_by-append e (map f (take i xs)) (f (get_or xs i d) ∷ [])))
