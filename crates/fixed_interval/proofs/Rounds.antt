-- What the two roundings of a quotient are bounded by.
use Rattle.std.proofs.Common.{◌≡◌, ℕ, ◌+◌, ◌-◌, ◌*◌, ◌/◌, ◌<◌, ◌≤◌, ap, sym, ◌∙◌, arith}
use Rattle.std.proofs.Math.Nat.{div-mul-le_self, add-mul-div_left, div-eq_of_lt, add_comm}
use Rattle.std.proofs.lemmas.Nat.{div-mul-add}
use Rattle.fixed_interval.specs.Rounding.{floor_div, ceil_div}

pub floor_div-below : (n d : ℕ) → floor_div n d * d ≤ n
floor_div-below n d = div-mul-le_self n d

pub floor_div-close : (n d : ℕ) → 0 < d → n < (floor_div n d + 1) * d
floor_div-close n d h = omega arith

pub ceil_div-above : (n d : ℕ) → 0 < d → n ≤ ceil_div n d * d
ceil_div-above n d h = let c = floor_div-close (n + (d - 1)) d h in omega arith

pub ceil_div-close : (n d : ℕ) → 0 < d → ceil_div n d * d < n + d
ceil_div-close n d h = let c = floor_div-below (n + (d - 1)) d in omega arith

more_split : (f r a b : ℕ) → a ≤ b → f * (b - a) + (f + r) * a ≡ r * a + f * b
more_split f r a b h =
    let whole : b ≡ a + (b - a) = omega arith in
    let product : f * b ≡ f * (a + (b - a)) = ap (λ n. f * n) whole in
    omega arith

-- a mean is the first end and the rounded share of what the second has more
pub floor_div-more : (f r a b : ℕ) → 0 < f + r → a ≤ b
    → a + floor_div (f * (b - a)) (f + r) ≡ floor_div (r * a + f * b) (f + r)
floor_div-more f r a b w h =
    let split : f * (b - a) + (f + r) * a ≡ r * a + f * b = more_split f r a b h in
    add_comm a (floor_div (f * (b - a)) (f + r)) ∙ sym (add-mul-div_left (f * (b - a)) a w) ∙ ap (λ n. n / (f + r)) split

pub ceil_div-more : (f r a b : ℕ) → 0 < f + r → a ≤ b
    → a + ceil_div (f * (b - a)) (f + r) ≡ ceil_div (r * a + f * b) (f + r)
ceil_div-more f r a b w h =
    let split : f * (b - a) + ((f + r) - 1) + (f + r) * a ≡ r * a + f * b + ((f + r) - 1)
    = omega (arith, more_split f r a b h) in
    add_comm a (ceil_div (f * (b - a)) (f + r)) ∙ sym (add-mul-div_left (f * (b - a) + ((f + r) - 1)) a w) ∙ ap (λ n. n / (f + r)) split

-- a share below the whole weight
pub floor_div-small : (n d : ℕ) → n < d → floor_div n d ≡ 0
floor_div-small n d h = div-eq_of_lt h

pub ceil_div-none : (n d : ℕ) → 0 < d → n ≡ 0 → ceil_div n d ≡ 0
ceil_div-none n d w none = ap (λ m. (m + (d - 1)) / d) none ∙ div-eq_of_lt (let h : 0 + (d - 1) < d = omega arith in h)

pub ceil_div-small : (n d : ℕ) → 0 < n → n < d → ceil_div n d ≡ 1
ceil_div-small n d some h =
    let split : n + (d - 1) ≡ 1 * d + (n - 1) = omega arith in
    let less : n - 1 < d = omega arith in
    ap (λ m. m / d) split ∙ div-mul-add 1 d (n - 1) less
