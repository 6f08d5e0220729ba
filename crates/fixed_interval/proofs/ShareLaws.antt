-- The share `f / w` of a difference `d`, by a reciprocal `rec` of the share in units of `1 / W`.
use Rattle.std.proofs.Common.{◌≡◌, ℕ, ◌+◌, ◌-◌, ◌*◌, ◌/◌, ◌<◌, ◌≤◌, min, inl, inr, ap, sym, ◌∙◌, arith}
use Rattle.std.proofs.lemmas.Bool.{cases_lt}
use Rattle.std.proofs.Math.Nat.{mul-le-mul_left, lt_of_mul-lt-mul_right}
use Rattle.std.proofs.lemmas.Nat.{div-mul-add}
use Rattle.fixed_interval.specs.Rounding.{floor_div, ceil_div}
use Rattle.fixed_interval.proofs.Rounds.{floor_div-below, ceil_div-close, floor_div-small, ceil_div-small, ceil_div-none}

-- a quotient from its bounds
pub floor_div-is : (n w q : ℕ) → q * w ≤ n → n < (q + 1) * w → q ≡ floor_div n w
floor_div-is n w q h k =
    let split : n ≡ q * w + (n - q * w) = omega arith in
    let less : n - q * w < w = omega arith in
    sym (ap (λ m. m / w) split ∙ div-mul-add q w (n - q * w) less)

pub ceil_div-is : (n w q : ℕ) → q * w < n → n < (q + 1) * w → q + 1 ≡ ceil_div n w
ceil_div-is n w q h k =
    let split : n + (w - 1) ≡ (q + 1) * w + (n - q * w - 1) = omega arith in
    let less : n - q * w - 1 < w = omega arith in
    sym (ap (λ m. m / w) split ∙ div-mul-add (q + 1) w (n - q * w - 1) less)

-- what a product with the reciprocal tells
product-below : (W f w d rec q rest : ℕ) → 0 < W → rec * w ≤ W * f → d * rec ≡ q * W + rest → W * (q * w) + rest * w ≤ W * (f * d)
product-below W f w d rec q rest some below split =
    let scaled : d * (rec * w) ≤ d * (W * f) = mul-le-mul_left d below in
    let whole : w * (d * rec) ≡ w * (q * W + rest) = ap (λ n. w * n) split in
    omega arith

product-above : (W f w d rec q rest : ℕ) → 0 < w → W * f ≤ (rec + 1) * w → d * rec ≡ q * W + rest → rest + d < W
    → W * (f * d) < W * ((q + 1) * w)
product-above W f w d rec q rest some above split near =
    let scaled : d * (W * f) ≤ d * ((rec + 1) * w) = mul-le-mul_left d above in
    let whole : w * (d * rec) ≡ w * (q * W + rest) = ap (λ n. w * n) split in
    let gap : w * (rest + d + 1) ≤ w * W = mul-le-mul_left w (let h : rest + d + 1 ≤ W = omega arith in h) in
    omega arith

cancelled : (W a b : ℕ) → W * a < W * b → a < b
cancelled W a b h = lt_of_mul-lt-mul_right W (let k : a * W < b * W = omega arith in k)

cancelled-le : (W a b : ℕ) → 0 < W → W * a ≤ W * b → a ≤ b
cancelled-le W a b some h =
    let k : a * W < (b + 1) * W = omega arith in
    let l : a < b + 1 = lt_of_mul-lt-mul_right W k in
    omega arith

pub share_floor : (W f w d rec q rest : ℕ) → 0 < W → 0 < w → rec * w ≤ W * f → W * f ≤ (rec + 1) * w → d * rec ≡ q * W + rest
    → rest + d < W → q ≡ floor_div (f * d) w
share_floor W f w d rec q rest some weighed below above split near =
    let low = product-below W f w d rec q rest some below split in
    floor_div-is (f * d) w q (cancelled-le W (q * w) (f * d) some (omega arith))
    (cancelled W (f * d) ((q + 1) * w) (product-above W f w d rec q rest weighed above split near))

pub share_ceil : (W f w d rec q rest : ℕ) → 0 < W → 0 < w → rec * w ≤ W * f → W * f ≤ (rec + 1) * w → d * rec ≡ q * W + rest
    → 0 < rest → rest + d < W → q + 1 ≡ ceil_div (f * d) w
share_ceil W f w d rec q rest some weighed below above split more near =
    let low = product-below W f w d rec q rest some below split in
    let part : 1 * w ≤ rest * w = omega (arith, mul-le-mul_left w more) in
    ceil_div-is (f * d) w q (cancelled W (q * w) (f * d) (omega arith))
    (cancelled W (f * d) ((q + 1) * w) (product-above W f w d rec q rest weighed above split near))

-- a share is not more than the whole
pub share_floor-le : (f w d : ℕ) → 0 < w → f ≤ w → floor_div (f * d) w ≤ d
share_floor-le f w d weighed part =
    let below = floor_div-below (f * d) w in
    let scaled : d * f ≤ d * w = mul-le-mul_left d part in
    cancelled-le w (floor_div (f * d) w) d weighed (omega arith)

pub share_ceil-le : (f w d : ℕ) → 0 < w → f ≤ w → ceil_div (f * d) w ≤ d
share_ceil-le f w d weighed part =
    let close = ceil_div-close (f * d) w weighed in
    let scaled : d * f ≤ d * w = mul-le-mul_left d part in
    let under : ceil_div (f * d) w * w < (d + 1) * w = omega arith in
    let less : ceil_div (f * d) w < d + 1 = lt_of_mul-lt-mul_right w under in
    omega arith

-- the share of a small difference
small_product : (f small w d : ℕ) → f * small < w → d ≤ small → f * d < w
small_product f small w d less h =
    let scaled : f * d ≤ f * small = mul-le-mul_left f h in omega arith

pub small_floor : (f small w d : ℕ) → f * small < w → d ≤ small → 0 ≡ floor_div (f * d) w
small_floor f small w d less h = sym (floor_div-small (f * d) w (small_product f small w d less h))

pub small_ceil : (f small w d : ℕ) → f * small < w → (f ≡ 0 → small ≡ 0) → d ≤ small → 0 < d → 1 ≡ ceil_div (f * d) w
small_ceil f small w d less none h some = elim (cases_lt 0 f) [
  | inl weight ↦
      (let product : f * 1 ≤ f * d = mul-le-mul_left f some in
      sym (ceil_div-small (f * d) w (omega arith) (small_product f small w d less h)))
  | inr no_weight ↦ (let nothing : small ≡ 0 = none (omega arith) in absurd (omega arith))
]

pub none_ceil : (f w d : ℕ) → 0 < w → d ≡ 0 → 0 ≡ ceil_div (f * d) w
none_ceil f w d weighed nothing =
    let product : f * d ≡ 0 = rw nothing (omega arith) in
    sym (ceil_div-none (f * d) w weighed product)

pub small_ceil_min : (f small w d : ℕ) → 0 < w → f * small < w → (f ≡ 0 → small ≡ 0) → d ≤ small → min d 1 ≡ ceil_div (f * d) w
small_ceil_min f small w d weighed less none h = elim (cases_lt 0 d) [
  | inl some ↦ (let one_more : min d 1 ≡ 1 = omega arith in one_more ∙ small_ceil f small w d less none h some)
  | inr nothing ↦ (let zero : min d 1 ≡ 0 = omega arith in zero ∙ none_ceil f w d weighed (omega arith))
]
