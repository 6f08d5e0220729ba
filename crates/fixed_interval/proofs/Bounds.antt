-- Sums, multiples and weighted means of bounded fractions are bounded. In each lemma `u` is the
-- unit, `a` and `b` are ends, and `p / m` and `q / n` are the fractions.
use Rattle.std.proofs.Common.{ℕ, ◌+◌, ◌*◌, ◌≤◌, arith}
use Rattle.std.proofs.Math.Nat.{mul-le-mul_left}

pub sum_below : (u a m p b n q : ℕ) → a * m ≤ p * u → b * n ≤ q * u
    → (a + b) * (m * n) ≤ (p * n + q * m) * u
sum_below u a m p b n q h k =
    let l : n * (a * m) ≤ n * (p * u) = mul-le-mul_left n h in
    let r : m * (b * n) ≤ m * (q * u) = mul-le-mul_left m k in
    omega arith

pub sum_above : (u a m p b n q : ℕ) → p * u ≤ a * m → q * u ≤ b * n
    → (p * n + q * m) * u ≤ (a + b) * (m * n)
sum_above u a m p b n q h k =
    let l : n * (p * u) ≤ n * (a * m) = mul-le-mul_left n h in
    let r : m * (q * u) ≤ m * (b * n) = mul-le-mul_left m k in
    omega arith

pub multiple_below : (u a m p k : ℕ) → a * m ≤ p * u → a * k * m ≤ p * k * u
multiple_below u a m p k h =
    let l : k * (a * m) ≤ k * (p * u) = mul-le-mul_left k h in omega arith

pub multiple_above : (u a m p k : ℕ) → p * u ≤ a * m → p * k * u ≤ a * k * m
multiple_above u a m p k h =
    let l : k * (p * u) ≤ k * (a * m) = mul-le-mul_left k h in omega arith

pub mean_below : (u e w f r a m p b n q : ℕ) → e * w ≤ r * a + f * b → a * m ≤ p * u → b * n ≤ q * u
    → e * (w * (m * n)) ≤ (r * (p * n) + f * (q * m)) * u
mean_below u e w f r a m p b n q g h k =
    let s : m * n * (e * w) ≤ m * n * (r * a + f * b) = mul-le-mul_left (m * n) g in
    let l : r * n * (a * m) ≤ r * n * (p * u) = mul-le-mul_left (r * n) h in
    let t : f * m * (b * n) ≤ f * m * (q * u) = mul-le-mul_left (f * m) k in
    omega arith

pub mean_above : (u e w f r a m p b n q : ℕ) → r * a + f * b ≤ e * w → p * u ≤ a * m → q * u ≤ b * n
    → (r * (p * n) + f * (q * m)) * u ≤ e * (w * (m * n))
mean_above u e w f r a m p b n q g h k =
    let s : m * n * (r * a + f * b) ≤ m * n * (e * w) = mul-le-mul_left (m * n) g in
    let l : r * n * (p * u) ≤ r * n * (a * m) = mul-le-mul_left (r * n) h in
    let t : f * m * (q * u) ≤ f * m * (b * n) = mul-le-mul_left (f * m) k in
    omega arith
