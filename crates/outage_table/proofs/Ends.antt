-- One written end from two: its order, its bounds, and how far the two ends move apart.
use Rattle.std.proofs.Common.{◌≡◌, ℕ, ◌+◌, ◌-◌, ◌*◌, ◌/◌, ◌<◌, ◌≤◌, ◌∙◌, ap, arith}
use Rattle.std.proofs.Math.Nat.{mul-le-mul_left, lt_of_mul-lt-mul_right}
use Rattle.std.proofs.lemmas.Nat.{div-mul-add}
use Rattle.fixed_interval.specs.Rounding.{floor_div, ceil_div}
use Rattle.fixed_interval.proofs.Rounds.{floor_div-below, floor_div-close, ceil_div-close}

-- larger values have a mean that is not smaller
pub mean-le : (f r a b c d : ℕ) → a ≤ c → b ≤ d → r * a + f * b ≤ r * c + f * d
mean-le f r a b c d h k =
    let s : r * a ≤ r * c = mul-le-mul_left r h in
    let t : f * b ≤ f * d = mul-le-mul_left f k in
    omega arith

pub floor_div-le : (m n d : ℕ) → 0 < d → m ≤ n → floor_div m d ≤ floor_div n d
floor_div-le m n d w h =
    let s = floor_div-below m d in
    let t = floor_div-close n d w in
    let under : floor_div m d * d < (floor_div n d + 1) * d = omega arith in
    let less : floor_div m d < floor_div n d + 1 = lt_of_mul-lt-mul_right d under in
    omega arith

pub ceil_div-le : (m n d : ℕ) → 0 < d → m ≤ n → ceil_div m d ≤ ceil_div n d
ceil_div-le m n d w h = floor_div-le (m + (d - 1)) (n + (d - 1)) d w (omega arith)

pub floor-le-ceil : (m n d : ℕ) → 0 < d → m ≤ n → floor_div m d ≤ ceil_div n d
floor-le-ceil m n d w h = floor_div-le m (n + (d - 1)) d w (omega arith)

-- the mean of one value with itself is that value, however it is rounded
pub floor_div-same : (f r e : ℕ) → 0 < f + r → floor_div (r * e + f * e) (f + r) ≡ e
floor_div-same f r e w =
    let whole : r * e + f * e ≡ e * (f + r) + 0 = omega arith in
    ap (λ n. n / (f + r)) whole ∙ div-mul-add e (f + r) 0 w

pub ceil_div-same : (f r e : ℕ) → 0 < f + r → ceil_div (r * e + f * e) (f + r) ≡ e
ceil_div-same f r e w =
    let whole : r * e + f * e + ((f + r) - 1) ≡ e * (f + r) + ((f + r) - 1) = omega arith in
    let less : (f + r) - 1 < f + r = omega arith in
    ap (λ n. n / (f + r)) whole ∙ div-mul-add e (f + r) ((f + r) - 1) less

-- The fractions `p / A` and `q / A` are bounded by `a` and `b` in units of `1 / u`. Then their mean is
-- bounded by a rounded mean `e` of these ends.
pub mean_bounded_below : (u e f r a b A p q : ℕ) → e * (f + r) ≤ r * a + f * b → a * A ≤ p * u → b * A ≤ q * u
    → e * ((f + r) * A) ≤ (r * p + f * q) * u
mean_bounded_below u e f r a b A p q g h k =
    let s : A * (e * (f + r)) ≤ A * (r * a + f * b) = mul-le-mul_left A g in
    let l : r * (a * A) ≤ r * (p * u) = mul-le-mul_left r h in
    let t : f * (b * A) ≤ f * (q * u) = mul-le-mul_left f k in
    omega arith

pub mean_bounded_above : (u e f r a b A p q : ℕ) → r * a + f * b ≤ e * (f + r) → p * u ≤ a * A → q * u ≤ b * A
    → (r * p + f * q) * u ≤ e * ((f + r) * A)
mean_bounded_above u e f r a b A p q g h k =
    let s : A * (r * a + f * b) ≤ A * (e * (f + r)) = mul-le-mul_left A g in
    let l : r * (p * u) ≤ r * (a * A) = mul-le-mul_left r h in
    let t : f * (q * u) ≤ f * (b * A) = mul-le-mul_left f k in
    omega arith

-- ends that are at most `n` apart have means that are at most `n + 2` apart
pub mean_width : (f r a b c d n : ℕ) → 0 < f + r → c ≤ a + n → d ≤ b + n
    → ceil_div (r * c + f * d) (f + r) ≤ floor_div (r * a + f * b) (f + r) + (n + 2)
mean_width f r a b c d n w h k =
    let top = ceil_div-close (r * c + f * d) (f + r) w in
    let bottom = floor_div-close (r * a + f * b) (f + r) w in
    let apart : r * c + f * d ≤ r * (a + n) + f * (b + n) = mean-le f r c d (a + n) (b + n) h k in
    let low = floor_div (r * a + f * b) (f + r) in
    let high = ceil_div (r * c + f * d) (f + r) in
    let under : high * (f + r) < (low + (n + 2)) * (f + r) = omega arith in
    let less : high < low + (n + 2) = lt_of_mul-lt-mul_right (f + r) under in
    omega arith
