-- Powers of ten, which are above 0 and grow.
use Rattle.std.proofs.Common.{ℕ, ◌^◌, ◌<◌, ◌≤◌, arith}
use Rattle.std.proofs.Math.Nat.{one-le-pow, pow-le-pow_right}

pub ten_some : (k : ℕ) → 0 < 10 ^ k
ten_some k = omega (arith, one-le-pow k 10 (omega arith))

pub ten_grows : (i j : ℕ) → i ≤ j → 10 ^ i ≤ 10 ^ j
ten_grows i j le = pow-le-pow_right (omega arith) le

pub ten_fits : (k : ℕ) → k ≤ 18 → 10 ^ k < 2 ^ 64
ten_fits k le = let h : 10 ^ k ≤ 10 ^ 18 = ten_grows k 18 le in omega arith
