-- sets of numbers and sums over them
use Rattle.std.specs.Prelude.{ℕ, zero, suc, ◌+◌, ◌/◌, ◌%◌, ◌^◌, ◌==◌, Bool, if◌then◌else◌}

-- a set of numbers, as of zones, by its test
abbrev pub NumberSet : Type 0
NumberSet = ℕ → Bool

-- the set that a mask writes: number i is in it where bit i is 1
abbrev pub inside : ℕ → NumberSet
inside mask = λ i. mask / 2 ^ i % 2 == 1

-- the sum of `f i` over the numbers i below n that are in the set p
unfoldable pub sum_where : NumberSet → (ℕ → ℕ) → ℕ → ℕ
sum_where p f zero = 0
sum_where p f (suc n) = sum_where p f n + (if p n then f n else 0)
