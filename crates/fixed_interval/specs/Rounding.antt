use Rattle.std.specs.Prelude.{ℕ, ◌+◌, ◌-◌, ◌/◌}

-- the quotient, rounded down
abbrev pub floor_div : ℕ → ℕ → ℕ
floor_div n d = n / d

-- the quotient, rounded up
abbrev pub ceil_div : ℕ → ℕ → ℕ
ceil_div n d = (n + (d - 1)) / d
