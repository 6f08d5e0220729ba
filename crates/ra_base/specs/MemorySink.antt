-- A sink in memory as its users see it.
use Rattle.std.specs.Prelude.{List, ℕ}

-- the bytes that it took, how many it takes at most, and how often a write failed
pub record HeldBytes : Type 0 where
  pub held : List ℕ
  pub capacity : ℕ
  pub faults : ℕ
