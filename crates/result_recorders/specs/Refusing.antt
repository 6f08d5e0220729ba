-- A recorder that refuses an hour, as its users see it.
use Rattle.std.specs.Prelude.{ℕ, List}

-- the hour that it refuses, how often it did, and its text so far
pub record RefusingText : Type 0 where
  pub at : ℕ
  pub refusals : ℕ
  pub text : List ℕ
