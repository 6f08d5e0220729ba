-- The numbered draws: a word for each hour and component of a sample, which depends on no draw before it.
use Rattle.std.specs.Prelude.{ℕ, ◌+◌, ◌*◌, ◌/◌, ◌%◌, ◌^◌, List, ◌++◌, replicate}
use Rattle.std.specs.Int.{w64, to_le_bytes}
use Rattle.rand_chacha.specs.ChaCha.{word_at, key_of}

-- what a contract sees of a stream of draws: the seed, the number of components, the sample, and how
-- many draws stand before the next one
pub record Draws : Type 0 where
  pub seed : ℕ
  pub components : ℕ
  pub sample : ℕ
  pub place : ℕ

-- the 32 bytes of the key: the seed's eight bytes, the low byte first, and 24 zero bytes
abbrev pub key_bytes : ℕ → List ℕ
key_bytes seed = to_le_bytes w64 seed ++ replicate 24 0

-- the draw of a component in an hour of a sample: the word of ChaCha with 8 rounds at place
-- hour * components + component of the sample's own stream
unfoldable pub draw : ℕ → ℕ → ℕ → ℕ → ℕ → ℕ
draw components seed sample hour component =
    word_at 4 (key_of (key_bytes seed)) sample (hour * components + component)

-- the draw that comes next in a stream
abbrev pub next_of : Draws → ℕ
next_of draws =
    draw draws.components draws.seed draws.sample (draws.place / draws.components) (draws.place % draws.components)

-- the stream behind so many draws more
abbrev pub behind : ℕ → Draws → Draws
behind count draws = record draws { place = (draws.place + count) % 2 ^ 68 }
