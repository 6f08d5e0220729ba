-- The words of the generator, as they are drawn into a list from its head on.
use Rattle.std.specs.Prelude.{◌≡◌, ℕ, ◌+◌, ◌%◌, ◌^◌, ◌<◌, List, slice_index}
use Rattle.rand_chacha.specs.ChaCha.{ChaCha, word_at}

-- the generator behind so many words more
abbrev pub passed : ℕ → ChaCha → ChaCha
passed count generator = record generator { word_pos = (generator.word_pos + count) % 2 ^ 68 }

-- the first words of the list, so many, are the next ones of the generator, in order
pub record AreNext (generator : ChaCha) (count : ℕ) (words : List ℕ) : Type 0 where
  pub each :
      (k : ℕ)
      → k < count
      → slice_index words k ≡ word_at 4 generator.key generator.stream ((generator.word_pos + k) % 2 ^ 68)
  pub small : (k : ℕ) → k < count → slice_index words k < 2 ^ 32
