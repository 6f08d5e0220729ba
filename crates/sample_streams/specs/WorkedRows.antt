-- Small cases that the definitions compute, each known by hand or from an independent program.
use Rattle.std.specs.Prelude.{◌≡◌, ◌∷◌, replicate, refl}
use Rattle.rand_chacha.specs.Block.{block_word, double_rounds, diagonal_round, quarter_round, column_round}
use Rattle.rand_core.specs.Steps.{u32_at}
use Rattle.sample_streams.specs.Draw.{draw, key_bytes}

-- the key of seed 258 begins with the bytes 2 and 1
pub key_of_258 : key_bytes 258 ≡ 2 ∷ 1 ∷ 0 ∷ 0 ∷ 0 ∷ 0 ∷ 0 ∷ 0 ∷ replicate 24 0
key_of_258 = refl

-- the draw of component 1 in hour 5 of sample 7 under seed 258, of 3 components
pub draw_of_258 : draw 3 258 7 5 1 ≡ 1252293431
unfolding draw u32_at block_word double_rounds diagonal_round quarter_round column_round
draw_of_258 = refl
