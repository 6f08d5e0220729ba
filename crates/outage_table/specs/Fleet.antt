-- Low ends or high ends by themselves. A list of ends has 0 past its last.
use Rattle.std.specs.Prelude.{◌≡◌, ℕ, zero, suc, ◌+◌, ◌-◌, ◌*◌, ◌<◌, ◌≤◌, nat_lt, min, if◌then◌else◌, List, length, slice_index, slice_index_or, count_by}
use Rattle.fixed_interval.specs.declared.enclosure.Enclosure.{Enclosure}
use Rattle.fixed_interval.specs.Enclosure.{one}

-- an end, and the share `out / all` of what the end `capacity` places before it, or the first, has more
abbrev pub moved : (ℕ → ℕ → ℕ) → ℕ → ℕ → ℕ → (ℕ → ℕ) → ℕ → ℕ
moved round out all capacity end x = end x + round (out * (end (x - capacity) - end x)) all

-- the ends fall from at most 1
pub record AreFalling (end : ℕ → ℕ) : Type 0 where
  pub falls : (x y : ℕ) → x ≤ y → end y ≤ end x
  pub part : (x : ℕ) → end x ≤ one

-- Far out ends are small and many are equal. There the place is kept from which on ends are below 1, the place
-- from which on they are below 2, and so on: these are bounds, and an end is the number of bounds past its place.
abbrev pub height : List ℕ → ℕ → ℕ
height bounds x = count_by (λ bound. nat_lt x bound) bounds

-- the end at `x` where the first ends are kept one by one, and those behind them by bounds
abbrev pub end_of : List ℕ → List ℕ → ℕ → ℕ
end_of near bounds x = if nat_lt x (length near) then slice_index near x else height bounds x

-- none of the bounds lies past one before it
pub record AreDescending (bounds : List ℕ) : Type 0 where
  pub falls : (i j : ℕ) → i ≤ j → slice_index bounds j ≤ slice_index bounds i

-- a bound that is moved by `capacity`, but no further than to where the bound before it was
abbrev pub raised_bound : List ℕ → ℕ → ℕ → ℕ
raised_bound bounds capacity zero = slice_index bounds zero + capacity
raised_bound bounds capacity (suc k) = min (slice_index bounds k) (slice_index bounds (suc k) + capacity)

-- the first low and high ends, side by side
pub record AreJoined (entries : List Enclosure) (low high : List ℕ) (n : ℕ) : Type 0 where
  pub count : length entries ≡ n
  pub low_ends : (x : ℕ) (d : Enclosure) → x < length entries → (slice_index_or entries x d).low ≡ slice_index low x
  pub high_ends : (x : ℕ) (d : Enclosure) → x < length entries → (slice_index_or entries x d).high ≡ slice_index high x
