-- What a call does to the counts of its refusals, and to the bytes that a sink holds.
use Rattle.std.specs.Prelude.{◌≡◌, ◌≤◌, ◌+◌, ◌-◌, ◌^◌, ◌++◌, ℕ, List, Bool, true, false, Option, min, max}
use Rattle.std.specs.Option.{option_map}

-- a count after one more, which stands still at the end of its type
abbrev pub one_more : ℕ → ℕ
one_more count = max count (min (count + 1) (2 ^ 64 - 1))

-- a count went up during a call; one that stands at the end of its type when the call returns is taken as risen
abbrev pub Rose : ℕ → ℕ → Type 0
Rose before now = one_more before ≤ now

-- a count of one kind of refusal over a call: it rose where the call answered that refusal, else it stands still
abbrev pub Counts : Bool → ℕ → ℕ → Type 0
Counts true before now = (before ≤ now) × Rose before now
Counts false before now = now ≡ before

-- the bytes that are held, where they are told, are longer by a piece
abbrev pub Gained : Option (List ℕ) → Option (List ℕ) → List ℕ → Type 0
Gained before now piece = now ≡ option_map (λ bytes. bytes ++ piece) before

-- the first bytes of a piece, perhaps none, perhaps all
abbrev pub IsFirstPart : List ℕ → List ℕ → Type 0
IsFirstPart part piece = (rest : List ℕ) × (piece ≡ part ++ rest)

-- the bytes that are held, where they are told, are longer by the first bytes of a piece
abbrev pub GainedPart : Option (List ℕ) → Option (List ℕ) → List ℕ → Type 0
GainedPart before now piece = (part : List ℕ) × IsFirstPart part piece × Gained before now part
