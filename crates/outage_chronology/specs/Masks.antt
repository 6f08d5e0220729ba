-- Up states as masks of 32 bits: all ones for a component that is up, 0 for one that is out.
use Rattle.std.specs.Prelude.{◌≡◌, ℕ, ◌<◌, Bool, true, not, nat_lt, ◌==◌, if◌then◌else◌, min, List, slice_index}

abbrev pub up_mask : Bool → ℕ
up_mask up = if up then 4294967295 else 0

-- whether a mask says up
abbrev pub says_up : ℕ → Bool
says_up mask = not (mask == 0)

abbrev pub IsMask : ℕ → Type 0
IsMask mask = mask ≡ up_mask (says_up mask)

-- the word as it is compared with a kept threshold
abbrev pub compared : ℕ → ℕ
compared word = min word 4294967294

-- whether a word is below a threshold
abbrev pub is_below : ℕ → ℕ → Bool
is_below word threshold = nat_lt (compared word) threshold

-- the threshold that a state's change is told by: that of failure while it is up, else that of repair
abbrev pub threshold_of : Bool → ℕ → ℕ → ℕ
threshold_of up fails repaired = if up then fails else repaired

-- whether a state changes, by a word and the thresholds of failure and repair
abbrev pub turns : Bool → ℕ → ℕ → ℕ → Bool
turns up word fails repaired = is_below word (threshold_of up fails repaired)

-- the state after one that changes or stays
abbrev pub turned : Bool → Bool → Bool
turned up turns = if turns then not up else up

-- the state after the one before, by a word and the thresholds of failure and repair
abbrev pub next_state : Bool → ℕ → ℕ → ℕ → Bool
next_state up word fails repaired = turned up (turns up word fails repaired)

-- the first thresholds are those of the states that the masks say
abbrev pub AreOfStates : List ℕ → List ℕ → List ℕ → List ℕ → ℕ → Type 0
AreOfStates masks fails repairs thresholds count = (k : ℕ) → k < count → slice_index thresholds k
    ≡ threshold_of (says_up (slice_index masks k)) (slice_index fails k) (slice_index repairs k)

-- the state at hour 0, by a word and the threshold of the start: before it a component counts as up
abbrev pub first_state : ℕ → ℕ → Bool
first_state word starts_out = next_state true word starts_out starts_out
