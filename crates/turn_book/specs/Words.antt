-- The two words that callers share.
use Rattle.std.specs.Prelude.{◌≡◌, ℕ, ◌+◌, ◌*◌, ◌≤◌, Bool, false, if◌then◌else◌}
use Rattle.ra_base.specs.declared.limits.TheConstants.{MOST_SAMPLES}
use Rattle.campaign_core.specs.declared.gate.Gate.{Gate}

abbrev pub bit : Bool → ℕ
bit b = if b then 1 else 0

-- bits 0 to 19 are next, bits 20 to 39 the target, bit 40 is sealed and bit 41 cancelled
unfoldable pub gate_word : Gate → ℕ
gate_word g = g.next + 1048576 * (g.target + 1048576 * (bit g.sealed + 2 * bit g.cancelled))

-- a gate that a word holds
abbrev pub IsGate : Gate → Type 0
IsGate g = (g.next ≤ g.target) × (g.target ≤ MOST_SAMPLES)

-- bit 0 says that the book is out, the other bits are the number of deposits
abbrev pub turn_word : Bool → ℕ → ℕ
turn_word out deposits = bit out + 2 * deposits

-- a turn while the book is in
abbrev pub IsTurn : ℕ → Type 0
IsTurn turn = (deposits : ℕ) × (turn ≡ turn_word false deposits)
