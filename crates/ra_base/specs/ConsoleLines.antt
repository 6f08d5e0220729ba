-- What a console answers.
use Rattle.std.specs.Prelude.{◌≡◌, ◌≤◌, ◌+◌, ℕ, List, [], ◌∷◌, Bool, true, false, Option, Some, None, Result, Ok, Err, length, take}
use Rattle.ra_base.specs.declared.limits.TheConstants.{MOST_LINE_BYTES}
use Rattle.ra_base.specs.declared.console.ConsoleError.{ConsoleError}
use Rattle.ra_base.specs.declared.console.ConsoleError.TheVariants.{Fault, OutOfMemory}

-- a line as it comes: whole, or its first bytes, one more than a line may have
abbrev pub cut_line : List ℕ → List ℕ
cut_line line = take (MOST_LINE_BYTES + 1) line

-- a call's answer is that of the lines left: the first of them, which is taken, or that there is none; with any other
-- answer they stay
abbrev pub TakesLine : List (List ℕ) → List (List ℕ) → Result (Option (List ℕ)) ConsoleError → Type 0
TakesLine before now (Ok (Some text)) = (line : List ℕ) × (before ≡ line ∷ now) × (text ≡ cut_line line)
TakesLine before now (Ok None) = (before ≡ []) × (now ≡ before)
TakesLine before now (Err refusal) = now ≡ before

-- the same where the console tells its lines; one that doesn't never begins to
abbrev pub LinesTold : Option (List (List ℕ)) → Option (List (List ℕ)) → Result (Option (List ℕ)) ConsoleError → Type 0
LinesTold None now answer = now ≡ None
LinesTold (Some before) now answer = (lines : List (List ℕ)) × (now ≡ Some lines) × TakesLine before lines answer

-- a line that came is no longer than a line that was cut
abbrev pub IsShort : Result (Option (List ℕ)) ConsoleError → Type 0
IsShort (Ok (Some text)) = length text ≤ MOST_LINE_BYTES + 1
IsShort (Ok None) = Unit {0}
IsShort (Err refusal) = Unit {0}

-- whether the answer is that the read failed
abbrev pub is_line_fault : Result (Option (List ℕ)) ConsoleError → Bool
is_line_fault (Err Fault) = true
is_line_fault (Err OutOfMemory) = false
is_line_fault (Ok line) = false
