-- What a console line asks for. 13 is the carriage return.
use Rattle.std.specs.Prelude.{ℕ, Bool, true, false, ◌-◌, ◌≤◌, ◌&&◌, nat_le, nat_lt, List, [], ◌∷◌, length, take, drop, codes, Result, Ok, Err, if◌then◌else◌}
use Rattle.std.specs.Char.{is_ascii_digit}
use Rattle.std.specs.List.{list_all}
use Rattle.std.specs.Str.{bytes_eq}
use Rattle.ra_base.specs.declared.limits.TheConstants.{MOST_LINE_BYTES, MOST_SAMPLES}
use Rattle.decimal_text.specs.declared.fault.NumberFault.{NumberFault}
use Rattle.decimal_text.specs.Reading.{whole_of}
use Rattle.campaign_console.specs.declared.requests.Request.{Request}
use Rattle.campaign_console.specs.declared.requests.Request.TheVariants.{Progress, Report, Extend, Seal, Cancel, Long, Unknown}

-- a line without the carriage return at its end, where it has one
abbrev pub bare_line : List ℕ → List ℕ
bare_line line =
    if bytes_eq (drop (length line - 1) line) (13 ∷ []) then take (length line - 1) line else line

-- an extension by a number, where it is one that may be asked for
abbrev pub extension_by : Result ℕ NumberFault → Request
extension_by (Ok more) = if nat_le 1 more && nat_le more MOST_SAMPLES then Extend more else Unknown
extension_by (Err fault) = Unknown

-- one to seven digits that write a number from 1 to the most samples of a study
abbrev pub extension_of : List ℕ → Request
extension_of number =
    if nat_le 1 (length number) && nat_le (length number) 7 && list_all is_ascii_digit number
    then extension_by (whole_of number) else Unknown

-- what a line without carriage return asks for
abbrev pub request_in : List ℕ → Request
request_in bare =
    if bytes_eq bare (codes "progress") then Progress
    else if bytes_eq bare (codes "report") then Report
    else if bytes_eq bare (codes "seal") then Seal
    else if bytes_eq bare (codes "cancel") then Cancel
    else if bytes_eq (take 7 bare) (codes "extend ") then extension_of (drop 7 bare)
    else Unknown

-- What a line asks for. One that has too many bytes, the carriage return among them, asks for nothing.
unfoldable pub request_of : List ℕ → Request
request_of line = if nat_lt MOST_LINE_BYTES (length line) then Long else request_in (bare_line line)

-- an extension may be asked for by a number of samples from 1 to the most of a study
abbrev pub IsAskable : Request → Type 0
IsAskable (Extend more) = (1 ≤ more) × (more ≤ MOST_SAMPLES)
IsAskable other = Unit {0}

-- whether a request is for a cancel
abbrev pub is_cancel_request : Request → Bool
is_cancel_request Cancel = true
is_cancel_request other = false

-- whether a line asks for a cancel
abbrev pub asks_cancel : List ℕ → Bool
asks_cancel line = is_cancel_request (request_of line)
