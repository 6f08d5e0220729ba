-- The commands: their names, and which of them share options.
use Rattle.std.specs.Prelude.{ℕ, Bool, true, false, List, codes, Option, None, Some, if◌then◌else◌}
use Rattle.std.specs.Str.{bytes_eq}
use Rattle.adequacy.specs.declared.words.command.Command.{Command}
use Rattle.adequacy.specs.declared.words.command.Command.TheVariants.{Check, Table, Index, Credit, Trace, Study, Trial, Console}

-- the name of a command
abbrev pub command_text : Command → List ℕ
command_text Check = codes "check"
command_text Table = codes "table"
command_text Index = codes "index"
command_text Credit = codes "credit"
command_text Trace = codes "trace"
command_text Study = codes "study"
command_text Trial = codes "trial"
command_text Console = codes "console"

-- the command of a name
abbrev pub command_named : List ℕ → Option Command
command_named name =
    if bytes_eq name (codes "check") then Some Check
    else if bytes_eq name (codes "table") then Some Table
    else if bytes_eq name (codes "index") then Some Index
    else if bytes_eq name (codes "credit") then Some Credit
    else if bytes_eq name (codes "trace") then Some Trace
    else if bytes_eq name (codes "study") then Some Study
    else if bytes_eq name (codes "trial") then Some Trial
    else if bytes_eq name (codes "console") then Some Console
    else None

-- study, trial and console run a campaign of samples, whose workers they wait for
abbrev pub is_campaign : Command → Bool
is_campaign Study = true
is_campaign Trial = true
is_campaign Console = true
is_campaign _ = false

abbrev pub is_console : Command → Bool
is_console Console = true
is_console _ = false

-- study and trial go on in rounds
abbrev pub is_study : Command → Bool
is_study Study = true
is_study Trial = true
is_study _ = false

-- trace draws too
abbrev pub is_simulation : Command → Bool
is_simulation Trace = true
is_simulation command = is_campaign command

-- the system of a trial is made from a number
abbrev pub is_trial : Command → Bool
is_trial Trial = true
is_trial _ = false

abbrev pub is_trace : Command → Bool
is_trace Trace = true
is_trace _ = false

abbrev pub is_credit : Command → Bool
is_credit Credit = true
is_credit _ = false
