-- The line of a campaign's gate, and the text of an interim report. 10 is the line feed.
use Rattle.std.specs.Prelude.{ℕ, Bool, true, false, List, [], ◌∷◌, ◌++◌, codes}
use Rattle.std.specs.List.{flat_map}
use Rattle.decimal_text.specs.DecimalText.{whole_text}
use Rattle.campaign_core.specs.declared.gate.Gate.{Gate}
use Rattle.campaign_core.specs.declared.run.Run.{Run}
use Rattle.sample_totals.specs.Totals.{Sheet}
use Rattle.report_text.specs.TotalsText.{totals_text}

abbrev pub yes_text : Bool → List ℕ
yes_text true = codes "yes"
yes_text false = codes "no"

-- the line of a gate
unfoldable pub gate_line : Gate → List ℕ
gate_line gate =
    codes "gate next " ++ whole_text gate.next
    ++ codes " target " ++ whole_text gate.target
    ++ codes " sealed " ++ yes_text gate.sealed
    ++ codes " cancelled " ++ yes_text gate.cancelled ++ 10 ∷ []

-- a run with a space in front: its first and its last sample
abbrev pub run_text : Run → List ℕ
run_text run = codes " " ++ whole_text run.first ++ codes ".." ++ whole_text run.last

-- each run, or that there is none
abbrev pub ranges_text : List Run → List ℕ
ranges_text [] = codes " none"
ranges_text (run ∷ runs) = flat_map run_text (run ∷ runs)

-- the line of the runs
unfoldable pub ranges_line : List Run → List ℕ
ranges_line runs = codes "ranges" ++ ranges_text runs ++ 10 ∷ []

-- an interim report over the zones of these names: the gate, the runs, and the totals
unfoldable pub interim_text : List (List ℕ) → Gate → List Run → Sheet → List ℕ
interim_text names gate runs sheet = gate_line gate ++ ranges_line runs ++ totals_text names sheet
