-- The text of a bracket, line by line. 10 is the line feed.
use Rattle.std.specs.Prelude.{ℕ, List, [], ◌∷◌, ◌++◌, codes, Option, Some, None}
use Rattle.decimal_text.specs.DecimalText.{whole_text}
use Rattle.fixed_interval.specs.declared.enclosure.Enclosure.{Enclosure}
use Rattle.capacity_credit.specs.declared.brackets.Bracket.{Bracket}
use Rattle.capacity_credit.specs.declared.questions.Kind.{Kind}
use Rattle.capacity_credit.specs.declared.questions.Kind.TheVariants.{Efc, Elcc}
use Rattle.capacity_credit.specs.declared.questions.Measure.{Measure}
use Rattle.capacity_credit.specs.declared.questions.Measure.TheVariants.{Lole, Eue}
use Rattle.index_text.specs.TableText.{ends_text}

abbrev pub kind_text : Kind → List ℕ
kind_text Efc = codes "efc"
kind_text Elcc = codes "elcc"

abbrev pub measure_text : Measure → List ℕ
measure_text Lole = codes "lole"
measure_text Eue = codes "eue"

-- the rest of a line: a candidate and the ends of its index
unfoldable pub decided_text : ℕ → ℕ → ℕ → List ℕ
decided_text c low high = codes " " ++ whole_text c ++ codes " at " ++ ends_text low high ++ 10 ∷ []

-- the rest of an end's line
abbrev pub end_text : Option ℕ → Option Enclosure → List ℕ
end_text None at = codes " none\n"
end_text (Some c) None = codes " none\n"
end_text (Some c) (Some e) = decided_text c e.low e.high

-- the text of a bracket
unfoldable pub bracket_text : Kind → Measure → Bracket → List ℕ
bracket_text kind measure bracket =
    codes "credit " ++ kind_text kind ++ codes " " ++ measure_text measure
    ++ codes "\ntarget " ++ ends_text bracket.target.low bracket.target.high
    ++ codes "\nlow" ++ end_text bracket.low bracket.at_low ++ codes "high" ++ end_text bracket.high bracket.at_high
