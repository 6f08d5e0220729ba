use Rattle.zone_network.specs.Sums.{inside}
use Rattle.decimal_text.specs.DecimalText.{whole_text}
use Rattle.decimal_text.proofs.Growing.{Joined}
use Rattle.result_recorders.proofs.lines.put_zones.Given as goal

-- the zones so far were appended
abbrev pub invariant-loop-zone : goal.invariant-loop-zone
invariant-loop-zone l = Joined whole_text (inside l.mask) l.zone l.initial.out l.out l.first
