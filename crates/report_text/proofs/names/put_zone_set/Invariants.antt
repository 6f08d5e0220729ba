use Rattle.zone_network.specs.Sums.{inside}
use Rattle.decimal_text.proofs.Growing.{Joined}
use Rattle.report_text.proofs.ZoneNames.{name_at}
use Rattle.report_text.proofs.names.put_zone_set.Given as goal

-- what was appended so far
abbrev pub invariant-loop-zone : goal.invariant-loop-zone
invariant-loop-zone l = Joined (name_at l.system.zone_names) (inside l.mask) l.zone l.initial.out l.out l.first
