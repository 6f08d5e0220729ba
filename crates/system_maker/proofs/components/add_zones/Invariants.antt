use Rattle.std.proofs.Common.{◌≡◌}
use Rattle.system_maker.specs.MadeSystem.{made_names}
use Rattle.system_maker.proofs.components.add_zones.Given as goal

-- the zones that were added so far
abbrev pub invariant-loop-at : goal.invariant-loop-at
invariant-loop-at l = l.draft ≡ record l.initial.draft { zone_names = made_names 90 l.at }
