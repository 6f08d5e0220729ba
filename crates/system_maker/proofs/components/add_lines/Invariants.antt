use Rattle.std.proofs.Common.{◌≡◌}
use Rattle.system_maker.specs.MadeSystem.{made_names, made_lines}
use Rattle.system_maker.proofs.components.add_lines.Given as goal

-- the lines that were added so far
abbrev pub invariant-loop-at : goal.invariant-loop-at
invariant-loop-at l = l.draft ≡ record l.initial.draft { lines = made_lines l.at; line_names = made_names 76 l.at }
