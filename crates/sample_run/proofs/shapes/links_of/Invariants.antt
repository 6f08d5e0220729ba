use Rattle.std.proofs.Common.{◌≡◌, map, take}
use Rattle.sample_run.specs.HourNetwork.{link_of}
use Rattle.sample_run.proofs.shapes.links_of.Given as goal

-- the interfaces so far have their links
abbrev pub invariant-loop-at : goal.invariant-loop-at
invariant-loop-at l = l.links.items ≡ map link_of (take l.at l.system.interfaces)
