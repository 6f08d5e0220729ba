use Rattle.std.proofs.Common.{◌≡◌, take, map}
use Rattle.load_model.specs.Need.{net_hour_of}
use Rattle.load_model.proofs.loads.NetLoad.new.Given as goal

-- the hours so far
abbrev pub invariant-loop-hour : goal.invariant-loop-hour
invariant-loop-hour l = l.hours.items ≡ map net_hour_of (take l.hour l.system.hours)
