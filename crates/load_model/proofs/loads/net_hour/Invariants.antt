use Rattle.std.proofs.Common.{◌≡◌, take, sum}
use Rattle.system_model.specs.System.{hour_at}
use Rattle.load_model.proofs.loads.net_hour.Given as goal

-- the sums over the zones so far
abbrev pub invariant-loop-zone : goal.invariant-loop-zone
invariant-loop-zone l = record {
  load : l.load ≡ sum (take l.zone (hour_at l.system l.fn.hour).load);
  variable : l.variable ≡ sum (take l.zone (hour_at l.system l.fn.hour).variable);
}
