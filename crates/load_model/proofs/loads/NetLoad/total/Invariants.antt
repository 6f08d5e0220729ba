use Rattle.std.proofs.Common.{◌≡◌, ◌*◌, ◌≤◌, take, sum_by}
use Rattle.ra_base.specs.declared.limits.TheConstants.{MOST_POOLED_MW}
use Rattle.load_model.specs.Need.{need_of}
use Rattle.load_model.proofs.loads.NetLoad.total.Given as goal

-- what the hours so far need, each within the limit
abbrev pub invariant-loop-hour : goal.invariant-loop-hour
invariant-loop-hour l = record {
  total : l.total ≡ sum_by need_of (take l.hour-index l.hour-items);
  small : l.total ≤ MOST_POOLED_MW * l.hour-index;
}
