use Rattle.std.proofs.Common.{◌≡◌, ℕ, ◌<◌, length, get_or}
use Rattle.system_model.specs.System.{interface_count}
use Rattle.zone_network.specs.Sums.{sum_where}
use Rattle.sample_run.specs.HourNetwork.{lines_of}
use Rattle.sample_run.proofs.up_sums.count_lines.Given as goal

-- the lines so far are counted
abbrev pub invariant-loop-at : goal.invariant-loop-at
invariant-loop-at l = record {
  size : length l.lines ≡ interface_count l.system;
  counts : (i : ℕ) → i < interface_count l.system → get_or l.lines i 0 ≡ sum_where (lines_of l.system i) (λ line. 1) l.at;
}
