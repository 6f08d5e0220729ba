use Rattle.std.proofs.Common.{◌≡◌, ℕ, ◌<◌, length, get_or}
use Rattle.system_model.specs.System.{interface_count}
use Rattle.outage_chronology.specs.Standing.{is_up_at}
use Rattle.sample_run.specs.HourNetwork.{forward_limit, backward_limit}
use Rattle.sample_run.proofs.network.set_links.Given as goal

-- the links so far have their limits
abbrev pub invariant-loop-link : goal.invariant-loop-link
invariant-loop-link l =
    record {
      forwards_size : length l.net.forwards ≡ interface_count l.system;
      backwards_size : length l.net.backwards ≡ interface_count l.system;
      forwards : (i : ℕ) → i < l.link → get_or l.net.forwards i 0 ≡ forward_limit l.system (is_up_at l.chronology) i;
      backwards : (i : ℕ) → i < l.link → get_or l.net.backwards i 0 ≡ backward_limit l.system (is_up_at l.chronology) i;
      rest : l.net ≡ record l.fn.net { forwards = l.net.forwards; backwards = l.net.backwards };
    }
