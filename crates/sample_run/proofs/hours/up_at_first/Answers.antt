use Rattle.std.proofs.Common.{◌≡◌, ap}
use Rattle.outage_chronology.specs.Standing.{Standing}
use Rattle.sample_run.specs.declared.up_sums.UpSums.{UpSums}
use Rattle.sample_run.specs.UpSums.{AreSums, all_up}
use Rattle.sample_run.proofs.HoursLemmas.{answered, sums-first}
use Rattle.sample_run.proofs.hours.up_at_first.Goals as goal

pub follow-requires-clause-sums : goal.follow-requires-clause-sums
follow-requires-clause-sums c =
    let up = c.in_ok-chronology in
    sums-first c.args.system.now up.chronology up.sums
    (
    ap (λ (s : Standing). s.hour)
    (answered c.new.result up.chronology (λ (s : Standing). s ≡ record { system = c.args.system.now; seed = c.args.seed; sample = 0; hour = 0 }) up.ensures.first c.new.ensures)
    )
    (answered c.new-2.result up.sums (λ (sums : UpSums). AreSums c.args.system.now all_up sums) up.ensures.second c.new-2.ensures)
