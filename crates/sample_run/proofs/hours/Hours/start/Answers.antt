use Rattle.std.proofs.Common.{ap}
use Rattle.outage_chronology.specs.Standing.{Standing}
use Rattle.sample_run.proofs.HoursLemmas.{sums-first}
use Rattle.sample_run.proofs.hours.Hours.start.Goals as goal

pub follow-requires-clause-sums : goal.follow-requires-clause-sums
follow-requires-clause-sums c =
    sums-first c.self.inside.system.now c.start.new.self c.return_all.new.self (ap (λ (s : Standing). s.hour) c.start.ensures) c.return_all.ensures
