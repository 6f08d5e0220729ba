use Rattle.outage_chronology.specs.Standing.{is_up_at, was_up_at}
use Rattle.sample_run.proofs.NetworkSteps.{links-same}
use Rattle.sample_run.proofs.network.follow.Goals as goal

pub returns-else-follow-clause-links : goal.returns-else-follow-clause-links
returns-else-follow-clause-links c =
    links-same c.args.system.now (was_up_at c.args.chronology.now) (is_up_at c.args.chronology.now) c.args.sums.now c.follow.new.self c.args.net.now
    c.requires.sums c.follow.ensures.sums (c.follow.ensures.lines c.if-follow.false) c.requires.links
