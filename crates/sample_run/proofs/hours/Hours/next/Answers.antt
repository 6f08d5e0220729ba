use Rattle.std.proofs.Common.{ap}
use Rattle.outage_chronology.specs.Standing.{Standing}
use Rattle.sample_run.proofs.HoursLemmas.{kept-next, sums-next, links-next}
use Rattle.sample_run.proofs.hours.Hours.next.Goals as goal

pub invariant_of-self : goal.invariant_of-self
invariant_of-self c =
    kept-next c.self.inside.system.now c.self.inside.chronology c.step.new.self c.self.inside.sums c.follow.new.sums c.self.inside.storages c.carry.new.self c.self.inside.network c.follow.new.net
    c.self.inside.dispatcher c.self.inside.outcome c.self.inside.chain (ap (λ (s : Standing). s.system) c.step.ensures) c.carry.ensures c.self.invariant c.follow.ensures.sums c.follow.ensures.links c.follow.ensures.shape

pub follow-requires-clause-sums : goal.follow-requires-clause-sums
follow-requires-clause-sums c =
    sums-next c.self.inside.system.now c.self.inside.chronology c.step.new.self c.self.inside.sums c.step.ensures c.self.invariant.kept_sums

pub follow-requires-clause-links : goal.follow-requires-clause-links
follow-requires-clause-links c =
    links-next c.self.inside.system.now c.self.inside.chronology c.step.new.self c.self.inside.network c.step.ensures c.self.invariant.links
