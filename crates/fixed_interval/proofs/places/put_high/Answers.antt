use Rattle.fixed_interval.specs.Places.{high_end_text}
use Rattle.fixed_interval.proofs.places.put_high.Goals as goal

pub returns-clause-ok : goal.returns-clause-ok
unfolding high_end_text
returns-clause-ok c = rw (← c.rounded_up.ensures) c.put_places.ensures.ok
