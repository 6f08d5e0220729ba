use Rattle.fixed_interval.specs.Places.{low_end_text}
use Rattle.fixed_interval.proofs.places.put_low.Goals as goal

pub returns-clause-ok : goal.returns-clause-ok
unfolding low_end_text
returns-clause-ok c = rw (← c.rounded_down.ensures) c.put_places.ensures.ok
