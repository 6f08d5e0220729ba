use Rattle.capacity_credit.proofs.SearchLaws.{steps_of_all}
use Rattle.capacity_credit.proofs.brackets.bracket_of.Goals as goal

pub returns-clause-steps : goal.returns-clause-steps
returns-clause-steps g c =
    steps_of_all _ _ _ _ _ c.target_index-index.ensures.steps c.greatest-low.ensures.steps c.least-high.ensures.steps
