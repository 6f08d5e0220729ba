use Rattle.zone_network.proofs.SumLemmas.{sum_where-zero, sum_where-more}

-- how a loop over numbers builds a sum
pub ruleset sum_steps = (sum_where-zero, sum_where-more)
