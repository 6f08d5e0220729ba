-- what the dispatch of an hour owes
use Rattle.zone_network.specs.Network.{NetworkParts}
use Rattle.zone_network.specs.Cut.{IsCut}
use Rattle.sample_totals.specs.declared.outcomes.HourOutcome.{HourOutcome}
use Rattle.cut_certificate.specs.declared.chains.Chain.{Chain}
use Rattle.cut_certificate.specs.Chain.{Fit, IsAccepted, all_unserved}

-- a chain proves that an outcome is best, and the cut is the hour's. That no other outcome is best, and none leaves
-- less unserved, follows.
pub record IsSettled (n : NetworkParts) (outcome : HourOutcome) (chain : Chain) : Type 0 where
  pub fit : Fit n outcome chain
  pub accepted : IsAccepted n outcome chain
  pub cut : IsCut n (all_unserved n outcome) outcome.cut
