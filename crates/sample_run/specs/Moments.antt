-- Where the hours of a sample stand, and what is kept from hour to hour.
use Rattle.std.specs.Prelude.{◌≡◌, ℕ, List, length}
use Rattle.system_model.specs.System.{SystemParts, storage_count}
use Rattle.outage_chronology.specs.Outages.{is_up}
use Rattle.outage_chronology.specs.Standing.{Standing, is_up_at}
use Rattle.storage_state.specs.Holdings.{Holdings}
use Rattle.zone_network.specs.Sums.{NumberSet}
use Rattle.zone_network.specs.Network.{ShapeParts, NetworkParts}
use Rattle.sample_totals.specs.declared.outcomes.HourOutcome.{HourOutcome}
use Rattle.cut_certificate.specs.declared.chains.Chain.{Chain}
use Rattle.cut_certificate.specs.Chain.{AreSized}
use Rattle.sample_run.specs.HourNetwork.{shape_of, AreLinks}
use Rattle.sample_run.specs.declared.up_sums.UpSums.{UpSums}
use Rattle.sample_run.specs.UpSums.{AreSums}

-- an hour of a sample that was gone through: the energies after it, and its outcome
pub record Moment : Type 0 where
  pub system : SystemParts
  pub seed : ℕ
  pub sample : ℕ
  pub hour : ℕ
  pub energies : List ℕ
  pub outcome : HourOutcome

-- the components that are up in that hour
abbrev pub up_in : Moment → NumberSet
up_in moment = is_up moment.system moment.seed moment.sample moment.hour

-- what is kept belongs to one system
pub record IsKept (system : SystemParts) (standing : Standing) (sums : UpSums) (holdings : Holdings) (network : NetworkParts) (dispatcher : ShapeParts) (outcome : HourOutcome) (chain : Chain) : Type 0 where
  pub chronology : standing.system ≡ system
  pub kept_sums : AreSums system (is_up_at standing) sums
  pub storages : holdings.system ≡ system
  pub held : length holdings.energies ≡ storage_count system
  pub shape : network.shape ≡ shape_of system
  pub links : AreLinks system (is_up_at standing) network
  pub dispatches : dispatcher ≡ shape_of system
  pub sizes : AreSized network outcome chain
