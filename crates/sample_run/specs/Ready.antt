-- What a runner keeps from one sample to the next.
use Rattle.std.specs.Prelude.{◌≡◌, length}
use Rattle.system_model.specs.System.{SystemParts, zone_count, hour_count}
use Rattle.sample_totals.specs.Results.{Tally}

-- the result has room for the system's hours and zones
pub record IsReady (system : SystemParts) (result : Tally) : Type 0 where
  pub room : result.room ≡ hour_count system
  pub zones : length result.figures.zones ≡ zone_count system
