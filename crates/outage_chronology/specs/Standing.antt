-- Where a chronology stands.
use Rattle.std.specs.Prelude.{ℕ, Bool, List}
use Rattle.system_model.specs.System.{SystemParts}
use Rattle.outage_chronology.specs.Outages.{is_up, was_up, changes_in}

-- what a contract sees of a chronology: its system and seed, and the sample and hour where it stands
pub record Standing : Type 0 where
  pub system : SystemParts
  pub seed : ℕ
  pub sample : ℕ
  pub hour : ℕ

-- whether a component is up in that hour
abbrev pub is_up_at : Standing → ℕ → Bool
is_up_at at component = is_up at.system at.seed at.sample at.hour component

-- whether it was before it
abbrev pub was_up_at : Standing → ℕ → Bool
was_up_at at component = was_up at.system at.seed at.sample at.hour component

-- the components whose states differ from those of the hour before, ascending, and at hour 0 those that are out
abbrev pub changed_at : Standing → List ℕ
changed_at at = changes_in at.system at.seed at.sample at.hour
