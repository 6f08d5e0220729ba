-- Sums over the components that are up, kept from hour to hour.
use Rattle.std.specs.Prelude.{◌≡◌, ℕ, ◌<◌, ◌==◌, Bool, true, false, length, slice_index, if◌then◌else◌}
use Rattle.system_model.specs.System.{SystemParts, zone_count, interface_count}
use Rattle.zone_network.specs.Sums.{NumberSet}
use Rattle.sample_run.specs.declared.up_sums.UpSums.{UpSums}
use Rattle.sample_run.specs.HourNetwork.{up_capacity, up_lines_sum, lines_count}

-- all components, and none
abbrev pub all_up : NumberSet
all_up = λ component. true

abbrev pub none_up : NumberSet
none_up = λ component. false

-- a set with one component set to be up or out
abbrev pub with_state : NumberSet → ℕ → Bool → NumberSet
with_state before component up = λ k. if k == component then up else before k

-- the sums are those over a set of components, and the lines of each interface are counted
pub record AreSums (system : SystemParts) (up : NumberSet) (sums : UpSums) : Type 0 where
  pub zones : length sums.units ≡ zone_count system
  pub forwards : length sums.forward ≡ interface_count system
  pub backwards : length sums.backward ≡ interface_count system
  pub line_counts : length sums.lines ≡ interface_count system
  pub unit_sums : (zone : ℕ) → zone < zone_count system → slice_index sums.units zone ≡ up_capacity system up zone
  pub forward_sums :
      (interface : ℕ)
      → interface < interface_count system
      → slice_index sums.forward interface ≡ up_lines_sum system up (λ line. line.forward) interface
  pub backward_sums :
      (interface : ℕ)
      → interface < interface_count system
      → slice_index sums.backward interface ≡ up_lines_sum system up (λ line. line.backward) interface
  pub counts : (interface : ℕ) → interface < interface_count system → slice_index sums.lines interface ≡ lines_count system interface

-- what each interface's lines carry together is the same in both
pub record CarrySame (before after : UpSums) : Type 0 where
  pub forward : after.forward ≡ before.forward
  pub backward : after.backward ≡ before.backward
