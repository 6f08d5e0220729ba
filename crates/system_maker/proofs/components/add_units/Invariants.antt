use Rattle.std.proofs.Common.{◌≡◌, ◌*◌, ◌≤◌}
use Rattle.system_model.specs.Components.{pooled_capacity}
use Rattle.system_maker.specs.MadeSystem.{made_names, made_units}
use Rattle.system_maker.proofs.components.add_units.Given as goal

-- the units that were added so far
abbrev pub invariant-loop-at : goal.invariant-loop-at
invariant-loop-at l =
    record {
      added : l.draft ≡ record l.initial.draft {
        units = made_units l.variant l.at;
        unit_names = made_names 85 l.at;
      };
      pooled : pooled_capacity (made_units l.variant l.at) ≤ 130 * l.at;
    }
