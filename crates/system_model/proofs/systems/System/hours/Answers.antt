use Rattle.std.proofs.Common.{ap, sym, ◌∙◌}
use Rattle.system_model.specs.System.{hour_count}
use Rattle.system_model.proofs.HourLists.{length-hours_of}
use Rattle.system_model.proofs.systems.System.hours.Goals as goal

pub returns-clause-count : goal.returns-clause-count
returns-clause-count c = sym (length-hours_of _ _ _ _) ∙ ap hour_count c.self.view_is
