use Rattle.sample_run.proofs.EnergySteps.{HasHeld}
use Rattle.sample_run.proofs.hours.apply.Given as goal

-- the storages so far hold what they hold after the hour
abbrev pub invariant-loop-device : goal.invariant-loop-device
invariant-loop-device l = HasHeld l.system l.fn.storages.energies l.charge l.discharge l.storages l.energy l.device
