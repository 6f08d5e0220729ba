use Rattle.hour_dispatch.proofs.StartLemmas.{HasSupply, HasCaps}
use Rattle.hour_dispatch.proofs.starting.start.Given as goal

abbrev pub invariant-loop-zone : goal.invariant-loop-zone
invariant-loop-zone l = HasSupply l.net l.flow l.zone

abbrev pub invariant-loop-device : goal.invariant-loop-device
invariant-loop-device l = HasCaps l.net l.flow l.device
