use Rattle.hour_dispatch.specs.Stages.{IsServed}
use Rattle.hour_dispatch.proofs.serving.serve.Given as goal

abbrev pub invariant-loop-zone : goal.invariant-loop-zone
invariant-loop-zone l = IsServed l.net l.flow l.unserved l.sets l.zone
