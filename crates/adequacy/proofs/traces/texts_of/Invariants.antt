use Rattle.std.proofs.Common.{◌≡◌, map, take}
use Rattle.adequacy.specs.Traces.{texts}
use Rattle.adequacy.proofs.traces.texts_of.Given as goal

-- the texts so far
abbrev pub invariant-loop-recorder : goal.invariant-loop-recorder
invariant-loop-recorder g l = l.text ≡ texts (map g.R.Recorder.seen (take l.recorder-index l.recorders))
