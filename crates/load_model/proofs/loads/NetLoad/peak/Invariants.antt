use Rattle.load_model.proofs.PeakLaws.{IsPeakSoFar}
use Rattle.load_model.proofs.loads.NetLoad.peak.Given as goal

abbrev pub invariant-loop-hour : goal.invariant-loop-hour
invariant-loop-hour l = IsPeakSoFar l.self l.hour l.peak
