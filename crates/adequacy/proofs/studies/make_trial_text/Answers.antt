use Rattle.std.proofs.Common.{length, ap, ◌∙◌}
use Rattle.sample_totals.specs.Totals.{Sheet}
use Rattle.sample_totals.proofs.Laws.{law_zones}
use Rattle.adequacy.proofs.studies.make_trial_text.Goals as goal

pub put_totals-requires : goal.put_totals-requires
put_totals-requires g c = record { zones = ap (λ (s : Sheet). length s.zones) c.in_ok-totals.ensures.is ∙ law_zones _ _ }
