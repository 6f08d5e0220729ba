use Rattle.adequacy.proofs.StudyLemmas.{if_studied}
use Rattle.adequacy.proofs.studies.study_totals.Goals as goal

pub returns : goal.returns
returns g c = if_studied c.args.system.now c.args.terms _ c.study.result c.new-work.ensures c.study.ensures
