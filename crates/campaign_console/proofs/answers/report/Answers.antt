use Rattle.std.proofs.Common.{map}
use Rattle.campaign_core.specs.Ranges.{samples_of}
use Rattle.campaign.specs.Passes.{work_of}
use Rattle.sample_run.proofs.WorkLaws.{stands_zones}
use Rattle.campaign_console.proofs.answers.report.Goals as goal

pub returns-clause-zones : goal.returns-clause-zones
returns-clause-zones g c =
    let terms = work_of c.args.campaign.now in
    let report = c.in_ok-report.report in
    stands_zones terms.system terms.seed report.sum (map samples_of report.runs) c.in_ok-report.ensures.sum
