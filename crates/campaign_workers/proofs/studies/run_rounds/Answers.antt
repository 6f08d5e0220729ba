use Rattle.std.proofs.Common.{◌+◌, ◌≤◌, sym, ◌∙◌, subst, arith}
use Rattle.ra_base.specs.declared.limits.TheConstants.{MOST_SAMPLES}
use Rattle.campaign.specs.Passes.{pass_of, work_of}
use Rattle.campaign_workers.specs.Studies.{is_enough_below}
use Rattle.campaign_workers.proofs.StandLaws.{stands_report, stands_extended}
use Rattle.campaign_workers.proofs.RoundLaws.{IsRound, first_round, next_round, ends_enough, ends_most}
use Rattle.campaign_workers.proofs.StudyLaws.{round_reported, round_extended}
use Rattle.campaign_workers.proofs.studies.run_rounds.Goals.{then-report-via-then-report, then-report-via-else-report+then-goal-most}
use Rattle.campaign_workers.proofs.studies.run_rounds.Goals as goal

pub loop-crew-init : goal.loop-crew-init
loop-crew-init g c = record {
  pass = c.requires.pass;
  jobs = c.requires.serve;
  many = c.requires.jobs;
  stands = (0, c.requires.stands);
  made = omega (arith, c.requires.made, c.requires.samples.0);
  goal = c.requires.samples;
  round = first_round c.args.samples c.args.most (is_enough_below g.W.Work.is_enough (work_of c.args.campaign.now)) c.requires.samples.1;
}

pub returns-then-report : goal.returns-then-report
returns-then-report g c =
    let laws = g.met.W.Work g.world.𝓛 g.world.𝓜 g.world.𝓡 ((λ s x. x), (λ x. x), (λ x. x), λ x. x) in
    let work = work_of c.args.campaign.now in
    let enough = is_enough_below g.W.Work.is_enough work in
    let n = c.loop-crew.goal in
    let round = c.loop-crew.invariant in
    let report = c.in_ok-report.report in
    let done = c.in_ok-report.ensures in
    let at = c.run_round-crew.ensures.stands c.if-crew.false round.stands.0 n round.stands.1 in
    let told = round_reported g.W.Work.stands g.W.Work.is_enough laws.stands_by_samples laws.enough_by_samples (pass_of c.run_round-crew.result.pass) report.gate report.runs (pass_of c.interim.new.pass) done.made c.run_round-crew.ensures.pass.seat.sound done.pass.seat.sound n round.goal.0 at work report.sum report.enough done.sum done.enough in
    elim c.then-report.branch [
      | then-report-via-then-report w ↦ record {
        end = n;
        ends = ends_enough c.args.samples c.args.most enough n round.round round.goal.1 (sym told.tells ∙ w.if-report.true);
        is_sum = told.is_sum;
      }
      | then-report-via-else-report+then-goal-most w ↦ record {
        end = n;
        ends = ends_most c.args.samples c.args.most enough n round.round w.if-goal-most.true;
        is_sum = told.is_sum;
      }
    ]

pub unreachable-requires : goal.unreachable-requires
unreachable-requires g c =
    let n = c.loop-crew.goal in
    let round = c.loop-crew.invariant in
    let report = c.in_ok-report.report in
    let done = c.in_ok-report.ensures in
    let w = pass_of c.interim.new.pass in
    let at = c.run_round-crew.ensures.stands c.if-crew.false round.stands.0 n round.stands.1 in
    let still = stands_report (pass_of c.run_round-crew.result.pass) report.gate report.runs w done.made c.run_round-crew.ensures.pass.seat.sound done.pass.seat.sound n at in
    let fits : n + c.min-more.result ≤ MOST_SAMPLES = omega (arith, c.min-more.ensures, round.goal.1, c.requires.most) in
    c.in_default.not-Now (n + c.min-more.result)
    (stands_extended w c.min-more.result c.extend.result (pass_of c.extend.new.pass) c.extend.ensures.extended done.pass.seat.sound c.extend.ensures.pass.seat.sound c.extend.ensures.same n still fits).0

pub loop-crew-preserved : goal.loop-crew-preserved
loop-crew-preserved g c =
    let laws = g.met.W.Work g.world.𝓛 g.world.𝓜 g.world.𝓡 ((λ s x. x), (λ x. x), (λ x. x), λ x. x) in
    let work = work_of c.args.campaign.now in
    let enough = is_enough_below g.W.Work.is_enough work in
    let n = c.loop-crew.goal in
    let more = c.min-more.result in
    let round = c.loop-crew.invariant in
    let report = c.in_ok-report.report in
    let done = c.in_ok-report.ensures in
    let v = pass_of c.run_round-crew.result.pass in
    let w = pass_of c.interim.new.pass in
    let sound = c.run_round-crew.ensures.pass.seat.sound in
    let at = c.run_round-crew.ensures.stands c.if-crew.false round.stands.0 n round.stands.1 in
    let told = round_reported g.W.Work.stands g.W.Work.is_enough laws.stands_by_samples laws.enough_by_samples v report.gate report.runs w done.made sound done.pass.seat.sound n round.goal.0 at work report.sum report.enough done.sum done.enough in
    let still = stands_report v report.gate report.runs w done.made sound done.pass.seat.sound n at in
    let fits : n + c.min-more.result ≤ MOST_SAMPLES = omega (arith, c.min-more.ensures, round.goal.1, c.requires.most) in
    let raised = round_extended w more c.extend.result (pass_of c.extend.new.pass) c.extend.ensures.extended done.pass.seat.sound c.extend.ensures.pass.seat.sound c.extend.ensures.same n still fits c.in-Now.target c.in-Now.is in
    let some : 1 ≤ more = omega (arith, c.min-more.ensures, c.requires.samples.0, c.if-goal-most.false, round.goal.1) in
    record {
      pass = c.extend.ensures.pass;
      jobs = c.run_round-crew.ensures.jobs;
      many = (omega (arith, c.run_round-crew.ensures.many, round.many.0), omega (arith, c.run_round-crew.ensures.many, round.many.1));
      stands = (n, raised.1);
      made = omega (arith, c.extend.ensures.same.made, done.same.made, c.run_round-crew.ensures.made, round.made, round.many.1, raised.0, some);
      goal = (omega (arith, raised.0, some), omega (arith, raised.0, c.min-more.ensures, round.goal.1));
      round = subst (IsRound c.args.samples c.args.most enough) (sym raised.0)
          (next_round c.args.samples c.args.most enough n more round.round round.goal.1 (sym told.tells ∙ c.if-report.false) c.if-goal-most.false c.min-more.ensures);
    }

pub loop-crew-smaller : goal.loop-crew-smaller
loop-crew-smaller g c =
    let n = c.loop-crew.goal in
    let more = c.min-more.result in
    let round = c.loop-crew.invariant in
    let report = c.in_ok-report.report in
    let done = c.in_ok-report.ensures in
    let w = pass_of c.interim.new.pass in
    let at = c.run_round-crew.ensures.stands c.if-crew.false round.stands.0 n round.stands.1 in
    let still = stands_report (pass_of c.run_round-crew.result.pass) report.gate report.runs w done.made c.run_round-crew.ensures.pass.seat.sound done.pass.seat.sound n at in
    let fits : n + c.min-more.result ≤ MOST_SAMPLES = omega (arith, c.min-more.ensures, round.goal.1, c.requires.most) in
    let raised = round_extended w more c.extend.result (pass_of c.extend.new.pass) c.extend.ensures.extended done.pass.seat.sound c.extend.ensures.pass.seat.sound c.extend.ensures.same n still fits c.in-Now.target c.in-Now.is in
    let some : 1 ≤ more = omega (arith, c.min-more.ensures, c.requires.samples.0, c.if-goal-most.false, round.goal.1) in
    omega (arith, raised.0, some, c.min-more.ensures, round.goal.1)
