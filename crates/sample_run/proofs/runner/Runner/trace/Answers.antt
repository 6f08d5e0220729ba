use Rattle.std.proofs.Common.{◌≡◌, ℕ, ◌-◌, ◌<◌, map, ap, sym, ◌∙◌, arith}
use Rattle.std.proofs.lemmas.Result.{err_from_is_err_and}
use Rattle.system_model.specs.System.{SystemParts, zone_count, hour_count}
use Rattle.sample_totals.specs.declared.outcomes.HourOutcome.{HourOutcome}
use Rattle.sample_run.specs.Run.{Simulation}
use Rattle.sample_run.specs.Moments.{Moment}
use Rattle.sample_run.specs.Trace.{place_of, hour_of}
use Rattle.sample_run.proofs.TraceRuns.{next-first, next-next, traced-more, traced-broken, traced-last}
use Rattle.sample_run.proofs.runner.Runner.trace.Goals as goal

pub returns-in_err-give_hour-clause-err : goal.returns-in_err-give_hour-clause-err
returns-in_err-give_hour-clause-err g c =
    let p = err_from_is_err_and c.from_residual.result c.from_residual.ensures.1 in
    let error = c.in_err-give_hour.field-0.0 in
    let system_is : c.self.inside.hours.system ≡ c.args.self.now.system = ap (λ (s : Simulation). s.system) c.self.view_is in
    let seed_is : c.self.inside.hours.seed ≡ c.args.self.now.seed = ap (λ (s : Simulation). s.seed) c.self.view_is in
    let hour_is : hour_of error ≡ 0 = c.in_err-give_hour.ensures.hour ∙ ap (λ (o : HourOutcome). o.hour) c.outcome.ensures ∙ c.start.ensures.hour.number in
    rw (p.1, p.2)
    (traced-broken c.args.self.now.system c.args.self.now.seed c.args.sample 0 c.start.new.self c.outcome.result.now (place_of error) (hour_of error) _ _ _
    (next-first c.args.self.now.system c.args.self.now.seed c.args.sample c.self.inside.hours c.start.new.self (map g.R.Recorder.seen c.args.recorders.now) system_is seed_is c.start.ensures.at c.start.ensures.hour c.start.ensures.least)
    c.outcome.ensures hour_is c.in_err-give_hour.ensures.err)

pub loop-hour-init : goal.loop-hour-init
loop-hour-init g c =
    let system_is : c.self.inside.hours.system ≡ c.args.self.now.system = ap (λ (s : Simulation). s.system) c.self.view_is in
    let seed_is : c.self.inside.hours.seed ≡ c.args.self.now.seed = ap (λ (s : Simulation). s.seed) c.self.view_is in
    let same : c.start.new.self.system ≡ c.self.inside.hours.system = ap (λ (m : Moment). m.system) c.start.ensures.at in
    record {
      ready =
          record {
            room = c.self.invariant.room ∙ ap hour_count (sym same);
            zones = c.self.invariant.zones ∙ ap zone_count (sym same);
          };
      traced =
          traced-more c.args.self.now.system c.args.self.now.seed c.args.sample 0 c.start.new.self c.outcome.result.now _ _ _
          (next-first c.args.self.now.system c.args.self.now.seed c.args.sample c.self.inside.hours c.start.new.self (map g.R.Recorder.seen c.args.recorders.now) system_is seed_is c.start.ensures.at c.start.ensures.hour c.start.ensures.least)
          c.outcome.ensures c.in_ok-give_hour.ensures.ok;
      counts = c.in_ok-give_hour.ensures.ok_counts;
      size = c.give_hour.auto.recorders;
    }

pub next-requires : goal.next-requires
next-requires g c =
    let stood = c.loop-hour.invariant.traced.stands (c.loop-hour._hour - 1) (omega (arith, c.loop-hour.auto._hour)) in
    let system_is : c.self.inside.hours.system ≡ c.args.self.now.system = ap (λ (s : Simulation). s.system) c.self.view_is in
    omega (arith, stood.hour_is, c.loop-hour.auto._hour, c.loop-hour-test.true, c.count-hours.ensures.count, ap hour_count system_is, ap hour_count stood.system_is)

pub returns-in_err-give_hour-2-clause-runner : goal.returns-in_err-give_hour-2-clause-runner
returns-in_err-give_hour-2-clause-runner g c =
    let stood = c.loop-hour.invariant.traced.stands (c.loop-hour._hour - 1) (omega (arith, c.loop-hour.auto._hour)) in
    ap (λ (s : SystemParts). record { system = s; seed = c.next.new.self.seed }) (ap (λ (m : Moment). m.system) c.next.ensures.at ∙ stood.system_is)
    ∙ ap (λ (s : ℕ). record { system = c.args.self.now.system; seed = s }) (ap (λ (m : Moment). m.seed) c.next.ensures.at ∙ stood.seed_is)

pub returns-in_err-give_hour-2-clause-err : goal.returns-in_err-give_hour-2-clause-err
returns-in_err-give_hour-2-clause-err g c =
    let p = err_from_is_err_and c.from_residual-in_err-give_hour-2.result c.from_residual-in_err-give_hour-2.ensures.1 in
    let error = c.in_err-give_hour-2.field-0.0 in
    let stood = c.loop-hour.invariant.traced.stands (c.loop-hour._hour - 1) (omega (arith, c.loop-hour.auto._hour)) in
    let read_hour : hour_of error ≡ c.next.new.self.hour =
    c.in_err-give_hour-2.ensures.hour ∙ ap (λ (o : HourOutcome). o.hour) c.outcome-in-loop-hour.ensures ∙ c.next.ensures.hour.number in
    let hour_is : hour_of error ≡ c.loop-hour._hour =
    omega (arith, read_hour, ap (λ (m : Moment). m.hour) c.next.ensures.at, stood.hour_is, c.loop-hour.auto._hour) in
    rw (p.1, p.2)
    (traced-broken c.args.self.now.system c.args.self.now.seed c.args.sample c.loop-hour._hour c.next.new.self c.outcome-in-loop-hour.result.now (place_of error) (hour_of error) _ _ _
    (next-next c.args.self.now.system c.args.self.now.seed c.args.sample c.loop-hour._hour c.loop-hour.self-inside.hours c.next.new.self _ (map g.R.Recorder.seen c.loop-hour.recorders) (omega (arith, c.loop-hour.auto._hour)) c.loop-hour.invariant.traced c.next.ensures.at c.next.ensures.hour c.next.ensures.least)
    c.outcome-in-loop-hour.ensures hour_is c.in_err-give_hour-2.ensures.err)

pub returns-in_err-give_hour-2-clause-err_hour : goal.returns-in_err-give_hour-2-clause-err_hour
returns-in_err-give_hour-2-clause-err_hour g c =
    let p = err_from_is_err_and c.from_residual-in_err-give_hour-2.result c.from_residual-in_err-give_hour-2.ensures.1 in
    let error = c.in_err-give_hour-2.field-0.0 in
    let system_is : c.self.inside.hours.system ≡ c.args.self.now.system = ap (λ (s : Simulation). s.system) c.self.view_is in
    let stood = c.loop-hour.invariant.traced.stands (c.loop-hour._hour - 1) (omega (arith, c.loop-hour.auto._hour)) in
    let read_hour : hour_of error ≡ c.next.new.self.hour =
    c.in_err-give_hour-2.ensures.hour ∙ ap (λ (o : HourOutcome). o.hour) c.outcome-in-loop-hour.ensures ∙ c.next.ensures.hour.number in
    let early : hour_of error < hour_count c.args.self.now.system =
    omega (arith, read_hour, ap (λ (m : Moment). m.hour) c.next.ensures.at, stood.hour_is, c.loop-hour.auto._hour, c.loop-hour-test.true, c.count-hours.ensures.count, ap hour_count system_is) in
    rw (p.1, p.2) early

pub loop-hour-preserved : goal.loop-hour-preserved
loop-hour-preserved g c =
    let same : c.next.new.self.system ≡ c.loop-hour.self-inside.hours.system = ap (λ (m : Moment). m.system) c.next.ensures.at in
    record {
      ready =
          record {
            room = c.loop-hour.invariant.ready.room ∙ ap hour_count (sym same);
            zones = c.loop-hour.invariant.ready.zones ∙ ap zone_count (sym same);
          };
      traced =
          traced-more c.args.self.now.system c.args.self.now.seed c.args.sample c.loop-hour._hour c.next.new.self c.outcome-in-loop-hour.result.now _ _ _
          (next-next c.args.self.now.system c.args.self.now.seed c.args.sample c.loop-hour._hour c.loop-hour.self-inside.hours c.next.new.self _ (map g.R.Recorder.seen c.loop-hour.recorders) (omega (arith, c.loop-hour.auto._hour)) c.loop-hour.invariant.traced c.next.ensures.at c.next.ensures.hour c.next.ensures.least)
          c.outcome-in-loop-hour.ensures c.in_ok-give_hour-2.ensures.ok;
      counts = c.in_ok-give_hour-2.ensures.ok_counts ∙ c.loop-hour.invariant.counts;
      size = c.give_hour-in-loop-hour.auto.recorders ∙ c.loop-hour.invariant.size;
    }

pub returns-clause-runner : goal.returns-clause-runner
returns-clause-runner g c =
    let stood = c.loop-hour.invariant.traced.stands (c.loop-hour._hour - 1) (omega (arith, c.loop-hour.auto._hour)) in
    ap (λ (s : SystemParts). record { system = s; seed = c.loop-hour.self-inside.hours.seed }) stood.system_is
    ∙ ap (λ (s : ℕ). record { system = c.args.self.now.system; seed = s }) stood.seed_is

pub returns-clause-ok : goal.returns-clause-ok
returns-clause-ok g c =
    let system_is : c.self.inside.hours.system ≡ c.args.self.now.system = ap (λ (s : Simulation). s.system) c.self.view_is in
    traced-last c.args.self.now.system c.args.self.now.seed c.args.sample c.loop-hour._hour c.loop-hour.self-inside.hours _ _
    (omega (arith, c.loop-hour-test.false, c.loop-hour.auto._hour, c.loop-hour.auto._hour-end, c.count-hours.ensures.count, c.count-hours.ensures.valid.hour, ap hour_count system_is))
    c.loop-hour.invariant.traced
