use Rattle.std.proofs.Common.{◌≡◌, ◌-◌, [], ◌∷◌, ◌++◌, length, refl, ap, sym, ◌∙◌, subst, arith}
use Rattle.system_model.specs.System.{SystemParts, IsValid, zone_count, hour_count}
use Rattle.sample_totals.specs.declared.outcomes.HourOutcome.{HourOutcome}
use Rattle.sample_totals.specs.Results.{Tally, tally_of}
use Rattle.sample_run.specs.Run.{Simulation}
use Rattle.sample_run.specs.Moments.{Moment}
use Rattle.sample_run.proofs.RunSteps.{fits-in, at-first, at-next, at-last, least-last, at-counted, at-room, at-zones, tally-counted, tally-room, tally-zones}
use Rattle.sample_run.proofs.runner.Runner.run.Goals as goal

pub loop-hour-init : goal.loop-hour-init
loop-hour-init c =
    let system_is : c.self.inside.hours.system ≡ c.args.self.now.system = ap (λ (s : Simulation). s.system) c.self.view_is in
    let seed_is : c.self.inside.hours.seed ≡ c.args.self.now.seed = ap (λ (s : Simulation). s.seed) c.self.view_is in
    let empty : c.clear.new.self ≡ tally_of (hour_count c.args.self.now.system) (zone_count c.args.self.now.system) [] =
    c.clear.ensures
    ∙ ap (λ r. tally_of r (length c.self.inside.result.figures.zones) []) (c.self.invariant.room ∙ ap hour_count system_is)
    ∙ ap (λ z. tally_of (hour_count c.args.self.now.system) z []) (c.self.invariant.zones ∙ ap zone_count system_is) in
    at-first c.args.self.now.system c.args.self.now.seed c.args.sample c.self.inside.hours c.start.new.self c.clear.new.self c.add_hour.new.self
    system_is seed_is c.start.ensures.at c.start.ensures.hour c.start.ensures.least empty
    (λ r e. c.add_hour.ensures.run r e ∙ ap (λ (o : HourOutcome). tally_of c.clear.new.self.room (length c.clear.new.self.figures.zones) (r ++ o ∷ [])) c.outcome.ensures)

pub add_hour-requires : goal.add_hour-requires
add_hour-requires c =
    let same : c.start.new.self.system ≡ c.self.inside.hours.system = ap (λ (m : Moment). m.system) c.start.ensures.at in
    let valid : IsValid c.start.new.self.system = subst IsValid (sym same) c.count-hours.ensures.valid in
    let fits =
    fits-in c.start.new.self.system _ _ 0 c.outcome.result.now c.start.new.self.outcome c.clear.new.self valid valid.hour c.start.ensures.hour c.outcome.ensures
    (ap (λ (t : Tally). t.counted) c.clear.ensures ∙ tally-counted _ _ [])
    (ap (λ (t : Tally). t.room) c.clear.ensures ∙ tally-room _ _ [] ∙ c.self.invariant.room ∙ ap hour_count (sym same))
    (ap (λ (t : Tally). length t.figures.zones) c.clear.ensures ∙ tally-zones _ _ [] ∙ c.self.invariant.zones ∙ ap zone_count (sym same)) in
    record { next = fits.next; room = fits.room; zones = fits.zones; cut = fits.cut; small = fits.small }

pub next-requires : goal.next-requires
next-requires c =
    let stood = c.loop-hour.invariant.stands (c.loop-hour._hour - 1) (omega arith) in
    let system_is : c.self.inside.hours.system ≡ c.args.self.now.system = ap (λ (s : Simulation). s.system) c.self.view_is in
    omega (arith, stood.hour_is, c.loop-hour-test.true, c.count-hours.ensures.count, ap hour_count system_is, ap hour_count stood.system_is)

pub add_hour-requires-in-loop-hour : goal.add_hour-requires-in-loop-hour
add_hour-requires-in-loop-hour c =
    let stood = c.loop-hour.invariant.stands (c.loop-hour._hour - 1) (omega (arith, c.loop-hour.auto._hour)) in
    let system_is : c.self.inside.hours.system ≡ c.args.self.now.system = ap (λ (s : Simulation). s.system) c.self.view_is in
    let same : c.next.new.self.system ≡ c.args.self.now.system = ap (λ (m : Moment). m.system) c.next.ensures.at ∙ stood.system_is in
    let valid : IsValid c.next.new.self.system = subst IsValid (system_is ∙ sym same) c.count-hours.ensures.valid in
    let hour_is = ap (λ (m : Moment). m.hour) c.next.ensures.at in
    let counted = at-counted _ _ _ _ _ _ c.loop-hour.invariant in
    let fits =
    fits-in c.next.new.self.system _ _ c.next.new.self.hour c.outcome-in-loop-hour.result.now c.next.new.self.outcome c.loop-hour.self-inside.result valid
    (omega (arith, hour_is, stood.hour_is, c.loop-hour.auto._hour, c.loop-hour-test.true, c.count-hours.ensures.count, ap hour_count system_is, ap hour_count same))
    c.next.ensures.hour c.outcome-in-loop-hour.ensures
    (omega (arith, counted, hour_is, stood.hour_is, c.loop-hour.auto._hour))
    (at-room _ _ _ _ _ _ c.loop-hour.invariant ∙ ap hour_count (sym same))
    (at-zones _ _ _ _ _ _ c.loop-hour.invariant ∙ ap zone_count (sym same)) in
    record { next = fits.next; room = fits.room; zones = fits.zones; cut = fits.cut; small = fits.small }

pub loop-hour-preserved : goal.loop-hour-preserved
loop-hour-preserved c =
    at-next c.args.self.now.system c.args.self.now.seed c.args.sample c.loop-hour._hour c.loop-hour.self-inside.hours c.next.new.self c.loop-hour.self-inside.result c.add_hour-in-loop-hour.new.self
    (omega (arith, c.loop-hour.auto._hour)) c.loop-hour.invariant c.next.ensures.at c.next.ensures.hour c.next.ensures.least
    (λ r e. c.add_hour-in-loop-hour.ensures.run r e
    ∙ ap (λ (o : HourOutcome). tally_of c.loop-hour.self-inside.result.room (length c.loop-hour.self-inside.result.figures.zones) (r ++ o ∷ [])) c.outcome-in-loop-hour.ensures)

pub invariant_of-self : goal.invariant_of-self
invariant_of-self c =
    let stood = c.loop-hour.invariant.stands (c.loop-hour._hour - 1) (omega (arith, c.loop-hour.auto._hour)) in
    record {
      room = at-room _ _ _ _ _ _ c.loop-hour.invariant ∙ ap hour_count (sym stood.system_is);
      zones = at-zones _ _ _ _ _ _ c.loop-hour.invariant ∙ ap zone_count (sym stood.system_is);
    }

pub returns : goal.returns
returns c =
    let stood = c.loop-hour.invariant.stands (c.loop-hour._hour - 1) (omega (arith, c.loop-hour.auto._hour)) in
    let system_is : c.self.inside.hours.system ≡ c.args.self.now.system = ap (λ (s : Simulation). s.system) c.self.view_is in
    let end : c.loop-hour._hour ≡ hour_count c.args.self.now.system =
    omega (arith, c.loop-hour-test.false, c.loop-hour.auto._hour-end, c.count-hours.ensures.count, c.count-hours.ensures.valid.hour, ap hour_count system_is) in
    let view : Simulation = record { system = c.loop-hour.self-inside.hours.system; seed = c.loop-hour.self-inside.hours.seed } in
    let view_is : view ≡ c.args.self.now =
    ap (λ (s : SystemParts). record { system = s; seed = c.loop-hour.self-inside.hours.seed }) stood.system_is
    ∙ ap (λ s. record { system = c.args.self.now.system; seed = s }) stood.seed_is in (
      (refl, (λ _. tt), view_is),
      record {
        keeps = tt;
        figures = at-last _ _ _ _ _ _ end c.loop-hour.invariant;
        zones = at-zones _ _ _ _ _ _ c.loop-hour.invariant;
        hours = least-last _ _ _ _ _ _ end c.loop-hour.invariant;
      },
    )
