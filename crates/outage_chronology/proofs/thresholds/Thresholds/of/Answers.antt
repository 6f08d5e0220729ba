use Rattle.std.proofs.Common.{◌≡◌, length, ap, arith, subst}
use Rattle.system_model.specs.declared.components.Rates.{Rates}
use Rattle.outage_chronology.specs.Outages.{component_count}
use Rattle.outage_chronology.specs.Thresholds.{AreOfRates}
use Rattle.outage_chronology.proofs.ThresholdLists.{first_more}
use Rattle.outage_chronology.proofs.thresholds.Thresholds.of.Goals as goal

pub loop-component-init : goal.loop-component-init
loop-component-init c = record {
  starts = ap length c.in_ok-starts_out.ensures.items;
  failures = ap length c.in_ok-fails.ensures.items;
  repairs = ap length c.in_ok-is_repaired.ensures.items;
  each = λ k l. absurd (omega arith);
}

pub loop-component-preserved : goal.loop-component-preserved
loop-component-preserved c =
    let a = c.threshold.result in
    let b = c.threshold-in-loop-component.result in
    let r = c.threshold-in-loop-component-2.result in
    let last : AreOfRates c.rates_of-rates.result a b r = record { start = c.threshold.ensures; failure = c.threshold-in-loop-component.ensures; repair = c.threshold-in-loop-component-2.ensures } in
    first_more c.loop-component.component c.args.system.now
    (record { starts_out = c.loop-component.starts_out; fails = c.loop-component.fails; is_repaired = c.loop-component.is_repaired })
    (record { starts_out = c.push.new.self; fails = c.push-in-loop-component.new.self; is_repaired = c.push-in-loop-component-2.new.self })
    a b r c.loop-component.invariant
    (subst (λ (rates : Rates). AreOfRates rates a b r) c.rates_of-rates.ensures.value last)
    c.in_ok-push.ensures.items c.in_ok-push-2.ensures.items c.in_ok-push-3.ensures.items

pub returns : goal.returns
returns c =
    let e : c.loop-component.component ≡ component_count c.args.system.now = omega arith in
    rw e at c.loop-component.invariant
