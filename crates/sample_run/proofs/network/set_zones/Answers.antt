use Rattle.std.proofs.Common.{ap, arith}
use Rattle.std.proofs.lemmas.List.FromFn.{fill_by_all}
use Rattle.system_model.specs.System.{zone_count, hourly_load}
use Rattle.outage_chronology.specs.Standing.{is_up_at}
use Rattle.zone_network.specs.Network.{ShapeParts}
use Rattle.sample_run.specs.HourNetwork.{zone_supply}
use Rattle.sample_run.proofs.network.set_zones.Goals as goal

pub returns-clause-supplies : goal.returns-clause-supplies
returns-clause-supplies c =
    let is = c.loop-zone.invariant in
    fill_by_all (zone_supply c.args.system.now (is_up_at c.args.chronology.now) c.args.chronology.now.hour) c.loop-zone.net.supplies (zone_count c.args.system.now) 0 is.supplies_size
    (λ z below. is.supplies z (omega (arith, c.loop-zone-test.false, c.loop-zone.auto.zone-end, c.zones-zone-end.ensures.count, ap (λ (s : ShapeParts). s.zones) c.requires.shape)))

pub returns-clause-loads : goal.returns-clause-loads
returns-clause-loads c =
    let is = c.loop-zone.invariant in
    fill_by_all (hourly_load c.args.system.now c.args.chronology.now.hour) c.loop-zone.net.loads (zone_count c.args.system.now) 0 is.loads_size
    (λ z below. is.loads z (omega (arith, c.loop-zone-test.false, c.loop-zone.auto.zone-end, c.zones-zone-end.ensures.count, ap (λ (s : ShapeParts). s.zones) c.requires.shape)))
