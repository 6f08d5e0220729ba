use Rattle.std.proofs.Common.{◌≡◌, ◌+◌, ℕ, ap, ◌∙◌, arith}
use Rattle.std.specs.Prelude.{slice_set}
use Rattle.zone_network.specs.Network.{zone_of_device, device_count, charge_cap_at}
use Rattle.cut_certificate.specs.Chain.{served_but, discharge_in}
use Rattle.hour_dispatch.proofs.ServeLemmas.{pulled-as}
use Rattle.hour_dispatch.proofs.ChargeLemmas.{charge-step}
use Rattle.hour_dispatch.proofs.charging.charge_device.Goals as goal

pub returns-clause-charged : goal.returns-clause-charged
returns-clause-charged c =
    let pull = c.pull_or_search-pull.ensures in
    let cap : c.charge_cap.result ≡ charge_cap_at c.args.net.now c.args.device = c.charge_cap.ensures.value in
    let zone : c.device_zone.result ≡ zone_of_device c.args.net.now.shape c.args.device = c.device_zone.ensures.value in
    let first : c.zones.result + c.devices.result ≡ c.args.net.now.shape.zones + device_count c.args.net.now.shape =
    omega (arith, c.zones.ensures.count, c.devices.ensures.count) in
    charge-step c.args.net.now c.args.flow.now c.pull_or_search-pull.new.self (served_but c.args.net.now c.args.outcome.now.unserved)
    (discharge_in c.args.outcome.now) c.args.outcome.now.charge c.set.new.self c.args.sets.now c.set-2.new.self c.args.device
    c.pull_or_search-pull.result.moved c.pull_or_search-pull.result.searched c.device_zone.ensures.valid.shape c.requires.device
    c.requires.before
    (pulled-as c.args.net.now c.args.flow.now c.pull_or_search-pull.new.self c.device_zone.result (zone_of_device c.args.net.now.shape c.args.device)
    c.charge_cap.result (charge_cap_at c.args.net.now c.args.device) c.pull_or_search-pull.result.moved c.pull_or_search-pull.result.searched
    zone cap
    record { shape = pull.shape; limits = pull.limits; moves = pull.moves; most = pull.most; short = pull.short; enough = pull.enough })
    c.set.ensures
    (c.set-2.ensures ∙ ap (λ (x : ℕ). slice_set c.args.sets.now (x + c.args.device) c.pull_or_search-pull.result.searched) first)
