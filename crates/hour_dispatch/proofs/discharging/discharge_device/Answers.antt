use Rattle.std.proofs.Common.{◌≡◌, ◌+◌, ◌-◌, ◌≤◌, ◌⊎◌, ℕ, ap, ◌∙◌, subst}
use Rattle.std.specs.Prelude.{slice_set}
use Rattle.zone_network.specs.Network.{zone_of_device, discharge_cap_at}
use Rattle.transfer_flow.specs.Flow.{spare_at}
use Rattle.cut_certificate.specs.Chain.{served_but}
use Rattle.hour_dispatch.proofs.ServeLemmas.{pulled-as}
use Rattle.hour_dispatch.proofs.DischargeLemmas.{spare-step}
use Rattle.hour_dispatch.proofs.discharging.discharge_device.Goals as goal

pub returns-clause-spared : goal.returns-clause-spared
returns-clause-spared c =
    let pull = c.pull_or_search-pull.ensures in
    let cap : c.discharge_cap-cap.result ≡ discharge_cap_at c.args.net.now c.args.device = c.discharge_cap-cap.ensures.value in
    let zone : c.device_zone.result ≡ zone_of_device c.args.net.now.shape c.args.device = c.device_zone.ensures.value in
    let P : ℕ → ℕ → Type 0 = λ z m. (spare_at c.pull_or_search-pull.new.self z ≡ 0) ⊎ (spare_at c.pull_or_search-pull.new.self z + m ≤ spare_at c.args.flow.now z) in
    let own : P (zone_of_device c.args.net.now.shape c.args.device) (discharge_cap_at c.args.net.now c.args.device) =
    subst (λ (m : ℕ). P (zone_of_device c.args.net.now.shape c.args.device) m) cap (subst (λ (z : ℕ). P z c.discharge_cap-cap.result) zone pull.own) in
    spare-step c.args.net.now c.args.flow.now c.pull_or_search-pull.new.self (served_but c.args.net.now c.args.outcome.now.unserved)
    c.args.outcome.now.discharge c.set.new.self c.args.sets.now c.set-2.new.self c.args.device
    c.pull_or_search-pull.result.moved c.pull_or_search-pull.result.searched c.device_zone.ensures.valid.shape c.requires.device
    c.requires.after
    (pulled-as c.args.net.now c.args.flow.now c.pull_or_search-pull.new.self c.device_zone.result (zone_of_device c.args.net.now.shape c.args.device)
    c.discharge_cap-cap.result (discharge_cap_at c.args.net.now c.args.device) c.pull_or_search-pull.result.moved c.pull_or_search-pull.result.searched
    zone cap
    record { shape = pull.shape; limits = pull.limits; moves = pull.moves; most = pull.most; short = pull.short; enough = pull.enough })
    own
    (c.set.ensures ∙ ap (λ (x : ℕ). slice_set c.args.outcome.now.discharge c.args.device (x - c.pull_or_search-pull.result.moved)) cap)
    (c.set-2.ensures ∙ ap (λ (x : ℕ). slice_set c.args.sets.now (x + c.args.device) c.pull_or_search-pull.result.searched) c.zones.ensures.count)
