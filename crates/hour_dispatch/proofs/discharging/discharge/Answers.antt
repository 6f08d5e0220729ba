use Rattle.std.proofs.Common.{ℕ, refl, sym, subst}
use Rattle.cut_certificate.specs.Chain.{served_in}
use Rattle.hour_dispatch.specs.Stages.{IsSpared}
use Rattle.hour_dispatch.proofs.DischargeLemmas.{spare-start}
use Rattle.hour_dispatch.proofs.discharging.discharge.Goals as goal

pub loop-device-init : goal.loop-device-init
loop-device-init c =
    record {
      spared =
          subst
          (λ (k : ℕ). IsSpared c.args.net.now c.args.flow.now (served_in c.args.net.now c.args.outcome.now) c.args.outcome.now.discharge c.args.sets.now k)
          (sym c.devices-device.ensures.count)
          (spare-start c.args.net.now c.args.flow.now (served_in c.args.net.now c.args.outcome.now) c.args.outcome.now.discharge
          c.args.sets.now c.requires.discharge c.requires.sets c.requires.balance c.requires.unused);
      stays = refl;
      kept = record { same = λ i below. refl };
    }
