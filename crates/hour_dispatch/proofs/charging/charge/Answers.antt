use Rattle.std.proofs.Common.{refl}
use Rattle.cut_certificate.specs.Chain.{served_in, discharge_in}
use Rattle.hour_dispatch.proofs.ChargeLemmas.{charge-start}
use Rattle.hour_dispatch.proofs.charging.charge.Goals as goal

pub loop-device-init : goal.loop-device-init
loop-device-init c =
    record {
      charged =
          charge-start c.args.net.now c.args.flow.now (served_in c.args.net.now c.args.outcome.now) (discharge_in c.args.outcome.now)
          c.args.outcome.now.charge c.args.sets.now c.requires.charge c.requires.sets c.requires.balance c.requires.unused;
      stays = refl;
      kept = record { same = λ i below. refl };
    }
