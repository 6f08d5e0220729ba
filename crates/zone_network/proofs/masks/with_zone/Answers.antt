use Rattle.zone_network.proofs.MaskLemmas.{adds_number}
use Rattle.zone_network.proofs.masks.with_zone.Goals as goal

pub returns : goal.returns
returns c = adds_number c.args.mask c.args.zone c.requires
