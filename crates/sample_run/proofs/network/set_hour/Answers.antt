use Rattle.sample_run.proofs.NetworkSteps.{network-made}
use Rattle.sample_run.proofs.network.set_hour.Goals as goal

pub returns : goal.returns
returns c =
    network-made _ _ _ _ c.args.net.now c.set_zones.new.net c.set_devices.new.net c.requires.shape
    c.set_zones.ensures.supplies c.set_zones.ensures.loads c.set_zones.ensures.rest c.requires.links
    c.set_devices.ensures.discharge c.set_devices.ensures.charge c.set_devices.ensures.rest
