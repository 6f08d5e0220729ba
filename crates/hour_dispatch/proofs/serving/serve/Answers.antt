use Rattle.hour_dispatch.proofs.ServeLemmas.{serve-start}
use Rattle.hour_dispatch.proofs.serving.serve.Goals as goal

pub loop-zone-init : goal.loop-zone-init
loop-zone-init c =
    serve-start c.args.net.now c.args.flow.now c.args.unserved.now c.args.sets.now c.requires.unserved c.requires.sets
    c.requires.balance c.requires.unused
