use Rattle.std.proofs.Common.{◌≡◌, ◌+◌, arith}
use Rattle.std.proofs.lemmas.Bool.{eqb-true}
use Rattle.zone_network.specs.Sums.{inside}
use Rattle.zone_network.specs.Cut.{IsTight}
use Rattle.zone_network.proofs.FlowLemmas.{tight_is_least}
use Rattle.cut_certificate.proofs.cuts.check_cut.Goals as goal

pub returns-clause-least : goal.returns-clause-least
returns-clause-least c = λ yes other feasible.
    let n = c.args.net.now in
    let equal : c.from.result + c.supply_of.result + c.discharge_caps_of.result + c.into.result ≡ c.load_of.result = eqb-true _ _ yes in
    let tight : IsTight n c.args.unserved (inside c.args.mask) = omega arith in
    tight_is_least n c.args.unserved (inside c.args.mask) other c.into.ensures.valid.shape tight feasible
