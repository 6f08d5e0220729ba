use Rattle.std.proofs.Common.{sym, subst}
use Rattle.zone_network.specs.Cut.{IsCut}
use Rattle.sample_totals.specs.declared.outcomes.HourOutcome.{HourOutcome}
use Rattle.cut_certificate.specs.Chain.{IsAccepted, all_unserved, served_but}
use Rattle.hour_dispatch.proofs.CutLemmas.{cut-least}
use Rattle.hour_dispatch.proofs.DischargeLemmas.{spare-end, spare-supply}
use Rattle.hour_dispatch.proofs.BestLemmas.{IsDispatched, accepted-best, dispatched, dispatched-fits, dispatched-feasible, dispatched-proved}
use Rattle.hour_dispatch.proofs.dispatcher.Dispatcher.best.Goals as goal

pub charge-requires-clause-balance : goal.charge-requires-clause-balance
charge-requires-clause-balance c =
    spare-end c.args.net.now c.discharge.new.flow (served_but c.args.net.now c.discharge.new.outcome.unserved)
    c.discharge.new.outcome.discharge c.discharge.new.sets c.discharge.ensures.spared

pub charge-requires-clause-unused : goal.charge-requires-clause-unused
charge-requires-clause-unused c =
    spare-supply c.args.net.now c.discharge.new.flow (served_but c.args.net.now c.discharge.new.outcome.unserved)
    c.discharge.new.outcome.discharge c.discharge.new.sets c.discharge.ensures.spared

made : (c : goal.After-generate) → IsDispatched c.args.net.now c.charge.new.flow c.charge.new.outcome c.generate.new.chain
made c =
    dispatched c.args.net.now c.serve.new.flow c.discharge.new.flow c.charge.new.flow
    (record c.args.outcome.now { unserved = c.serve.new.unserved; cut = c.cut-outcome.result }) c.discharge.new.outcome
    c.charge.new.outcome c.generate.new.chain c.serve.new.sets c.discharge.new.sets c.charge.new.sets c.requires.sizes.energy
    c.serve.ensures c.discharge.ensures.stays c.discharge.ensures.spared c.discharge.ensures.kept c.charge.ensures.stays
    c.charge.ensures.charged c.charge.ensures.kept c.generate.ensures.shown c.generate.ensures.sets

pub returns-clause-fit : goal.returns-clause-fit
returns-clause-fit c =
    dispatched-fits c.args.net.now c.charge.new.flow c.charge.new.outcome c.generate.new.chain (made c)

accepted : (c : goal.After-generate) → IsAccepted c.args.net.now c.charge.new.outcome c.generate.new.chain
accepted c = (
  dispatched-feasible c.args.net.now c.charge.new.flow c.charge.new.outcome c.generate.new.chain (made c),
  dispatched-proved c.args.net.now c.charge.new.flow c.charge.new.outcome c.generate.new.chain (made c),
)

pub returns-clause-accepted : goal.returns-clause-accepted
returns-clause-accepted c = accepted c

pub returns-clause-best : goal.returns-clause-best
returns-clause-best c =
    accepted-best c.args.net.now c.charge.new.outcome c.generate.new.chain c.generate.ensures.valid.shape (accepted c)

-- the cut that was taken before discharge is that of what they leave
cut-stays : (c : goal.After-generate) → IsCut c.args.net.now (all_unserved c.args.net.now c.charge.new.outcome) c.charge.new.outcome.cut
cut-stays c =
    let is_cut = λ (o : HourOutcome). IsCut c.args.net.now (all_unserved c.args.net.now o) o.cut in
    subst is_cut (sym c.charge.ensures.stays) (subst is_cut (sym c.discharge.ensures.stays) c.cut-outcome.ensures)

pub returns-clause-least : goal.returns-clause-least
returns-clause-least c =
    cut-least c.args.net.now (all_unserved c.args.net.now c.charge.new.outcome) c.charge.new.outcome.cut
    c.generate.ensures.valid.shape (cut-stays c)
