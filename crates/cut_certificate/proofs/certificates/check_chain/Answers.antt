use Rattle.cut_certificate.proofs.BestLemmas.{chain_is_best, chain_is_best_outcome}
use Rattle.cut_certificate.proofs.UniqueLemmas.{only_best}
use Rattle.cut_certificate.proofs.certificates.check_chain.Goals as goal

pub returns-clause-best : goal.returns-clause-best
returns-clause-best c = λ yes.
    let proved = c.is_accepted.ensures.exact.0 yes in
    chain_is_best c.args.net.now c.args.outcome.now c.args.chain.now c.is_accepted.ensures.valid.shape proved.0 proved.1

pub returns-clause-outcome : goal.returns-clause-outcome
returns-clause-outcome c = λ yes.
    let proved = c.is_accepted.ensures.exact.0 yes in
    only_best c.args.net.now c.args.outcome.now
    (chain_is_best_outcome c.args.net.now c.args.outcome.now c.args.chain.now c.is_accepted.ensures.valid.shape proved.0 proved.1)
