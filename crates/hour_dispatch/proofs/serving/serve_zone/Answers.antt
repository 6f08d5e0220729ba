use Rattle.std.proofs.Common.{◌≡◌, ℕ, ◌-◌, ap, ◌∙◌, subst}
use Rattle.std.specs.Prelude.{slice_set}
use Rattle.zone_network.specs.Network.{load_at}
use Rattle.hour_dispatch.proofs.ServeLemmas.{IsPulled, serve-step}
use Rattle.hour_dispatch.proofs.serving.serve_zone.Goals as goal

pub returns : goal.returns
returns c =
    let pull = c.pull_or_search-pull.ensures in
    let pulled : IsPulled c.args.net.now c.args.flow.now c.pull_or_search-pull.new.self c.args.zone c.load-load.result
    c.pull_or_search-pull.result.moved c.pull_or_search-pull.result.searched =
    record { shape = pull.shape; limits = pull.limits; moves = pull.moves; most = pull.most; short = pull.short; enough = pull.enough } in
    let load : c.load-load.result ≡ load_at c.args.net.now c.args.zone = c.load-load.ensures.value in
    serve-step c.args.net.now c.args.flow.now c.pull_or_search-pull.new.self c.args.unserved.now c.set.new.self c.args.sets.now
    c.set-2.new.self c.args.zone c.pull_or_search-pull.result.moved c.pull_or_search-pull.result.searched
    c.load-load.ensures.valid.shape c.requires.zone c.requires.before
    (subst (λ (x : ℕ). IsPulled c.args.net.now c.args.flow.now c.pull_or_search-pull.new.self c.args.zone x c.pull_or_search-pull.result.moved c.pull_or_search-pull.result.searched) load pulled)
    (c.set.ensures ∙ ap (λ (x : ℕ). slice_set c.args.unserved.now c.args.zone (x - c.pull_or_search-pull.result.moved)) load)
    c.set-2.ensures
