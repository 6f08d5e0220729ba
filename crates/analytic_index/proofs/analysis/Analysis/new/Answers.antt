use Rattle.std.proofs.Common.{subst, sym, ◌≡◌, ◌∙◌}
use Rattle.outage_table.proofs.StateLaws.{AreRated}
use Rattle.analytic_index.specs.Pool.{pooled_units}
use Rattle.analytic_index.proofs.PoolLaws.{alone_within, pooled_rated, pooled_within}
use Rattle.analytic_index.proofs.analysis.Analysis.new.Goals as goal

pub of_units-requires-clause-rated : goal.of_units-requires-clause-rated
of_units-requires-clause-rated c =
    let same : c.deref.result.now ≡ pooled_units c.args.system.now c.args.extra = c.deref.ensures.value ∙ c.in_ok-units.ensures.value in
    subst AreRated (sym same) (pooled_rated c.args.system.now c.args.extra c.in_ok-units.ensures.valid c.requires)

pub of_units-requires-clause-small : goal.of_units-requires-clause-small
of_units-requires-clause-small c =
    let same : c.deref.result.now ≡ pooled_units c.args.system.now c.args.extra = c.deref.ensures.value ∙ c.in_ok-units.ensures.value in
    rw same (pooled_within c.args.system.now c.args.extra c.in_ok-units.ensures.valid c.requires)

pub invariant_of-result : goal.invariant_of-result
invariant_of-result c =
    let same : c.deref.result.now ≡ pooled_units c.args.system.now c.args.extra = c.deref.ensures.value ∙ c.in_ok-units.ensures.value in
    record {
      rated = rw (c.in_ok-table.ensures, same) (pooled_rated c.args.system.now c.args.extra c.in_ok-units.ensures.valid c.requires);
      small = rw (c.in_ok-table.ensures, same) (pooled_within c.args.system.now c.args.extra c.in_ok-units.ensures.valid c.requires);
      sums = c.in_ok-unserved.ensures;
    }

pub returns-clause-small : goal.returns-clause-small
returns-clause-small c none =
    let same : c.deref.result.now ≡ pooled_units c.args.system.now c.args.extra = c.deref.ensures.value ∙ c.in_ok-units.ensures.value in
    rw (c.in_ok-table.ensures, same) (alone_within c.args.system.now c.args.extra c.in_ok-units.ensures.valid none)
