use Rattle.std.proofs.Common.{◌≡◌, [], ◌∷◌, ◌++◌, refl, ap, ◌∙◌, arith}
use Rattle.campaign_core.specs.Ranges.{range, total}
use Rattle.campaign_core.proofs.Totals.{total-one}
use Rattle.campaign_core.proofs.MachineLaws.{weight-ones}
use Rattle.campaign_tests.specs.declared.of_campaign_workers.Listed.{Listed}
use Rattle.campaign_tests.proofs.of_campaign_workers.ListerJobListing.run.Goals as goal

pub returns-clause-sum : goal.returns-clause-sum
returns-clause-sum c work serves =
    let share = c.args.share in
    let one : range c.first.result c.count-count.result ≡ share = rw (c.first.ensures.value, c.count-count.ensures.value) refl in
    let pushed : c.push.new.self.items ≡ range c.first.result c.count-count.result ∷ [] = c.in-Ok.ensures.items ∙ ap (λ l. l ++ range c.first.result c.count-count.result ∷ []) c.new-ranges.ensures.items in
    let list : c.of.result.sum.ranges.items ≡ share ∷ [] = ap (λ (s : Listed). s.ranges.items) c.of.ensures.sum ∙ (pushed ∙ ap (λ r. r ∷ []) one) in (
      (λ weight. ap (total weight) list),
      omega (arith, total-one (λ sample. 1) share, weight-ones share.first share.count, ap (λ (s : Listed). s.count) c.of.ensures.sum, c.count-count.ensures.value),
    )
