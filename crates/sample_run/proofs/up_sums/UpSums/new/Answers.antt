use Rattle.std.proofs.Common.{ℕ, ap, ◌∙◌}
use Rattle.std.specs.Prelude.{replicate}
use Rattle.sample_run.proofs.UpSumsSteps.{none-sums}
use Rattle.sample_run.proofs.up_sums.UpSums.new.Goals as goal

pub add_all-requires : goal.add_all-requires
add_all-requires c =
    none-sums c.args.system.now _
    (c.in_ok-zeros.ensures ∙ ap (λ (n : ℕ). replicate n 0) c.zones.ensures.count)
    (c.in_ok-zeros-2.ensures ∙ ap (λ (n : ℕ). replicate n 0) c.interfaces-interfaces.ensures.count)
    (c.in_ok-zeros-3.ensures ∙ ap (λ (n : ℕ). replicate n 0) c.interfaces-interfaces.ensures.count)
    c.count_lines.ensures.size c.count_lines.ensures.counts
