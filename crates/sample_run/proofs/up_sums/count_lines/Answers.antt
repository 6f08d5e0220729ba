use Rattle.std.proofs.Common.{◌≡◌, ℕ, ◌+◌, ◌<◌, length, get_or, ap, ◌∙◌, arith}
use Rattle.std.specs.Prelude.{slice_set}
use Rattle.std.proofs.lemmas.List.{length-set, length-replicate}
use Rattle.system_model.specs.declared.components.Line.{Line}
use Rattle.system_model.specs.System.{interface_count}
use Rattle.zone_network.proofs.SumLemmas.{sum_where-bound}
use Rattle.sample_run.specs.HourNetwork.{lines_of}
use Rattle.sample_run.proofs.UpSumsSteps.{counted-none, counted-more}
use Rattle.sample_run.proofs.up_sums.count_lines.Goals as goal

pub loop-at-init : goal.loop-at-init
loop-at-init c =
    record {
      size = ap length c.requires ∙ length-replicate (interface_count c.args.system.now) 0;
      counts = counted-none c.args.system.now c.args.lines.now c.requires;
    }

pub overflow_add-get : goal.overflow_add-get
overflow_add-get c =
    let interface = c.from-interface.result in
    let among : interface < interface_count c.args.system.now = omega (arith, c.from-interface.ensures, c.line.ensures.range.interface) in
    omega (
      arith,
      c.get.ensures,
      c.loop-at.invariant.counts interface among,
      sum_where-bound (lines_of c.args.system.now interface) (λ line. 1) c.loop-at.at 1 (λ i below. omega arith),
      c.loop-at-test.true,
      c.loop-at.auto.at-end,
      c.lines-at-end.ensures.count,
      c.lines-at-end.ensures.valid.within.lines.most,
    )

pub loop-at-preserved : goal.loop-at-preserved
loop-at-preserved c =
    let interface = c.from-interface.result in
    let among : interface < interface_count c.args.system.now = omega (arith, c.from-interface.ensures, c.line.ensures.range.interface) in
    let is : c.set.new.self ≡ slice_set c.loop-at.lines interface (get_or c.loop-at.lines interface 0 + 1) =
    c.set.ensures ∙ ap (λ (n : ℕ). slice_set c.loop-at.lines interface (n + 1)) c.get.ensures in
    record {
      size = ap length is ∙ length-set c.loop-at.lines interface _ ∙ c.loop-at.invariant.size;
      counts =
          counted-more c.args.system.now c.loop-at.lines c.set.new.self c.loop-at.at interface
          (c.from-interface.ensures ∙ ap (λ (line : Line). line.interface) c.line.ensures.value) among c.loop-at.invariant.size is c.loop-at.invariant.counts;
    }
