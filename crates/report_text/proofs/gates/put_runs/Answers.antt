use Rattle.std.proofs.Common.{◌≡◌, ◌+◌, [], ◌∷◌, ◌++◌, take, append_assoc, ap, ◌∙◌, arith}
use Rattle.std.specs.List.{flat_map}
use Rattle.std.proofs.lemmas.List.{take_more}
use Rattle.std.proofs.lemmas.Option.{get_or_from_slice_get}
use Rattle.report_text.specs.GateText.{run_text}
use Rattle.decimal_text.proofs.Growing.{flat_map-more}
use Rattle.report_text.proofs.gates.put_runs.Goals as goal

pub loop-at-preserved : goal.loop-at-preserved
loop-at-preserved c =
    let runs = c.args.runs.now in
    let at = c.loop-at.at in
    let run = c.get.result in
    let more : take (at + 1) runs ≡ take at runs ++ run ∷ [] = take_more runs at run (omega arith) ∙ ap (λ r. take at runs ++ r ∷ []) (get_or_from_slice_get runs at run run c.get.ensures) in
    rw (c.in_ok-put_run.ensures, c.loop-at.invariant, more, flat_map-more run_text (take at runs) run) (append_assoc c.args.out.now (flat_map run_text (take at runs)) (run_text run))
