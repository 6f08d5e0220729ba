use Rattle.std.proofs.Common.{◌≡◌, ap, ◌∙◌}
use Rattle.system_model.specs.System.{interface_name_at}
use Rattle.system_maker.proofs.RowLaws.{on_ok, line_written}
use Rattle.system_maker.proofs.tables.put_line.Goals as goal

pub returns : goal.returns
returns c =
    let linked : c.interface_name.result.now ≡ interface_name_at c.args.system.now c.line-line.result.interface =
    c.interface_name.ensures.value ∙ ap (interface_name_at c.args.system.now) c.from.ensures in
    on_ok c.put_rates.result _ _ c.put_rates.ensures (λ last.
    line_written c.args.system.now c.args.at c.line-line.result _ _ _ _ _ _ _ c.line-line.ensures.value c.line_name.ensures.value linked
    c.in_ok-push.ensures.ok c.in_ok-put_name.ensures c.in_ok-put_limits.ensures last)
