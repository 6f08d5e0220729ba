use Rattle.std.proofs.Common.{◌+◌, ◌-◌, arith, sym, ap, ◌∙◌}
use Rattle.system_model.specs.declared.components.Unit.{Unit as UnitPart}
use Rattle.system_model.specs.declared.components.Line.{Line}
use Rattle.system_model.specs.declared.components.Storage.{Storage}
use Rattle.system_model.specs.System.{unit_count, storage_at, line_at}
use Rattle.outage_chronology.proofs.RatesByKind.{rates-unit, rates-storage, rates-line}
use Rattle.outage_chronology.proofs.components.rates_of.Goals as goal

pub returns-then-component-storages-clause-value : goal.returns-then-component-storages-clause-value
returns-then-component-storages-clause-value c =
    ap (λ (u : UnitPart). u.rates) c.unit.ensures.value ∙ sym (rates-unit c.args.system.now c.args.component (omega arith))

pub returns-then-component-lines-clause-value : goal.returns-then-component-lines-clause-value
returns-then-component-lines-clause-value c =
    let system = c.args.system.now in
    let k = c.args.component in
    ap (λ (s : Storage). s.rates) c.storage.ensures.value
    ∙ ap (λ n. (storage_at system (k - n)).rates) c.units-storages.ensures.count
    ∙ sym (rates-storage system k (omega (arith, c.units-storages.ensures.count)) (omega (arith, c.units-storages.ensures.count, c.storages.ensures.count)))

pub returns-else-component-lines-clause-value : goal.returns-else-component-lines-clause-value
returns-else-component-lines-clause-value c =
    let system = c.args.system.now in
    let k = c.args.component in
    ap (λ (l : Line). l.rates) c.line.ensures.value
    ∙ ap (λ n. (line_at system (k - (n + c.storages.result))).rates) c.units-storages.ensures.count
    ∙ ap (λ n. (line_at system (k - (unit_count system + n))).rates) c.storages.ensures.count
    ∙ sym (rates-line system k (omega (arith, c.units-storages.ensures.count, c.storages.ensures.count)) (omega arith))
