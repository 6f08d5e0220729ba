use Rattle.std.proofs.Common.{[], ap, ◌∙◌, get_or}
use Rattle.csv.specs.Records.{fields_of}
use Rattle.system_tables.specs.Records.{RecordsLeft}
use Rattle.system_tables.proofs.RowLaws.{field-is, no-field}
use Rattle.system_tables.proofs.records.Records.field.Goals as goal

pub returns-in-Some : goal.returns-in-Some
returns-in-Some c =
    c.trimmed.ensures
    ∙ field-is (fields_of c.self.inside.row) c.args.at c.in-Some.field c.in-Some.ensures.value
    ∙ ap (λ (r : RecordsLeft). get_or r.row c.args.at []) c.self.view_is

pub returns-in-None : goal.returns-in-None
returns-in-None c =
    no-field (fields_of c.self.inside.row) c.args.at c.in-None.ensures.value
    ∙ ap (λ (r : RecordsLeft). get_or r.row c.args.at []) c.self.view_is
