use Rattle.std.proofs.Common.{◌∙◌, ap, position}
use Rattle.std.specs.Str.{bytes_eq}
use Rattle.system_tables.proofs.NameLaws.{position-keys}
use Rattle.system_tables.proofs.names.Names.place.Goals as goal

pub returns-clause-value : goal.returns-clause-value
returns-clause-value c =
    c.get_index_of.ensures.index
    ∙ position-keys c.args.name.now c.self.inside.names.keys
    ∙ ap (position (bytes_eq c.args.name.now)) c.self.view_is
