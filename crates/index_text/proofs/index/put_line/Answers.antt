use Rattle.std.proofs.Common.{rules, append_assoc}
use Rattle.index_text.specs.IndexText.{hour_line}
use Rattle.index_text.proofs.index.put_line.Goals as goal

pub returns : goal.returns
unfolding hour_line
returns c = search (rules, append_assoc)
