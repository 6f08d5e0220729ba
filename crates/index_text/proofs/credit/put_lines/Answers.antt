use Rattle.std.proofs.Common.{rules, append_assoc}
use Rattle.index_text.specs.CreditText.{bracket_text}
use Rattle.index_text.proofs.credit.put_lines.Goals as goal

pub returns : goal.returns
unfolding bracket_text
returns c = search (rules, append_assoc)
