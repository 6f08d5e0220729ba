use Rattle.std.proofs.Common.{sym, arith}
use Rattle.system_tables.proofs.TextLaws.{end_is}
use Rattle.system_tables.proofs.records.without_end.Goals as goal

pub returns : goal.returns
returns c =
    sym (end_is c.args.field.now 0 (omega arith) (λ k l h. c.end.invariant.spaces k (omega arith) h) (λ h. absurd (omega arith)))
