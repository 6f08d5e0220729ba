use Rattle.system_tables.proofs.OutcomeLaws.{one_outcome}
use Rattle.system_tables.proofs.tables.read_system.Goals as goal

pub returns-in_err-read_tables-clause-one_outcome : goal.returns-in_err-read_tables-clause-one_outcome
returns-in_err-read_tables-clause-one_outcome c = one_outcome c.args.tables.now
