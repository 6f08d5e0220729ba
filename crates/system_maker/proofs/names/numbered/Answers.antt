use Rattle.std.proofs.Common.{rules, ◌≡◌, subst, sym, arith}
use Rattle.system_model.specs.System.{IsName}
use Rattle.system_maker.specs.MadeSystem.{made_name}
use Rattle.system_maker.proofs.MadeLaws.{name_fits}
use Rattle.system_maker.proofs.names.numbered.Goals as goal

pub returns-clause-name : goal.returns-clause-name
returns-clause-name c =
    let is : c.put_whole.new.out ≡ made_name c.args.letter c.args.at = search rules in
    subst IsName (sym is) (name_fits c.args.letter c.args.at (omega arith))
