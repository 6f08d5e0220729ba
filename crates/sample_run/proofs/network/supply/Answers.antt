use Rattle.std.proofs.Common.{◌≤◌, ◌+◌, subst, arith}
use Rattle.ra_base.specs.declared.limits.TheConstants.{MOST_LINK_MW}
use Rattle.system_model.specs.System.{IsValid}
use Rattle.outage_chronology.specs.Standing.{is_up_at}
use Rattle.sample_run.proofs.UpSumsSteps.{unit-sums-small}
use Rattle.sample_run.proofs.network.supply.Goals as goal
use Rattle.sample_run.proofs.network.supply.Goals.{After-variable}

most : (c : After-variable) → c.get.result + c.variable.result ≤ MOST_LINK_MW
most c =
    omega (
      arith,
      c.get.ensures,
      unit-sums-small c.args.system.now (is_up_at c.args.chronology.now) c.args.sums.now c.args.zone (subst IsValid c.requires.chronology c.hour.ensures.valid) c.requires.zone c.requires.sums,
      c.variable.ensures.range,
    )

pub overflow_add-result : goal.overflow_add-result
overflow_add-result c = omega (arith, most c)

pub returns-clause-most : goal.returns-clause-most
returns-clause-most c = most c
