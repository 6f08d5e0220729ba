use Rattle.std.proofs.Common.{◌≡◌, sym}
use Rattle.capacity_credit.specs.Measures.{target_pool, candidate_pool}
use Rattle.capacity_credit.proofs.CertainLaws.{certified}
use Rattle.capacity_credit.proofs.brackets.credit.Goals as goal

pub returns-in-Efc-clause-certified : goal.returns-in-Efc-clause-certified
returns-in-Efc-clause-certified g c =
    let target : target_pool c.args.kind c.args.system.now c.args.new_unit.now ≡ c.in_ok-with_unit.with_unit = rw c.in-Efc.is (sym c.in_ok-with_unit.ensures.pool) in
    let candidates : candidate_pool c.args.kind c.args.system.now c.args.new_unit.now ≡ c.in_ok-base.base = rw c.in-Efc.is (sym c.in_ok-base.ensures.pool) in
    rw (target, candidates) (certified _ _ _ _ _ _ c.in_ok-with_unit.ensures.rated c.in_ok-base.ensures.rated c.bracket_of.ensures.bracket)

pub returns-clause-certified : goal.returns-clause-certified
returns-clause-certified g c =
    let target : target_pool c.args.kind c.args.system.now c.args.new_unit.now ≡ c.in_ok-base.base = rw c.in-Elcc.is (sym c.in_ok-base.ensures.pool) in
    let candidates : candidate_pool c.args.kind c.args.system.now c.args.new_unit.now ≡ c.in_ok-with_unit.with_unit = rw c.in-Elcc.is (sym c.in_ok-with_unit.ensures.pool) in
    rw (target, candidates) (certified _ _ _ _ _ _ c.in_ok-base.ensures.rated c.in_ok-with_unit.ensures.rated c.bracket_of-in-Elcc.ensures.bracket)
