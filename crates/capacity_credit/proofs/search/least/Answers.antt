use Rattle.std.proofs.Common.{arith}
use Rattle.capacity_credit.specs.Measures.{high_side}
use Rattle.capacity_credit.specs.Bracket.{IsDecided}
use Rattle.capacity_credit.specs.Search.{ends}
use Rattle.capacity_credit.proofs.SideLaws.{test_yes, test_no, higher_decided}
use Rattle.capacity_credit.proofs.SearchLaws.{least_yes, least_no, halves_more}
use Rattle.capacity_credit.proofs.search.least.Goals as goal

pub loop-first-preserved-then-lies_wholly : goal.loop-first-preserved-then-lies_wholly
loop-first-preserved-then-lies_wholly g c = record {
  seeks = least_yes (IsDecided (high_side c.args.kind) c.args.kind c.args.measure c.args.candidates.now (ends c.args.target)) _ _ _ _ _ c.loop-first.invariant.seeks (omega arith) (omega arith)
      (test_yes _ (high_side c.args.kind) c.args.kind c.args.measure c.args.candidates.now _ _ c.candidate_index-index.result _ c.higher_side-side.ensures c.candidate_index-index.ensures.ends c.lies_wholly.ensures c.if-lies_wholly.true);
  stands = c.candidate_index-index.ensures.ends;
  steps = halves_more _ _ _ _ _ _ c.loop-first.invariant.steps (omega arith) (omega arith) c.candidate_index-index.ensures.steps;
}

pub loop-first-preserved : goal.loop-first-preserved
loop-first-preserved g c = record {
  seeks = least_no (IsDecided (high_side c.args.kind) c.args.kind c.args.measure c.args.candidates.now (ends c.args.target)) _ _ _ _ _ c.loop-first.invariant.seeks (omega arith)
      (test_no _ (high_side c.args.kind) c.args.kind c.args.measure c.args.candidates.now _ _ c.candidate_index-index.result _ c.higher_side-side.ensures c.candidate_index-index.ensures.ends c.lies_wholly.ensures c.if-lies_wholly.false)
      (λ j k. higher_decided c.args.kind c.args.measure c.args.candidates.now (ends c.args.target) j k c.requires.rated);
  stands = c.loop-first.invariant.stands;
  steps = halves_more _ _ _ _ _ _ c.loop-first.invariant.steps (omega arith) (omega arith) c.candidate_index-index.ensures.steps;
}
