use Rattle.std.proofs.Common.{arith}
use Rattle.capacity_credit.specs.Measures.{low_side}
use Rattle.capacity_credit.specs.Bracket.{IsDecided}
use Rattle.capacity_credit.specs.Search.{ends}
use Rattle.capacity_credit.proofs.SideLaws.{test_yes, test_no, lower_decided}
use Rattle.capacity_credit.proofs.SearchLaws.{greatest_yes, greatest_no, halves_more}
use Rattle.capacity_credit.proofs.search.greatest.Goals as goal

pub loop-first-preserved-then-lies_wholly : goal.loop-first-preserved-then-lies_wholly
loop-first-preserved-then-lies_wholly g c = record {
  seeks = greatest_yes (IsDecided (low_side c.args.kind) c.args.kind c.args.measure c.args.candidates.now (ends c.args.target)) _ _ _ _ _ c.loop-first.invariant.seeks (omega arith)
      (test_yes _ (low_side c.args.kind) c.args.kind c.args.measure c.args.candidates.now _ _ c.candidate_index-index.result _ c.lower_side-side.ensures c.candidate_index-index.ensures.ends c.lies_wholly.ensures c.if-lies_wholly.true);
  stands = c.candidate_index-index.ensures.ends;
  steps = halves_more _ _ _ _ _ _ c.loop-first.invariant.steps (omega arith) (omega arith) c.candidate_index-index.ensures.steps;
}

pub loop-first-preserved : goal.loop-first-preserved
loop-first-preserved g c = record {
  seeks = greatest_no (IsDecided (low_side c.args.kind) c.args.kind c.args.measure c.args.candidates.now (ends c.args.target)) _ _ _ _ _ c.loop-first.invariant.seeks (omega arith) (omega arith)
      (test_no _ (low_side c.args.kind) c.args.kind c.args.measure c.args.candidates.now _ _ c.candidate_index-index.result _ c.lower_side-side.ensures c.candidate_index-index.ensures.ends c.lies_wholly.ensures c.if-lies_wholly.false)
      (λ j k. lower_decided c.args.kind c.args.measure c.args.candidates.now (ends c.args.target) j k c.requires.rated);
  stands = c.loop-first.invariant.stands;
  steps = halves_more _ _ _ _ _ _ c.loop-first.invariant.steps (omega arith) (omega arith) c.candidate_index-index.ensures.steps;
}
