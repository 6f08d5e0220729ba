use Rattle.std.proofs.Common.{◌-◌}
use Rattle.capacity_credit.specs.Measures.{low_side, candidate_ends}
use Rattle.capacity_credit.specs.Bracket.{IsDecided, StandsAt}
use Rattle.capacity_credit.specs.Search.{ends}
use Rattle.capacity_credit.proofs.SearchLaws.{SeeksGreatest, Halves}
use Rattle.capacity_credit.proofs.search.greatest.Given as goal

-- what was found, and what is left to look at
abbrev pub invariant-loop-first : goal.invariant-loop-first
invariant-loop-first g l = record {
  seeks : SeeksGreatest (IsDecided (low_side l.kind) l.kind l.measure l.candidates (ends l.target)) l.most l.first l.end l.found.candidate;
  stands : StandsAt (candidate_ends l.kind l.measure l.candidates) l.found.candidate l.found.index;
  steps : Halves l.most l.initial.steps l.steps (l.end - l.first);
}

abbrev pub decreases-loop-first : goal.decreases-loop-first
decreases-loop-first g l = l.end - l.first
