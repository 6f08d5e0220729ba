use Rattle.std.proofs.Common.{arith}
use Rattle.std.proofs.lemmas.List.Sums.{sum_by-le}
use Rattle.std.specs.Prelude.{ℕ}
use Rattle.sample_tests.proofs.of_sample_run.add_hours.Goals as goal

pub push_hour-requires-clause-amounts : goal.push_hour-requires-clause-amounts
push_hour-requires-clause-amounts g c =
    record {
      load_by_zone = omega (arith, c.in_ok-load.ensures.size);
      variable_by_zone = omega (arith, c.in_ok-variable.ensures.size);
      load = omega (arith, c.in_ok-load.ensures.size, sum_by-le (λ (x : ℕ). x) 6000 c.in_ok-load.load c.in_ok-load.ensures.most);
      variable = omega (arith, c.in_ok-variable.ensures.size, sum_by-le (λ (x : ℕ). x) 6000 c.in_ok-variable.variable c.in_ok-variable.ensures.most);
    }
