use Rattle.std.proofs.Common.{◌≤◌, ℕ, length, map, take, drop, arith, rules, sym, ◌∙◌, subst}
use Rattle.std.proofs.lemmas.List.Sorted.{IsNonDecreasingBy-from_sort_by_key, All-permutation}
use Rattle.campaign_core.specs.declared.run.Run.{Run}
use Rattle.campaign_core.specs.Ranges.{samples_of, AreSame, times}
use Rattle.campaign_core.specs.Joining.{Ascends}
use Rattle.campaign_core.proofs.Totals.{same_trans, times_same}
use Rattle.campaign_core.proofs.RunLaws.{runs_joined}
use Rattle.campaign_core.proofs.SortSteps.{kept_front, same_permuted_runs, sorted_ascends}
use Rattle.campaign_core.proofs.runs.Runs.of.Goals as goal

pub join_touching-joined-requires : goal.join_touching-joined-requires
join_touching-joined-requires c =
    let given = c.args.list.items in
    let sorted = c.sort_unstable_by_key.new.self.items in
    let same = same_permuted_runs given sorted c.sort_unstable_by_key.ensures.permutation in
    let up = IsNonDecreasingBy-from_sort_by_key (λ (r : Run). r.first) sorted c.sort_unstable_by_key.ensures.sorted (λ a r q k. search rules) in
    let filled = All-permutation (λ (r : Run). r.first ≤ r.last) given sorted c.sort_unstable_by_key.ensures.permutation c.requires.ordered in
    let once : (n : ℕ) → times n (map samples_of sorted) ≤ 1 = λ n. omega (arith, times_same (map samples_of sorted) (map samples_of given) same n, (c.requires.disjoint n).0) in
    subst (Ascends 0) (sym c.as_mut_slice.ensures.value) (sorted_ascends 0 sorted up filled once (λ k d l. omega arith))

pub returns : goal.returns
returns c =
    let given = c.args.list.items in
    let sorted = c.sort_unstable_by_key.new.self.items in
    let joined = c.join_touching-joined.result in
    let list = c.join_touching-joined.new.list in
    let js = c.join_touching-joined.ensures.joined in
    let perm = same_permuted_runs given sorted c.sort_unstable_by_key.ensures.permutation in
    let same_sorted : AreSame (map samples_of (take joined list)) (map samples_of sorted) = subst (λ l. AreSame (map samples_of (take joined list)) (map samples_of l)) c.as_mut_slice.ensures.value js.1 in
    let same = same_trans (map samples_of (take joined list)) (map samples_of sorted) (map samples_of given) same_sorted perm in
    let front = kept_front joined c.sort_unstable_by_key.new.self.len list (drop (length list) sorted) c.join_touching-joined.ensures.front (omega (arith, c.join_touching-joined.auto.list, c.as_mut_slice.ensures.len)) in
    c.truncate.ensures.items ∙ (front ∙ sym (runs_joined (map samples_of given) (take joined list) js.0 same))
