-- The sums up to each place rise, so those that are not above the share come first.
use Rattle.std.proofs.Common.{◌≡◌, ℕ, ◌+◌, ◌<◌, ◌≤◌, length, get_or, sum, take, leb, leb-true, false, ap, sym, arith, rules}
use Rattle.std.proofs.lemmas.Bool.Decides.{nat_tests}
use Rattle.std.proofs.lemmas.List.Sorted.{IsPartitionPoint-from_clause, IsPartitionedBy-leb, IsNonDecreasingBy-from_default}
use Rattle.random_streams.proofs.Firsts.{chosen_place_is}
use Rattle.random_streams.proofs.ShareLemmas.{longer_sum}
use Rattle.random_streams.proofs.shares.Shares.place_at.Goals as goal

pub returns : goal.returns
returns c =
    let weights = c.self.inside.weights.items in
    let sums = c.self.inside.up_to.items in
    let each = c.self.invariant.2 in
    let long : length sums ≡ length weights = c.self.invariant.1 in
    let rises = IsNonDecreasingBy-from_default (λ (sum : ℕ). sum) sums 0
    (λ i j le lt. rw (each i (omega arith), each j (omega arith)) (longer_sum weights (i + 1) (j + 1) (omega arith))) in
    let parted = IsPartitionedBy-leb (λ (sum : ℕ). sum) sums c.args.share rises in
    let point = IsPartitionPoint-from_clause (λ (sum : ℕ). leb sum c.args.share) sums _
    (rw c.deref.ensures.value at c.partition_point.ensures.partitioned) parted (λ a r q k. search rules) in
    let at = c.partition_point.result in
    let within : at ≤ length weights = omega (arith, long, c.partition_point.ensures.bound, ap length c.deref.ensures.value) in
    let passed : (k : ℕ) → k < at → sum (take (k + 1) weights) ≤ c.args.share =
    λ k h. let le : get_or sums k 0 ≤ c.args.share = leb-true _ _ (point.0 k 0 (omega arith) h) in omega (arith, each k (omega arith)) in
    let here : at < length weights → c.args.share < sum (take (at + 1) weights) =
    λ h. let above : leb (get_or sums at 0) c.args.share ≡ false = point.1 at 0 (omega arith) (omega arith) in
    let read : get_or sums at 0 ≡ sum (take (at + 1) weights) = each at h in grind (arith, nat_tests) in
    rw (← c.self.view_is) (sym (chosen_place_is weights c.args.share at within passed here))
