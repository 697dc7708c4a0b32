-- How many events are processed, node by node.
use Rattle.std.proofs.Common.{◌≡◌, ℕ, zero, suc, ◌+◌, ◌≤◌, List, [], ◌∷◌, length, drop, slice_set, refl, ap, arith}
use Rattle.std.specs.Prelude.{slice_get, Some}
use Rattle.node_core.specs.Nodes.{NodeView}
use Rattle.cycle_core.specs.Moving.{processed_in}
use Rattle.cycle_core.proofs.PlaceLemmas.{drop-at, same-some}

module _ {M : Type 0} where
  pub processed-next : (ns : List (NodeView M)) (k : ℕ) (n : NodeView M) → slice_get ns k ≡ Some n → processed_in (drop k ns) ≡ length n.processed + processed_in (drop (suc k) ns)
  unfolding processed_in
  processed-next ns k n at = ap processed_in (drop-at ns k n at)

  pub processed-none : (ns : List (NodeView M)) (k : ℕ) → length ns ≤ k → processed_in (drop k ns) ≡ 0
  unfolding processed_in
  processed-none [] zero past = refl
  processed-none [] (suc k) past = refl
  processed-none (n ∷ ns) zero past = absurd (omega arith)
  processed-none (n ∷ ns) (suc k) past = processed-none ns k (omega arith)

  pub processed-set : (ns : List (NodeView M)) (k : ℕ) (x y : NodeView M) → slice_get ns k ≡ Some x → processed_in (slice_set ns k y) + length x.processed ≡ processed_in ns + length y.processed
  unfolding processed_in
  processed-set [] k x y at = absurd (cc)
  processed-set (n ∷ ns) zero x y at = let same = ap (λ (v : NodeView M). length v.processed) (same-some n x at) in omega arith
  processed-set (n ∷ ns) (suc k) x y at = let more = processed-set ns k x y at in omega arith

  pub processed-at : (ns : List (NodeView M)) (k : ℕ) (x : NodeView M) → slice_get ns k ≡ Some x → length x.processed ≤ processed_in ns
  unfolding processed_in
  processed-at [] k x at = absurd (cc)
  processed-at (n ∷ ns) zero x at = let same = ap (λ (v : NodeView M). length v.processed) (same-some n x at) in omega arith
  processed-at (n ∷ ns) (suc k) x at = let more = processed-at ns k x at in omega arith

  pub processed-same : (old new : List (NodeView M)) → length new ≡ length old
      → ((k : ℕ) (x y : NodeView M) → slice_get old k ≡ Some x → slice_get new k ≡ Some y → length y.processed ≡ length x.processed) → processed_in new ≡ processed_in old
  unfolding processed_in
  processed-same [] [] many same = refl
  processed-same [] (y ∷ ys) many same = absurd (omega arith)
  processed-same (x ∷ xs) [] many same = absurd (omega arith)
  processed-same (x ∷ xs) (y ∷ ys) many same =
      let one = same 0 x y refl refl in let more = processed-same xs ys (omega arith) (λ k. same (suc k)) in omega arith
