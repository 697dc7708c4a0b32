-- A list of which no element comes before the one ahead of it, as a sort by key leaves it.
use Rattle.std.proofs.Common.{◌≡◌, ℕ, ◌+◌, ◌<◌, ◌≤◌, true, false, List, [], ◌∷◌, length, get_or, suc, sym, subst, arith}
use Rattle.event_key.specs.declared.key.Key.{Key}
use Rattle.event_key.specs.Keys.{key_lt}
use Rattle.key_order.specs.Ascending.{Ascends}
use Rattle.key_order.specs.Keys.{Differ}
use Rattle.key_order.proofs.AscendingLemmas.{After-head}
use Rattle.key_order.proofs.KeyLemmas.{Differ-back, Differ-first, key_lt-other, new-head}

module _ {X : Type 0} (key : X → Key) where
  abbrev pub NoneTurned : List X → Type 0
  NoneTurned xs = (k : ℕ) (d : X) → 0 ≤ k → k + 1 < length xs → key_lt (key (get_or xs (k + 1) d)) (key (get_or xs k d)) ≡ false

  rest_turned : (x : X) (xs : List X) → NoneTurned (x ∷ xs) → NoneTurned xs
  rest_turned x xs none k d low below =
      let next : suc k + 1 ≡ suc (k + 1) = omega arith in
      let P : ℕ → Type 0 = λ n. key_lt (key (get_or (x ∷ xs) n d)) (key (get_or (x ∷ xs) (suc k) d)) ≡ false in
      subst P next (none (suc k) d (omega arith) (omega arith))

  -- where the keys differ, such a list is in order
  pub sorted-ascends : (xs : List X) → Differ key xs → NoneTurned xs → Ascends key xs
  unfolding Ascends
  sorted-ascends [] differ none = tt
  sorted-ascends (x ∷ []) differ none = (tt, tt)
  sorted-ascends (x ∷ y ∷ zs) differ none =
      let rest : Ascends key (y ∷ zs) = sorted-ascends (y ∷ zs) (Differ-back key (x ∷ []) (y ∷ zs) differ) (rest_turned x (y ∷ zs) none) in
      let apart = new-head key (key x) y zs (Differ-first key x (y ∷ zs) differ) in
      let lt : key_lt (key x) (key y) ≡ true = key_lt-other (key y) (key x) (λ same. apart (sym same)) (none 0 x (omega arith) (omega arith)) in
      (After-head key (key x) y zs lt rest, rest)
