-- Ends that are connected in pairs.
use Rattle.std.specs.Prelude.{◌≡◌, ℕ, ◌<◌, ◌≤◌, List, [], ◌∷◌, ◌++◌, length, slice_index_or}

-- the number of a node, and what connects it to the nodes and the nodes to it
pub record Outline (R : Type 0) : Type 0 where
  pub number : ℕ
  pub outs : List R
  pub ins : List R

-- an end that one more ring leads to
abbrev pub connected : {R : Type 0} → Outline R → R → Outline R
connected end ring = record { number = end.number; outs = end.outs; ins = end.ins ++ ring ∷ [] }

-- an end with the rings that lead from it
abbrev pub with_outs : {R : Type 0} → Outline R → List R → Outline R
with_outs end rings = record { number = end.number; outs = rings; ins = end.ins }

-- one end for each node, in the order of the nodes. The first `done` nodes are connected to all
pub record IsWoven {R : Type 0} (nodes done : ℕ) (ends : List (Outline R)) : Type 0 where
  pub count : length ends ≡ nodes
  pub numbers : (k : ℕ) (d : Outline R) → k < nodes → (slice_index_or ends k d).number ≡ k
  pub outs : (k : ℕ) (d : Outline R) → k < done → length (slice_index_or ends k d).outs ≡ nodes
  pub ins : (k : ℕ) (d : Outline R) → k < nodes → length (slice_index_or ends k d).ins ≡ done
  pub pairs : (i j : ℕ) (d : Outline R) (r : R) → i < done → j < nodes
      → slice_index_or (slice_index_or ends i d).outs j r ≡ slice_index_or (slice_index_or ends j d).ins i r

-- each of the first ends is connected from one more node, by the ring at its place
pub record Grows {R : Type 0} (before : List (Outline R)) (rings : List R) (after : List (Outline R)) : Type 0 where
  pub count : length after ≡ length before
  pub grown : (k : ℕ) (d : Outline R) (r : R) → k < length rings
      → slice_index_or after k d ≡ connected (slice_index_or before k d) (slice_index_or rings k r)
  pub same : (k : ℕ) (d : Outline R) → length rings ≤ k → slice_index_or after k d ≡ slice_index_or before k d
