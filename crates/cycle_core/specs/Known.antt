-- What a node says of itself.
use Rattle.std.specs.Prelude.{◌≡◌, ℕ, ◌+◌, List, length}
use Rattle.model_core.specs.Meaning.{Meaning}
use Rattle.world_spec.specs.Share.{Share}
use Rattle.node_core.specs.Nodes.{NodeView, ahead_of, share_of, Stands}
use Rattle.node_core.specs.Shares.{IsOwnShare, AreProcessedKeys}
use Rattle.cycle_core.specs.Places.{AtEach}

module _ {M : Type 0} where
  -- it stands for one share alone, and its keys are those of its logs
  pub record IsKnown (m : Meaning) (n : NodeView M) : Type 0 where
    pub stands : Stands m n (share_of n) (ahead_of n)
    pub only : (share : Share) (ahead : ℕ → ℕ) → Stands m n share ahead → IsOwnShare m n share ahead
    pub size : length n.processed + length n.waiting ≡ length (share_of n).pending
    pub keys : AreProcessedKeys m n

  abbrev pub AreKnown : (M → Meaning) → List (NodeView M) → Type 0
  AreKnown meaning_of = AtEach (λ number n. IsKnown (meaning_of n.model) n)
