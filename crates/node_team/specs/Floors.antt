-- The floor of the word as the least that it may be.
use Rattle.std.specs.Prelude.{◌≡◌, ℕ, ◌+◌, List, Some, slice_get}
use Rattle.event_key.specs.declared.key.Key.{Key}
use Rattle.model_core.specs.Meaning.{Meaning}
use Rattle.node_core.specs.Calls.{HasKey}
use Rattle.node_core.specs.Nodes.{NodeView}

module _ {M : Type 0} where
  -- it is one more than the stamp of an event of the node
  abbrev pub IsPastOne : Meaning → ℕ → NodeView M → Type 0
  IsPastOne m floor n = (key : Key) × HasKey m n key × (floor ≡ key.stamp + 1)

  -- it is so at one of these nodes
  abbrev pub IsPastOneOf : (M → Meaning) → ℕ → List (NodeView M) → Type 0
  IsPastOneOf meaning_of floor nodes = (number : ℕ) × (n : NodeView M) × (slice_get nodes number ≡ Some n) × IsPastOne (meaning_of n.model) floor n
