-- Which nodes have events.
use Rattle.std.specs.Prelude.{◌≡◌, ◌⊎◌, ℕ, suc, ◌+◌, ◌<◌, ◌≤◌, List, [], ◌∷◌, ◌++◌, length, slice_get, Some}
use Rattle.node_core.specs.declared.committed.Committed.{Committed}
use Rattle.node_core.specs.Nodes.{NodeView}
use Rattle.cycle_core.specs.Records.{TellsNothing}

module _ {A : Type 0} (P : A → Type 0) (xs : List A) where
  -- so it is of all from a place up to another one
  abbrev pub AllBetween : ℕ → ℕ → Type 0
  AllBetween from to = (place : ℕ) (x : A) → from ≤ place → place < to → slice_get xs place ≡ Some x → P x

  -- so it is of all from a place up to another one, but for those that are named, in their order
  unfoldable pub AllBut : List ℕ → ℕ → ℕ → Type 0
  AllBut [] from to = (from ≤ to) × AllBetween from to
  AllBut (place ∷ places) from to = (from ≤ place) × AllBetween from place × AllBut places (suc place) to

module _ {M : Type 0} where
  -- a node without events
  abbrev pub IsQuiet : NodeView M → Type 0
  IsQuiet n = (n.processed ≡ []) × (n.waiting ≡ [])

  -- these are the places of nodes, in their order, and all others have no events
  abbrev pub NamesBusy : List (NodeView M) → List ℕ → Type 0
  NamesBusy nodes places = AllBut IsQuiet nodes places 0 (length nodes)

  -- a node's place was added to the places, or it has no events
  abbrev pub HasNoted : ℕ → NodeView M → List ℕ → List ℕ → Type 0
  HasNoted place n old new = (IsQuiet n × (new ≡ old)) ⊎ (new ≡ old ++ place ∷ [])

-- these are the places of commits, in their order, and all others tell of nothing
abbrev pub NamesTelling : List Committed → List ℕ → Type 0
NamesTelling committed places = AllBut TellsNothing committed places 0 (length committed)

-- so many of the places come before this one, and whether it is named itself
pub record IsPast (places : List ℕ) (place named next : ℕ) : Type 0 where
  pub here : (next ≡ named → ⊥) → (next ≡ named + 1) × (slice_get places named ≡ Some place)
  pub other : next ≡ named → slice_get places named ≡ Some place → ⊥
