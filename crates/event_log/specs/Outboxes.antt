-- Messages in the chains of their homes.
use Rattle.std.specs.Prelude.{◌≡◌, ℕ, ◌==◌, Bool, List, [], ◌∷◌, filter, map, reverse, slice_index_or}
use Rattle.model_core.specs.declared.event.Event.{Event}
use Rattle.object_log.specs.Dealing.{first_of, without_first}

-- messages with their homes, in the order in which they were put in, how many homes there are, and for how many more
-- messages there is room
pub record OutboxView : Type 0 where
  pub sent : List (ℕ × Event)
  pub nodes : ℕ
  pub room : ℕ

-- what goes to a node, the newest first
abbrev pub is_for : ℕ → (ℕ × Event) → Bool
is_for node s = s.0 == node

abbrev pub message : (ℕ × Event) → Event
message s = s.1

abbrev pub home : (ℕ × Event) → ℕ
home s = s.0

abbrev pub parcel : ℕ → List (ℕ × Event) → List Event
parcel node sent = map message (filter (is_for node) (reverse sent))

abbrev pub chain_at : List (List Event) → ℕ → List Event
chain_at chains node = slice_index_or chains node []

-- no chain has an event
abbrev pub AreBlank : List (List Event) → Type 0
AreBlank chains = (node : ℕ) → chain_at chains node ≡ []

-- the messages with their homes, the newest first, from their homes in that order and the chains
unfoldable pub dealt : List ℕ → (ℕ → List Event) → List (ℕ × Event)
dealt [] chains = []
dealt (node ∷ nodes) chains = (node, first_of (chains node)) ∷ dealt nodes (without_first node chains)

abbrev pub sent_of : List ℕ → List (List Event) → List (ℕ × Event)
sent_of homes chains = reverse (dealt (reverse homes) (chain_at chains))

-- these messages lie there
pub record HoldsSent (sent : List (ℕ × Event)) (homes : List ℕ) (chains : List (List Event)) : Type 0 where
  pub homes_are : homes ≡ map home sent
  pub chains_are : (node : ℕ) → chain_at chains node ≡ parcel node sent

abbrev pub IsOutbox : List ℕ → List (List Event) → Type 0
IsOutbox homes chains = (sent : List (ℕ × Event)) × HoldsSent sent homes chains
