-- Processed events in the order of their keys, and the places of their objects.
use Rattle.std.specs.Prelude.{ℕ, suc, List, [], ◌∷◌, if◌then◌else◌}
use Rattle.event_key.specs.declared.key.Key.{Key}
use Rattle.event_key.specs.Keys.{key_lt}
use Rattle.object_log.specs.Dones.{Done}

-- a processed event, and the place of its object
pub record Placed : Type 0 where
  pub done : Done
  pub place : ℕ

abbrev pub placed_key : Placed → Key
placed_key p = p.done.event.key

module _ {X : Type 0} (key : X → Key) where
  -- how many come before a key
  unfoldable pub place_of : Key → List X → ℕ
  place_of k [] = 0
  place_of k (x ∷ xs) = if key_lt (key x) k then suc (place_of k xs) else 0
