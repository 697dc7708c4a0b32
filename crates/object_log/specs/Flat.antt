-- Processed events as flat lists.
use Rattle.std.specs.Prelude.{◌+◌, ℕ, ◌==◌, List, [], ◌∷◌, ◌++◌, filter, map, reverse, Bool}
use Rattle.delta_exchange.specs.declared.change.Change.{Change}
use Rattle.model_core.specs.declared.event.Event.{Event}
use Rattle.object_log.specs.Dones.{Done}
use Rattle.object_log.specs.Logs.{held_of}

-- all changes that undo, one event's after another's
unfoldable pub changes_of : List Done → List Change
changes_of [] = []
changes_of (d ∷ ds) = d.undo ++ changes_of ds

-- where each one's part of a flat list ends
module _ (size : Done → ℕ) where
  unfoldable pub ends_of : ℕ → List Done → List ℕ
  ends_of from [] = []
  ends_of from (d ∷ ds) = (from + size d) ∷ ends_of (from + size d) ds

abbrev pub goes_to : (ℕ → ℕ) → ℕ → Event → Bool
goes_to home to e = home e.key.dest == to

-- the chain of a home: the newest message first
abbrev pub chain_to : (ℕ → ℕ) → ℕ → List Done → List Event
chain_to home to ds = filter (goes_to home to) (reverse (held_of ds))

-- the home of each message, in the order in which they were sent
abbrev pub homes_of : (ℕ → ℕ) → List Done → List ℕ
homes_of home ds = map (λ e. home e.key.dest) (held_of ds)

-- parts of each element, one after another
module _ {X Y : Type 0} (part : X → List Y) where
  unfoldable pub spread : List X → List Y
  spread [] = []
  spread (x ∷ xs) = part x ++ spread xs

-- 1 where nothing was sent
abbrev pub none_in : List Event → ℕ
none_in [] = 1
none_in (e ∷ es) = 0

-- how many events sent nothing: for each a cell is kept, since the others find one among their messages
unfoldable pub zeros : List Done → ℕ
zeros [] = 0
zeros (d ∷ ds) = none_in d.sends + zeros ds
