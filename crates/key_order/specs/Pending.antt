-- Events at their places, in one list in the order of their keys.
use Rattle.std.specs.Prelude.{List, [], ◌∷◌, if◌then◌else◌}
use Rattle.event_key.specs.Keys.{key_lt}
use Rattle.model_core.specs.declared.event.Event.{Event}

-- the list with an event at its place
unfoldable pub enqueue : Event → List Event → List Event
enqueue e [] = e ∷ []
enqueue e (x ∷ xs) = if key_lt e.key x.key then e ∷ x ∷ xs else x ∷ enqueue e xs

-- the list with events at their places, one after another
unfoldable pub enqueue_all : List Event → List Event → List Event
enqueue_all [] xs = xs
enqueue_all (e ∷ es) xs = enqueue_all es (enqueue e xs)

-- the events in the order of their keys
abbrev pub in_order : List Event → List Event
in_order es = enqueue_all es []
