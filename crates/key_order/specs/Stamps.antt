-- The stamps of events in a list.
use Rattle.std.specs.Prelude.{ℕ, ◌≤◌, min, List, [], ◌∷◌}
use Rattle.std.specs.List.{AllByRecursion}
use Rattle.model_core.specs.declared.event.Event.{Event}

-- the least of h and the stamps of these events
unfoldable pub least_stamp : ℕ → List Event → ℕ
least_stamp h [] = h
least_stamp h (e ∷ es) = least_stamp (min h e.key.stamp) es

-- no event has a stamp below h
abbrev pub NoneBelow : ℕ → List Event → Type 0
NoneBelow h es = AllByRecursion (λ e. h ≤ e.key.stamp) es
