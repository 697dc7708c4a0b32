-- Lists of events, one after another.
use Rattle.std.specs.Prelude.{List, [], ◌∷◌, ◌++◌}
use Rattle.model_core.specs.declared.event.Event.{Event}

-- the events of all the lists, one list after another
abbrev pub joined : List (List Event) → List Event
joined [] = []
joined (es ∷ lists) = es ++ joined lists
