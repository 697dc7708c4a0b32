-- What is told of processed events.
use Rattle.std.specs.Prelude.{List, [], ◌∷◌, ◌++◌}
use Rattle.event_key.specs.declared.key.Key.{Key}
use Rattle.model_core.specs.declared.note.Note.{Note}
use Rattle.object_log.specs.Dones.{Done}
use Rattle.object_log.specs.declared.done.Verdict.{Verdict}
use Rattle.object_log.specs.declared.done.Verdict.TheVariants.{Noted, Failed}

-- an event that went
abbrev pub IsNoted : Verdict → Type 0
IsNoted (Noted note) = Unit {0}
IsNoted (Failed code) = ⊥

-- what is told of an event, if it went
abbrev pub told_of : Key → Verdict → List (Key × Note)
told_of key (Noted note) = (key, note) ∷ []
told_of key (Failed code) = []

-- what is told of events, in their order
unfoldable pub told_all : List Done → List (Key × Note)
told_all [] = []
told_all (d ∷ ds) = told_of d.event.key d.verdict ++ told_all ds
