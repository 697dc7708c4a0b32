-- What records tell of one object.
use Rattle.std.specs.Prelude.{ℕ, ◌==◌, List}
use Rattle.std.specs.List.{filter, flat_map}
use Rattle.event_key.specs.declared.key.Key.{Key}
use Rattle.model_core.specs.declared.note.Note.{Note}

-- what the records of an object tell, one after another, where each record tells so much
abbrev pub told_of_object : {X : Type 0} → (Key × Note → List X) → ℕ → List (Key × Note) → List X
told_of_object tells object records = flat_map tells (filter (λ (told : Key × Note). told.0.dest == object) records)
