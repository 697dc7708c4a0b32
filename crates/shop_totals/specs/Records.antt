-- What is told of an object of a shop, part by part, each at its time.
use Rattle.std.specs.Prelude.{ℕ, ◌/◌, ◌==◌, List, map}
use Rattle.std.specs.List.{filter, flat_map}
use Rattle.event_key.specs.declared.key.Key.{Key}
use Rattle.event_key.specs.Stamps.{time_part}
use Rattle.model_core.specs.declared.note.Note.{Note}
use Rattle.model_core.specs.declared.note.Part.{Part}
use Rattle.shop_model.specs.declared.job.TheConstants.{JOBS_A_CLASS}
use Rattle.shop_totals.specs.Told.{TimedPart}

-- the parts of a note, each at this time
abbrev pub parts_at : ℕ → Note → List TimedPart
parts_at time note = map (λ (part : Part). record { time = time; part = part }) note

-- the parts of a record, each at the time of the record
abbrev pub timed_parts : Key × Note → List TimedPart
timed_parts told = parts_at (time_part told.0.stamp) told.1

-- the parts told of an object
unfoldable pub told_at : ℕ → List (Key × Note) → List TimedPart
told_at object records = flat_map timed_parts (filter (λ (told : Key × Note). told.0.dest == object) records)

-- those that tell of a job of a class, by its id
abbrev pub of_class : ℕ → List TimedPart → List TimedPart
of_class class told = filter (λ (one : TimedPart). one.part.a / JOBS_A_CLASS == class) told
