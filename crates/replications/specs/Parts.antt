-- What is told of an object, part by part, each at its time.
use Rattle.std.specs.Prelude.{ℕ, ◌==◌, nat_le, if◌then◌else◌, List, map}
use Rattle.std.specs.List.{filter}
use Rattle.event_key.specs.declared.key.Key.{Key}
use Rattle.event_key.specs.Stamps.{time_part}
use Rattle.model_core.specs.declared.note.Note.{Note}
use Rattle.model_core.specs.declared.note.Part.{Part}
use Rattle.model_core.specs.declared.words.TheConstants.{LEFT_WORD}
use Rattle.run_tally.specs.Told.{told_of_object}

-- a part that is told at a time, in ticks
pub record TimedPart : Type 0 where
  pub time : ℕ
  pub part : Part

-- the parts of a note, each at this time
abbrev pub parts_at : ℕ → Note → List TimedPart
parts_at time note = map (λ (part : Part). record { time = time; part = part }) note

-- the parts of a record, each at the time of the record
abbrev pub timed_parts : Key × Note → List TimedPart
timed_parts told = parts_at (time_part told.0.stamp) told.1

-- the parts told of an object
unfoldable pub parts_told : ℕ → List (Key × Note) → List TimedPart
parts_told object records = told_of_object timed_parts object records

-- those at this tick or later
unfoldable pub from_tick : ℕ → List TimedPart → List TimedPart
from_tick first_tick told = filter (λ (one : TimedPart). nat_le first_tick one.time) told

-- the age that a part tells where a job leaves
abbrev pub age_told : TimedPart → ℕ
age_told one = if one.part.word == LEFT_WORD then one.part.b else 0
