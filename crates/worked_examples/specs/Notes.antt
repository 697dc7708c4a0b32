-- What is told in the examples, each by one part.
use Rattle.std.specs.Prelude.{ℕ}
use Rattle.model_core.specs.declared.words.TheConstants.{HOP_WORD, MADE_WORD, TAKEN_WORD, WAITING_WORD, DONE_WORD, LEFT_WORD}
use Rattle.model_core.specs.declared.note.Part.{Part}

-- a hop to an object, after so many ticks
abbrev pub hop_part : ℕ → ℕ → Part
hop_part delay to = record { word = HOP_WORD; a = delay; b = to }

-- a job is made, and so many are left to be made
abbrev pub make_part : ℕ → ℕ → Part
make_part job left = record { word = MADE_WORD; a = job; b = left }

-- a job is taken by a server, waits, or is done, while so many wait
abbrev pub take_part : ℕ → ℕ → Part
take_part job waiting = record { word = TAKEN_WORD; a = job; b = waiting }

abbrev pub wait_part : ℕ → ℕ → Part
wait_part job waiting = record { word = WAITING_WORD; a = job; b = waiting }

abbrev pub done_part : ℕ → ℕ → Part
done_part job waiting = record { word = DONE_WORD; a = job; b = waiting }

-- a job leaves at this age
abbrev pub leave_part : ℕ → ℕ → Part
leave_part job age = record { word = LEFT_WORD; a = job; b = age }
