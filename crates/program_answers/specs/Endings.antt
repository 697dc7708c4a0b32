-- How the program ends, with which status and with which line among the notes.
use Rattle.std.specs.Prelude.{◌≡◌, ◌≢◌, ◌⊎◌, ◌==◌, if◌then◌else◌, ℕ, List, [], Result, Ok, Err, codes}
use Rattle.sim_io.specs.Taken.{Taken, Appends}
use Rattle.sim_io.specs.Transfers.{AppendsPrefix}
use Rattle.sim_io.specs.declared.streams.reading.ReadEnd.{ReadEnd}
use Rattle.sim_spec.specs.declared.stop.Stop.{Stop}
use Rattle.sim_text.specs.declared.unfinished.Unfinished.{Unfinished}
use Rattle.program_answers.specs.declared.ending.Ending.{Ending}
use Rattle.program_answers.specs.declared.ending.Ending.TheVariants.{Stopped, Saved, RefusedWords, RefusedModel, RefusedState, ReadFault, WriteFault, OutOfMemory}
use Rattle.program_answers.specs.declared.status.TheConstants.{END, WORDS, MODEL, STATE, READ_FAULT, WRITE_FAULT, OUT_OF_MEMORY}
use Rattle.program_answers.specs.Answer.{Answer, status_of_stop, words_line}

abbrev pub status_of_ending : Ending → ℕ
status_of_ending (Stopped stop) = status_of_stop stop
status_of_ending Saved = END
status_of_ending (RefusedWords fault) = WORDS
status_of_ending (RefusedModel line) = MODEL
status_of_ending (RefusedState line) = STATE
status_of_ending ReadFault = READ_FAULT
status_of_ending WriteFault = WRITE_FAULT
status_of_ending OutOfMemory = OUT_OF_MEMORY

abbrev pub line_of_ending : Ending → List ℕ
line_of_ending (Stopped stop) = []
line_of_ending Saved = []
line_of_ending (RefusedWords fault) = words_line fault
line_of_ending (RefusedModel line) = line.items
line_of_ending (RefusedState line) = line.items
line_of_ending ReadFault = codes "read failed\n"
line_of_ending WriteFault = codes "write failed\n"
line_of_ending OutOfMemory = codes "out of memory\n"

-- why a simulation is unfinished
abbrev pub ending_of_cause : Unfinished → Ending
ending_of_cause Unfinished.WriteFault = WriteFault
ending_of_cause Unfinished.OutOfMemory = OutOfMemory

-- why reading ended early
abbrev pub ending_of_read : ReadEnd → Ending
ending_of_read ReadEnd.Failed = ReadFault
ending_of_read ReadEnd.OutOfMemory = OutOfMemory

abbrev pub ending_of : Result Stop Unfinished → Ending
ending_of (Ok stop) = Stopped stop
ending_of (Err cause) = ending_of_cause cause

-- what was given is refused, which this line tells, unless there was no memory for the line
abbrev pub IsRefusal : ℕ → List ℕ → Ending → Type 0
IsRefusal status line ending = (ending ≡ OutOfMemory) ⊎ ((status_of_ending ending ≡ status) × (line_of_ending ending ≡ line))

-- a status with which the answer is whole
abbrev pub IsAnswering : ℕ → Type 0
IsAnswering status = (status ≢ READ_FAULT) × (status ≢ WRITE_FAULT) × (status ≢ OUT_OF_MEMORY)

-- a status that tells of a fault of a stream or of want of memory, whatever the answer is
abbrev pub TellsFault : ℕ → Type 0
TellsFault status = (status ≡ READ_FAULT) ⊎ (status ≡ WRITE_FAULT) ⊎ (status ≡ OUT_OF_MEMORY)

-- what is noted with a status, where these are the notes of the answer
abbrev pub noted_line : ℕ → List ℕ → List ℕ
noted_line status notes =
    if status == READ_FAULT then line_of_ending ReadFault
    else if status == WRITE_FAULT then line_of_ending WriteFault
    else if status == OUT_OF_MEMORY then line_of_ending OutOfMemory
    else notes

-- the line of a status was noted, or a prefix of it
abbrev pub NotesLine : ℕ → Taken → Taken → Answer → Type 0
NotesLine status old new a = Appends old new (noted_line status a.notes)

abbrev pub NotesPrefix : ℕ → Taken → Taken → Answer → Type 0
NotesPrefix status old new a = AppendsPrefix old new (noted_line status a.notes)

-- the status is the answer's, or tells of a fault of reading, a fault of writing or want of memory
abbrev pub IsComplete : ℕ → ℕ → Type 0 → Type 0 → Type 0
IsComplete status answered read_fault write_fault = (status ≡ answered) ⊎ read_fault ⊎ write_fault ⊎ (status ≡ OUT_OF_MEMORY)
