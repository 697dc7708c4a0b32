-- The text of a simulation: a line for each part of what its events tell, and a line that says why it stopped.
use Rattle.std.specs.Prelude.{ℕ, ◌<◌, ◌==◌, List, [], ◌∷◌, ◌++◌, Option, Some, if◌then◌else◌, unwrap_or, decimal, codes}
use Rattle.event_key.specs.declared.key.Key.{Key}
use Rattle.event_key.specs.Stamps.{time_part, step_part}
use Rattle.model_core.specs.declared.note.Note.{Note}
use Rattle.model_core.specs.declared.note.Part.{Part}
use Rattle.model_core.specs.Meaning.{Meaning}
use Rattle.model_core.specs.SpacedWords.{told_word}
use Rattle.model_core.specs.declared.words.TheConstants.{ENDLESS_CHAIN}
use Rattle.sim_spec.specs.declared.terms.Terms.{Terms}
use Rattle.sim_spec.specs.declared.stop.Stop.{Stop}
use Rattle.sim_spec.specs.declared.stop.Stop.TheVariants.{End, Limit, Fault}
use Rattle.sim_spec.specs.State.{State}
use Rattle.sim_spec.specs.Run.{Run, run}

-- `time.step`
unfoldable pub stamp_text : ℕ → List ℕ
stamp_text stamp = decimal (time_part stamp) ++ (codes "." ++ decimal (step_part stamp))

-- the word of a note, or its number where it has no name
unfoldable pub word_text : Meaning → ℕ → List ℕ
word_text m number = told_word (m.word number) number

-- the word of a fault, if it has one: that of an endless chain is the simulation's, and all others are the model's
abbrev pub fault_word : Meaning → ℕ → Option (List ℕ)
fault_word m code = if code == ENDLESS_CHAIN then Some (codes "chain") else m.fault code

-- the word of a fault, or its code where it has no name
unfoldable pub fault_text : Meaning → ℕ → List ℕ
fault_text m code = unwrap_or (fault_word m code) (decimal code)

-- a word and its two numbers
unfoldable pub part_text : Meaning → Part → List ℕ
part_text m part = word_text m part.word ++ ((codes " " ++ decimal part.a) ++ (codes " " ++ decimal part.b))

-- when and where: the stamp, and the name of the object
unfoldable pub place_text : Meaning → Key → List ℕ
place_text m key = stamp_text key.stamp ++ (codes " " ++ m.label key.dest)

-- the line of one part of what an event tells
unfoldable pub part_line : Meaning → Key → Part → List ℕ
part_line m key part = place_text m key ++ (codes " " ++ (part_text m part ++ codes "\n"))

-- the lines of an event: one for each part, in order
unfoldable pub event_lines : Meaning → Key → List Part → List ℕ
event_lines m key [] = []
event_lines m key (part ∷ rest) = part_line m key part ++ event_lines m key rest

-- the lines of what happened, event by event
unfoldable pub record_lines : Meaning → List (Key × Note) → List ℕ
record_lines m [] = []
record_lines m (told ∷ rest) = event_lines m told.0 told.1 ++ record_lines m rest

-- the line of a fault: when and where it happened, and what it is
abbrev pub fault_line : Meaning → Key → ℕ → List ℕ
fault_line m key code = codes "fault " ++ (place_text m key ++ (codes " " ++ (fault_text m code ++ codes "\n")))

-- the line of a simulation that ran to its end, after so many events
abbrev pub end_line : ℕ → ℕ → List ℕ
end_line end count = codes "end " ++ (decimal end ++ (codes " events " ++ (decimal count ++ codes "\n")))

-- the line of one that met its limit of events
abbrev pub limit_line : ℕ → List ℕ
limit_line count = codes "limit " ++ (decimal count ++ codes "\n")

-- the line that says why a simulation stopped, after so many events
unfoldable pub stop_line : Meaning → Terms → ℕ → Stop → List ℕ
stop_line m t count End = end_line t.end count
stop_line m t count Limit = limit_line count
stop_line m t count (Fault key code) = fault_line m key code

-- where it stopped by a fault, that was at an object of the model
abbrev pub IsAtObject : Meaning → Stop → Type 0
IsAtObject m (Fault key code) = key.dest < m.objects
IsAtObject m End = Unit {0}
IsAtObject m Limit = Unit {0}

-- the lines of a run and its stop line
unfoldable pub text_of_run : Meaning → Terms → Run → List ℕ
text_of_run m t r = record_lines m r.records ++ stop_line m t r.last.count r.stop

-- the whole text of the simulation from a state
unfoldable pub run_text : Meaning → Terms → State → List ℕ
run_text m t s = text_of_run m t (run m t s)
