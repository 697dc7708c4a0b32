-- The words that are told of an object, each with its time, and what they count for.
use Rattle.std.specs.Prelude.{ℕ, Bool, ◌==◌, ◌||◌, List, map}
use Rattle.event_key.specs.declared.key.Key.{Key}
use Rattle.event_key.specs.Stamps.{time_part}
use Rattle.model_core.specs.declared.note.Note.{Note}
use Rattle.model_core.specs.declared.note.Part.{Part}
use Rattle.model_core.specs.declared.words.TheConstants.{HOP_WORD, MADE_WORD, TAKEN_WORD, WAITING_WORD, LOST_WORD, DONE_WORD, HELD_WORD, ROUTED_WORD, LEFT_WORD}
use Rattle.run_tally.specs.Told.{told_of_object}

-- something comes to the object
abbrev pub is_arrival : ℕ → Bool
is_arrival word =
    word == HOP_WORD || word == TAKEN_WORD || word == WAITING_WORD || word == LOST_WORD || word == HELD_WORD || word == ROUTED_WORD || word == LEFT_WORD

-- the object is done with something
abbrev pub is_service : ℕ → Bool
is_service word = word == HOP_WORD || word == MADE_WORD || word == DONE_WORD || word == HELD_WORD || word == ROUTED_WORD || word == LEFT_WORD

abbrev pub is_loss : ℕ → Bool
is_loss word = word == LOST_WORD

-- a word that is told at a time, in ticks
pub record TimedWord : Type 0 where
  pub time : ℕ
  pub word : ℕ

-- the words of a note, part by part, each at this time
abbrev pub words_at : ℕ → Note → List TimedWord
words_at time note = map (λ (part : Part). record { time = time; word = part.word }) note

-- the words of a record, each at the time of the record
abbrev pub timed_words : Key × Note → List TimedWord
timed_words told = words_at (time_part told.0.stamp) told.1

-- the words told of an object
unfoldable pub words_told : ℕ → List (Key × Note) → List TimedWord
words_told object records = told_of_object timed_words object records
