-- What a program does: what it reads, writes and notes, and the status with which it ends.
use Rattle.std.specs.Prelude.{◌≡◌, ◌≢◌, ◌≤◌, ◌⊎◌, ◌↔◌, ℕ, true, false, List, length, drop, Some, IfSome}
use Rattle.sim_io.specs.Taken.{Appends, GivesMore, Keeps}
use Rattle.std.specs.declared.io.ErrorKind.{ErrorKind}
use Rattle.sim_io.specs.declared.streams.sink.Sink.{Ghosts as Sink}
use Rattle.sim_io.specs.declared.streams.source.Source.{Ghosts as Source}
use Rattle.sim_io.specs.declared.words.WordFault.TheVariants.{BadValue}
use Rattle.sim_io.specs.Causes.{Rose}
use Rattle.sim_io.specs.Transfers.{AppendsPrefix}
use Rattle.program_answers.specs.declared.ending.Ending.{Ending}
use Rattle.program_answers.specs.declared.status.TheConstants.{WORDS, READ_FAULT, WRITE_FAULT, OUT_OF_MEMORY, STATE}
use Rattle.program_answers.specs.Answer.{Answer, Asked, words_line, OfAnswer, OfAccepted, HandsOnPrefix, WritesOutput, WritesPrefix}
use Rattle.program_answers.specs.Endings.{status_of_ending, line_of_ending, noted_line, IsAnswering, IsComplete, TellsFault, NotesLine, NotesPrefix}

module _ {K : Type 0} (sink : Sink K) (old new : K) (status : ℕ) where
  -- what is written is the output of the answer, or a prefix of it, and the status says which
  pub record GivesAnswer (a : Answer) : Type 0 where
    pub output : IsAnswering status → WritesOutput (sink.told old) (sink.told new) a
    pub same_status : IsAnswering status → status ≡ a.status
    pub prefix : WritesPrefix (sink.told old) (sink.told new) a

  -- it is handed on: all of it with the answer, if nothing was kept back before, and else a prefix of it
  pub record HandsOnAnswer (a : Answer) : Type 0 where
    pub handed : IsAnswering status → Keeps (sink.told old) (sink.handed old) → WritesOutput (sink.told old) (sink.handed new) a
    pub handed_prefix : HandsOnPrefix (sink.told old).known (sink.handed new).known a

  -- a fault of writing is told where one came, and nowhere else; if none came, all that was written is handed on
  pub record TellsWriting : Type 0 where
    pub write_fault : status ≡ WRITE_FAULT → Rose (sink.faults old) (sink.faults new)
    pub write_quiet : status ≢ WRITE_FAULT → sink.faults new ≡ sink.faults old
    pub handed : status ≢ WRITE_FAULT → Keeps (sink.told old) (sink.handed old) → Keeps (sink.told new) (sink.handed new)

  -- the line of the status is noted, or a prefix of it where a write failed
  pub record NotesAnswer (a : Answer) : Type 0 where
    pub notes_prefix : NotesPrefix status (sink.told old) (sink.told new) a
    pub notes_whole : NotesLine status (sink.told old) (sink.told new) a ⊎ Rose (sink.faults old) (sink.faults new)

module _ {S : Type 0} (source : Source S) (old new : S) (status : ℕ) where
  -- a fault of reading is told where one came, and nowhere else
  pub record TellsReading : Type 0 where
    pub read_fault : status ≡ READ_FAULT → Rose (source.faults old) (source.faults new)
    pub read_quiet : status ≢ READ_FAULT → source.faults new ≡ source.faults old

  -- the input is read to its end, or until it is too long, unless the words are refused or ask for nothing of it
  pub record TakesInput (asked : Asked) : Type 0 where
    pub refused_words : (status ≡ WORDS) ↔ (asked.refused ≡ true)
    pub unread : asked.takes ≡ false → new ≡ old
    pub read : IsAnswering status → asked.takes ≡ true → IfSome (source.left old) (λ bytes. source.left new ≡ Some (drop asked.most bytes))
    pub reads : status ≡ READ_FAULT → asked.takes ≡ true

-- what was noted is handed on, unless a write failed
abbrev pub HandsOnNotes : {N : Type 0} → Sink N → N → N → Type 0
HandsOnNotes notes old new = Keeps (notes.told new) (notes.handed new) ⊎ Rose (notes.faults old) (notes.faults new)

-- nothing is written where the words are refused or reading failed
abbrev pub LeavesOut : {K : Type 0} → K → K → ℕ → Type 0
LeavesOut old new status = (status ≡ WORDS) ⊎ (status ≡ READ_FAULT) → new ≡ old

-- an ending gives an answer: what is noted is its line
pub record EndsWith {K : Type 0} (sink : Sink K) (old new : K) (ending : Ending) (a : Answer) : Type 0 where
  pub given : GivesAnswer sink old new (status_of_ending ending) a
  pub line : IsAnswering (status_of_ending ending) → line_of_ending ending ≡ a.notes

-- the ending of a command with the model that it has read or made
pub record EndsModel {K : Type 0} (sink : Sink K) (old new : K) (ending : Ending) (a : Answer) : Type 0 where
  pub answer : EndsWith sink old new ending a
  pub writing : TellsWriting sink old new (status_of_ending ending)
  pub no_words : status_of_ending ending ≢ WORDS
  pub no_read_fault : status_of_ending ending ≢ READ_FAULT

-- the source gave these bytes: all that came until its end, or so many
pub record HasGiven {S : Type 0} (source : Source S) (from to : S) (most : ℕ) (bytes : List ℕ) : Type 0 where
  pub gave : GivesMore (source.gave from) (source.gave to) bytes
  pub enough : source.is_at_end to ⊎ (length bytes ≡ most)

module _ {S K : Type 0} (source : Source S) (sink : Sink K) (from to : S) (old new : K) (ending : Ending) where
  -- the ending of a command that has read its input
  pub record EndsGiven (most : ℕ) (answer_to : List ℕ → Answer) : Type 0 where
    pub bytes : List ℕ
    pub given : HasGiven source from to most bytes
    pub answer : EndsWith sink old new ending (answer_to bytes)

  -- the ending of a command that reads its input, so many bytes of it at most
  pub record EndsInput (most : ℕ) (answer_to : List ℕ → Answer) : Type 0 where
    pub answer : IfSome (source.left from) (λ bytes. EndsWith sink old new ending (answer_to bytes))
    -- so it is whatever the source tells, unless reading ended early
    pub given : EndsGiven most answer_to ⊎ (TellsFault (status_of_ending ending) × (new ≡ old))
    pub read : IsAnswering (status_of_ending ending) → IfSome (source.left from) (λ bytes. source.left to ≡ Some (drop most bytes))
    pub reading : TellsReading source from to (status_of_ending ending)
    pub writing : TellsWriting sink old new (status_of_ending ending)
    pub unwritten : LeavesOut old new (status_of_ending ending)
    pub no_words : status_of_ending ending ≢ WORDS

  -- the ending of words that ask for this
  pub record EndsAsked (asked : Asked) : Type 0 where
    pub answer : OfAnswer asked (source.left from) (EndsWith sink old new ending)
    pub given : asked.takes ≡ true → EndsGiven asked.most asked.answer ⊎ (TellsFault (status_of_ending ending) × (new ≡ old))
    pub input : TakesInput source from to (status_of_ending ending) asked
    pub reading : TellsReading source from to (status_of_ending ending)
    pub writing : TellsWriting sink old new (status_of_ending ending)
    pub unwritten : LeavesOut old new (status_of_ending ending)

-- the streams of the program
pub record Streams (S K N : Type 0) : Type 0 where
  pub source : S
  pub out : K
  pub notes : N

abbrev pub streams : {S K N : Type 0} → S → K → N → Streams S K N
streams source out notes = record { source = source; out = out; notes = notes }

module _ {S K N : Type 0} (source : Source S) (sink : Sink K) (notes : Sink N) (status : ℕ) (old new : Streams S K N) where
  -- what the source gave in this call is answered to, whether or not it tells more
  pub record AnswersGiven (asked : Asked) : Type 0 where
    pub bytes : List ℕ
    pub given : HasGiven source old.source new.source asked.most bytes
    pub answer : GivesAnswer sink old.out new.out status (asked.answer bytes)
    pub handed : HandsOnAnswer sink old.out new.out status (asked.answer bytes)
    pub noted : NotesAnswer notes old.notes new.notes status (asked.answer bytes)

  -- all that a program does with words that ask for this
  pub record Answers (asked : Asked) : Type 0 where
    pub known : status ≤ STATE
    pub answer : OfAnswer asked (source.left old.source) (GivesAnswer sink old.out new.out status)
    pub handed : OfAnswer asked (source.left old.source) (HandsOnAnswer sink old.out new.out status)
    -- and of the answer to what the source gave in this call, if nothing was told of what was left; nothing is written if reading ended early
    pub given : asked.takes ≡ true → AnswersGiven asked ⊎ (TellsFault status × (new.out ≡ old.out))
    pub input : TakesInput source old.source new.source status asked
    pub reading : TellsReading source old.source new.source status
    pub writing : TellsWriting sink old.out new.out status
    pub unwritten : LeavesOut old.out new.out status
    pub noted : OfAnswer asked (source.left old.source) (NotesAnswer notes old.notes new.notes status)
    -- what is noted of a fault or of want of memory needs no answer
    pub noted_fault : TellsFault status → (a : Answer) → NotesAnswer notes old.notes new.notes status a
    pub noted_on : HandsOnNotes notes old.notes new.notes
    -- accepted words, an input that they accept and no fault give the whole answer, or want of memory
    pub complete : OfAccepted asked (source.left old.source) (λ a.
        IsComplete status a.status (Rose (source.faults old.source) (source.faults new.source)) (Rose (sink.faults old.out) (sink.faults new.out)))

module _ {N : Type 0} (notes : Sink N) (old new : N) (status : ℕ) where
  -- the line of an ending is noted, as far as it can be, and its status answered
  pub record NotesEnding (ending : Ending) : Type 0 where
    pub same_status : status ≡ status_of_ending ending
    pub line_prefix : AppendsPrefix (notes.told old) (notes.told new) (line_of_ending ending)
    pub line_whole : Appends (notes.told old) (notes.told new) (line_of_ending ending) ⊎ Rose (notes.faults old) (notes.faults new)
    pub noted_on : HandsOnNotes notes old new

  -- why the words can't be read is noted, and answered by a status: there was no memory, or one of them is no text
  pub record NotesNoWords (kind : ErrorKind) : Type 0 where
    pub known : status ≤ OUT_OF_MEMORY
    pub no_memory : kind ≡ ErrorKind.OutOfMemory → status ≡ OUT_OF_MEMORY
    pub no_text : kind ≢ ErrorKind.OutOfMemory → status ≡ WORDS
    pub line_prefix : AppendsPrefix (notes.told old) (notes.told new) (noted_line status (words_line BadValue))
    pub line_whole : Appends (notes.told old) (notes.told new) (noted_line status (words_line BadValue)) ⊎ Rose (notes.faults old) (notes.faults new)
    pub noted_on : HandsOnNotes notes old new

module _ {S K N : Type 0} (notes : Sink N) (status : ℕ) (old new : Streams S K N) where
  -- where the words can't be read, nothing else is done
  pub record AnswersNoWords (kind : ErrorKind) : Type 0 where
    pub noted : NotesNoWords notes old.notes new.notes status kind
    pub unread : new.source ≡ old.source
    pub unwritten : new.out ≡ old.out
