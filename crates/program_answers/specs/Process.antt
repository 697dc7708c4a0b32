-- What a program does over the streams of a process, in terms of what the standard library tells of them.
use Rattle.std.specs.Prelude.{◌≡◌, ◌≢◌, ◌<◌, ◌≤◌, ◌⊎◌, ◌↔◌, ℕ, true, false, List, ◌++◌, drop, Option, Some, IfSome, String}
use Rattle.std.specs.Io.KnownBytes.{Appends}
use Rattle.std.specs.declared.alloc.Global.{Global}
use Rattle.std.specs.declared.io.ErrorKind.{ErrorKind}
use Rattle.sim_io.specs.declared.streams.sink.Sink.{Ghosts as Sink}
use Rattle.sim_io.specs.declared.streams.source.Source.{Ghosts as Source}
use Rattle.sim_io.specs.declared.words.WordFault.TheVariants.{BadValue}
use Rattle.sim_io.specs.Taken.{Keeps}
use Rattle.program_answers.specs.declared.process_end.ProcessEnd.{ProcessEnd}
use Rattle.program_answers.specs.declared.status.TheConstants.{WORDS, READ_FAULT, WRITE_FAULT, OUT_OF_MEMORY, STATE}
use Rattle.program_answers.specs.Answer.{Asked, words_line, OfAnswer, HandsOnPrefix}
use Rattle.program_answers.specs.Answered.{Streams, streams}
use Rattle.program_answers.specs.Endings.{noted_line, IsAnswering, TellsFault}

module _ {S K L I O N : Type 0} (source : Source S) (sink : Sink K) (notes : Sink L) (remaining : I → Option (List ℕ)) (contents : O → Option (List ℕ)) (noted : N → Option (List ℕ)) where
  -- what adapters tell is what the streams do
  pub record StandFor (adapters : Streams S K L) (given : Streams I O N) : Type 0 where
    pub left : source.left adapters.source ≡ remaining given.source
    pub handed : (sink.handed adapters.out).known ≡ contents given.out
    pub told : (notes.told adapters.notes).known ≡ noted given.notes

  -- adapters that were just made: nothing is kept back, and nothing has failed
  pub record AreMadeOf (adapters : Streams S K L) (given : Streams I O N) : Type 0 where
    pub stand : StandFor adapters given
    pub told : (sink.told adapters.out).known ≡ contents given.out
    pub nothing_kept : Keeps (sink.told adapters.out) (sink.handed adapters.out)
    pub no_read_faults : source.faults adapters.source ≡ 0
    pub no_write_faults : sink.faults adapters.out ≡ 0
    pub no_note_faults : notes.faults adapters.notes ≡ 0

  -- a process ends with this status and these adapters
  pub record EndsBy (status : ℕ) (adapters : Streams S K L) (ended : ProcessEnd I O N) : Type 0 where
    pub same_status : ended.status ≡ status
    pub stand : StandFor adapters (streams ended.input ended.output ended.notes)
    pub read_faults : ended.read_faults ≡ source.faults adapters.source
    pub write_faults : ended.write_faults ≡ sink.faults adapters.out
    pub note_faults : ended.note_faults ≡ notes.faults adapters.notes

module _ {I O N : Type 0} (remaining : I → Option (List ℕ)) (contents : O → Option (List ℕ)) (noted : N → Option (List ℕ)) (old : Streams I O N) (ended : ProcessEnd I O N) where
  -- the line of the status is noted, or a prefix of it where a write failed
  pub record NotesStreams (line : List ℕ) : Type 0 where
    pub prefix : (front back : List ℕ) × (noted_line ended.status line ≡ front ++ back) × Appends (noted old.notes) (noted ended.notes) front
    pub whole : Appends (noted old.notes) (noted ended.notes) (noted_line ended.status line) ⊎ (0 < ended.note_faults)

  -- all that a program does over a reader, a writer, and another one for its notes, with words that ask for this
  pub record AnswersStreams (asked : Asked) : Type 0 where
    pub known : ended.status ≤ STATE
    pub output : OfAnswer asked (remaining old.source) (λ a. IsAnswering ended.status → Appends (contents old.out) (contents ended.output) a.output)
    pub same_status : OfAnswer asked (remaining old.source) (λ a. IsAnswering ended.status → ended.status ≡ a.status)
    pub prefix : OfAnswer asked (remaining old.source) (HandsOnPrefix (contents old.out) (contents ended.output))
    pub refused_words : (ended.status ≡ WORDS) ↔ (asked.refused ≡ true)
    -- 4 and 5 tell that a read or a write failed, and no other status does
    pub reading : (ended.status ≡ READ_FAULT) ↔ (0 < ended.read_faults)
    pub writing : (ended.status ≡ WRITE_FAULT) ↔ (0 < ended.write_faults)
    pub unread : asked.takes ≡ false → remaining ended.input ≡ remaining old.source
    pub read : IsAnswering ended.status → asked.takes ≡ true
        → IfSome (remaining old.source) (λ bytes. remaining ended.input ≡ Some (drop asked.most bytes))
    pub reads : ended.status ≡ READ_FAULT → asked.takes ≡ true
    pub unwritten : (ended.status ≡ WORDS) ⊎ (ended.status ≡ READ_FAULT) → contents ended.output ≡ contents old.out
    pub notes : OfAnswer asked (remaining old.source) (λ a. NotesStreams a.notes)
    pub notes_fault : TellsFault ended.status → (line : List ℕ) → NotesStreams line

  -- so it is where the words can't be read
  pub record LeavesStreams (kind : ErrorKind) : Type 0 where
    pub known : ended.status ≤ STATE
    pub no_memory : kind ≡ ErrorKind.OutOfMemory → ended.status ≡ OUT_OF_MEMORY
    pub no_text : kind ≢ ErrorKind.OutOfMemory → ended.status ≡ WORDS
    pub notes : NotesStreams (words_line BadValue)
    pub unread : remaining ended.input ≡ remaining old.source
    pub unwritten : contents ended.output ≡ contents old.out
    pub no_read_faults : ended.read_faults ≡ 0
    pub no_write_faults : ended.write_faults ≡ 0

module _ {I O N : Type 0} (remaining : I → Option (List ℕ)) (contents : O → Option (List ℕ)) (noted : N → Option (List ℕ)) (status : ℕ) (old : Streams I O N) where
  -- a process ended with this status: it answered to some words, or couldn't read them
  pub record EndsProcess (asked_by : List (String Global) → Asked) : Type 0 where
    pub ended : ProcessEnd I O N
    pub same_status : ended.status ≡ status
    pub answers : ((words : List (String Global)) × AnswersStreams remaining contents noted old ended (asked_by words))
        ⊎ ((kind : ErrorKind) × LeavesStreams remaining contents noted old ended kind)
