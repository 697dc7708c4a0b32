-- What is answered over adapters of a process's streams is answered over the streams.
use Rattle.std.proofs.Common.{◌≡◌, ◌≢◌, ◌<◌, ◌⊎◌, ◌↔◌, inl, inr, ℕ, List, [], ◌++◌, drop, Option, Some, None, Result, Ok, Err, refl, sym, ap, ◌∙◌, subst, append-nil, arith}
use Rattle.std.proofs.lemmas.Bool.{cases_eq}
use Rattle.std.specs.Prelude.{IfErr, IfOk, IfSome, String}
use Rattle.std.specs.declared.alloc.Global.{Global}
use Rattle.std.specs.declared.io.ErrorKind.{ErrorKind}
use Rattle.std.specs.Io.KnownBytes.{Appends as AppendsKnown, Keeps as KeepsKnown, append_known}
use Rattle.sim_io.specs.Taken.{Appends}
use Rattle.sim_io.specs.declared.streams.sink.Sink.{Ghosts as Sink}
use Rattle.sim_io.specs.declared.streams.source.Source.{Ghosts as Source}
use Rattle.sim_io.specs.declared.words.WordFault.TheVariants.{BadValue}
use Rattle.sim_io.specs.Causes.{Rose}
use Rattle.sim_io.specs.Transfers.{AppendsPrefix}
use Rattle.program_answers.specs.declared.process_end.ProcessEnd.{ProcessEnd}
use Rattle.program_answers.specs.declared.status.TheConstants.{READ_FAULT, WRITE_FAULT}
use Rattle.program_answers.specs.Answer.{Asked, words_line, IsInput, HandsOnPrefix}
use Rattle.program_answers.specs.Answered.{Answers, AnswersNoWords, Streams}
use Rattle.program_answers.specs.Endings.{noted_line}
use Rattle.program_answers.specs.Process.{AnswersStreams, AreMadeOf, EndsBy, EndsProcess, LeavesStreams, NotesStreams}

-- what follows from what holds of a value, or of an error
pub ok_map : {T E : Type 0} {P Q : T → Type 0} (r : Result T E) → ((x : T) → P x → Q x) → IfOk r P → IfOk r Q
ok_map (Ok x) f p = f x p
ok_map (Err e) f p = tt

pub err_map : {T E : Type 0} {P Q : E → Type 0} (r : Result T E) → ((e : E) → P e → Q e) → IfErr r P → IfErr r Q
err_map (Ok x) f p = tt
err_map (Err e) f p = f e p

-- nothing more is known
pub append_known-none : (known : Option (List ℕ)) → append_known known [] ≡ known
append_known-none None = refl
append_known-none (Some bytes) = ap (λ xs. Some xs) (append-nil bytes)

-- nothing is kept back
pub nothing_gathered : (known : Option (List ℕ)) (gathered : List ℕ) → gathered ≡ [] → KeepsKnown (append_known known gathered) known
nothing_gathered None gathered none = tt
nothing_gathered (Some bytes) gathered none = sym (ap (λ xs. bytes ++ xs) none ∙ append-nil bytes)

-- a status that tells of faults tells of those that came since there were none
tells_some : (status fault before now faults : ℕ) → before ≡ 0 → faults ≡ now → (status ≡ fault → Rose before now) → (status ≢ fault → now ≡ before)
    → (status ≡ fault) ↔ (0 < faults)
tells_some status fault before now faults none count rose quiet = (
  (λ is. subst (λ n. 0 < n) (sym count) (subst (λ n. Rose n now) none (rose is))),
  (λ some. elim (cases_eq status fault) [
    | inl is ↦ is
    | inr other ↦ absurd (let no_faults : faults ≡ 0 = count ∙ quiet other ∙ none in let clash : ⊥ = omega arith in clash)
  ]),
)

module _ {S K L I O N : Type 0} (source : Source S) (sink : Sink K) (notes : Sink L) (remaining : I → Option (List ℕ)) (contents : O → Option (List ℕ)) (noted : N → Option (List ℕ))
    (from to : Streams S K L) (old : Streams I O N) (status : ℕ) (ended : ProcessEnd I O N)
    (made : AreMadeOf source sink notes remaining contents noted from old)
    (ends : EndsBy source sink notes remaining contents noted status to ended) where
  as_noted : (bytes : List ℕ) → Appends (notes.told from.notes) (notes.told to.notes) bytes → AppendsKnown (noted old.notes) (noted ended.notes) bytes
  as_noted bytes all =
      subst (λ told. AppendsKnown told (noted ended.notes) bytes) made.stand.told
      (subst (λ told. AppendsKnown (notes.told from.notes).known told bytes) ends.stand.told all.known)

  noted_so : (line : List ℕ) → AppendsPrefix (notes.told from.notes) (notes.told to.notes) (noted_line ended.status line)
      → Appends (notes.told from.notes) (notes.told to.notes) (noted_line ended.status line) ⊎ Rose (notes.faults from.notes) (notes.faults to.notes)
      → NotesStreams remaining contents noted old ended line
  noted_so line part whole = record {
    prefix = (part.0, part.1, part.2, as_noted part.0 part.3);
    whole = elim whole [
      | inl all ↦ inl (as_noted (noted_line ended.status line) all)
      | inr rose ↦ inr (subst (λ n. 0 < n) (sym ends.note_faults) (subst (λ n. Rose n (notes.faults to.notes)) made.no_note_faults rose))
    ];
  }

  module _ (asked : Asked) (answers : Answers source sink notes ended.status from to asked) where
    input : (bytes : List ℕ) → IsInput asked (remaining old.source) bytes → IsInput asked (source.left from.source) bytes
    input bytes = subst (λ left. IsInput asked left bytes) (sym made.stand.left)

    streams_answered_so : AnswersStreams remaining contents noted old ended asked
    streams_answered_so = record {
      known = answers.known;
      output = λ bytes given done.
          subst (λ out. AppendsKnown out (contents ended.output) (asked.answer bytes).output) made.told
          (subst (λ out. AppendsKnown (sink.told from.out).known out (asked.answer bytes).output) ends.stand.handed
          ((answers.handed bytes (input bytes given)).handed done made.nothing_kept).known);
      same_status = λ bytes given. (answers.answer bytes (input bytes given)).same_status;
      prefix = λ bytes given.
          subst (λ out. HandsOnPrefix out (contents ended.output) (asked.answer bytes)) made.told
          (subst (λ out. HandsOnPrefix (sink.told from.out).known out (asked.answer bytes)) ends.stand.handed (answers.handed bytes (input bytes given)).handed_prefix);
      refused_words = answers.input.refused_words;
      reading = tells_some ended.status READ_FAULT _ _ ended.read_faults made.no_read_faults ends.read_faults answers.reading.read_fault answers.reading.read_quiet;
      writing = tells_some ended.status WRITE_FAULT _ _ ended.write_faults made.no_write_faults ends.write_faults answers.writing.write_fault answers.writing.write_quiet;
      unread = λ untaken. sym ends.stand.left ∙ ap source.left (answers.input.unread untaken) ∙ made.stand.left;
      read = λ done takes.
          subst (λ left. IfSome left (λ bytes. remaining ended.input ≡ Some (drop asked.most bytes))) made.stand.left
          (subst (λ rest. IfSome (source.left from.source) (λ bytes. rest ≡ Some (drop asked.most bytes))) ends.stand.left (answers.input.read done takes));
      reads = answers.input.reads;
      unwritten = λ either. sym ends.stand.handed ∙ ap (λ out. (sink.handed out).known) (answers.unwritten either) ∙ made.stand.handed;
      notes = λ bytes given. let so = answers.noted bytes (input bytes given) in noted_so (asked.answer bytes).notes so.notes_prefix so.notes_whole;
      notes_fault = λ fault line. let so = answers.noted_fault fault (record { output = []; notes = line; status = ended.status }) in noted_so line so.notes_prefix so.notes_whole;
    }

  pub streams_answered : (asked : Asked) → Answers source sink notes status from to asked → AnswersStreams remaining contents noted old ended asked
  streams_answered asked answers = streams_answered_so asked (subst (λ n. Answers source sink notes n from to asked) (sym ends.same_status) answers)

  streams_left_so : (kind : ErrorKind) → AnswersNoWords notes ended.status from to kind → LeavesStreams remaining contents noted old ended kind
  streams_left_so kind answers = record {
    known = omega (arith, answers.noted.known);
    no_memory = answers.noted.no_memory;
    no_text = answers.noted.no_text;
    notes = noted_so (words_line BadValue) answers.noted.line_prefix answers.noted.line_whole;
    unread = sym ends.stand.left ∙ ap source.left answers.unread ∙ made.stand.left;
    unwritten = sym ends.stand.handed ∙ ap (λ out. (sink.handed out).known) answers.unwritten ∙ made.stand.handed;
    no_read_faults = ends.read_faults ∙ ap source.faults answers.unread ∙ made.no_read_faults;
    no_write_faults = ends.write_faults ∙ ap sink.faults answers.unwritten ∙ made.no_write_faults;
  }

  -- so it is with words that can't be read
  pub streams_left : (kind : ErrorKind) → AnswersNoWords notes status from to kind → LeavesStreams remaining contents noted old ended kind
  streams_left kind answers = streams_left_so kind (subst (λ n. AnswersNoWords notes n from to kind) (sym ends.same_status) answers)

  -- what a status says of the input that was left is so with the status of the process, and of the input that it had
  pub said_of_input : (P : ℕ → List ℕ → Type 0) → IfSome (source.left from.source) (P status) → IfSome (remaining old.source) (P ended.status)
  said_of_input P said =
      subst (λ left. IfSome left (P ended.status)) made.stand.left
      (subst (λ n. IfSome (source.left from.source) (P n)) (sym ends.same_status) said)

-- a process whose words were read has answered to them, and one whose words couldn't be read to none
module _ {I O N W : Type 0} (remaining : I → Option (List ℕ)) (contents : O → Option (List ℕ)) (noted : N → Option (List ℕ)) (asked_by : List (String Global) → Asked) (items : W → List (String Global))
    (old : Streams I O N) (ended : ProcessEnd I O N) where
  some_words : (words : Result W ErrorKind) → IfOk words (λ list. AnswersStreams remaining contents noted old ended (asked_by (items list)))
      → IfErr words (LeavesStreams remaining contents noted old ended)
      → ((words : List (String Global)) × AnswersStreams remaining contents noted old ended (asked_by words)) ⊎ ((kind : ErrorKind) × LeavesStreams remaining contents noted old ended kind)
  some_words (Ok list) read unread = inl (items list, read)
  some_words (Err kind) read unread = inr (kind, unread)

  pub process_ends : (told : ℕ) (words : Result W ErrorKind) → told ≡ ended.status
      → IfOk words (λ list. AnswersStreams remaining contents noted old ended (asked_by (items list)))
      → IfErr words (LeavesStreams remaining contents noted old ended) → EndsProcess remaining contents noted told old asked_by
  process_ends told words same read unread = record { ended = ended; same_status = sym same; answers = some_words words read unread }
