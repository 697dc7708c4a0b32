-- What is handed on and noted, and what is answered to words.
use Rattle.std.proofs.Common.{◌≡◌, ◌≢◌, ◌≤◌, ◌⊎◌, List, [], ◌++◌, append_assoc, Option, Some, None, ℕ, Result, Ok, Err, inl, inr, refl, sym, ap, ◌∙◌, subst, arith}
use Rattle.std.specs.Prelude.{IfErr, IfOk, OnErr}
use Rattle.std.specs.Io.KnownBytes.{Appends as AppendsKnown}
use Rattle.std.specs.declared.io.ErrorKind.{ErrorKind}
use Rattle.std.proofs.KnownBytes.{Appends-trans}
use Rattle.sim_io.specs.Taken.{Taken, Appends}
use Rattle.sim_io.proofs.TakenLemmas.{Appends-kept}
use Rattle.sim_io.specs.declared.streams.sink.Sink.{Ghosts as Sink}
use Rattle.sim_io.specs.declared.streams.source.Source.{Ghosts as Source}
use Rattle.sim_io.specs.declared.words.WordFault.TheVariants.{BadValue}
use Rattle.sim_io.specs.Causes.{Rose}
use Rattle.sim_io.specs.Transfers.{AppendsPrefix, KeepsBackSome}
use Rattle.program_answers.specs.declared.ending.Ending.{Ending}
use Rattle.program_answers.specs.declared.ending.Ending.TheVariants.{RefusedWords, OutOfMemory}
use Rattle.program_answers.specs.declared.status.TheConstants.{WORDS, OUT_OF_MEMORY}
use Rattle.program_answers.specs.Answer.{Answer, Asked, words_line, HandsOnPrefix, WritesPrefix}
use Rattle.program_answers.specs.Answered.{Answers, AnswersNoWords, EndsAsked, EndsWith, HandsOnAnswer, NotesAnswer, NotesEnding, NotesNoWords, Streams, TellsWriting, streams}
use Rattle.program_answers.specs.Endings.{status_of_ending, line_of_ending, IsAnswering, IsRefusal, TellsFault}
use Rattle.program_answers.proofs.EndingLemmas.{completes, known_status, noted}

pub on_err_map : {T E P Q : Type 0} (r : Result T E) → (P → Q) → OnErr r P → OnErr r Q
on_err_map (Ok x) f p = tt
on_err_map (Err e) f p = f p

-- what was handed on of a prefix of the output is a prefix of it
known_prefix : (taken told handed : Option (List ℕ)) (front back rest : List ℕ) (a : Answer) → a.output ≡ front ++ back
    → AppendsKnown taken told front → AppendsKnown handed told rest
    → HandsOnPrefix taken handed a
known_prefix None told handed front back rest a is written kept = tt
known_prefix (Some before) None handed front back rest a is written kept = absurd written
known_prefix (Some before) (Some now) handed front back rest a is written kept = (
  rest ++ back,
  Appends-trans handed (Some now) (Some (before ++ a.output)) rest back kept
      (ap (λ xs. before ++ xs) is ∙ sym (append_assoc before front back) ∙ ap (λ xs. xs ++ back) (sym written)),
)

pub hands_on_prefix : (taken told handed : Taken) (a : Answer) → WritesPrefix taken told a → KeepsBackSome told handed
    → HandsOnPrefix taken.known handed.known a
hands_on_prefix taken told handed a part back =
    known_prefix taken.known told.known handed.known part.0 part.1 back.0 a part.2 part.3.known back.1.known

-- a status that tells of a fault is none of an answer
tells_none : (status : ℕ) → TellsFault status → IsAnswering status → ⊥
tells_none status (inl is) done = done.0 is
tells_none status (inr (inl is)) done = done.1 is
tells_none status (inr (inr is)) done = done.2 is

module _ {N : Type 0} (notes : Sink N) (old new : N) (ending : Ending) where
  -- the line of the ending is what is noted with its status
  notes_line : {status : ℕ} (a : Answer) → NotesEnding notes old new status ending
      → (IsAnswering (status_of_ending ending) → line_of_ending ending ≡ a.notes)
      → NotesAnswer notes old new (status_of_ending ending) a
  notes_line a noted_so line = record {
    notes_prefix = subst (AppendsPrefix (notes.told old) (notes.told new)) (noted ending _ line) noted_so.line_prefix;
    notes_whole = subst (λ text. Appends (notes.told old) (notes.told new) text ⊎ Rose (notes.faults old) (notes.faults new)) (noted ending _ line) noted_so.line_whole;
  }

  -- where words can't be read, that is the line of a word that is no text, or of want of memory
  pub notes_no_words : {status : ℕ} (kind : ErrorKind) → NotesEnding notes old new status ending → IsRefusal WORDS (words_line BadValue) ending
      → (kind ≡ ErrorKind.OutOfMemory → ending ≡ OutOfMemory) → (kind ≢ ErrorKind.OutOfMemory → ending ≡ RefusedWords BadValue)
      → NotesNoWords notes old new status kind
  notes_no_words kind noted_so refusal no_memory no_text =
      subst (λ status. NotesNoWords notes old new status kind) (sym noted_so.same_status) (record {
        known = few refusal;
        no_memory = λ is. ap status_of_ending (no_memory is);
        no_text = λ other. ap status_of_ending (no_text other);
        line_prefix = (notes_line answer noted_so (refused refusal)).notes_prefix;
        line_whole = (notes_line answer noted_so (refused refusal)).notes_whole;
        noted_on = noted_so.noted_on;
      })
    where
      answer : Answer
      answer = record { output = []; notes = words_line BadValue; status = WORDS }

      few : IsRefusal WORDS (words_line BadValue) ending → status_of_ending ending ≤ OUT_OF_MEMORY
      few (inl spent) = (let is : status_of_ending ending ≡ OUT_OF_MEMORY = ap status_of_ending spent in omega (arith, is))
      few (inr told) = omega (arith, told.0)

      refused : IsRefusal WORDS (words_line BadValue) ending → IsAnswering (status_of_ending ending) → line_of_ending ending ≡ words_line BadValue
      refused (inl spent) done = absurd (done.2 (ap status_of_ending spent))
      refused (inr told) done = told.1

-- so a program answers to such words that does nothing else
pub answers_no_words : {S K N W : Type 0} {notes : Sink N} {status : ℕ} (source : S) (out : K) {old new : N} {words : Result W ErrorKind} {kind : ErrorKind}
    → words ≡ Err kind → NotesNoWords notes old new status kind
    → IfErr words (AnswersNoWords notes status (streams source out old) (streams source out new))
answers_no_words {notes = notes} {status = status} source out {old = old} {new = new} is so =
    subst (λ words. IfErr words (AnswersNoWords notes status (streams source out old) (streams source out new))) (sym is)
    (record { noted = so; unread = refl; unwritten = refl })

-- what holds of the words that were read
pub if_read : {W E : Type 0} {words : Result W E} {list : W} (P : W → Type 0) → words ≡ Ok list → P list → IfOk words P
if_read P is holds = subst (λ words. IfOk words P) (sym is) holds

module _ {S K N : Type 0} (notes : Sink N) (ending : Ending) (old new : Streams S K N) where
  -- an ending that was handed on gives an answer that was
  module _ {J : Type 0} (sink : Sink J) (out told : J) (writing : TellsWriting sink out told (status_of_ending ending)) (in_order : KeepsBackSome (sink.told told) (sink.handed told)) where
    hands_on : (a : Answer) → EndsWith sink out told ending a → HandsOnAnswer sink out told (status_of_ending ending) a
    hands_on a so = record {
      handed = λ done kept. Appends-kept _ _ _ _ (so.given.output done) (writing.handed done.1 kept);
      handed_prefix = hands_on_prefix (sink.told out) (sink.told told) (sink.handed told) a so.given.prefix in_order;
    }

  -- how the words end is what is answered to them, and its line is noted
  pub answers_asked : {status : ℕ} (source : Source S) (sink : Sink K) (asked : Asked) → NotesEnding notes old.notes new.notes status ending
      → EndsAsked source sink old.source new.source old.out new.out ending asked → KeepsBackSome (sink.told new.out) (sink.handed new.out)
      → Answers source sink notes status old new asked
  answers_asked source sink asked noted_so ends in_order =
      subst (λ status. Answers source sink notes status old new asked) (sym noted_so.same_status) (record {
        known = known_status ending;
        answer = λ bytes given. (ends.answer bytes given).given;
        handed = λ bytes given. hands_on sink old.out new.out ends.writing in_order (asked.answer bytes) (ends.answer bytes given);
        given = λ takes. elim (ends.given takes) [
          | inl so ↦ inl (record {
            bytes = so.bytes;
            given = so.given;
            answer = so.answer.given;
            handed = hands_on sink old.out new.out ends.writing in_order (asked.answer so.bytes) so.answer;
            noted = notes_line notes old.notes new.notes ending (asked.answer so.bytes) noted_so so.answer.line;
          })
          | inr spent ↦ inr spent
        ];
        input = ends.input;
        reading = ends.reading;
        writing = ends.writing;
        unwritten = ends.unwritten;
        noted = λ bytes given. notes_line notes old.notes new.notes ending (asked.answer bytes) noted_so (ends.answer bytes given).line;
        noted_fault = λ fault a. notes_line notes old.notes new.notes ending a noted_so (λ done. absurd (tells_none _ fault done));
        noted_on = noted_so.noted_on;
        complete = λ bytes given _. completes ending _ _ _ (ends.answer bytes given).given.same_status ends.reading.read_fault ends.writing.write_fault;
      })
