-- How the program ends, and what it answers so.
use Rattle.std.proofs.Common.{◌≡◌, ◌≢◌, ◌≤◌, ℕ, List, [], inl, inr, refl, sym, ap, ◌∙◌, subst, arith}
use Rattle.sim_io.specs.Taken.{Appends, Keeps}
use Rattle.sim_io.proofs.TakenLemmas.{Appends-nil}
use Rattle.sim_spec.specs.declared.stop.Stop.{Stop}
use Rattle.sim_spec.specs.declared.stop.Stop.TheVariants.{End, Limit, Fault}
use Rattle.sim_io.specs.declared.streams.sink.Sink.{Ghosts as Sink}
use Rattle.sim_io.specs.Causes.{Rose}
use Rattle.sim_io.specs.Transfers.{AppendsPrefix}
use Rattle.sim_io.proofs.TransferLemmas.{all_prefix}
use Rattle.sim_text.proofs.WrittenLemmas.{no_prefix}
use Rattle.program_answers.specs.declared.ending.Ending.{Ending}
use Rattle.program_answers.specs.declared.ending.Ending.TheVariants.{Stopped, Saved, RefusedWords, RefusedModel, RefusedState, ReadFault, WriteFault, OutOfMemory}
use Rattle.program_answers.specs.declared.status.TheConstants.{END, WORDS, MODEL, READ_FAULT, WRITE_FAULT, STATE}
use Rattle.program_answers.specs.Answer.{Answer, refusal_line, status_of_stop}
use Rattle.program_answers.specs.Answered.{EndsModel}
use Rattle.program_answers.specs.Endings.{status_of_ending, line_of_ending, noted_line, IsAnswering, IsComplete, IsRefusal}

-- a status that tells neither of the words nor of a stream
pub record TellsOfModel (status : ℕ) : Type 0 where
  pub no_words : status ≢ WORDS
  pub no_read_fault : status ≢ READ_FAULT
  pub no_write_fault : status ≢ WRITE_FAULT

pub stop_of_model : (stop : Stop) → TellsOfModel (status_of_stop stop)
stop_of_model End = record { no_words = λ is. cc; no_read_fault = λ is. cc; no_write_fault = λ is. cc }
stop_of_model (Fault key code) = record { no_words = λ is. cc; no_read_fault = λ is. cc; no_write_fault = λ is. cc }
stop_of_model Limit = record { no_words = λ is. cc; no_read_fault = λ is. cc; no_write_fault = λ is. cc }

pub known_status : (ending : Ending) → status_of_ending ending ≤ STATE
known_status (Stopped End) = omega arith
known_status (Stopped (Fault key code)) = omega arith
known_status (Stopped Limit) = omega arith
known_status Saved = omega arith
known_status (RefusedWords fault) = omega arith
known_status (RefusedModel line) = omega arith
known_status (RefusedState line) = omega arith
known_status ReadFault = omega arith
known_status WriteFault = omega arith
known_status OutOfMemory = omega arith

-- the line of an ending is what is noted with its status
pub noted : (ending : Ending) (notes : List ℕ) → (IsAnswering (status_of_ending ending) → line_of_ending ending ≡ notes)
    → line_of_ending ending ≡ noted_line (status_of_ending ending) notes
noted (Stopped End) notes line = line ((λ is. cc), (λ is. cc), (λ is. cc))
noted (Stopped (Fault key code)) notes line = line ((λ is. cc), (λ is. cc), (λ is. cc))
noted (Stopped Limit) notes line = line ((λ is. cc), (λ is. cc), (λ is. cc))
noted Saved notes line = line ((λ is. cc), (λ is. cc), (λ is. cc))
noted (RefusedWords fault) notes line = line ((λ is. cc), (λ is. cc), (λ is. cc))
noted (RefusedModel text) notes line = line ((λ is. cc), (λ is. cc), (λ is. cc))
noted (RefusedState text) notes line = line ((λ is. cc), (λ is. cc), (λ is. cc))
noted ReadFault notes line = refl
noted WriteFault notes line = refl
noted OutOfMemory notes line = refl

pub completes : (ending : Ending) (answered : ℕ) (read_fault write_fault : Type 0)
    → (IsAnswering (status_of_ending ending) → status_of_ending ending ≡ answered)
    → (status_of_ending ending ≡ READ_FAULT → read_fault) → (status_of_ending ending ≡ WRITE_FAULT → write_fault)
    → IsComplete (status_of_ending ending) answered read_fault write_fault
completes (Stopped End) answered rf wf same r w = inl (same ((λ is. cc), (λ is. cc), (λ is. cc)))
completes (Stopped (Fault key code)) answered rf wf same r w = inl (same ((λ is. cc), (λ is. cc), (λ is. cc)))
completes (Stopped Limit) answered rf wf same r w = inl (same ((λ is. cc), (λ is. cc), (λ is. cc)))
completes Saved answered rf wf same r w = inl (same ((λ is. cc), (λ is. cc), (λ is. cc)))
completes (RefusedWords fault) answered rf wf same r w = inl (same ((λ is. cc), (λ is. cc), (λ is. cc)))
completes (RefusedModel line) answered rf wf same r w = inl (same ((λ is. cc), (λ is. cc), (λ is. cc)))
completes (RefusedState line) answered rf wf same r w = inl (same ((λ is. cc), (λ is. cc), (λ is. cc)))
completes ReadFault answered rf wf same r w = inr (inl (r refl))
completes WriteFault answered rf wf same r w = inr (inr (inl (w refl)))
completes OutOfMemory answered rf wf same r w = inr (inr (inr refl))

module _ {K : Type 0} (sink : Sink K) (old new : K) where
  -- all of the output was written, and handed on
  pub whole_ends : (ending : Ending) (a : Answer) → TellsOfModel (status_of_ending ending) → Appends (sink.told old) (sink.told new) a.output
      → status_of_ending ending ≡ a.status → line_of_ending ending ≡ a.notes
      → sink.faults new ≡ sink.faults old → (Keeps (sink.told old) (sink.handed old) → Keeps (sink.told new) (sink.handed new))
      → EndsModel sink old new ending a
  whole_ends ending a tells all same_status line quiet handed = record {
    answer = record { given = record { output = λ _. all; same_status = λ _. same_status; prefix = all_prefix _ _ _ all }; line = λ _. line };
    writing = record { write_fault = λ is. absurd (tells.no_write_fault is); write_quiet = λ _. quiet; handed = λ _. handed };
    no_words = tells.no_words;
    no_read_fault = tells.no_read_fault;
  }

  -- a write failed
  pub write_fault_ends : (a : Answer) → AppendsPrefix (sink.told old) (sink.told new) a.output → Rose (sink.faults old) (sink.faults new)
      → EndsModel sink old new WriteFault a
  write_fault_ends a part rose = record {
    answer = record { given = record { output = λ done. absurd (done.1 refl); same_status = λ done. absurd (done.1 refl); prefix = part }; line = λ done. absurd (done.1 refl) };
    writing = record { write_fault = λ _. rose; write_quiet = λ other. absurd (other refl); handed = λ other. absurd (other refl) };
    no_words = λ is. cc;
    no_read_fault = λ is. cc;
  }

  -- there was no memory left
  pub no_memory_ends : (a : Answer) → AppendsPrefix (sink.told old) (sink.told new) a.output → sink.faults new ≡ sink.faults old
      → (Keeps (sink.told old) (sink.handed old) → Keeps (sink.told new) (sink.handed new)) → EndsModel sink old new OutOfMemory a
  no_memory_ends a part quiet handed = record {
    answer = record { given = record { output = λ done. absurd (done.2 refl); same_status = λ done. absurd (done.2 refl); prefix = part }; line = λ done. absurd (done.2 refl) };
    writing = record { write_fault = λ is. absurd (let clash : ⊥ = cc in clash); write_quiet = λ _. quiet; handed = λ _. handed };
    no_words = λ is. cc;
    no_read_fault = λ is. cc;
  }

module _ {K : Type 0} (sink : Sink K) (out : K) where
  -- there was no memory left before anything was written
  pub no_memory_left : (a : Answer) → EndsModel sink out out OutOfMemory a
  no_memory_left a = no_memory_ends sink out out a (no_prefix _ _) refl (λ kept. kept)

  -- what was given is refused
  pub refusal_ends : (status : ℕ) (line : List ℕ) (ending : Ending) → IsRefusal status line ending → TellsOfModel status
      → EndsModel sink out out ending (record { output = []; notes = line; status = status })
  refusal_ends status line ending (inl spent) tells =
      subst (λ e. EndsModel sink out out e (record { output = []; notes = line; status = status })) (sym spent) (no_memory_left _)
  refusal_ends status line ending (inr told) tells =
      whole_ends sink out out ending _ (subst TellsOfModel (sym told.0) tells) (Appends-nil _) told.0 told.1 refl (λ kept. kept)

-- a refusal with the same code and item is the same
pub same_refusal : (ending : Ending) (code code' : ℕ) (name name' : List ℕ) (item item' : ℕ) → IsRefusal MODEL (refusal_line code name item) ending
    → code ≡ code' → name ≡ name' → item ≡ item'
    → IsRefusal MODEL (refusal_line code' name' item') ending
same_refusal ending code code' name name' item item' refusal same_code same_name same_item =
    subst (λ line. IsRefusal MODEL line ending)
    (ap (λ n. refusal_line n name item) same_code ∙ ap (λ told. refusal_line code' told item) same_name ∙ ap (refusal_line code' name') same_item) refusal

pub end_status : TellsOfModel END
end_status = record { no_words = λ is. cc; no_read_fault = λ is. cc; no_write_fault = λ is. cc }

pub model_status : TellsOfModel MODEL
model_status = record { no_words = λ is. cc; no_read_fault = λ is. cc; no_write_fault = λ is. cc }

pub state_status : TellsOfModel STATE
state_status = record { no_words = λ is. cc; no_read_fault = λ is. cc; no_write_fault = λ is. cc }
