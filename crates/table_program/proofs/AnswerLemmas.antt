-- How a table ends, and what is answered so.
use Rattle.std.proofs.Common.{◌≡◌, ◌≤◌, ◌<◌, ◌^◌, ℕ, Bool, true, false, List, [], ◌∷◌, Option, Some, None, Result, Ok, Err, inl, inr, refl, sym, ap, ◌∙◌, arith}
use Rattle.std.specs.Prelude.{IfOk, IfSome, IsErrOf, OnErr, OnOk, if◌then◌else◌, unwrap_or}
use Rattle.std.specs.List.{list_any}
use Rattle.sim_io.specs.Taken.{Appends, Keeps}
use Rattle.model_reader.specs.Checks.{Checked}
use Rattle.sim_io.specs.declared.streams.reading.TheConstants.{ENOUGH_BYTES}
use Rattle.sim_io.specs.declared.streams.sink.Sink.{Ghosts as Sink}
use Rattle.sim_io.specs.declared.words.WordFault.{WordFault}
use Rattle.sim_io.specs.Causes.{Rose}
use Rattle.sim_io.specs.Transfers.{AppendsPrefix, TakesUpTo}
use Rattle.sim_spec.specs.declared.stop.Stop.{Stop}
use Rattle.sim_spec.specs.declared.stop.Stop.TheVariants.{End, Limit, Fault}
use Rattle.sim_text.specs.declared.unfinished.Unfinished.{Unfinished}
use Rattle.program_answers.specs.declared.ending.Ending.{Ending}
use Rattle.program_answers.specs.declared.ending.Ending.TheVariants.{Stopped}
use Rattle.program_answers.specs.declared.status.TheConstants.{END, EVENT_FAULT, EVENT_LIMIT, OUT_OF_MEMORY}
use Rattle.program_answers.specs.Answer.{answer_to_fault, status_of_stop}
use Rattle.program_answers.specs.Answered.{EndsModel}
use Rattle.sim_io.specs.declared.streams.reading.ReadEnd.{ReadEnd}
use Rattle.program_answers.specs.Endings.{status_of_ending, ending_of, ending_of_read, IsRefusal}
use Rattle.program_answers.proofs.EndingLemmas.{no_memory_ends, stop_of_model, whole_ends, write_fault_ends}
use Rattle.replications.specs.declared.words.Replicate.{Replicate}
use Rattle.replications.specs.declared.words.TheConstants.{LAST_SEED}
use Rattle.replications.specs.ReplicateWords.{IsGivenWithin}
use Rattle.replications.specs.Studies.{StudyOf, graver, gravest, stops_between, table_text}
use Rattle.table_program.specs.Families.{FamilyOf, FamilyReading, FamilyLaws}
use Rattle.table_program.specs.TableAnswers.{is_fault, is_limit, status_of_stops, answer_to_study, answer_to_read, answer_to_words}

-- the status of the gravest stop tells whether some run stopped at a fault, or else some at its limit
pub gravest-status : (stops : List Stop) → status_of_stop (gravest stops) ≡ status_of_stops stops
unfolding gravest
gravest-status [] = refl
gravest-status (End ∷ rest) = gravest-status rest
gravest-status (Limit ∷ rest) = by (gravest rest) (list_any is_fault rest) (list_any is_limit rest) (gravest-status rest)
  where
    by : (stop : Stop) (fault limit : Bool) → status_of_stop stop ≡ (if fault then EVENT_FAULT else if limit then EVENT_LIMIT else END)
        → status_of_stop (graver Limit stop) ≡ (if fault then EVENT_FAULT else EVENT_LIMIT)
    by End true limit is = absurd (let clash : 0 ≡ 1 = is in omega (arith, clash))
    by End false limit is = refl
    by Limit true limit is = absurd (let clash : 7 ≡ 1 = is in omega (arith, clash))
    by Limit false limit is = refl
    by (Fault key code) true limit is = refl
    by (Fault key code) false true is = absurd (let clash : 1 ≡ 7 = is in omega (arith, clash))
    by (Fault key code) false false is = absurd (let clash : 1 ≡ 0 = is in omega (arith, clash))
gravest-status (Fault key code ∷ rest) = refl

pub known_outcome : (outcome : Result Stop Unfinished) → status_of_ending (ending_of outcome) ≤ EVENT_LIMIT
known_outcome (Ok End) = omega arith
known_outcome (Ok Limit) = omega arith
known_outcome (Ok (Fault key code)) = omega arith
known_outcome (Err Unfinished.WriteFault) = omega arith
known_outcome (Err Unfinished.OutOfMemory) = omega arith

pub known_read : (end : ReadEnd) → status_of_ending (ending_of_read end) ≤ EVENT_LIMIT
known_read ReadEnd.Failed = omega arith
known_read ReadEnd.OutOfMemory = omega arith

pub known_refusal : (status : ℕ) (line : List ℕ) (ending : Ending) → IsRefusal status line ending → status ≤ EVENT_LIMIT
    → status_of_ending ending ≤ EVENT_LIMIT
known_refusal status line ending (inl spent) low = (let is : status_of_ending ending ≡ OUT_OF_MEMORY = ap status_of_ending spent in omega (arith, is))
known_refusal status line ending (inr told) low = omega (arith, told.0, low)

-- the seed of the first replication is one
pub first_seed-below : (o : Option ℕ) (own : ℕ) → IsGivenWithin 0 LAST_SEED o → own < 2 ^ 63 → unwrap_or o own < 2 ^ 63
first_seed-below None own fine below = below
first_seed-below (Some n) own fine below = omega (arith, fine.1)

module _ {K : Type 0} (sink : Sink K) (old new : K) (s : StudyOf) (count : ℕ) where
  -- how a table that was to be written ends
  pub table_ends : (outcome : Result Stop Unfinished) → OnOk outcome (Appends (sink.told old) (sink.told new) (table_text s count))
      → OnOk outcome (Keeps (sink.told new) (sink.handed new)) → (IsErrOf outcome Unfinished.OutOfMemory → Keeps (sink.told new) (sink.handed new))
      → IfOk outcome (λ worst. worst ≡ gravest (stops_between s 0 count))
      → OnErr outcome (AppendsPrefix (sink.told old) (sink.told new) (table_text s count))
      → (IsErrOf outcome Unfinished.WriteFault → Rose (sink.faults old) (sink.faults new)) → OnOk outcome (sink.faults new ≡ sink.faults old)
      → (IsErrOf outcome Unfinished.OutOfMemory → sink.faults new ≡ sink.faults old)
      → EndsModel sink old new (ending_of outcome) (answer_to_study s count)
  unfolding answer_to_study
  table_ends (Ok stop) whole handed handed_so_far stops part fault quiet no_memory =
      whole_ends sink old new (Stopped stop) _ (stop_of_model stop) whole
      (ap status_of_stop stops ∙ gravest-status (stops_between s 0 count)) refl quiet (λ _. handed)
  table_ends (Err Unfinished.WriteFault) whole handed handed_so_far stops part fault quiet no_memory =
      write_fault_ends sink old new _ part (fault refl)
  table_ends (Err Unfinished.OutOfMemory) whole handed handed_so_far stops part fault quiet no_memory =
      no_memory_ends sink old new _ part (no_memory refl) (λ _. handed_so_far refl)

module _ (reading : FamilyReading) where
  -- the answer to what was read is the one to what was taken
  pub slice_answers : (taken slice : List ℕ) (asked : Replicate) (read : Checked FamilyOf) → slice ≡ taken → reading.read slice ≡ read
      → answer_to_read reading asked read ≡ answer_to_read reading asked (reading.read taken)
  slice_answers taken slice asked read is_slice is_read = ap (answer_to_read reading asked) (sym is_read ∙ ap reading.read is_slice)

  -- the answer to what was read is the one to the whole input
  pub family_answers : FamilyLaws reading.read → (old new : Option (List ℕ)) (taken slice : List ℕ) (asked : Replicate) (read : Checked FamilyOf)
      → TakesUpTo ENOUGH_BYTES old new taken
      → slice ≡ taken → reading.read slice ≡ read
      → IfSome old (λ bytes. answer_to_read reading asked read ≡ answer_to_read reading asked (reading.read bytes))
  family_answers laws old new taken slice asked read took is_slice is_read = by_left old new took
    where
      by_left : (left rest : Option (List ℕ)) → TakesUpTo ENOUGH_BYTES left rest taken
          → IfSome left (λ bytes. answer_to_read reading asked read ≡ answer_to_read reading asked (reading.read bytes))
      by_left None rest took = tt
      by_left (Some bytes) None took = absurd took
      by_left (Some bytes) (Some rest) took =
          ap (answer_to_read reading asked) (sym is_read ∙ ap reading.read (is_slice ∙ took.0) ∙ laws.first_bytes bytes)

  module _ (said : Result Replicate WordFault) where
    -- what is answered to words that are accepted, and to others
    pub answer_accepted : (asked : Replicate) → said ≡ Ok asked → (bytes : List ℕ)
        → answer_to_read reading asked (reading.read bytes) ≡ answer_to_words reading said bytes
    unfolding answer_to_words
    answer_accepted asked is bytes = sym (ap (λ r. answer_to_words reading r bytes) is)

    pub answer_refused : (fault : WordFault) → said ≡ Err fault → (bytes : List ℕ) → answer_to_fault fault ≡ answer_to_words reading said bytes
    unfolding answer_to_words
    answer_refused fault is bytes = sym (ap (λ r. answer_to_words reading r bytes) is)
