-- What a program that writes tables writes, what it notes, and the status with which it ends.
use Rattle.std.specs.Prelude.{ℕ, Bool, true, false, ◌&&◌, if◌then◌else◌, List, [], is_err, is_ok, unwrap_or, Result, Ok, Err}
use Rattle.std.specs.List.{list_any}
use Rattle.model_reader.specs.Checks.{Checked}
use Rattle.sim_io.specs.declared.streams.reading.TheConstants.{ENOUGH_BYTES}
use Rattle.sim_io.specs.declared.words.WordFault.{WordFault}
use Rattle.sim_spec.specs.declared.stop.Stop.{Stop}
use Rattle.sim_spec.specs.declared.stop.Stop.TheVariants.{Limit, Fault}
use Rattle.program_answers.specs.declared.status.TheConstants.{END, EVENT_FAULT, EVENT_LIMIT}
use Rattle.program_answers.specs.Answer.{Answer, Asked, answer_to_fault, answer_to_refusal}
use Rattle.replications.specs.declared.words.Replicate.{Replicate}
use Rattle.replications.specs.ReplicateWords.{replicate_settings}
use Rattle.replications.specs.Studies.{StudyOf, stops_between, table_text}
use Rattle.table_program.specs.Families.{FamilyOf, FamilyReading}

abbrev pub is_fault : Stop → Bool
is_fault (Fault key code) = true
is_fault other = false

abbrev pub is_limit : Stop → Bool
is_limit Limit = true
is_limit other = false

-- whether some run stopped at a fault, or else some at its limit
abbrev pub status_of_stops : List Stop → ℕ
status_of_stops stops = if list_any is_fault stops then EVENT_FAULT else if list_any is_limit stops then EVENT_LIMIT else END

-- the answer to a study of so many replications is its table
unfoldable pub answer_to_study : StudyOf → ℕ → Answer
answer_to_study s count = record { output = table_text s count; notes = []; status = status_of_stops (stops_between s 0 count) }

-- the study of a text with this head line: the first seed is the one of the words, or else the text's own
abbrev pub study_asked : List ℕ → Replicate → FamilyOf → StudyOf
study_asked head asked family = record {
  with_seed = family.under;
  rows = family.rows;
  head = head;
  terms = family.terms;
  first_tick = asked.first_tick;
  first_seed = unwrap_or asked.first_seed family.seed;
}

-- the answer to what a text describes
abbrev pub answer_to_family : List ℕ → Replicate → FamilyOf → Answer
answer_to_family head asked family = answer_to_study (study_asked head asked family) asked.count

module _ (reading : FamilyReading) where
  -- the answer to a text that was read, or refused
  unfoldable pub answer_to_read : Replicate → Checked FamilyOf → Answer
  answer_to_read asked (Err refused) = answer_to_refusal refused.code (reading.code_name refused.code) refused.item
  answer_to_read asked (Ok family) = answer_to_family reading.head asked family

  unfoldable pub answer_to_words : Result Replicate WordFault → List ℕ → Answer
  answer_to_words (Err fault) bytes = answer_to_fault fault
  answer_to_words (Ok asked) bytes = answer_to_read asked (reading.read bytes)

  -- what words ask for: the input is read unless they are refused, and has to be a model
  abbrev pub table_asked_by : List (List ℕ) → Asked
  table_asked_by words =
      let said = replicate_settings reading.start words in
      record { refused = is_err said; takes = is_ok said; most = ENOUGH_BYTES; accepts = λ bytes. is_ok said && is_ok (reading.read bytes); answer = answer_to_words said }
