-- What a run tells once it has asked its engine.
use Rattle.std.proofs.Common.{◌≡◌, ℕ, List, [], ◌∷◌, ◌++◌, Option, Result, Ok, Err, refl, ◌∙◌, ap}
use Rattle.std.specs.Prelude.{OnOk}
use Rattle.delta_exchange.specs.declared.memory.OutOfMemory.{OutOfMemory}
use Rattle.event_key.specs.declared.key.Key.{Key}
use Rattle.model_core.specs.declared.note.Note.{Note}
use Rattle.model_core.specs.Meaning.{Meaning}
use Rattle.sim_spec.specs.declared.stop.Stop.{Stop}
use Rattle.sim_spec.specs.declared.terms.Terms.{Terms}
use Rattle.sim_spec.specs.State.{State}
use Rattle.sim_spec.specs.Standing.{Standing, stands, spent, ended, IsCountAt}
use Rattle.sim_io.specs.Texts.{event_lines, record_lines}
use Rattle.sim_text.proofs.RecordLemmas.{record_lines-more}
use Rattle.model_program.specs.declared.run.told.Told.{Told}
use Rattle.model_program.specs.RunStandings.{TellsOf}

-- an engine that has a standing is asked for its end and its count
pub tells : (m : Meaning) (t : Terms) (standing at : Standing) (told : Told) (stop : Option Stop) (count : ℕ) → standing ≡ at → told.ended ≡ stop → stop ≡ ended m t standing → told.count ≡ count
    → ((s : State) (fault : Option (Key × ℕ)) → standing ≡ stands s fault → count ≡ s.count) → TellsOf m t at told
unfolding IsCountAt
tells m t standing at told stop count is ended_told ended_is count_told counted = record { ended = ended_told ∙ ended_is ∙ ap (ended m t) is; count = by at is }
  where
    by : (at : Standing) → standing ≡ at → IsCountAt at told.count
    by (stands s fault) is = count_told ∙ counted s fault is
    by spent is = tt

-- no line tells of no record
pub no_lines : (m : Meaning) (lines : List ℕ) → lines ≡ [] → lines ≡ record_lines m []
unfolding record_lines
no_lines m lines empty = empty

-- lines hold what is told of one record more, unless that was refused
pub lines_more : (answer : Result (Unit {0}) OutOfMemory) (m read : Meaning) (records : List (Key × Note)) (key : Key) (note : Note) (before after : List ℕ) → read ≡ m → before ≡ record_lines m records
    → OnOk answer (after ≡ before ++ event_lines read key note) → OnOk answer (after ≡ record_lines m (records ++ (key, note) ∷ []))
lines_more (Ok x) m read records key note before after same is put = record_lines-more m records key note before after is (put ∙ ap (λ m. before ++ event_lines m key note) same)
lines_more (Err e) m read records key note before after same is put = tt
