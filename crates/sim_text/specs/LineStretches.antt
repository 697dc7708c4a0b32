-- A stretch of a run that writes the lines of its own events.
use Rattle.std.specs.Prelude.{◌≡◌, ℕ, List, Option, None, Result, OnOk}
use Rattle.delta_exchange.specs.declared.memory.OutOfMemory.{OutOfMemory}
use Rattle.event_key.specs.declared.key.Key.{Key}
use Rattle.model_core.specs.declared.note.Note.{Note}
use Rattle.model_core.specs.Meaning.{Meaning}
use Rattle.run_recorder.specs.Stretches.{IsStretch}
use Rattle.sim_spec.specs.declared.terms.Terms.{Terms}
use Rattle.sim_spec.specs.Run.{Leads}
use Rattle.sim_spec.specs.Standing.{Standing, stands, ended}
use Rattle.sim_spec.specs.State.{State}
use Rattle.sim_io.specs.Taken.{Taken, Appends}
use Rattle.sim_io.specs.Texts.{record_lines}

-- a run has come to a standing by these events: all their lines were written
pub record HasToldEvents (m : Meaning) (t : Terms) (from : State) (old now : Taken) (at : Standing) : Type 0 where
  pub done : List (Key × Note)
  pub state : State
  pub fault : Option (Key × ℕ)
  pub at_state : at ≡ stands state fault
  pub leads : Leads m t from done state
  pub told : Appends old now (record_lines m done)

module _ {E : Type 0} (meaning : E → Meaning) (terms : E → Terms) (StandsIn : E → Standing → Type 0) where
  -- an engine that stood there has done a stretch of its run, and has its model and its terms still
  pub record DoesStretch (old : E) (at : Standing) (done : List (Key × Note)) (new : E) : Type 0 where
    pub left : Standing
    pub stands : StandsIn new left
    pub stretch : IsStretch (meaning old) (terms old) at done left
    pub same_meaning : meaning new ≡ meaning old
    pub same_terms : terms new ≡ terms old

  -- wherever it stood and had not ended, and these are the lines of its events
  pub record HasWrittenStretch (old new : E) (lines : List ℕ) : Type 0 where
    pub done : List (Key × Note)
    pub does : (at : Standing) → StandsIn old at → ended (meaning old) (terms old) at ≡ None → DoesStretch old at done new
    pub told : lines ≡ record_lines (meaning old) done

  -- unless memory ran out
  abbrev pub WritesStretch : E → Result (Unit {0}) OutOfMemory → E → List ℕ → Type 0
  WritesStretch old answer new lines = OnOk answer (HasWrittenStretch old new lines)
