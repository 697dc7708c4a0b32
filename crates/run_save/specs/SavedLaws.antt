-- What is written is read again, and what is read was written.
use Rattle.std.specs.Prelude.{◌≡◌, ℕ, ◌<◌, ◌≤◌, ◌^◌, List, length, Ok}
use Rattle.std.specs.List.{AllByRecursion}
use Rattle.delta_exchange.specs.Changes.{CellData}
use Rattle.event_key.specs.declared.key.Key.{Key}
use Rattle.model_core.specs.declared.event.Event.{Event}
use Rattle.model_core.specs.declared.limits.TheConstants.{MOST_OBJECTS, MOST_TEXT_BYTES}
use Rattle.model_reader.specs.Checks as models
use Rattle.model_reader.specs.Readings.{ModelOf}
use Rattle.sim_spec.specs.Firing.{ObjectState}
use Rattle.sim_spec.specs.State.{State, Lawful}
use Rattle.run_save.specs.declared.reading.TheConstants.{MOST_STATE_BYTES}
use Rattle.run_save.specs.StateTexts.{state_text}
use Rattle.run_save.specs.SavedStates.{SavedState, state_of}

-- lists of numbers of 64 bits
pub record IsLine (ns : List ℕ) : Type 0 where
  pub many : length ns < 2 ^ 64
  pub each : AllByRecursion (λ n. n < 2 ^ 64) ns

-- numbers that the types hold
pub record FitsCells (cells : CellData) : Type 0 where
  pub words : IsLine cells.words
  pub many : length cells.lines < 2 ^ 64
  pub lines : AllByRecursion IsLine cells.lines

pub record FitsObject (o : ObjectState) : Type 0 where
  pub cells : FitsCells o.cells
  pub sent : o.sent < 2 ^ 64

pub record FitsKey (k : Key) : Type 0 where
  pub rank : k.rank < 2 ^ 32
  pub dest : k.dest < 2 ^ 32
  pub src : k.src < 2 ^ 32
  pub serial : k.serial < 2 ^ 64

pub record FitsEvent (e : Event) : Type 0 where
  pub key : FitsKey e.key
  pub kind : e.kind < 2 ^ 32
  pub a : e.a < 2 ^ 64
  pub b : e.b < 2 ^ 64

pub record FitsTypes (s : State) : Type 0 where
  pub count : s.count < 2 ^ 64
  pub objects : AllByRecursion FitsObject s.objects
  pub many : length s.pending < 2 ^ 64
  pub pending : AllByRecursion FitsEvent s.pending

-- what a state comes to with a model
abbrev pub saved_with : ModelOf → State → SavedState
saved_with read s = record { model = read; state = s }

-- over the models that a reader reads
module _ (model_of : List ℕ → models.Checked ModelOf) where
  -- a state of a model that these bytes say, with a text that isn't too long
  pub record IsSavable (s : State) (model : List ℕ) (read : ModelOf) : Type 0 where
    pub reads : model_of model ≡ Ok read
    pub some_bytes : 0 < length model
    pub few_bytes : length model ≤ MOST_TEXT_BYTES
    pub few_objects : length s.objects ≤ MOST_OBJECTS
    pub lawful : Lawful read.meaning read.terms s
    pub fits : FitsTypes s
    pub short : length (state_text s model) ≤ MOST_STATE_BYTES

  -- the text of such a state is read as that state, with its model and terms
  abbrev pub WrittenIsRead : Type 0
  WrittenIsRead =
      (s : State) (model : List ℕ) (read : ModelOf) → IsSavable s model read
      → state_of model_of (state_text s model) ≡ Ok (saved_with read s)

  -- the bytes are the text of a state, with the bytes of a model
  pub record IsTextOf (bytes : List ℕ) (saved : SavedState) : Type 0 where
    pub model : List ℕ
    pub text : bytes ≡ state_text saved.state model
    pub savable : IsSavable saved.state model saved.model

  -- what is read was written so
  abbrev pub ReadIsWritten : Type 0
  ReadIsWritten = (bytes : List ℕ) (saved : SavedState) → state_of model_of bytes ≡ Ok saved → IsTextOf bytes saved
