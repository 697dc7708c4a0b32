-- What is told of events to what takes records.
use Rattle.std.specs.Prelude.{List, [], ◌∷◌, ◌++◌, Result, OnOk}
use Rattle.event_key.specs.declared.key.Key.{Key}
use Rattle.delta_exchange.specs.declared.memory.OutOfMemory.{OutOfMemory}
use Rattle.model_core.specs.declared.note.Note.{Note}

module _ {T : Type 0} (Holds : T → List (Key × Note) → Type 0) where
  -- what had records has these too, behind them
  abbrev pub TellsAll : T → List (Key × Note) → T → Type 0
  TellsAll old done new = (before : List (Key × Note)) → Holds old before → Holds new (before ++ done)

  -- a call tells of one event: what had records has this one too, behind them, unless the call is refused
  abbrev pub TellsOne : T → Key → Note → Result (Unit {0}) OutOfMemory → T → Type 0
  TellsOne old key note answer new = (before : List (Key × Note)) → Holds old before → OnOk answer (Holds new (before ++ (key, note) ∷ []))
