-- What is told, one event after another.
use Rattle.std.proofs.Common.{◌≡◌, List, [], ◌∷◌, ◌++◌, sym, subst, append-nil, append_assoc}
use Rattle.std.specs.Prelude.{Result, Ok, OnOk}
use Rattle.event_key.specs.declared.key.Key.{Key}
use Rattle.delta_exchange.specs.declared.memory.OutOfMemory.{OutOfMemory}
use Rattle.model_core.specs.declared.note.Note.{Note}
use Rattle.one_thread.specs.Telling.{TellsAll, TellsOne}

module _ {T : Type 0} (Holds : T → List (Key × Note) → Type 0) where
  -- nothing yet
  pub tells_none : (old : T) → TellsAll Holds old [] old
  tells_none old = λ before holds. subst (Holds old) (sym (append-nil before)) holds

  -- one event more
  pub tells_more : (old mid new : T) (done : List (Key × Note)) (key : Key) (note : Note) (answer : Result (Unit {0}) OutOfMemory)
      → TellsAll Holds old done mid → TellsOne Holds mid key note answer new → answer ≡ Ok tt → TellsAll Holds old (done ++ (key, note) ∷ []) new
  tells_more old mid new done key note answer all one is_ok = λ before holds.
      let P : Result (Unit {0}) OutOfMemory → Type 0 = λ r. OnOk r (Holds new ((before ++ done) ++ (key, note) ∷ [])) in
      subst (Holds new) (append_assoc before done ((key, note) ∷ [])) (subst P is_ok (one (before ++ done) (all before holds)))
