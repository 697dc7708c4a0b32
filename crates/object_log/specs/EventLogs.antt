-- What contracts see of the log of many objects.
use Rattle.std.specs.Prelude.{ℕ, zero, suc, Bool, not, ◌&&◌, ◌==◌, List, [], ◌∷◌, ◌++◌, filter, Option, Some, None, if◌then◌else◌}
use Rattle.event_key.specs.declared.key.Key.{Key}
use Rattle.event_key.specs.Keys.{key_lt}
use Rattle.sim_spec.specs.Firing.{ObjectState}
use Rattle.object_log.specs.Dones.{Done}
use Rattle.object_log.specs.Logs.{LogView}

-- an object, and its state after all that it has processed
pub record ObjectView : Type 0 where
  pub object : ℕ
  pub state : ObjectState

-- objects at their places, and all that they have processed, in the order of the keys
pub record EventLogView : Type 0 where
  pub objects : List ObjectView
  pub done : List Done

abbrev pub done_key : Done → Key
done_key d = d.event.key

abbrev pub is_of : ℕ → Done → Bool
is_of object d = d.event.key.dest == object

-- what one object has processed
abbrev pub dones_at : ℕ → List Done → List Done
dones_at object = filter (is_of object)

-- the state of the object with this number, if it is here
abbrev pub or_else : Bool → ObjectState → Option ObjectState → Option ObjectState
or_else here s more = if here then Some s else more

unfoldable pub state_in : List ObjectView → ℕ → Option ObjectState
state_in [] object = None
state_in (o ∷ os) object = or_else (o.object == object) o.state (state_in os object)

-- the log of an object
abbrev pub log_with : List Done → ℕ → ObjectState → LogView
log_with done object state = record { object = object; state = state; done = dones_at object done }

abbrev pub slot_of : List Done → ℕ → Option ObjectState → Option LogView
slot_of done object None = None
slot_of done object (Some s) = Some (log_with done object s)

-- the log of the object with this number, if it is here
abbrev pub slot_in : EventLogView → ℕ → Option LogView
slot_in log object = slot_of log.done object (state_in log.objects object)

-- the logs of the first n objects of a model, as a node shows them
unfoldable pub logs_upto : EventLogView → ℕ → List (Option LogView)
logs_upto log zero = []
logs_upto log (suc n) = logs_upto log n ++ slot_in log n ∷ []

-- an event that a rollback of an object to a key leaves: it is another object's, or comes before the key
abbrev pub stays : ℕ → Key → Done → Bool
stays object key d = not (is_of object d && not (key_lt d.event.key key))

abbrev pub rolled_back : ℕ → Key → List Done → List Done
rolled_back object key = filter (stays object key)
