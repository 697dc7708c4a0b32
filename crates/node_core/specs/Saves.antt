-- States of objects that are put in.
use Rattle.std.specs.Prelude.{◌≡◌, ◌≢◌, ℕ, List, [], length, Option, Some}
use Rattle.sim_spec.specs.Firing.{ObjectState}
use Rattle.object_log.specs.Logs.{LogView}
use Rattle.node_core.specs.Nodes.{NodeView, slot_at}

-- an object has this log, and the others have theirs
pub record IsPutIn (object : ℕ) (log : LogView) (old new : List (Option LogView)) : Type 0 where
  pub log_is : slot_at new object ≡ Some log
  pub others : (other : ℕ) → other ≢ object → slot_at new other ≡ slot_at old other
  pub long : length new ≡ length old

-- an object of the node has this state with nothing processed, and all else stays
pub record HasObject {M : Type 0} (object : ℕ) (state : ObjectState) (old new : NodeView M) : Type 0 where
  pub put : IsPutIn object (record { object = object; state = state; done = [] }) old.logs new.logs
  pub rest : new ≡ record old { logs = new.logs }
