-- Stretches of a run: events one after another, of a whole bucket or a part of one.
use Rattle.std.specs.Prelude.{◌≡◌, ℕ, ◌<◌, List, length, Option, Some, None}
use Rattle.event_key.specs.declared.key.Key.{Key}
use Rattle.model_core.specs.declared.note.Note.{Note}
use Rattle.model_core.specs.Meaning.{Meaning}
use Rattle.sim_spec.specs.declared.stop.Stop.TheVariants.{Fault}
use Rattle.sim_spec.specs.declared.terms.Terms.{Terms}
use Rattle.sim_spec.specs.Run.{stops, next, Leads}
use Rattle.sim_spec.specs.Standing.{Standing, stands, ended}
use Rattle.sim_spec.specs.State.{State}

-- an engine that stood at a state has done these events of its run, and stands where they lead, with the fault that comes
-- next, if it met one: there is an event, unless it has ended there
pub record IsStretch (m : Meaning) (t : Terms) (old : Standing) (done : List (Key × Note)) (new : Standing) : Type 0 where
  pub from : State
  pub begins : old ≡ stands from None
  pub last : State
  pub fault : Option (Key × ℕ)
  pub ends : new ≡ stands last fault
  pub leads : Leads m t from done last
  pub failed : (f : Key × ℕ) → fault ≡ Some f → next m t last ≡ stops (Fault f.0 f.1)
  pub some : ended m t new ≡ None → 0 < length done
