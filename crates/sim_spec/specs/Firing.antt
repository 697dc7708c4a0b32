-- What an event does to its object.
use Rattle.std.specs.Prelude.{ℕ, ◌+◌, Bool, List, [], ◌∷◌, length, if◌then◌else◌}
use Rattle.std.specs.List.{list_any}
use Rattle.event_key.specs.Stamps.{next_stamp, has_no_step}
use Rattle.delta_exchange.specs.declared.change.Change.{Change}
use Rattle.delta_exchange.specs.Changes.{CellData, cells_after_all, inverses_of}
use Rattle.model_core.specs.declared.event.Event.{Event}
use Rattle.model_core.specs.declared.event.Send.{Send}
use Rattle.model_core.specs.declared.note.Note.{Note}
use Rattle.model_core.specs.declared.effect.Effect.{Effect}
use Rattle.model_core.specs.declared.effect.Outcome.{Outcome}
use Rattle.model_core.specs.declared.effect.Outcome.TheVariants.{Goes, Fails}
use Rattle.model_core.specs.Meaning.{Meaning}

-- an object's cells, and how many events it has sent
pub record ObjectState : Type 0 where
  pub cells : CellData
  pub sent : ℕ

-- what an event leaves of its object, the events that it sends, what undoes its changes, and what is told
pub record Firing : Type 0 where
  pub state : ObjectState
  pub events : List Event
  pub undo : List Change
  pub note : Note

-- an event goes, or fails with a code and leaves everything as it was
pub data Fired : Type 0 where
  goes : Firing → Fired
  fails : ℕ → Fired

-- something is sent without delay from the last step of a tick
unfoldable pub has_endless_chain : ℕ → List Send → Bool
has_endless_chain stamp sends = list_any (λ s. has_no_step stamp s.delay) sends

-- the event that an object sends, with this serial
abbrev pub emission : ℕ → ℕ → ℕ → Send → Event
emission stamp object serial s = record {
  key = record { stamp = next_stamp stamp s.delay; rank = s.rank; dest = s.dest; src = object; serial = serial };
  kind = s.kind;
  a = s.a;
  b = s.b;
}

-- the events that an object sends, with serials from this one on
unfoldable pub emissions : ℕ → ℕ → ℕ → List Send → List Event
emissions stamp object serial [] = []
emissions stamp object serial (s ∷ rest) = emission stamp object serial s ∷ emissions stamp object (serial + 1) rest

-- what an event with this effect leaves
abbrev pub firing_of : ℕ → ObjectState → Event → Effect → Firing
firing_of object state event x = record {
  state = record { cells = cells_after_all x.changes state.cells; sent = state.sent + length x.sends };
  events = emissions event.key.stamp object state.sent x.sends;
  undo = inverses_of x.changes state.cells;
  note = x.note;
}

-- what comes of an outcome: the model's fault first, then the fault of a chain without end in one tick
unfoldable pub fired_by : ℕ → ObjectState → Event → Outcome → Fired
fired_by object state event (Fails code) = fails code
fired_by object state event (Goes x) = if has_endless_chain event.key.stamp x.sends then fails 1 else goes (firing_of object state event x)

-- an event at an object
unfoldable pub fire : Meaning → ℕ → ObjectState → Event → Fired
fire m object state event = fired_by object state event (m.effect object state.cells event)
