-- The state of a simulation.
use Rattle.std.specs.Prelude.{◌≡◌, ◌⊎◌, ℕ, ◌+◌, ◌*◌, ◌^◌, ◌<◌, ◌≤◌, IsTrue, map, List, [], ◌∷◌, length, slice_index_or}
use Rattle.std.specs.List.{range_with_len}
use Rattle.event_key.specs.declared.key.TheConstants.{INITIAL, MOST_RANK}
use Rattle.event_key.specs.Stamps.{stamp_at, time_part}
use Rattle.model_core.specs.declared.event.Event.{Event}
use Rattle.model_core.specs.declared.event.Start.{Start}
use Rattle.model_core.specs.Meaning.{Meaning}
use Rattle.sim_spec.specs.declared.terms.Terms.{Terms}
use Rattle.sim_spec.specs.Firing.{ObjectState}
use Rattle.key_order.specs.Ascending.{IsAscending}
use Rattle.key_order.specs.Pending.{enqueue_all}

-- the states of the objects, the pending events in the order of their keys, and how many events are done
pub record State : Type 0 where
  pub objects : List ObjectState
  pub pending : List Event
  pub count : ℕ

-- what stands where there is no object
abbrev pub no_object : ObjectState
no_object = record { cells = record { words = []; lines = [] }; sent = 0 }

abbrev pub object_at : List ObjectState → ℕ → ObjectState
object_at objects i = slice_index_or objects i no_object

-- an event has a destination, and is an initial one or one that its source has sent
pub record IsSound (m : Meaning) (objects : List ObjectState) (e : Event) : Type 0 where
  pub dest : e.key.dest < m.objects
  pub time : time_part e.key.stamp < 2 ^ 47
  pub rank : e.key.rank ≤ MOST_RANK
  pub source : ((e.key.src ≡ INITIAL) × (e.key.serial < m.starts)) ⊎ ((e.key.src < m.objects) × (e.key.serial < (object_at objects e.key.src).sent))

unfoldable pub AllSound : Meaning → List ObjectState → List Event → Type 0
AllSound m objects [] = Unit {0}
AllSound m objects (e ∷ es) = IsSound m objects e × AllSound m objects es

pub record Lawful (m : Meaning) (t : Terms) (s : State) : Type 0 where
  pub objects : length s.objects ≡ m.objects
  pub cells : (i : ℕ) → i < m.objects → IsTrue (m.lawful i (object_at s.objects i).cells)
  pub sent : (i : ℕ) → i < m.objects → (object_at s.objects i).sent ≤ 8 * s.count
  pub ordered : IsAscending s.pending
  pub sound : AllSound m s.objects s.pending
  pub few : length s.pending ≤ 400000 + 8 * s.count
  pub count : s.count ≤ t.limit

-- an object at the start
abbrev pub first_object : Meaning → ℕ → ObjectState
first_object m i = record { cells = m.first i; sent = 0 }

-- the initial event with this number
abbrev pub event_of_start : ℕ → Start → Event
event_of_start i start = record {
  key = record { stamp = stamp_at start.time 0; rank = start.rank; dest = start.dest; src = INITIAL; serial = i };
  kind = start.kind;
  a = start.a;
  b = start.b;
}

abbrev pub start_event : Meaning → ℕ → Event
start_event m i = event_of_start i (m.start_at i)

-- where a simulation begins
unfoldable pub initial_state : Meaning → State
initial_state m = record {
  objects = map (first_object m) (range_with_len 0 m.objects);
  pending = enqueue_all (map (start_event m) (range_with_len 0 m.starts)) [];
  count = 0;
}
