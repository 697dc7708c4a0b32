-- What a simulation asks of a state, line by line of its text.
use Rattle.std.specs.Prelude.{ℕ, ◌+◌, ◌*◌, Bool, ◌&&◌, ◌||◌, ◌==◌, nat_lt, nat_le, List, [], ◌∷◌, length, Ok}
use Rattle.event_key.specs.declared.key.TheConstants.{INITIAL, MOST_RANK}
use Rattle.event_key.specs.declared.key.Key.{Key}
use Rattle.model_core.specs.declared.event.Event.{Event}
use Rattle.model_core.specs.Meaning.{Meaning}
use Rattle.sim_spec.specs.declared.terms.Terms.{Terms}
use Rattle.sim_spec.specs.Firing.{ObjectState}
use Rattle.sim_spec.specs.State.{State, object_at}
use Rattle.run_save.specs.declared.refusal.StateCause.TheVariants.{Unlawful}
use Rattle.run_save.specs.Checks.{Checked, wanted, ◌>>=◌}

-- the lines of a text: the count, how many objects there are, each of them, how many events are pending, and each of them
abbrev pub count_line : ℕ
count_line = 2

abbrev pub objects_line : ℕ
objects_line = 3

abbrev pub object_line : ℕ → ℕ
object_line i = i + 4

abbrev pub events_line : ℕ → ℕ
events_line objects = objects + 4

abbrev pub event_line : ℕ → ℕ → ℕ
event_line objects i = objects + i + 5

-- an object has not sent more than the events that are done can send, and may have its cells
abbrev pub is_lawful_object : Meaning → ℕ → ℕ → ObjectState → Bool
is_lawful_object m count i o = nat_le o.sent (8 * count) && m.lawful i o.cells

-- the objects from a place on
unfoldable pub objects_check : Meaning → ℕ → ℕ → List ObjectState → Checked (Unit {0})
objects_check m count i [] = Ok tt
objects_check m count i (o ∷ os) = do
  lawful ← wanted (is_lawful_object m count i o) Unlawful (object_line i)
  objects_check m count (i + 1) os

-- an event that its source has sent
abbrev pub is_sent : List ObjectState → Key → Bool
is_sent objects key = nat_lt key.src (length objects) && nat_lt key.serial (object_at objects key.src).sent

-- an initial event, or one that its source has sent
abbrev pub has_source : Meaning → List ObjectState → Key → Bool
has_source m objects key = (key.src == INITIAL && nat_lt key.serial m.starts) || is_sent objects key

abbrev pub is_sound : Meaning → List ObjectState → Key → Bool
is_sound m objects key = nat_lt key.dest m.objects && nat_le key.rank MOST_RANK && has_source m objects key

-- the events from a place on
unfoldable pub events_check : Meaning → List ObjectState → ℕ → List Event → Checked (Unit {0})
events_check m objects i [] = Ok tt
events_check m objects i (e ∷ es) = do
  sound ← wanted (is_sound m objects e.key) Unlawful (event_line (length objects) i)
  events_check m objects (i + 1) es

-- a state that the simulation of a model can meet
unfoldable pub lawful_check : Meaning → Terms → State → Checked (Unit {0})
lawful_check m t s = do
  within ← wanted (nat_le s.count t.limit) Unlawful count_line
  all ← wanted (length s.objects == m.objects) Unlawful objects_line
  objects ← objects_check m s.count 0 s.objects
  few ← wanted (nat_le (length s.pending) (400000 + 8 * s.count)) Unlawful (events_line (length s.objects))
  events_check m s.objects 0 s.pending
