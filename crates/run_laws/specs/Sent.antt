-- What the next event of a state sends.
use Rattle.std.specs.Prelude.{ℕ, List, [], ◌∷◌, map}
use Rattle.std.specs.List.{range_with_len}
use Rattle.model_core.specs.declared.event.Event.{Event}
use Rattle.model_core.specs.Meaning.{Meaning}
use Rattle.sim_spec.specs.Firing.{Fired, goes, fails, fire}
use Rattle.sim_spec.specs.State.{State, object_at, start_event}
use Rattle.sim_spec.specs.Run.{Next, stops, does}
use Rattle.sim_spec.specs.declared.terms.Terms.{Terms}
use Rattle.run_laws.specs.Reached.{gathered}

-- the events that one sends; one that fails sends none
abbrev pub sent_by : Fired → List Event
sent_by (fails code) = []
sent_by (goes x) = x.events

abbrev pub sent_by_first : Meaning → State → List Event → List Event
sent_by_first m s [] = []
sent_by_first m s (e ∷ rest) = sent_by (fire m e.key.dest (object_at s.objects e.key.dest) e)

-- the events that the first pending event of a state sends, once it is done
unfoldable pub sent_next : Meaning → State → List Event
sent_next m s = sent_by_first m s s.pending

-- the event that happens next, where one does
abbrev pub first_of : List Event → List Event
first_of [] = []
first_of (e ∷ rest) = e ∷ []

abbrev pub event_next : State → Next → List Event
event_next s (stops stop) = []
event_next s (does told after) = first_of s.pending

-- the events that it sends
abbrev pub sends_next : Meaning → State → Next → List Event
sends_next m s (stops stop) = []
sends_next m s (does told after) = sent_next m s

-- the first n events of a run, and all that they sent
abbrev pub happened : ℕ → Meaning → Terms → List Event
happened = gathered event_next

abbrev pub all_sent : ℕ → Meaning → Terms → List Event
all_sent n m t = gathered (sends_next m) n m t

-- the initial events of a model
abbrev pub initial_events : Meaning → List Event
initial_events m = map (start_event m) (range_with_len 0 m.starts)
