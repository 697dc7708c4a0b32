-- When a station turns a job away, and when a station or a sink fails.
use Rattle.std.specs.Prelude.{◌≡◌, ◌≢◌, ◌↔◌, ℕ, ◌-◌, ◌<◌, true, false, List, ◌∷◌, length}
use Rattle.std.specs.Option.{IsSomeAnd}
use Rattle.event_key.specs.declared.key.Key.{Key}
use Rattle.event_key.specs.Stamps.{time_part, end_stamp}
use Rattle.model_core.specs.declared.event.Event.{Event}
use Rattle.model_core.specs.declared.note.Note.{Note}
use Rattle.model_core.specs.declared.words.TheConstants.{LATE, LINE_FULL, LOST_WORD}
use Rattle.model_core.specs.Meaning.{Meaning}
use Rattle.sim_spec.specs.declared.stop.Stop.TheVariants.{Fault}
use Rattle.sim_spec.specs.declared.terms.Terms.{Terms}
use Rattle.sim_spec.specs.State.{State}
use Rattle.sim_spec.specs.Run.{stops, does, next}
use Rattle.queue_models.specs.declared.kind.KindOver.TheVariants.{Sink}
use Rattle.queue_models.specs.declared.sink.Sink.{Sink as SinkOver}
use Rattle.queue_models.specs.declared.station.Station.{Station}
use Rattle.queue_models.specs.Meaning.{plain_meaning, network_meaning}
use Rattle.queue_models.specs.Objects.{NetworkParts, object_at}
use Rattle.queue_models.specs.Parts.{IsNetwork}
use Rattle.run_laws.specs.Reached.{Reaches}
use Rattle.subject_laws.specs.Places.{word_told}
use Rattle.subject_laws.specs.Stations.{IsStationAt, busy_at, waiting_at}

-- an event is the next one of a state: it is the first that is pending, it is due, and the limit isn't met
pub record IsNext (t : Terms) (s : State) (e : Event) : Type 0 where
  pub rest : List Event
  pub pending : s.pending ≡ e ∷ rest
  pub due : e.key.stamp < end_stamp t.end
  pub room : s.count ≢ t.limit

-- what happens next is told by this word
pub record IsToldBy (m : Meaning) (t : Terms) (s : State) (word : ℕ) : Type 0 where
  pub told : Key × Note
  pub after : State
  pub goes : next m t s ≡ does told after
  pub tells : word_told told.1 ≡ word

-- a job comes to a station while all servers are busy and the line is full: its event isn't the end of a service
pub record FindsNoRoom (s : State) (e : Event) (station : Station ℕ) : Type 0 where
  pub comes : e.kind ≢ 2
  pub busy : busy_at s e.key.dest ≡ station.servers
  pub full : length (waiting_at s e.key.dest) ≡ station.line

-- such a job is lost, or is a fault if the station is strict; no other is
pub record LosesExactly (p : NetworkParts) (t : Terms) (s : State) (e : Event) (station : Station ℕ) : Type 0 where
  pub lost : IsToldBy (plain_meaning p) t s LOST_WORD ↔ ((station.strict ≡ false) × FindsNoRoom s e station)
  pub fault : (next (network_meaning p) t s ≡ stops (Fault e.key LINE_FULL)) ↔ ((station.strict ≡ true) × FindsNoRoom s e station)

abbrev pub LossesLaw : Type 0
LossesLaw =
    (p : NetworkParts) (t : Terms) (s : State) (e : Event) (station : Station ℕ)
    → IsNetwork p → Reaches (network_meaning p) t s → IsNext t s e → IsStationAt p e.key.dest station → LosesExactly p t s e station

abbrev pub IsSinkAt : NetworkParts → ℕ → SinkOver → Type 0
IsSinkAt p i sink = (object_at p.objects i).kind ≡ Sink sink

-- a sink fails exactly where a job comes that was born longer ago than its due
abbrev pub LateJobsLaw : Type 0
LateJobsLaw =
    (p : NetworkParts) (t : Terms) (s : State) (e : Event) (sink : SinkOver) → IsNext t s e → IsSinkAt p e.key.dest sink
    → (next (network_meaning p) t s ≡ stops (Fault e.key LATE)) ↔ IsSomeAnd sink.due (λ due. due < time_part e.key.stamp - e.b)
