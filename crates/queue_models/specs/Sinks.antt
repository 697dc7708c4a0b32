-- What a sink does: it takes each job out of the network.
use Rattle.std.specs.Prelude.{ℕ, ◌-◌, nat_lt, Bool, false, if◌then◌else◌, Option, Some, None, []}
use Rattle.event_key.specs.Stamps.{time_part}
use Rattle.model_core.specs.declared.effect.Outcome.{Outcome}
use Rattle.model_core.specs.declared.effect.Outcome.TheVariants.{Goes, Fails}
use Rattle.model_core.specs.declared.event.Event.{Event}
use Rattle.model_core.specs.declared.words.TheConstants.{LATE, LEFT_WORD}
use Rattle.queue_models.specs.declared.sink.Sink.{Sink}
use Rattle.queue_models.specs.Sites.{told}

abbrev pub is_late : Option ℕ → ℕ → Bool
is_late None age = false
is_late (Some due) age = nat_lt due age

-- a job's age is the time since it was born, or 0 where that is later
unfoldable pub sink_effect : Sink → Event → Outcome
sink_effect sink event =
    let age = time_part event.key.stamp - event.b in
    if is_late sink.due age then Fails LATE else Goes (record { changes = []; sends = []; note = told LEFT_WORD event.a age })
