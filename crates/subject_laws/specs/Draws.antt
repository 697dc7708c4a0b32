-- What an object draws, one value after another.
use Rattle.std.specs.Prelude.{ℕ, zero, suc, ◌==◌, if◌then◌else◌, List, [], ◌∷◌, map, filter, slice_index}
use Rattle.random_streams.specs.declared.law.Law.{Law}
use Rattle.random_streams.specs.declared.law.Law.TheVariants.{Fixed, Choice}
use Rattle.random_streams.specs.Laws.{draw}
use Rattle.model_core.specs.declared.effect.Outcome.{Outcome}
use Rattle.model_core.specs.declared.effect.Outcome.TheVariants.{Goes, Fails}
use Rattle.model_core.specs.declared.event.Event.{Event}
use Rattle.model_core.specs.declared.event.Send.{Send}
use Rattle.model_core.specs.Meaning.{Meaning}
use Rattle.sim_spec.specs.declared.terms.Terms.{Terms}
use Rattle.sim_spec.specs.State.{State, object_at as state_at}
use Rattle.sim_spec.specs.Run.{Next, stops, does}
use Rattle.queue_models.specs.declared.kind.KindOver.{KindOver}
use Rattle.queue_models.specs.declared.kind.KindOver.TheVariants.{Source, Station, Delay, Router}
use Rattle.queue_models.specs.Meaning.{network_meaning}
use Rattle.queue_models.specs.Objects.{NetworkParts, object_at}
use Rattle.run_laws.specs.Reached.{gathered}

-- where an object's draw number n begins, counted from 0: behind the words that those before it read
unfoldable pub draw_place : ℕ → ℕ → Law → ℕ → ℕ
draw_place seed object law zero = 0
draw_place seed object law (suc n) = (draw seed object (draw_place seed object law n) law).1

-- draw number n of an object by a law
abbrev pub nth_draw : ℕ → ℕ → Law → ℕ → ℕ
nth_draw seed object law n = (draw seed object (draw_place seed object law n) law).0

-- the law by which an object draws; a sink draws nothing
abbrev pub law_of : KindOver ℕ → Law
law_of (Source source) = source.every
law_of (Station station) = station.service
law_of (Delay delay) = delay.delay
law_of (Router router) = Choice router.weights
law_of other = Fixed 0

-- how a draw shows: a router's is the way that it sends a job, any other a delay
abbrev pub as_shown : KindOver ℕ → ℕ → ℕ
as_shown (Router router) value = slice_index router.next value
as_shown other value = value

abbrev pub delays_of : ℕ → List Send → List ℕ
delays_of kind sends = map (λ (s : Send). s.delay) (filter (λ (s : Send). s.kind == kind) sends)

-- the draws that show in what an object sends: when a source makes its next job, when a service ends, how long a delay
-- holds a job, and which way a router sends it
abbrev pub shown_by : KindOver ℕ → List Send → List ℕ
shown_by (Source source) sends = delays_of 1 sends
shown_by (Station station) sends = delays_of 2 sends
shown_by (Delay delay) sends = delays_of 3 sends
shown_by (Router router) sends = map (λ (s : Send). s.dest) sends
shown_by other sends = []

abbrev pub sends_of : Outcome → List Send
sends_of (Goes x) = x.sends
sends_of (Fails code) = []

abbrev pub first_sends : Meaning → State → List Event → List Send
first_sends m s [] = []
first_sends m s (e ∷ rest) = sends_of (m.effect e.key.dest (state_at s.objects e.key.dest).cells e)

-- what the next event draws at an object
abbrev pub draws_next : Meaning → KindOver ℕ → ℕ → State → Next → List ℕ
draws_next m kind i s (stops stop) = []
draws_next m kind i s (does told after) = if told.0.dest == i then shown_by kind (first_sends m s s.pending) else []

-- what an object draws within the first n events, in order
abbrev pub drawn_by : NetworkParts → Terms → ℕ → ℕ → List ℕ
drawn_by p t i n = gathered (draws_next (network_meaning p) (object_at p.objects i).kind i) n (network_meaning p) t
