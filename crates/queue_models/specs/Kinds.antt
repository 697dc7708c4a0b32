-- What an object does, by its kind, and the bounds of its numbers.
use Rattle.std.specs.Prelude.{◌≡◌, ℕ, ◌^◌, ◌<◌, Bool, true, false, IsTrue, length, All}
use Rattle.std.specs.Option.{ForSome}
use Rattle.delta_exchange.specs.Changes.{CellData}
use Rattle.model_core.specs.declared.effect.Outcome.{Outcome}
use Rattle.model_core.specs.declared.event.Event.{Event}
use Rattle.random_streams.specs.Laws.{is_choice, is_delay, is_drawable}
use Rattle.queue_models.specs.declared.kind.KindOver.{KindOver}
use Rattle.queue_models.specs.declared.kind.KindOver.TheVariants.{Source, Station, Delay, Router, Sink}
use Rattle.queue_models.specs.declared.site.Site.{Site}
use Rattle.queue_models.specs.Delays.{delay_effect}
use Rattle.queue_models.specs.Routers.{router_effect}
use Rattle.queue_models.specs.Sinks.{sink_effect}
use Rattle.queue_models.specs.Sites.{is_plain_cells, plain_cells}
use Rattle.queue_models.specs.Sources.{IsSource, is_source_cells, first_source_cells, source_effect}
use Rattle.queue_models.specs.Stations.{IsStation, is_station_cells, first_station_cells, station_effect}

-- whether it makes jobs
abbrev pub is_source : {L : Type 0} → KindOver L → Bool
is_source (Source source) = true
is_source other = false

-- whether it serves jobs
abbrev pub is_station : {L : Type 0} → KindOver L → Bool
is_station (Station station) = true
is_station other = false

-- the numbers of an object lie within the bounds of its kind, and those to which it sends are such
abbrev pub IsKind : {L : Type 0} → (L → Type 0) → KindOver L → Type 0
IsKind Takes (Source source) = IsSource source × Takes source.next
IsKind Takes (Station station) = IsStation station × Takes station.next
IsKind Takes (Delay delay) = IsTrue (is_delay delay.delay) × Takes delay.next
IsKind Takes (Router router) = (length router.weights ≡ length router.next) × IsTrue (is_choice router.weights) × All Takes router.next
IsKind Takes (Sink sink) = ForSome sink.due (λ due. due < 2 ^ 46)

-- when a source makes its first job, and 0 for any other kind
abbrev pub first_time_of : KindOver ℕ → ℕ
first_time_of (Source source) = source.first
first_time_of other = 0

-- what it draws can be drawn; a router draws by a weight for each of its ways
abbrev pub KindCanDraw : KindOver ℕ → Type 0
KindCanDraw (Source source) = IsTrue (is_drawable source.every)
KindCanDraw (Station station) = IsTrue (is_drawable station.service)
KindCanDraw (Delay delay) = IsTrue (is_drawable delay.delay)
KindCanDraw (Router router) = (length router.weights ≡ length router.next) × IsTrue (is_choice router.weights)
KindCanDraw other = Unit {0}

-- most kinds keep their random place alone
abbrev pub is_lawful : KindOver ℕ → CellData → Bool
is_lawful (Source source) cells = is_source_cells source.count cells
is_lawful (Station station) cells = is_station_cells station.servers station.line cells
is_lawful other cells = is_plain_cells cells

abbrev pub first_cells_of : KindOver ℕ → CellData
first_cells_of (Source source) = first_source_cells source.count
first_cells_of (Station station) = first_station_cells
first_cells_of other = plain_cells

abbrev pub effect_at : Site → KindOver ℕ → CellData → Event → Outcome
effect_at site (Source source) cells event = source_effect site source cells event
effect_at site (Station station) cells event = station_effect site station cells event
effect_at site (Delay delay) cells event = delay_effect site delay cells event
effect_at site (Router router) cells event = router_effect site router cells event
effect_at site (Sink sink) cells event = sink_effect sink event
