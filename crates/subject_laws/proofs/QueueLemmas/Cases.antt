-- What an event does at an object of a network, case by case.
use Rattle.sim_spec.proofs.FiringLemmas.{goes-effect}
use Rattle.std.proofs.Common.{◌≡◌, ◌≢◌, ◌⊎◌, ℕ, ◌-◌, ◌<◌, ◌≤◌, Bool, true, false, List, [], ◌∷◌, length, inr, refl, subst, arith, eq-eqb}
use Rattle.std.specs.Prelude.{IsTrue, not, ◌||◌, nat_lt, ◌==◌, if◌then◌else◌, slice_index}
use Rattle.std.proofs.lemmas.Bool.Decides.{nat_tests}
use Rattle.delta_exchange.specs.declared.change.Change.{Change}
use Rattle.delta_exchange.specs.Changes.{CellData, cells_after_all}
use Rattle.event_key.specs.Stamps.{time_part}
use Rattle.model_core.specs.declared.effect.Effect.{Effect}
use Rattle.model_core.specs.declared.effect.Outcome.TheVariants.{Goes, Fails}
use Rattle.model_core.specs.declared.event.Event.{Event}
use Rattle.model_core.specs.declared.event.Send.{Send}
use Rattle.model_core.specs.declared.words.TheConstants.{HELD_WORD, ROUTED_WORD, LEFT_WORD}
use Rattle.model_core.specs.Places.{place_changes}
use Rattle.random_streams.proofs.Bounds.{draw-within}
use Rattle.random_streams.specs.declared.law.Law.TheVariants.{Choice}
use Rattle.random_streams.specs.Laws.{is_drawable}
use Rattle.queue_models.specs.declared.kind.KindOver.{KindOver}
use Rattle.queue_models.specs.declared.kind.KindOver.TheVariants.{Source, Station, Delay, Router, Sink}
use Rattle.queue_models.specs.declared.delay.Delay.{Delay as DelayOver}
use Rattle.queue_models.specs.declared.router.Router.{Router as RouterOver}
use Rattle.queue_models.specs.declared.sink.Sink.{Sink as SinkOver}
use Rattle.queue_models.specs.declared.site.Site.{Site}
use Rattle.queue_models.specs.declared.source.Source.{Source as SourceOver}
use Rattle.queue_models.specs.declared.station.Station.{Station as StationOver}
use Rattle.queue_models.specs.Delays.{delay_effect}
use Rattle.queue_models.specs.KindLaws.{choice_within}
use Rattle.queue_models.specs.Kinds.{IsKind, is_lawful, is_source, effect_at}
use Rattle.queue_models.specs.Objects.{Item, object_at}
use Rattle.queue_models.specs.Parts.{IsLink}
use Rattle.queue_models.specs.Routers.{router_effect}
use Rattle.queue_models.specs.Sinks.{is_late, sink_effect}
use Rattle.queue_models.specs.Sites.{told, place_of, drawn_at, job_to}
use Rattle.queue_models.specs.Sources.{left_of, idle_effect, last_effect, make_effect, source_effect}
use Rattle.queue_models.specs.Stations.{busy_servers, waiting_jobs, take_effect, wait_effect, lose_effect, arrival_outcome, serve_effect, free_effect, done_effect, station_effect}
use Rattle.subject_laws.specs.Draws.{law_of, as_shown, shown_by}
use Rattle.subject_laws.proofs.QueueLemmas.Leaves.{place_cells, plain_shape, plain_leaves}

-- an event that goes at a source does one of these
pub data SourceDoes (site : Site) (cells : CellData) (e : Event) (source : SourceOver ℕ) : Effect → Type 0 where
  idles : left_of cells ≡ 0 → SourceDoes site cells e source (idle_effect cells)
  makes_last : left_of cells ≡ 1 → SourceDoes site cells e source (last_effect site source cells (time_part e.key.stamp))
  makes : 1 < left_of cells → SourceDoes site cells e source (make_effect site source cells (time_part e.key.stamp))

-- and at a station
pub data StationDoes (site : Site) (cells : CellData) (e : Event) (station : StationOver ℕ) : Effect → Type 0 where
  takes : e.kind ≢ 2 → busy_servers cells < station.servers → StationDoes site cells e station (take_effect site station cells e)
  waits : e.kind ≢ 2 → station.servers ≤ busy_servers cells → waiting_jobs cells < station.line → StationDoes site cells e station (wait_effect cells e)
  loses : e.kind ≢ 2 → station.servers ≤ busy_servers cells → station.line ≤ waiting_jobs cells → StationDoes site cells e station (lose_effect cells e)
  serves : e.kind ≡ 2 → 0 < waiting_jobs cells → StationDoes site cells e station (serve_effect site station cells e)
  frees : e.kind ≡ 2 → waiting_jobs cells ≡ 0 → StationDoes site cells e station (free_effect site station cells e)

-- a job is handed on to another object
abbrev pub hand_effect : Site → Event → List Change → ℕ → ℕ → ℕ → ℕ → Effect
hand_effect site event changes dest delay word b = record { changes = changes; sends = job_to site dest delay event.a event.b ∷ []; note = told word event.a b }

-- a job leaves the network
abbrev pub leave_effect : Event → Effect
leave_effect event = record { changes = []; sends = []; note = told LEFT_WORD event.a (time_part event.key.stamp - event.b) }

-- the words of a job that is made, waits, is lost or leaves: no object tells them of one that it hands on
abbrev pub is_moving : ℕ → Bool
is_moving word = not (word == 2 || word == 4 || word == 5 || word == 9)

-- an object draws nothing, and its next place stays, or one value, and its next place is the one behind the words that were read
abbrev pub DrawsOnce : Site → CellData → KindOver ℕ → List Send → ℕ → Type 0
DrawsOnce site cells kind sends next =
    ((shown_by kind sends ≡ []) × (next ≡ place_of cells))
    ⊎ ((shown_by kind sends ≡ as_shown kind (drawn_at site cells (law_of kind)).0 ∷ []) × (next ≡ (drawn_at site cells (law_of kind)).1))

-- at an object that keeps its place alone a job is handed on to one that takes jobs, or leaves
pub data PlainDoes (objects : List Item) (site : Site) (cells : CellData) (e : Event) (kind : KindOver ℕ) : Effect → Type 0 where
  hands_on : {changes : List Change} {dest delay word b next : ℕ} → is_source (object_at objects dest).kind ≡ false → is_moving word ≡ true
      → cells_after_all changes cells ≡ place_cells next → DrawsOnce site cells kind (job_to site dest delay e.a e.b ∷ []) next
      → PlainDoes objects site cells e kind (hand_effect site e changes dest delay word b)
  leaves : shown_by kind [] ≡ [] → PlainDoes objects site cells e kind (leave_effect e)

-- an event that goes at an object of this kind does one of these
abbrev pub EventDoes : List Item → Site → CellData → Event → KindOver ℕ → Effect → Type 0
EventDoes objects site cells e (Source source) x = SourceDoes site cells e source x
EventDoes objects site cells e (Station station) x = StationDoes site cells e station x
EventDoes objects site cells e other x = PlainDoes objects site cells e other x

-- a fact on the effect that it is
as_effect : (P : Effect → Type 0) (x y : Effect) → Goes x ≡ Goes y → P x → P y
as_effect P x y same fact = subst P (goes-effect x y same) fact

source_does : (site : Site) (source : SourceOver ℕ) (cells : CellData) (e : Event) (x : Effect) → source_effect site source cells e ≡ Goes x
    → SourceDoes site cells e source x
unfolding source_effect
source_does site source cells e x is_x = by (left_of cells == 0) (left_of cells == 1) refl refl is_x
  where
    by : (none one : Bool) → (left_of cells == 0) ≡ none → (left_of cells == 1) ≡ one
        → (if none then Goes (idle_effect cells) else if one then Goes (last_effect site source cells (time_part e.key.stamp)) else Goes (make_effect site source cells (time_part e.key.stamp))) ≡ Goes x
        → SourceDoes site cells e source x
    by true one none_is one_is is_x = as_effect (SourceDoes site cells e source) _ x is_x (idles (grind (arith, nat_tests)))
    by false true none_is one_is is_x = as_effect (SourceDoes site cells e source) _ x is_x (makes_last (grind (arith, nat_tests)))
    by false false none_is one_is is_x = as_effect (SourceDoes site cells e source) _ x is_x (makes (grind (arith, nat_tests)))

arrival_does : (site : Site) (station : StationOver ℕ) (cells : CellData) (e : Event) (x : Effect) → e.kind ≢ 2 → arrival_outcome site station cells e ≡ Goes x → StationDoes site cells e station x
unfolding arrival_outcome
arrival_does site station cells e x other is_x = by (nat_lt (busy_servers cells) station.servers) (nat_lt (waiting_jobs cells) station.line) station.strict refl refl is_x
  where
    by : (free room strict : Bool) → nat_lt (busy_servers cells) station.servers ≡ free → nat_lt (waiting_jobs cells) station.line ≡ room
        → (if free then Goes (take_effect site station cells e) else if room then Goes (wait_effect cells e) else if strict then Fails 2 else Goes (lose_effect cells e)) ≡ Goes x
        → StationDoes site cells e station x
    by true room strict free_is room_is is_x = as_effect (StationDoes site cells e station) _ x is_x (takes other (grind (arith, nat_tests)))
    by false true strict free_is room_is is_x = as_effect (StationDoes site cells e station) _ x is_x (waits other (grind (arith, nat_tests)) (grind (arith, nat_tests)))
    by false false true free_is room_is is_x = absurd (cc)
    by false false false free_is room_is is_x = as_effect (StationDoes site cells e station) _ x is_x (loses other (grind (arith, nat_tests)) (grind (arith, nat_tests)))

done_does : (site : Site) (station : StationOver ℕ) (cells : CellData) (e : Event) (x : Effect) → e.kind ≡ 2 → Goes (done_effect site station cells e) ≡ Goes x → StationDoes site cells e station x
unfolding done_effect
done_does site station cells e x done is_x = by (nat_lt 0 (waiting_jobs cells)) refl is_x
  where
    by : (some : Bool) → nat_lt 0 (waiting_jobs cells) ≡ some → Goes (if some then serve_effect site station cells e else free_effect site station cells e) ≡ Goes x
        → StationDoes site cells e station x
    by true some_is is_x = as_effect (StationDoes site cells e station) _ x is_x (serves done (grind (arith, nat_tests)))
    by false some_is is_x = as_effect (StationDoes site cells e station) _ x is_x (frees done (grind (arith, nat_tests)))

station_does : (site : Site) (station : StationOver ℕ) (cells : CellData) (e : Event) (x : Effect) → station_effect site station cells e ≡ Goes x → StationDoes site cells e station x
unfolding station_effect
station_does site station cells e x is_x = by (e.kind == 2) refl is_x
  where
    by : (done : Bool) → (e.kind == 2) ≡ done → (if done then Goes (done_effect site station cells e) else arrival_outcome site station cells e) ≡ Goes x
        → StationDoes site cells e station x
    by true done_is is_x = done_does site station cells e x (grind (arith, nat_tests)) is_x
    by false done_is is_x = arrival_does site station cells e x (λ two. let no : (e.kind == 2) ≡ true = eq-eqb e.kind 2 two in cc) is_x

-- a delay hands a job on after a while
hold_effect : Site → DelayOver ℕ → CellData → Event → Effect
hold_effect site delay cells e =
    let drawn = drawn_at site cells delay.delay in
    hand_effect site e (place_changes (place_of cells) drawn.1) delay.next drawn.0 HELD_WORD drawn.0

delay_does : (objects : List Item) (site : Site) (delay : DelayOver ℕ) (cells : CellData) (e : Event) (x : Effect) → IsLink objects delay.next → IsTrue (is_lawful (Delay delay) cells)
    → delay_effect site delay cells e ≡ Goes x → PlainDoes objects site cells e (Delay delay) x
unfolding delay_effect hold_effect
delay_does objects site delay cells e x link lawful is_x =
    as_effect (PlainDoes objects site cells e (Delay delay)) (hold_effect site delay cells e) x is_x
    (hands_on link.takes refl (plain_leaves cells (drawn_at site cells delay.delay).1 (plain_shape cells lawful)) (inr (refl, refl)))

-- a router one of several ways at once
route_effect : Site → RouterOver ℕ → CellData → Event → Effect
route_effect site router cells e =
    let way = drawn_at site cells (Choice router.weights) in
    hand_effect site e (place_changes (place_of cells) way.1) (slice_index router.next way.0) 0 ROUTED_WORD (slice_index router.next way.0)

-- it draws one of its ways
pub way_within : (objects : List Item) (site : Site) (router : RouterOver ℕ) (cells : CellData) → IsKind (IsLink objects) (Router router)
    → (drawn_at site cells (Choice router.weights)).0 < length router.next
unfolding is_drawable
way_within objects site router cells fine =
    omega (arith, draw-within site.seed site.object (place_of cells) (Choice router.weights) fine.1, choice_within router.weights fine.1, fine.0)

way_takes : (objects : List Item) (site : Site) (router : RouterOver ℕ) (cells : CellData) → IsKind (IsLink objects) (Router router)
    → is_source (object_at objects (slice_index router.next (drawn_at site cells (Choice router.weights)).0)).kind ≡ false
way_takes objects site router cells fine =
    let way : ℕ × ℕ = drawn_at site cells (Choice router.weights) in
    let link : IsLink objects (slice_index router.next way.0) = fine.2 way.0 0 (way_within objects site router cells fine) in
    link.takes

router_does : (objects : List Item) (site : Site) (router : RouterOver ℕ) (cells : CellData) (e : Event) (x : Effect) → IsKind (IsLink objects) (Router router) → IsTrue (is_lawful (Router router) cells)
    → router_effect site router cells e ≡ Goes x → PlainDoes objects site cells e (Router router) x
unfolding router_effect route_effect
router_does objects site router cells e x fine lawful is_x =
    as_effect (PlainDoes objects site cells e (Router router)) (route_effect site router cells e) x is_x
    (hands_on (way_takes objects site router cells fine) refl (plain_leaves cells (drawn_at site cells (Choice router.weights)).1 (plain_shape cells lawful)) (inr (refl, refl)))

sink_does : (objects : List Item) (site : Site) (sink : SinkOver) (cells : CellData) (e : Event) (x : Effect) → sink_effect sink e ≡ Goes x → PlainDoes objects site cells e (Sink sink) x
unfolding sink_effect
sink_does objects site sink cells e x is_x = by (is_late sink.due (time_part e.key.stamp - e.b)) is_x
  where
    by : (late : Bool) → (if late then Fails 3 else Goes (leave_effect e)) ≡ Goes x → PlainDoes objects site cells e (Sink sink) x
    by true is_x = absurd (cc)
    by false is_x = as_effect (PlainDoes objects site cells e (Sink sink)) (leave_effect e) x is_x (leaves refl)

pub event_does : (objects : List Item) (site : Site) (kind : KindOver ℕ) (cells : CellData) (e : Event) (x : Effect) → IsKind (IsLink objects) kind → IsTrue (is_lawful kind cells)
    → effect_at site kind cells e ≡ Goes x → EventDoes objects site cells e kind x
event_does objects site (Source source) cells e x fine lawful is_x = source_does site source cells e x is_x
event_does objects site (Station station) cells e x fine lawful is_x = station_does site station cells e x is_x
event_does objects site (Delay delay) cells e x fine lawful is_x = delay_does objects site delay cells e x fine.1 lawful is_x
event_does objects site (Router router) cells e x fine lawful is_x = router_does objects site router cells e x fine lawful is_x
event_does objects site (Sink sink) cells e x fine lawful is_x = sink_does objects site sink cells e x is_x
