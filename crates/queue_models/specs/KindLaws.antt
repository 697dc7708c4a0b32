-- Each kind of object keeps the laws of models: delays, routers and sinks, and then all kinds, case by case.
use Rattle.std.proofs.Common.{◌≡◌, ℕ, ◌+◌, ◌-◌, ◌^◌, ◌<◌, ◌≤◌, Bool, true, false, refl, List, [], ◌∷◌, length, arith}
use Rattle.std.specs.Prelude.{IsTrue, All, if◌then◌else◌, ◌==◌, ◌&&◌, slice_index}
use Rattle.std.proofs.lemmas.Bool.Decides.{nat_tests}
use Rattle.delta_exchange.specs.Changes.{CellData, AllFit, cells_after_all}
use Rattle.event_key.specs.Stamps.{time_part}
use Rattle.model_core.specs.declared.effect.Outcome.TheVariants.{Goes, Fails}
use Rattle.model_core.specs.declared.event.Event.{Event}
use Rattle.random_streams.proofs.Bounds.{draw-le, draw-within, is_drawable-delay}
use Rattle.random_streams.specs.Laws.{is_drawable, is_choice, is_delay, greatest_value}
use Rattle.random_streams.specs.declared.law.Law.TheVariants.{Choice}
use Rattle.queue_models.specs.declared.delay.Delay.{Delay as DelayOver}
use Rattle.queue_models.specs.declared.kind.KindOver.{KindOver}
use Rattle.queue_models.specs.declared.kind.KindOver.TheVariants.{Source, Station, Delay, Router, Sink}
use Rattle.queue_models.specs.declared.router.Router.{Router as RouterOver}
use Rattle.queue_models.specs.declared.sink.Sink.{Sink as SinkOver}
use Rattle.queue_models.specs.declared.site.Site.{Site}
use Rattle.model_core.specs.Places.{place_changes, place_cases}
use Rattle.queue_models.specs.Sites.{place_of, drawn_at, is_plain_cells, told}
use Rattle.queue_models.specs.Delays.{delay_effect}
use Rattle.queue_models.specs.Kinds.{IsKind, KindCanDraw, is_lawful, effect_at, first_cells_of, first_time_of}
use Rattle.queue_models.specs.Objects.{Item}
use Rattle.queue_models.specs.Routers.{router_effect}
use Rattle.queue_models.specs.Sinks.{is_late, sink_effect}
use Rattle.queue_models.specs.Parts.{IsLink}
use Rattle.queue_models.specs.SourceLaws.{source_keeps}
use Rattle.queue_models.specs.StationLaws.{station_keeps}
use Rattle.queue_models.specs.Keeping.{Keeps, OutcomeKeeps, IsSite, one_element}

place_keeps : (cells : CellData) (next : ℕ) → IsTrue (is_plain_cells cells) → Keeps is_plain_cells (place_changes (place_of cells) next) cells
unfolding AllFit cells_after_all
place_keeps cells next lawful =
    one_element
    (λ words. IsTrue (length words == 1 && length cells.lines == 0)
    → Keeps is_plain_cells (place_changes (slice_index words 0) next) (record cells { words = words }))
    cells.words one by lawful
  where
    one : length cells.words ≡ 1
    one = grind (arith, nat_tests)

    by : (place : ℕ) → IsTrue (length (place ∷ []) == 1 && length cells.lines == 0)
        → Keeps is_plain_cells (place_changes place next) (record cells { words = place ∷ [] })
    by place lawful =
        place_cases (λ changes. Keeps is_plain_cells changes (record cells { words = place ∷ [] })) place next
        (record { few = omega arith; fits = tt; after = lawful })
        (record { few = omega arith; fits = (omega arith, tt); after = lawful })

pub delay_keeps : (objects : List Item) (site : Site) (delay : DelayOver ℕ) (cells : CellData) (event : Event) → IsTrue (is_delay delay.delay) → IsLink objects delay.next → IsSite (length objects) site
    → IsTrue (is_plain_cells cells) → OutcomeKeeps (length objects) is_plain_cells cells (delay_effect site delay cells event)
unfolding delay_effect
delay_keeps objects site delay cells event drawable link here lawful = record {
  changes = place_keeps cells (drawn_at site cells delay.delay).1 lawful;
  few_sends = omega arith;
  one_part = refl;
  sends = (link.exists, draw-le site.seed site.object (place_of cells) delay.delay (is_drawable-delay delay.delay drawable), here.rank, tt);
}

-- each draw is the place of one of the objects
pub choice_within : (weights : List ℕ) → IsTrue (is_choice weights) → greatest_value (Choice weights) < length weights
unfolding greatest_value is_choice
choice_within weights choice =
    let some : 1 ≤ length weights = grind (arith, nat_tests) in
    omega arith

pub router_keeps : (objects : List Item) (site : Site) (router : RouterOver ℕ) (cells : CellData) (event : Event)
    → length router.weights ≡ length router.next → IsTrue (is_choice router.weights) → All (IsLink objects) router.next → IsSite (length objects) site
    → IsTrue (is_plain_cells cells) → OutcomeKeeps (length objects) is_plain_cells cells (router_effect site router cells event)
unfolding router_effect is_drawable
router_keeps objects site router cells event matched choice links here lawful =
    let way = (drawn_at site cells (Choice router.weights)).0 in
    let within : way < length router.next =
    omega (arith, draw-within site.seed site.object (place_of cells) (Choice router.weights) choice, choice_within router.weights choice, matched) in
    let link : IsLink objects (slice_index router.next way) = links way 0 within in
    record {
      changes = place_keeps cells (drawn_at site cells (Choice router.weights)).1 lawful;
      few_sends = omega arith;
      one_part = refl;
      sends = (link.exists, omega arith, here.rank, tt);
    }

pub sink_keeps : (objects : List Item) (sink : SinkOver) (cells : CellData) (event : Event) → IsTrue (is_plain_cells cells)
    → OutcomeKeeps (length objects) is_plain_cells cells (sink_effect sink event)
unfolding sink_effect AllFit cells_after_all
sink_keeps objects sink cells event lawful = by (is_late sink.due age)
  where
    age : ℕ
    age = time_part event.key.stamp - event.b

    by : (late : Bool) → OutcomeKeeps (length objects) is_plain_cells cells (if late then Fails 3 else Goes (record { changes = []; sends = []; note = told 9 event.a age }))
    by true = omega arith
    by false = record { changes = record { few = omega arith; fits = tt; after = lawful }; few_sends = omega arith; one_part = refl; sends = tt }

-- what an event at an object of any kind keeps
pub kind_keeps : (objects : List Item) (site : Site) (kind : KindOver ℕ) (cells : CellData) (event : Event) → IsKind (IsLink objects) kind → IsSite (length objects) site
    → IsTrue (is_lawful kind cells) → OutcomeKeeps (length objects) (λ c. is_lawful kind c) cells (effect_at site kind cells event)
kind_keeps objects site (Source source) cells event fine here lawful = source_keeps objects site source cells event fine.0 fine.1 here lawful
kind_keeps objects site (Station station) cells event fine here lawful = station_keeps objects site station cells event fine.0 fine.1 here lawful
kind_keeps objects site (Delay delay) cells event fine here lawful = delay_keeps objects site delay cells event fine.0 fine.1 here lawful
kind_keeps objects site (Router router) cells event fine here lawful = router_keeps objects site router cells event fine.0 fine.1 fine.2 here lawful
kind_keeps objects site (Sink sink) cells event fine here lawful = sink_keeps objects sink cells event lawful

pub first_lawful : (objects : List Item) (kind : KindOver ℕ) → IsKind (IsLink objects) kind → IsTrue (is_lawful kind (first_cells_of kind))
first_lawful objects (Source source) fine =
    let all : 0 + source.count ≡ source.count = omega arith in grind (arith, nat_tests)
first_lawful objects (Station station) fine = grind (arith, nat_tests)
first_lawful objects other fine = refl

pub first_time : (objects : List Item) (kind : KindOver ℕ) → IsKind (IsLink objects) kind → first_time_of kind < 2 ^ 46
first_time objects (Source source) fine = fine.0.starts
first_time objects other fine = omega arith

pub kind_can_draw : (objects : List Item) (kind : KindOver ℕ) → IsKind (IsLink objects) kind → KindCanDraw kind
kind_can_draw objects (Source source) fine = is_drawable-delay source.every fine.0.law
kind_can_draw objects (Station station) fine = is_drawable-delay station.service fine.0.law
kind_can_draw objects (Delay delay) fine = is_drawable-delay delay.delay fine.0
kind_can_draw objects (Router router) fine = (fine.0, fine.1)
kind_can_draw objects other fine = tt
