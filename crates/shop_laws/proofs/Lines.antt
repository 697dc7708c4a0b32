-- What the entries of a station's line weigh, as one comes in, goes out or loses its job.
use Rattle.std.proofs.Common.{◌≡◌, ℕ, ◌+◌, ◌-◌, ◌^◌, ◌<◌, ◌≤◌, List, length, refl, ap, arith}
use Rattle.std.specs.Prelude.{if◌then◌else◌, slice_index}
use Rattle.std.proofs.lemmas.Bool.{lt-ltb, le-ltb}
use Rattle.delta_exchange.specs.Changes.{CellData, line_of, flipped, with_flipped}
use Rattle.model_core.specs.declared.effect.Effect.{Effect}
use Rattle.model_core.specs.declared.event.Event.{Event}
use Rattle.shop_model.specs.declared.levels.TheConstants.{EMPTY}
use Rattle.shop_model.specs.declared.routes.Routes.{Routes}
use Rattle.shop_model.specs.declared.site.Site.{Site}
use Rattle.shop_model.specs.declared.station.Station.{Station}
use Rattle.shop_model.specs.EntrySteps.{out_of}
use Rattle.shop_model.specs.Jobs.{job_at, birth_of}
use Rattle.shop_model.specs.ShopParts.{ShopParts, routes_of, station_at}
use Rattle.shop_model.specs.StationEffects.{until_of}
use Rattle.shop_model.specs.Stations.{counts_of, jobs_line, births_line, since_line}
use Rattle.shop_laws.specs.Waiting.{sum_in_line}
use Rattle.shop_laws.proofs.After.{readings_after, push, one_less}
use Rattle.shop_laws.proofs.Cases.{StationDoes, rests, goes_on, frees, takes, waits, loses, passes, begins, ends, puts_off, reneges, shifts, stands, works, calls_at, entry_at}
use Rattle.shop_laws.proofs.Entries.{entry_weight, pushed, went, turned, level_put, jobs_put}
use Rattle.shop_laws.proofs.Moves.{AtStationOf}
use Rattle.shop_laws.proofs.Readings.{Readings, readings_of, went_out, began_line, put, four_put}

-- a job that waits weighs, and an empty place doesn't
pub live_weight : (w : ℕ → ℕ → ℕ → ℕ) (a birth since : ℕ) → a < EMPTY → entry_weight w a birth since ≡ w a birth since
live_weight w a birth since small = ap (λ b. if b then w a birth since else 0) (lt-ltb a EMPTY small)

pub empty_weight : (w : ℕ → ℕ → ℕ → ℕ) (a birth since : ℕ) → EMPTY ≤ a → entry_weight w a birth since ≡ 0
empty_weight w a birth since empty = ap (λ b. if b then w a birth since else 0) (le-ltb a EMPTY empty)

module _ (w : ℕ → ℕ → ℕ → ℕ) (p : ShopParts) (site : Site) (cells : CellData) (e : Event) (is : AtStationOf p site cells) where
  abbrev station : Station
  station = station_at p.stations site.object

  abbrev routes : Routes
  routes = routes_of p

  abbrev lines : (ℕ → List ℕ) → ℕ
  lines line = sum_in_line w line station.levels

  -- the lines as they are
  abbrev now : ℕ → List ℕ
  now k = line_of cells k

  -- an entry that goes out of a level
  pub out_weight : (level : ℕ) → level < station.levels → 0 < length (line_of cells (jobs_line level))
      → (let out = out_of station.order in
      let place = calls_at station cells level in
      lines (four_put out out out out level now)
      + entry_weight w (entry_at cells level place) (slice_index (line_of cells (births_line level)) place) (slice_index (line_of cells (since_line level)) place)
      ≡ lines now)
  out_weight level below some =
      let out = out_of station.order in
      let at = is.lawful.levels level below in
      omega (
        arith,
        level_put w out out out out level station.levels now below,
        went w station.order (line_of cells (jobs_line level)) (line_of cells (births_line level)) (line_of cells (since_line level)) some at.births at.since,
      )

  -- a job that comes into the line
  pub wait_weight : (level a birth since until : ℕ) → level < station.levels
      → lines (four_put (push a) (push birth) (push since) (push until) level now) ≡ lines now + entry_weight w a birth since
  wait_weight level a birth since until below =
      let at = is.lawful.levels level below in
      omega (
        arith,
        level_put w (push a) (push birth) (push since) (push until) level station.levels now below,
        pushed w (line_of cells (jobs_line level)) (line_of cells (births_line level)) (line_of cells (since_line level)) a birth since at.births at.since,
      )

  -- a job that loses its patience
  pub turn_weight : (level place : ℕ) → level < station.levels → place < length (line_of cells (jobs_line level)) → entry_at cells level place < EMPTY
      → lines (put (jobs_line level) (with_flipped (line_of cells (jobs_line level)) place) now)
      + entry_weight w (entry_at cells level place) (slice_index (line_of cells (births_line level)) place) (slice_index (line_of cells (since_line level)) place)
      ≡ lines now
  unfolding flipped
  turn_weight level place below within small =
      let at = is.lawful.levels level below in
      let jobs = line_of cells (jobs_line level) in
      let births = line_of cells (births_line level) in
      let since = line_of cells (since_line level) in
      let a : ℕ = entry_at cells level place in
      let turned_is : flipped a ≡ 2 ^ 64 - 1 - a = ap (λ b. if b then 2 ^ 64 - 1 - a else a) (lt-ltb a (2 ^ 64) (omega arith)) in
      omega (
        arith,
        jobs_put w (with_flipped jobs place) level station.levels now below,
        turned w jobs births since place (flipped a) within at.births at.since,
        empty_weight w (flipped a) (slice_index births place) (slice_index since place) (omega (arith, turned_is)),
      )

  -- what comes into the line by an event, and what goes out of it
  abbrev pub entered : (x : Effect) → StationDoes site routes station cells e x → ℕ
  entered x (waits job visit level at visits below busy) = w (job_at job.step job.id) (birth_of e.b) site.tick
  entered x (rests no_come no_done no_call no_turn) = 0
  entered x (goes_on job at) = 0
  entered x (frees job at some) = 0
  entered x (takes job visit at visits nobody spare) = 0
  entered x (loses job visit at visits) = 0
  entered x (passes level calls empty) = 0
  entered x (begins level job visit calls there) = 0
  entered x (ends job at below some on_time) = 0
  entered x (puts_off job at served below late) = 0
  entered x (reneges level place job visit kind below within now_is there) = 0
  entered x (shifts kind within) = 0
  entered x (stands breakdowns kind has up) = 0
  entered x (works breakdowns kind has) = 0

  abbrev pub went_away : (x : Effect) → StationDoes site routes station cells e x → ℕ
  went_away x (begins level job visit calls there) =
      let place = calls_at station cells level in
      w (entry_at cells level place) (slice_index (line_of cells (births_line level)) place) (slice_index (line_of cells (since_line level)) place)
  went_away x (reneges level place job visit kind below within now_is there) =
      w (entry_at cells level place) (slice_index (line_of cells (births_line level)) place) (slice_index (line_of cells (since_line level)) place)
  went_away x (rests no_come no_done no_call no_turn) = 0
  went_away x (goes_on job at) = 0
  went_away x (frees job at some) = 0
  went_away x (takes job visit at visits nobody spare) = 0
  went_away x (waits job visit level at visits below busy) = 0
  went_away x (loses job visit at visits) = 0
  went_away x (passes level calls empty) = 0
  went_away x (ends job at below some on_time) = 0
  went_away x (puts_off job at served below late) = 0
  went_away x (shifts kind within) = 0
  went_away x (stands breakdowns kind has up) = 0
  went_away x (works breakdowns kind has) = 0

  pub line_moves : (x : Effect) (does_so : StationDoes site routes station cells e x)
      → lines now + entered x does_so ≡ lines (readings_after site routes station cells e x (readings_of cells) does_so).line + went_away x does_so
  line_moves x (rests no_come no_done no_call no_turn) = refl
  line_moves x (goes_on job at) = refl
  line_moves x (frees job at some) = refl
  line_moves x (takes job visit at visits nobody spare) = omega (arith, ap lines (began_line visit (counts_of cells) (readings_of cells)))
  line_moves x (waits job visit level at visits below busy) =
      let a : ℕ = job_at job.step job.id in
      let small : a < EMPTY = (let here = at.here.names in let less : e.a < EMPTY = here.small in let same : a ≡ e.a = here.named in omega arith) in
      omega (
        arith,
        wait_weight level a (birth_of e.b) site.tick (until_of site cells visit.patience) below,
        live_weight w a (birth_of e.b) site.tick small,
      )
  line_moves x (loses job visit at visits) = refl
  line_moves x (passes level calls empty) =
      let place = calls_at station cells level in
      omega (
        arith,
        out_weight level calls.below calls.some,
        empty_weight w (entry_at cells level place) (slice_index (line_of cells (births_line level)) place) (slice_index (line_of cells (since_line level)) place) empty,
      )
  line_moves x (begins level job visit calls there) =
      let place = calls_at station cells level in
      let before : Readings = went_out station.order level (record (readings_of cells) { waiting = (counts_of cells).waiting - 1 }) in
      omega (
        arith,
        ap lines (began_line visit (one_less cells) before),
        out_weight level calls.below calls.some,
        live_weight w (entry_at cells level place) (slice_index (line_of cells (births_line level)) place) (slice_index (line_of cells (since_line level)) place) there.small,
      )
  line_moves x (ends job at below some on_time) = refl
  line_moves x (puts_off job at served below late) = refl
  line_moves x (reneges level place job visit kind below within now_is there) =
      omega (
        arith,
        turn_weight level place below within there.small,
        live_weight w (entry_at cells level place) (slice_index (line_of cells (births_line level)) place) (slice_index (line_of cells (since_line level)) place) there.small,
      )
  line_moves x (shifts kind within) = refl
  line_moves x (stands breakdowns kind has up) = refl
  line_moves x (works breakdowns kind has) = refl
