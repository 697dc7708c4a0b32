-- What the jobs of a station weigh, at its events and in its lines, an event keeps.
use Rattle.std.proofs.Common.{◌≡◌, ◌≢◌, ℕ, ◌+◌, ◌-◌, ◌^◌, ◌<◌, ◌≤◌, Bool, true, false, List, [], ◌∷◌, length, refl, sym, ap, ◌∙◌, arith, ne_eqb}
use Rattle.std.specs.Prelude.{if◌then◌else◌, ◌==◌, ◌||◌, is_none, min, slice_index, sum_by}
use Rattle.std.proofs.lemmas.Bool.{ltb-true, lt-ltb, le-ltb}
use Rattle.delta_exchange.specs.Changes.{CellData, line_of}
use Rattle.model_core.specs.declared.effect.Effect.{Effect}
use Rattle.model_core.specs.declared.event.Event.{Event}
use Rattle.model_core.specs.declared.event.Send.{Send}
use Rattle.shop_model.specs.declared.done.TheConstants.{LONGEST}
use Rattle.shop_model.specs.declared.job.Job.{Job}
use Rattle.shop_model.specs.declared.kinds.TheConstants.{COME, DONE, CALL, TIRE, SHIFT, BREAK, MEND}
use Rattle.shop_model.specs.declared.levels.TheConstants.{EMPTY}
use Rattle.shop_model.specs.declared.routes.Routes.{Routes}
use Rattle.shop_model.specs.declared.site.Site.{Site}
use Rattle.shop_model.specs.declared.station.Station.{Station}
use Rattle.shop_model.specs.declared.step.Visit.{Visit as AVisit}
use Rattle.shop_model.specs.Beginnings.{next_server, service_drawn, begin_sent}
use Rattle.shop_model.specs.JobLaws.{HasHere}
use Rattle.shop_model.specs.Jobs.{id_of, job_at, birth_of, served_by}
use Rattle.shop_model.specs.Routes.{moved}
use Rattle.shop_model.specs.ShopParts.{ShopParts, routes_of, station_at}
use Rattle.shop_model.specs.Sites.{to_self}
use Rattle.shop_model.specs.StationEffects.{until_of}
use Rattle.shop_model.specs.Stations.{counts_of, jobs_line, births_line, since_line}
use Rattle.shop_laws.specs.Places.{in_line}
use Rattle.shop_laws.specs.Waiting.{sum_in_line}
use Rattle.shop_laws.proofs.After.{readings_after, one_less}
use Rattle.shop_laws.proofs.Cases.{StationDoes, rests, goes_on, frees, takes, waits, loses, passes, begins, ends, puts_off, reneges, shifts, stands, works, calls_at, called_within, entry_at, late_by}
use Rattle.shop_laws.proofs.Entries.{entry_weight}
use Rattle.shop_laws.proofs.Fine.{named_of}
use Rattle.shop_laws.proofs.Lines.{out_weight, wait_weight, turn_weight}
use Rattle.shop_laws.proofs.Moves.{one_sum, AtStationOf, job_sent, waits_named}
use Rattle.shop_laws.proofs.Readings.{Readings, readings_of, went_out, began_line}

-- the same of what an event is, or is sent as
abbrev pub job_weight : (ℕ → ℕ → ℕ) → ℕ → ℕ → ℕ → ℕ → ℕ
job_weight w dest kind a b = if kind == COME || kind == DONE then w (id_of a) (birth_of b) else 0

abbrev pub job_sent_weight : (ℕ → ℕ → ℕ) → Send → ℕ
job_sent_weight w s = job_weight w s.dest s.kind s.a s.b

pub no_job_weight : (w : ℕ → ℕ → ℕ) (dest kind a b : ℕ) → kind ≢ COME → kind ≢ DONE → job_weight w dest kind a b ≡ 0
no_job_weight w dest kind a b no_come no_done =
    ap (λ c. if c || kind == DONE then w (id_of a) (birth_of b) else 0) (ne_eqb kind COME no_come)
    ∙ ap (λ d. if d then w (id_of a) (birth_of b) else 0) (ne_eqb kind DONE no_done)

pub come_weight : (w : ℕ → ℕ → ℕ) (dest kind a b : ℕ) → kind ≡ COME → job_weight w dest kind a b ≡ w (id_of a) (birth_of b)
come_weight w dest kind a b come = ap (λ k. job_weight w dest k a b) come

pub done_weight : (w : ℕ → ℕ → ℕ) (dest kind a b : ℕ) → kind ≡ DONE → job_weight w dest kind a b ≡ w (id_of a) (birth_of b)
done_weight w dest kind a b done = ap (λ k. job_weight w dest k a b) done

-- a job that moves weighs what it weighed
pub moved_weight : (w : ℕ → ℕ → ℕ) (routes : Routes) (job : Job) (b step delay : ℕ) → job.id < 2 ^ 40 → job_sent_weight w (moved routes job b step delay) ≡ w job.id (birth_of b)
unfolding moved
moved_weight w routes job b step delay small =
    let id : id_of (job_at step job.id) ≡ job.id = omega arith in
    let birth : birth_of (birth_of b) ≡ birth_of b = omega arith in
    ap (λ n. w n (birth_of (birth_of b))) id ∙ ap (λ n. w job.id n) birth

module _ (w : ℕ → ℕ → ℕ) (p : ShopParts) (site : Site) (cells : CellData) (e : Event) (is : AtStationOf p site cells) where
  abbrev station : Station
  station = station_at p.stations site.object

  abbrev routes : Routes
  routes = routes_of p

  abbrev lines : (ℕ → List ℕ) → ℕ
  lines line = sum_in_line (in_line w) line station.levels

  -- the job of the event, by its id
  own_come : (job : Job) → e.kind ≡ COME → HasHere routes site.object e.a job → job_weight w site.object e.kind e.a e.b ≡ w job.id (birth_of e.b)
  own_come job kind has = come_weight w site.object e.kind e.a e.b kind ∙ ap (λ n. w n (birth_of e.b)) (named_of routes e.a job has.is).1

  own_done : (job : Job) → e.kind ≡ DONE → HasHere routes site.object e.a job → job_weight w site.object e.kind e.a e.b ≡ w job.id (birth_of e.b)
  own_done job kind has = done_weight w site.object e.kind e.a e.b kind ∙ ap (λ n. w n (birth_of e.b)) (named_of routes e.a job has.is).1

  own_other : (k : ℕ) → e.kind ≡ k → k ≢ COME → k ≢ DONE → job_weight w site.object e.kind e.a e.b ≡ 0
  own_other k kind no_come no_done = no_job_weight w site.object e.kind e.a e.b (λ come. no_come (sym kind ∙ come)) (λ done. no_done (sym kind ∙ done))

  moves_on : (job : Job) (b step : ℕ) → job.id < 2 ^ 40 → sum_by (job_sent_weight w) (moved routes job b step 0 ∷ []) ≡ w job.id (birth_of b)
  moves_on job b step small = one_sum (job_sent_weight w) (moved routes job b step 0) ∙ moved_weight w routes job b step 0 small

  begin_weight : (visit : AVisit) (service birth : ℕ) (job : Job) → job.id < 2 ^ 40 → birth < 2 ^ 48
      → sum_by (job_sent_weight w) (begin_sent site routes cells visit service job birth ∷ []) ≡ w job.id birth
  unfolding begin_sent
  begin_weight visit service birth job small early = by (is_none visit.service)
    where
      end : Send
      end = to_self site service DONE (job_at job.step job.id) (served_by (next_server cells) birth)

      by : (takes : Bool) → sum_by (job_sent_weight w) ((if takes then moved routes job birth (job.step + 1) 0 else end) ∷ []) ≡ w job.id birth
      by true =
          let same : birth_of birth ≡ birth = omega arith in
          moves_on job birth (job.step + 1) small ∙ ap (λ n. w job.id n) same
      by false =
          let id : id_of (job_at job.step job.id) ≡ job.id = omega arith in
          let same : birth_of (served_by (next_server cells) birth) ≡ birth = omega arith in
          one_sum (job_sent_weight w) end
          ∙ done_weight w site.object DONE (job_at job.step job.id) (served_by (next_server cells) birth) refl
          ∙ ap (λ n. w n (birth_of (served_by (next_server cells) birth))) id
          ∙ ap (λ n. w job.id n) same

  small_at : (a : ℕ) (job : Job) → HasHere routes site.object a job → job.id < 2 ^ 40
  small_at a job has = has.names.has.id

  -- the lines as they are
  abbrev now : ℕ → List ℕ
  now k = line_of cells k

  -- a job that waits weighs by its id, and an empty place nothing
  job_entry : (a birth since : ℕ) (job : Job) → a < EMPTY → id_of a ≡ job.id → entry_weight (in_line w) a birth since ≡ w job.id birth
  job_entry a birth since job small id = ap (λ b. if b then w (id_of a) birth else 0) (lt-ltb a EMPTY small) ∙ ap (λ n. w n birth) id

  empty_entry : (a birth since : ℕ) → EMPTY ≤ a → entry_weight (in_line w) a birth since ≡ 0
  empty_entry a birth since empty = ap (λ b. if b then w (id_of a) birth else 0) (le-ltb a EMPTY empty)

  -- the lines and the event before it weigh what the lines and the job that is sent weigh after it
  pub holds_jobs : (x : Effect) (does_so : StationDoes site routes station cells e x)
      → lines now + job_weight w site.object e.kind e.a e.b
      ≡ lines (readings_after site routes station cells e x (readings_of cells) does_so).line
      + sum_by (job_sent_weight w) (job_sent site routes station cells e x does_so)
  holds_jobs x (rests no_come no_done no_call no_turn) = omega (arith, no_job_weight w site.object e.kind e.a e.b no_come no_done)
  holds_jobs x (goes_on job at) = omega (arith, own_come job at.kind at.here, moves_on job e.b (job.step + 1) (small_at e.a job at.here))
  holds_jobs x (frees job at some) = omega (arith, own_come job at.kind at.here, moves_on job e.b (job.step + 1) (small_at e.a job at.here))
  holds_jobs x (takes job visit at visits nobody spare) =
      omega (
        arith,
        own_come job at.kind at.here,
        ap lines (began_line visit (counts_of cells) (readings_of cells)),
        begin_weight visit (service_drawn site cells visit).0 (birth_of e.b) job (small_at e.a job at.here) (omega arith),
      )
  holds_jobs x (waits job visit level at visits below busy) =
      let a : ℕ = job_at job.step job.id in
      let small : a < EMPTY = (let here = at.here.names in let less : e.a < EMPTY = here.small in let same : a ≡ e.a = here.named in omega arith) in
      let id : id_of a ≡ job.id = (let little : job.id < 2 ^ 40 = small_at e.a job at.here in omega arith) in
      omega (
        arith,
        own_come job at.kind at.here,
        wait_weight (in_line w) p site cells e is level a (birth_of e.b) site.tick (until_of site cells visit.patience) below,
        job_entry a (birth_of e.b) site.tick job small id,
      )
  holds_jobs x (loses job visit at visits) = omega (arith, own_come job at.kind at.here, moves_on job e.b visit.full (small_at e.a job at.here))
  holds_jobs x (passes level calls empty) =
      let place = calls_at station cells level in
      omega (
        arith,
        own_other CALL calls.kind (λ d. absurd (omega arith)) (λ d. absurd (omega arith)),
        out_weight (in_line w) p site cells e is level calls.below calls.some,
        empty_entry (entry_at cells level place) (slice_index (line_of cells (births_line level)) place) (slice_index (line_of cells (since_line level)) place) empty,
      )
  holds_jobs x (begins level job visit calls there) =
      let place = calls_at station cells level in
      let within : place < length (line_of cells (jobs_line level)) = called_within station cells level calls.some in
      let births = (is.lawful.levels level calls.below).births in
      let early : slice_index (line_of cells (births_line level)) place < 2 ^ 48 = ltb-true _ _ ((is.lawful.levels level calls.below).early place 0 (omega (arith, births, within))) in
      let before : Readings = went_out station.order level (record (readings_of cells) { waiting = (counts_of cells).waiting - 1 }) in
      let has = waits_named p site cells e is level place job visit calls.below within there in
      omega (
        arith,
        own_other CALL calls.kind (λ d. absurd (omega arith)) (λ d. absurd (omega arith)),
        ap lines (began_line visit (one_less cells) before),
        out_weight (in_line w) p site cells e is level calls.below calls.some,
        job_entry (entry_at cells level place) (slice_index (line_of cells (births_line level)) place) (slice_index (line_of cells (since_line level)) place) job there.small
            (named_of routes (entry_at cells level place) job there.found).1,
        begin_weight visit (service_drawn site cells visit).0 (slice_index (line_of cells (births_line level)) place) job (small_at (entry_at cells level place) job has) early,
      )
  holds_jobs x (ends job at below some on_time) = omega (arith, own_done job at.kind at.here, moves_on job e.b (job.step + 1) (small_at e.a job at.here))
  holds_jobs x (puts_off job at served below late) =
      let again : Send = to_self site (min (late_by station cells e) LONGEST) DONE e.a e.b in
      omega (arith, done_weight w site.object e.kind e.a e.b at.kind, one_sum (job_sent_weight w) again, done_weight w site.object DONE e.a e.b refl)
  holds_jobs x (reneges level place job visit kind below within now_is there) =
      let birth : ℕ = slice_index (line_of cells (births_line level)) place in
      let births = (is.lawful.levels level below).births in
      let early : birth < 2 ^ 48 = ltb-true _ _ ((is.lawful.levels level below).early place 0 (omega (arith, births, within))) in
      let has = waits_named p site cells e is level place job visit below within there in
      let same : birth_of birth ≡ birth = omega arith in
      omega (
        arith,
        own_other TIRE kind (λ d. absurd (omega arith)) (λ d. absurd (omega arith)),
        turn_weight (in_line w) p site cells e is level place below within there.small,
        job_entry (entry_at cells level place) birth (slice_index (line_of cells (since_line level)) place) job there.small (named_of routes (entry_at cells level place) job there.found).1,
        moves_on job birth visit.away (small_at (entry_at cells level place) job has),
        ap (λ n. w job.id n) same,
      )
  holds_jobs x (shifts kind within) = omega (arith, own_other SHIFT kind (λ d. absurd (omega arith)) (λ d. absurd (omega arith)))
  holds_jobs x (stands breakdowns kind has up) = omega (arith, own_other BREAK kind (λ d. absurd (omega arith)) (λ d. absurd (omega arith)))
  holds_jobs x (works breakdowns kind has) = omega (arith, own_other MEND kind (λ d. absurd (omega arith)) (λ d. absurd (omega arith)))
