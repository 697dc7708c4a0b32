-- What an event does at a station, case by case.
use Rattle.std.proofs.Common.{zero, suc, get_or, ⊎_elim, ◌≡◌, ◌≢◌, ℕ, ◌+◌, ◌-◌, ◌%◌, ◌^◌, ◌<◌, ◌≤◌, Bool, true, false, List, [], ◌∷◌, ◌++◌, length, refl, sym, ap, ◌∙◌, subst, arith}
use Rattle.std.specs.Prelude.{if◌then◌else◌, ◌==◌, ◌&&◌, not, min, nat_lt, nat_le, is_some, slice_index, sum_by, count_by, Option, None, Some}
use Rattle.std.specs.List.{range_with_len, position_or_len}
use Rattle.std.specs.Option.{option_and_then}
use Rattle.std.proofs.lemmas.Bool.{and_parts, and_from, cases_lt, lt-ltb, ltb-true, ltb-false, leb-true, leb-false, eqb-true, eqb-false, eq-eqb}
use Rattle.std.proofs.lemmas.Bool.Decides.{nat_tests}
use Rattle.std.proofs.lemmas.List.FromFn.{get_or-range_with_len, length-range_with_len}
use Rattle.std.proofs.lemmas.List.Sums.{sum_by-cons, count_by-le-length, fails_before_first, passes_at_first, prefix_len-le-length}
use Rattle.std.proofs.lemmas.Option.{slice_get_within}
use Rattle.delta_exchange.specs.declared.change.Change.TheVariants.{Set, Push}
use Rattle.delta_exchange.specs.Changes.{CellData, line_of}
use Rattle.model_core.specs.declared.effect.Effect.{Effect}
use Rattle.model_core.specs.declared.event.Event.{Event}
use Rattle.model_core.specs.declared.words.TheConstants.{FREED_WORD, DONE_WORD, OPENED_WORD}
use Rattle.model_core.specs.Effects.{blank}
use Rattle.shop_model.specs.declared.done.TheConstants.{LONGEST}
use Rattle.shop_model.specs.declared.job.Job.{Job}
use Rattle.shop_model.specs.declared.kinds.TheConstants.{COME, DONE, CALL, TIRE, SHIFT, BREAK, MEND}
use Rattle.shop_model.specs.declared.levels.TheConstants.{EMPTY}
use Rattle.shop_model.specs.declared.routes.Routes.{Routes}
use Rattle.shop_model.specs.declared.site.Site.{Site}
use Rattle.shop_model.specs.declared.station.Breakdowns.{Breakdowns}
use Rattle.shop_model.specs.declared.station.Order.{Order}
use Rattle.shop_model.specs.declared.station.Order.TheVariants.{First, Last, Priority}
use Rattle.shop_model.specs.declared.station.Station.{Station}
use Rattle.shop_model.specs.declared.station.TheConstants.{OPEN, HELD, LAG, FREE_SERVERS}
use Rattle.shop_model.specs.declared.step.Step.{Step}
use Rattle.shop_model.specs.declared.step.Step.TheVariants.{Visit, Free, Delay, Go}
use Rattle.shop_model.specs.declared.step.Visit.{Visit as AVisit}
use Rattle.shop_model.specs.HasStation.{HasLevels}
use Rattle.shop_model.specs.JobLaws.{HasHere}
use Rattle.shop_model.specs.Jobs.{server_of}
use Rattle.shop_model.specs.Lawful.{IsLawful, waiting_in}
use Rattle.shop_model.specs.Meaning.{job_here, is_served, come_by, done_by, station_effect}
use Rattle.shop_model.specs.Parts.{AreRoutes}
use Rattle.shop_model.specs.Routes.{class_at, step_at, stands_at, object_at, job_of, visit_of, visit_at, moved}
use Rattle.shop_model.specs.Sites.{to_self, told}
use Rattle.shop_model.specs.StationEffects.{free_effect, take_effect, wait_effect, lose_effect, arrive_effect, come_effect, first_level, called_place, begin_effect, begin_step, begin_job, pass_effect, entry_effect, call_effect, end_effect, done_effect, renege_effect, renege_step, renege_job, tires, tire_effect, shift_at, shift_sent, shift_effect, still_effect, break_effect, works_effect, mend_effect}
use Rattle.shop_model.specs.Stations.{counts_of, busy_of, spare_of, call_sent, gone_word, mark_word, jobs_line, until_line, level_of, is_entry, waiting_at}

-- a job goes on from a station where nothing else happens
abbrev pub onward_effect : Routes → Job → Event → Effect
onward_effect routes job e = record { changes = []; sends = moved routes job e.b (job.step + 1) 0 ∷ []; note = [] }

-- it gives a server back that is held
abbrev pub freed_effect : Site → Routes → Station → Job → CellData → Event → Effect
freed_effect site routes station job cells e =
    let counts = counts_of cells in
    record {
      changes = Set HELD (counts.held - 1) ∷ [];
      sends = moved routes job e.b (job.step + 1) 0 ∷ call_sent station.most site (record counts { held = counts.held - 1 });
      note = told FREED_WORD job.id counts.waiting;
    }

-- its service ends
abbrev pub ended_effect : Site → Routes → Station → Job → CellData → Event → Effect
ended_effect site routes station job cells e =
    let counts = counts_of cells in
    record {
      changes = Push FREE_SERVERS (server_of e.b) ∷ [];
      sends = moved routes job e.b (job.step + 1) 0 ∷ call_sent station.most site (record counts { free = counts.free + 1 });
      note = told DONE_WORD job.id counts.waiting;
    }

-- by how much the lag has grown since the service was put off last
abbrev pub late_by : Station → CellData → Event → ℕ
late_by station cells e = (slice_index cells.words LAG + 2 ^ 64 - slice_index cells.words (mark_word station (server_of e.b))) % 2 ^ 64

-- its service is put off
abbrev pub put_off_effect : Site → Station → CellData → Event → Effect
put_off_effect site station cells e =
    let word = mark_word station (server_of e.b) in
    let late = late_by station cells e in
    record {
      changes = Set word ((slice_index cells.words word + min late LONGEST) % 2 ^ 64) ∷ [];
      sends = to_self site (min late LONGEST) DONE e.a e.b ∷ [];
      note = [];
    }

-- a shift begins
abbrev pub opened_effect : Site → Station → CellData → Event → Effect
opened_effect site station cells e =
    let servers = (shift_at station e.a).servers in
    let counts = record (counts_of cells) { opened = servers } in
    record {
      changes = Set OPEN servers ∷ [];
      sends = shift_sent site station e.a ++ call_sent station.most site counts;
      note = told OPENED_WORD servers (busy_of station.most counts);
    }

-- an event of a kind at a step of its job's route
pub record IsAtStep (site : Site) (routes : Routes) (e : Event) (sort : ℕ) (job : Job) : Type 0 where
  pub kind : e.kind ≡ sort
  pub here : HasHere routes site.object e.a job
  pub within : job.step < length (class_at routes job.class).route

-- a job that waits, or the place of one that did
abbrev pub entry_at : CellData → ℕ → ℕ → ℕ
entry_at cells level place = slice_index (line_of cells (jobs_line level)) place

-- the place of the entry that is called at a level
abbrev pub calls_at : Station → CellData → ℕ → ℕ
calls_at station cells level = called_place station.order (length (line_of cells (jobs_line level)))

pub called_within : (station : Station) (cells : CellData) (level : ℕ) → 0 < length (line_of cells (jobs_line level)) → calls_at station cells level < length (line_of cells (jobs_line level))
called_within station cells level some = by station.order
  where
    by : (order : Order) → called_place order (length (line_of cells (jobs_line level))) < length (line_of cells (jobs_line level))
    by First = some
    by Last = omega arith
    by Priority = some

-- a spare server calls an entry of this level, where a job waits
pub record Calls (station : Station) (cells : CellData) (e : Event) (level : ℕ) : Type 0 where
  pub kind : e.kind ≡ CALL
  pub waits : 0 < (counts_of cells).waiting
  pub spare : 0 < spare_of station.most (counts_of cells)
  pub first : level ≡ first_level station cells
  pub below : level < station.levels
  pub some : 0 < length (line_of cells (jobs_line level))

-- a job waits there, for a visit
pub record WaitsAt (routes : Routes) (cells : CellData) (level place : ℕ) (job : Job) (visit : AVisit) : Type 0 where
  pub small : entry_at cells level place < EMPTY
  pub found : job_of routes (entry_at cells level place) ≡ Some job
  pub visits : step_at routes job.class job.step ≡ Some (Visit visit)

-- no break is due while the station works, nor is a repair
pub record NoTurn (station : Station) (cells : CellData) (e : Event) : Type 0 where
  pub break : e.kind ≡ BREAK → (breakdowns : Breakdowns) → station.breakdowns ≡ Some breakdowns → (counts_of cells).down ≢ 0
  pub mend : e.kind ≡ MEND → station.breakdowns ≡ None

pub other_turn : (station : Station) (cells : CellData) (e : Event) → e.kind ≢ BREAK → e.kind ≢ MEND → NoTurn station cells e
other_turn station cells e no_break no_mend = record { break = λ is. absurd (no_break is); mend = λ is. absurd (no_mend is) }

-- an event at a station does one of these
pub data StationDoes (site : Site) (routes : Routes) (station : Station) (cells : CellData) (e : Event) : Effect → Type 0 where
  rests : e.kind ≢ COME → e.kind ≢ DONE → (e.kind ≡ CALL → 0 < (counts_of cells).waiting → 0 < spare_of station.most (counts_of cells) → ⊥) → NoTurn station cells e
      → StationDoes site routes station cells e blank
  goes_on : (job : Job) → IsAtStep site routes e COME job → StationDoes site routes station cells e (onward_effect routes job e)
  frees : (job : Job) → IsAtStep site routes e COME job → 0 < (counts_of cells).held
      → StationDoes site routes station cells e (freed_effect site routes station job cells e)
  takes : (job : Job) (visit : AVisit) → IsAtStep site routes e COME job → step_at routes job.class job.step ≡ Some (Visit visit)
      → (counts_of cells).waiting ≡ 0 → 0 < spare_of station.most (counts_of cells)
      → StationDoes site routes station cells e (take_effect site routes station visit job cells e)
  waits : (job : Job) (visit : AVisit) (level : ℕ) → IsAtStep site routes e COME job → step_at routes job.class job.step ≡ Some (Visit visit)
      → level < station.levels → ((counts_of cells).waiting ≡ 0 → spare_of station.most (counts_of cells) ≡ 0)
      → StationDoes site routes station cells e (wait_effect site visit level job cells e)
  loses : (job : Job) (visit : AVisit) → IsAtStep site routes e COME job → step_at routes job.class job.step ≡ Some (Visit visit)
      → StationDoes site routes station cells e (lose_effect routes visit job cells e)
  passes : (level : ℕ) → Calls station cells e level → EMPTY ≤ entry_at cells level (calls_at station cells level)
      → StationDoes site routes station cells e (pass_effect site station level cells)
  begins : (level : ℕ) (job : Job) (visit : AVisit) → Calls station cells e level → WaitsAt routes cells level (calls_at station cells level) job visit
      → StationDoes site routes station cells e (begin_effect site routes station level (calls_at station cells level) visit job cells)
  ends : (job : Job) → IsAtStep site routes e DONE job → server_of e.b < station.most → (counts_of cells).free < station.most → late_by station cells e ≡ 0
      → StationDoes site routes station cells e (ended_effect site routes station job cells e)
  puts_off : (job : Job) → IsAtStep site routes e DONE job → is_served (step_at routes job.class job.step) ≡ true → server_of e.b < station.most → late_by station cells e ≢ 0
      → StationDoes site routes station cells e (put_off_effect site station cells e)
  reneges : (level place : ℕ) (job : Job) (visit : AVisit) → e.kind ≡ TIRE → level < station.levels → place < length (line_of cells (jobs_line level))
      → slice_index (line_of cells (until_line level)) place ≡ site.tick → WaitsAt routes cells level place job visit
      → StationDoes site routes station cells e (renege_effect site routes level place visit job cells)
  shifts : e.kind ≡ SHIFT → e.a < length station.shifts → StationDoes site routes station cells e (opened_effect site station cells e)
  stands : (breakdowns : Breakdowns) → e.kind ≡ BREAK → station.breakdowns ≡ Some breakdowns → (counts_of cells).down ≡ 0
      → StationDoes site routes station cells e (still_effect site station breakdowns.down cells)
  works : (breakdowns : Breakdowns) → e.kind ≡ MEND → station.breakdowns ≡ Some breakdowns
      → StationDoes site routes station cells e (works_effect site station breakdowns.up cells)

-- a job that comes, or is served, stands here
pub job_here-there : (routes : Routes) (object a : ℕ) (job : Job) → HasHere routes object a job → job_here routes object a ≡ Some job
unfolding job_here
job_here-there routes object a job has =
    ap (λ found. option_and_then (λ (j : Job). if object_at routes j.class j.step == object then Some j else None) found) has.is
    ∙ ap (λ b. if b then Some job else None) (eq-eqb _ _ has.here)

-- at a station a job visits it, or gives a server back
pub step_within : (routes : Routes) (class step : ℕ) (at : Step) → step_at routes class step ≡ Some at → step < length (class_at routes class).route
step_within routes class step at is = slice_get_within (class_at routes class).route step at is

-- what waits at a place is a job that visits the station
pub record VisitsHere (routes : Routes) (object a : ℕ) : Type 0 where
  pub job : Job
  pub visit : AVisit
  pub found : job_of routes a ≡ Some job
  pub visits : step_at routes job.class job.step ≡ Some (Visit visit)

pub entry_visits : (routes : Routes) (object a : ℕ) → a < EMPTY → is_entry object routes a ≡ true → VisitsHere routes object a
unfolding is_entry visit_at
entry_visits routes object a small entry =
    let low : min a (2 ^ 64 - 1 - a) ≡ a = omega arith in
    by (job_of routes a) refl
    (sym (ap (λ n. is_some (option_and_then (λ (j : Job). visit_of object (step_at routes j.class j.step)) (job_of routes n))) low) ∙ entry)
  where
    at : (job : Job) → job_of routes a ≡ Some job → (step : Option Step) → step_at routes job.class job.step ≡ step → is_some (visit_of object step) ≡ true → VisitsHere routes object a
    at job found None steps some = absurd (cc)
    at job found (Some (Visit visit)) steps some = record { job = job; visit = visit; found = found; visits = steps }
    at job found (Some (Free other)) steps some = absurd (cc)
    at job found (Some (Delay law)) steps some = absurd (cc)
    at job found (Some (Go branch)) steps some = absurd (cc)

    by : (found : Option Job) → job_of routes a ≡ found → is_some (option_and_then (λ (j : Job). visit_of object (step_at routes j.class j.step)) found) ≡ true → VisitsHere routes object a
    by None found some = absurd (cc)
    by (Some job) found some = at job found (step_at routes job.class job.step) refl some

pub sums_none : (f : ℕ → ℕ) (a n : ℕ) → ((k : ℕ) → a ≤ k → k < a + n → f k ≡ 0) → sum_by f (range_with_len a n) ≡ 0
sums_none f a zero none = refl
sums_none f a (suc n) none =
    omega (arith, sum_by-cons f a (range_with_len (a + 1) n), none a (omega arith) (omega arith), sums_none f (a + 1) n (λ k from to. none k (omega arith) (omega arith)))

-- where somebody waits, the first level that has an entry has one
level_called : (object : ℕ) (routes : Routes) (station : Station) (cells : CellData) → IsLawful object routes station cells → 1 ≤ station.levels → 0 < (counts_of cells).waiting
    → 0 < length (line_of cells (jobs_line (first_level station cells)))
unfolding first_level waiting_at
level_called object routes station cells is levels some = ⊎_elim
    (λ (there : 0 < length (line_of cells (jobs_line first))). there)
    (λ (none : length (line_of cells (jobs_line first)) ≤ 0). absurd (
    let zero : waiting_in cells station.levels ≡ 0 = sums_none (λ k. waiting_at cells k) 0 station.levels (λ k from to. nobody k (omega arith) none) in
    omega (arith, is.waiting, zero)
    ))
    (cases_lt 0 (length (line_of cells (jobs_line first))))
  where
    test : ℕ → Bool
    test level = nat_lt 0 (length (line_of cells (jobs_line level)))

    numbers : List ℕ
    numbers = range_with_len 0 (station.levels - 1)

    first : ℕ
    first = position_or_len test numbers

    upto : first ≤ station.levels - 1
    upto = omega (arith, prefix_len-le-length (λ (level : ℕ). not (test level)) numbers, length-range_with_len 0 (station.levels - 1))

    number : (k : ℕ) → k < station.levels - 1 → get_or numbers k 0 ≡ k
    number k below = omega (arith, get_or-range_with_len 0 (station.levels - 1) k 0 below)

    empty : (k : ℕ) → k < station.levels → length (line_of cells (jobs_line first)) ≤ 0 → length (line_of cells (jobs_line k)) ≤ 0
    empty k below none = ⊎_elim
        (λ (before : k < first).
        let fails : test (get_or numbers k 0) ≡ false = fails_before_first test numbers k 0 before in
        let at : test k ≡ false = ap test (sym (number k (omega (arith, upto)))) ∙ fails in
        ltb-false 0 (length (line_of cells (jobs_line k))) at)
        (λ (past : first ≤ k). ⊎_elim
        (λ (short : first < station.levels - 1). absurd (
        let passes_there : test (get_or numbers first 0) ≡ true = passes_at_first test numbers 0 (omega (arith, length-range_with_len 0 (station.levels - 1))) in
        let at : test first ≡ true = ap test (sym (number first short)) ∙ passes_there in
        let there : 0 < length (line_of cells (jobs_line first)) = ltb-true 0 (length (line_of cells (jobs_line first))) at in
        omega arith
        ))
        (λ (last : station.levels - 1 ≤ first).
        let same : k ≡ first = omega (arith, upto) in
        subst (λ j. length (line_of cells (jobs_line j)) ≤ 0) (sym same) none)
        (cases_lt first (station.levels - 1)))
        (cases_lt k first)

    nobody : (k : ℕ) → k < station.levels → length (line_of cells (jobs_line first)) ≤ 0 → waiting_at cells k ≡ 0
    nobody k below none =
        let few : count_by (λ a. nat_lt a EMPTY) (line_of cells (jobs_line k)) ≤ length (line_of cells (jobs_line k)) = count_by-le-length (λ a. nat_lt a EMPTY) (line_of cells (jobs_line k)) in
        omega (arith, few, empty k below none)

-- what is known where an event is at a station
pub record IsEventAt (site : Site) (routes : Routes) (station : Station) (cells : CellData) (e : Event) : Type 0 where
  pub routes_fine : AreRoutes routes
  pub levels : HasLevels routes station
  pub some_levels : 1 ≤ station.levels
  pub exists : site.object < routes.stations
  pub lawful : IsLawful site.object routes station cells
  pub comes : e.kind ≡ COME → (job : Job) × HasHere routes site.object e.a job
  pub serves : e.kind ≡ DONE → (job : Job) × HasHere routes site.object e.a job × (is_served (step_at routes job.class job.step) ≡ true)
  pub server : e.kind ≡ DONE → server_of e.b < station.most
  pub busy : e.kind ≡ DONE → (counts_of cells).free < station.most

module _ (site : Site) (routes : Routes) (station : Station) (cells : CellData) (e : Event) (is : IsEventAt site routes station cells e) where
  abbrev Does : Effect → Type 0
  Does x = StationDoes site routes station cells e x

  other_place : (job : Job) → HasHere routes site.object e.a job → (step : Option Step) → step_at routes job.class job.step ≡ step
      → stands_at (routes.stations + job.class) step ≡ site.object
  unfolding object_at
  other_place job has step steps = ap (λ s. stands_at (routes.stations + job.class) s) (sym steps) ∙ has.here

  free_does : (job : Job) → IsAtStep site routes e COME job → Does (free_effect site routes station job cells e)
  unfolding free_effect
  free_does job at = by ((counts_of cells).held == 0) refl
    where
      by : (none : Bool) → ((counts_of cells).held == 0) ≡ none → Does (if none then onward_effect routes job e else freed_effect site routes station job cells e)
      by true none = goes_on job at
      by false some = frees job at (grind (arith, nat_tests))

  arrive_does : (job : Job) (visit : AVisit) → IsAtStep site routes e COME job → step_at routes job.class job.step ≡ Some (Visit visit)
      → Does (arrive_effect site routes station visit job cells e)
  unfolding arrive_effect
  arrive_does job visit at visits = by ((counts_of cells).waiting == 0 && nat_lt 0 spare) (nat_lt (counts_of cells).waiting (station.line + spare)) refl
    where
      spare : ℕ
      spare = spare_of station.most (counts_of cells)

      level : ℕ
      level = level_of station.order (class_at routes job.class).priority

      by : (begins room : Bool) → ((counts_of cells).waiting == 0 && nat_lt 0 spare) ≡ begins
          → Does (if begins then take_effect site routes station visit job cells e else if room then wait_effect site visit level job cells e else lose_effect routes visit job cells e)
      by true room begins_is = takes job visit at visits (eqb-true _ _ (and_parts _ _ begins_is).0) (ltb-true _ _ (and_parts _ _ begins_is).1)
      by false true begins_is =
          waits job visit level at visits (is.levels job.class at.here.names.has.class)
          (λ nobody.
          let none : ((counts_of cells).waiting == 0) ≡ true = eq-eqb (counts_of cells).waiting 0 nobody in
          let busy : nat_lt 0 spare ≡ false = ap (λ b. b && nat_lt 0 spare) (sym none) ∙ begins_is in
          let few : spare ≤ 0 = ltb-false 0 spare busy in
          omega arith)
      by false false begins_is = loses job visit at visits

  come_does : (job : Job) → e.kind ≡ COME → HasHere routes site.object e.a job → (step : Option Step) → step_at routes job.class job.step ≡ step
      → Does (come_effect site routes station step job cells e)
  come_does job kind has None steps = absurd (let there = other_place job has None steps in omega (arith, is.exists))
  come_does job kind has (Some (Visit visit)) steps = arrive_does job visit (record { kind = kind; here = has; within = step_within routes job.class job.step (Visit visit) steps }) steps
  come_does job kind has (Some (Free other)) steps = free_does job (record { kind = kind; here = has; within = step_within routes job.class job.step (Free other) steps })
  come_does job kind has (Some (Delay law)) steps = absurd (let there = other_place job has (Some (Delay law)) steps in omega (arith, is.exists))
  come_does job kind has (Some (Go branch)) steps = absurd (let there = other_place job has (Some (Go branch)) steps in omega (arith, is.exists))

  comes_does : e.kind ≡ COME → Does (come_by site routes station cells e (job_here routes site.object e.a))
  comes_does kind =
      let found = is.comes kind in
      subst (λ job. Does (come_by site routes station cells e job)) (sym (job_here-there routes site.object e.a found.0 found.1))
      (come_does found.0 kind found.1 (step_at routes found.0.class found.0.step) refl)

  -- the step of a served job is a visit
  served_within : (job : Job) (step : Option Step) → step_at routes job.class job.step ≡ step → is_served step ≡ true → job.step < length (class_at routes job.class).route
  served_within job None steps served = absurd (cc)
  served_within job (Some at) steps served = step_within routes job.class job.step at steps

  done_does : (job : Job) → IsAtStep site routes e DONE job → is_served (step_at routes job.class job.step) ≡ true → Does (done_effect site routes station job cells e)
  unfolding done_effect end_effect
  done_does job at served = by (nat_le station.most (server_of e.b)) (late_by station cells e == 0) (nat_lt (counts_of cells).free station.most) refl refl refl
    where
      by : (past ready some : Bool) → nat_le station.most (server_of e.b) ≡ past → (late_by station cells e == 0) ≡ ready → nat_lt (counts_of cells).free station.most ≡ some
          → Does (if past then blank else if ready then (if some then ended_effect site routes station job cells e else blank) else put_off_effect site station cells e)
      by true ready some past_is ready_is some_is = absurd (let most : station.most ≤ server_of e.b = leb-true _ _ past_is in let below = is.server at.kind in omega arith)
      by false true false past_is ready_is some_is = absurd (let busy = is.busy at.kind in grind (arith, nat_tests))
      by false true true past_is ready_is some_is = ends job at (is.server at.kind) (is.busy at.kind) (eqb-true _ _ ready_is)
      by false false some past_is ready_is some_is = puts_off job at served (is.server at.kind) (eqb-false _ _ ready_is)

  dones_does : e.kind ≡ DONE → Does (done_by site routes station cells e (job_here routes site.object e.a))
  dones_does kind =
      let found = is.serves kind in
      let job : Job = found.0 in
      let within = served_within job (step_at routes job.class job.step) refl found.2 in
      subst (λ j. Does (done_by site routes station cells e j)) (sym (job_here-there routes site.object e.a job found.1))
      (subst (λ b. Does (if b then done_effect site routes station job cells e else blank)) (sym found.2)
      (done_does job (record { kind = kind; here = found.1; within = within }) found.2))

  first_level-lt : first_level station cells < station.levels
  unfolding first_level
  first_level-lt =
      let test = λ (level : ℕ). nat_lt 0 (length (line_of cells (jobs_line level))) in
      let some = is.some_levels in
      omega (arith, prefix_len-le-length (λ (level : ℕ). not (test level)) (range_with_len 0 (station.levels - 1)), length-range_with_len 0 (station.levels - 1))

  -- the entry that is called is begun with
  begin_does : (level a : ℕ) → a ≡ entry_at cells level (calls_at station cells level) → Calls station cells e level → a < EMPTY
      → Does (begin_job site routes station level (calls_at station cells level) cells (job_of routes a))
  begin_does level a at calls small =
      let place = calls_at station cells level in
      let within : place < length (line_of cells (jobs_line level)) = called_within station cells level calls.some in
      let entry : is_entry site.object routes (entry_at cells level place) ≡ true = (is.lawful.levels level calls.below).entries place 0 within in
      let little : entry_at cells level place < EMPTY = omega arith in
      let v : VisitsHere routes site.object (entry_at cells level place) = entry_visits routes site.object (entry_at cells level place) little entry in
      subst (λ n. Does (begin_job site routes station level place cells (job_of routes n))) (sym at)
      (subst (λ (found : Option Job). Does (begin_job site routes station level place cells found)) (sym v.found)
      (subst (λ (step : Option Step). Does (begin_step site routes station level place v.job cells step)) (sym v.visits)
      (begins level v.job v.visit calls (record { small = little; found = v.found; visits = v.visits }))))

  -- somebody stands at the level that is called
  first_there : 0 < (counts_of cells).waiting → 0 < length (line_of cells (jobs_line (first_level station cells)))
  first_there some = level_called site.object routes station cells is.lawful is.some_levels some

  call_does : e.kind ≡ CALL → e.kind ≢ COME → e.kind ≢ DONE → Does (call_effect site routes station cells)
  unfolding call_effect entry_effect
  call_does kind no_come no_done =
      by (nat_lt 0 (counts_of cells).waiting && nat_lt 0 (spare_of station.most (counts_of cells))) (length jobs == 0) (nat_le EMPTY a) refl refl refl
    where
      level : ℕ
      level = first_level station cells

      jobs : List ℕ
      jobs = line_of cells (jobs_line level)

      a : ℕ
      a = slice_index jobs (called_place station.order (length jobs))

      by : (calls none empty : Bool) → (nat_lt 0 (counts_of cells).waiting && nat_lt 0 (spare_of station.most (counts_of cells))) ≡ calls → (length jobs == 0) ≡ none → nat_le EMPTY a ≡ empty
          → Does (if calls then (if none then blank else if empty then pass_effect site station level cells
          else begin_job site routes station level (called_place station.order (length jobs)) cells (job_of routes a)) else blank)
      by false none empty calls_is none_is empty_is =
          rests no_come no_done
          (λ call some spare.
          let both : (nat_lt 0 (counts_of cells).waiting && nat_lt 0 (spare_of station.most (counts_of cells))) ≡ true =
          and_from (nat_lt 0 (counts_of cells).waiting) (nat_lt 0 (spare_of station.most (counts_of cells))) (lt-ltb 0 (counts_of cells).waiting some) (lt-ltb 0 (spare_of station.most (counts_of cells)) spare) in
          absurd (cc))
          (other_turn station cells e (λ d. absurd (omega arith)) (λ d. absurd (omega arith)))
      by true true empty calls_is none_is empty_is = absurd (
          let some : 0 < (counts_of cells).waiting =
          ltb-true 0 (counts_of cells).waiting (and_parts (nat_lt 0 (counts_of cells).waiting) (nat_lt 0 (spare_of station.most (counts_of cells))) calls_is).0 in
          let there = first_there some in
          let zero : length jobs ≡ 0 = eqb-true (length jobs) 0 none_is in
          omega arith
          )
      by true false empty calls_is none_is empty_is = at empty empty_is
        where
          calls : Calls station cells e level
          calls = record {
            kind = kind;
            waits = ltb-true 0 (counts_of cells).waiting (and_parts (nat_lt 0 (counts_of cells).waiting) (nat_lt 0 (spare_of station.most (counts_of cells))) calls_is).0;
            spare = ltb-true 0 (spare_of station.most (counts_of cells)) (and_parts (nat_lt 0 (counts_of cells).waiting) (nat_lt 0 (spare_of station.most (counts_of cells))) calls_is).1;
            first = refl;
            below = first_level-lt;
            some = grind (arith, nat_tests);
          }

          at : (empty : Bool) → nat_le EMPTY a ≡ empty
              → Does (if empty then pass_effect site station level cells else begin_job site routes station level (called_place station.order (length jobs)) cells (job_of routes a))
          at true empty_is = passes level calls (leb-true _ _ empty_is)
          at false empty_is = begin_does level a refl calls (leb-false _ _ empty_is)

  renege_does : (level place a : ℕ) (found : Option Job) → a ≡ entry_at cells level place → job_of routes a ≡ found → e.kind ≡ TIRE → level < station.levels
      → place < length (line_of cells (jobs_line level)) → a < EMPTY → slice_index (line_of cells (until_line level)) place ≡ site.tick
      → e.kind ≢ COME → e.kind ≢ DONE → Does (renege_job site routes level place cells found)
  renege_does level place a None at finds kind below within small now no_come no_done = rests no_come no_done (λ call. absurd (omega arith)) (other_turn station cells e (λ d. absurd (omega arith)) (λ d. absurd (omega arith)))
  renege_does level place a (Some job) at finds kind below within small now no_come no_done = by (step_at routes job.class job.step) refl
    where
      by : (step : Option Step) → step_at routes job.class job.step ≡ step → Does (renege_step site routes level place job cells step)
      by None steps = rests no_come no_done (λ call. absurd (omega arith)) (other_turn station cells e (λ d. absurd (omega arith)) (λ d. absurd (omega arith)))
      by (Some (Visit visit)) steps = reneges level place job visit kind below within now (record { small = omega arith; found = ap (λ n. job_of routes n) (sym at) ∙ finds; visits = steps })
      by (Some (Free other)) steps = rests no_come no_done (λ call. absurd (omega arith)) (other_turn station cells e (λ d. absurd (omega arith)) (λ d. absurd (omega arith)))
      by (Some (Delay law)) steps = rests no_come no_done (λ call. absurd (omega arith)) (other_turn station cells e (λ d. absurd (omega arith)) (λ d. absurd (omega arith)))
      by (Some (Go branch)) steps = rests no_come no_done (λ call. absurd (omega arith)) (other_turn station cells e (λ d. absurd (omega arith)) (λ d. absurd (omega arith)))

  tire_does : e.kind ≡ TIRE → e.kind ≢ COME → e.kind ≢ DONE → Does (tire_effect site routes station cells e)
  unfolding tire_effect tires
  tire_does kind no_come no_done = by (nat_lt e.b station.levels && nat_le gone e.a && tires site cells e.b place) refl
    where
      gone : ℕ
      gone = slice_index cells.words (gone_word e.b)

      place : ℕ
      place = e.a - gone

      by : (goes : Bool) → (nat_lt e.b station.levels && nat_le gone e.a && tires site cells e.b place) ≡ goes
          → Does (if goes then renege_job site routes e.b place cells (job_of routes (entry_at cells e.b place)) else blank)
      by false goes = rests no_come no_done (λ call. absurd (omega arith)) (other_turn station cells e (λ d. absurd (omega arith)) (λ d. absurd (omega arith)))
      by true goes =
          let both = and_parts _ _ goes in
          let level = and_parts _ _ both.0 in
          let all = and_parts _ _ both.1 in
          let waits = and_parts _ _ all.0 in
          renege_does e.b place (entry_at cells e.b place) (job_of routes (entry_at cells e.b place)) refl refl kind (ltb-true _ _ level.0) (ltb-true _ _ waits.0) (ltb-true _ _ waits.1)
          (eqb-true _ _ all.1) no_come no_done

  shift_does : e.kind ≡ SHIFT → e.kind ≢ COME → e.kind ≢ DONE → Does (shift_effect site station cells e)
  unfolding shift_effect
  shift_does kind no_come no_done = by (nat_lt e.a (length station.shifts)) refl
    where
      by : (exists : Bool) → nat_lt e.a (length station.shifts) ≡ exists → Does (if exists then opened_effect site station cells e else blank)
      by true exists = shifts kind (ltb-true _ _ exists)
      by false exists = rests no_come no_done (λ call. absurd (omega arith)) (other_turn station cells e (λ d. absurd (omega arith)) (λ d. absurd (omega arith)))

  break_does : (breakdowns : Option Breakdowns) → station.breakdowns ≡ breakdowns → e.kind ≡ BREAK → e.kind ≢ COME → e.kind ≢ DONE → Does (break_effect site station cells breakdowns)
  break_does None has kind no_come no_done =
      rests no_come no_done (λ call. absurd (omega arith)) (record { break = λ is breakdowns some. absurd (cc); mend = λ is. has })
  break_does (Some breakdowns) has kind no_come no_done = by ((counts_of cells).down == 0) refl
    where
      by : (up : Bool) → ((counts_of cells).down == 0) ≡ up → Does (if up then still_effect site station breakdowns.down cells else blank)
      by true up = stands breakdowns kind has (eqb-true _ _ up)
      by false up =
          rests no_come no_done (λ call. absurd (omega arith)) (record { break = λ is breakdowns some. eqb-false (counts_of cells).down 0 up; mend = λ is. absurd (omega arith) })

  mend_does : (breakdowns : Option Breakdowns) → station.breakdowns ≡ breakdowns → e.kind ≡ MEND → e.kind ≢ COME → e.kind ≢ DONE → Does (mend_effect site station cells breakdowns)
  mend_does None has kind no_come no_done =
      rests no_come no_done (λ call. absurd (omega arith)) (record { break = λ is. absurd (omega arith); mend = λ is. has })
  mend_does (Some breakdowns) has kind no_come no_done = works breakdowns kind has

  pub station_does : Does (station_effect site routes station cells e)
  unfolding station_effect
  station_does =
      by (e.kind == COME) (e.kind == DONE) (e.kind == CALL) (e.kind == TIRE) (e.kind == SHIFT) (e.kind == BREAK) (e.kind == MEND) refl refl refl refl refl refl refl
    where
      by : (come done call tire shift break mend : Bool) → (e.kind == COME) ≡ come → (e.kind == DONE) ≡ done → (e.kind == CALL) ≡ call → (e.kind == TIRE) ≡ tire
          → (e.kind == SHIFT) ≡ shift → (e.kind == BREAK) ≡ break → (e.kind == MEND) ≡ mend → Does
          (if come then come_by site routes station cells e (job_here routes site.object e.a)
          else if done then done_by site routes station cells e (job_here routes site.object e.a)
          else if call then call_effect site routes station cells
          else if tire then tire_effect site routes station cells e
          else if shift then shift_effect site station cells e
          else if break then break_effect site station cells station.breakdowns
          else if mend then mend_effect site station cells station.breakdowns
          else blank)
      by true done call tire shift break mend a b c d f g h = comes_does (eqb-true _ _ a)
      by false true call tire shift break mend a b c d f g h = dones_does (eqb-true _ _ b)
      by false false true tire shift break mend a b c d f g h = call_does (eqb-true _ _ c) (eqb-false _ _ a) (eqb-false _ _ b)
      by false false false true shift break mend a b c d f g h = tire_does (eqb-true _ _ d) (eqb-false _ _ a) (eqb-false _ _ b)
      by false false false false true break mend a b c d f g h = shift_does (eqb-true _ _ f) (eqb-false _ _ a) (eqb-false _ _ b)
      by false false false false false true mend a b c d f g h = break_does station.breakdowns refl (eqb-true _ _ g) (eqb-false _ _ a) (eqb-false _ _ b)
      by false false false false false false true a b c d f g h = mend_does station.breakdowns refl (eqb-true _ _ h) (eqb-false _ _ a) (eqb-false _ _ b)
      by false false false false false false false a b c d f g h = rests (eqb-false _ _ a) (eqb-false _ _ b) (λ call. absurd (eqb-false _ _ c call)) (other_turn station cells e (eqb-false _ _ g) (eqb-false _ _ h))
