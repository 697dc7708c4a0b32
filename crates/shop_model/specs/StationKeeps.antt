-- A station keeps the laws of models.
use Rattle.std.proofs.Common.{◌≡◌, ℕ, ◌+◌, ◌-◌, ◌%◌, ◌^◌, ◌<◌, ◌≤◌, Bool, true, false, List, [], ◌∷◌, ◌++◌, length, take, refl, ap, sym, ◌∙◌, subst}
use Rattle.std.proofs.Common.{⊎_elim, length-append, get_or-set_other, arith}
use Rattle.std.specs.Prelude.{IsTrue, if◌then◌else◌, ◌==◌, ◌&&◌, min, nat_lt, nat_le, is_none, not, slice_set, slice_index, slice_index_or, Option}
use Rattle.std.specs.Prelude.{None, Some}
use Rattle.std.specs.List.{range_with_len, AllPairs}
use Rattle.std.specs.Option.{ForSome}
use Rattle.std.proofs.lemmas.Bool.{and_parts, cases_eq, ltb-true, leb-true, leb-false}
use Rattle.std.proofs.lemmas.Bool.Decides.{nat_tests}
use Rattle.std.proofs.lemmas.List.FromFn.{length-range_with_len}
use Rattle.std.proofs.lemmas.List.Sums.{prefix_len-le-length}
use Rattle.delta_exchange.specs.declared.change.Change.{Change}
use Rattle.delta_exchange.specs.declared.change.Change.TheVariants.{Set, Push, Unpush, Flip}
use Rattle.delta_exchange.specs.Changes.{CellData, line_of, AllFit, cells_after_all}
use Rattle.model_core.specs.declared.effect.Effect.{Effect}
use Rattle.model_core.specs.declared.event.Event.{Event}
use Rattle.model_core.specs.declared.words.TheConstants.{FREED_WORD, DONE_WORD, OPENED_WORD}
use Rattle.model_core.specs.Effects.{blank}
use Rattle.model_core.specs.Places.{place_changes, place_cases}
use Rattle.random_streams.specs.declared.delay_law.DelayLaw.{DelayLaw}
use Rattle.random_streams.specs.Delays.{is_delay_law}
use Rattle.shop_model.specs.declared.counts.Counts.{Counts}
use Rattle.shop_model.specs.declared.done.TheConstants.{LONGEST}
use Rattle.shop_model.specs.declared.job.Job.{Job}
use Rattle.shop_model.specs.declared.kinds.TheConstants.{COME, DONE, CALL, TIRE, SHIFT, BREAK, MEND}
use Rattle.shop_model.specs.declared.levels.TheConstants.{EMPTY}
use Rattle.shop_model.specs.declared.routes.Routes.{Routes}
use Rattle.shop_model.specs.declared.site.Site.{Site}
use Rattle.shop_model.specs.declared.station.Breakdowns.{Breakdowns}
use Rattle.shop_model.specs.declared.station.Order.{Order}
use Rattle.shop_model.specs.declared.station.Order.TheVariants.{First, Last, Priority}
use Rattle.shop_model.specs.declared.station.Shift.{Shift}
use Rattle.shop_model.specs.declared.station.Station.{Station}
use Rattle.shop_model.specs.declared.station.TheConstants.{OPEN, HELD, WAITING, DOWN, LAG, FREE_SERVERS}
use Rattle.shop_model.specs.declared.step.Step.{Step}
use Rattle.shop_model.specs.declared.step.Step.TheVariants.{Visit, Free, Delay, Go}
use Rattle.shop_model.specs.declared.step.Visit.{Visit as AVisit}
use Rattle.shop_model.specs.Beginnings.{next_server, service_drawn, begin_changes, begin_sent, counts_begun}
use Rattle.shop_model.specs.CountLaws.{spare_frees, spare-le}
use Rattle.shop_model.specs.EffectKeeps.{EffectKeeps, Sent, sent_append, sent_more, self_sent, call_sent-laws, job_sent, drawn_short, few_places}
use Rattle.shop_model.specs.EffectKeeps.{blank_keeps, step_fine}
use Rattle.shop_model.specs.EntrySteps.{wait_keeps, called_keeps, passed_keeps, renege_keeps}
use Rattle.shop_model.specs.HasStation.{IsStation, IsShift, AreBreakdowns, HasLevels}
use Rattle.shop_model.specs.JobLaws.{HasHere, job_named, job_here_is, waits_here}
use Rattle.shop_model.specs.Jobs.{job_at, birth_of, server_of, served_by}
use Rattle.shop_model.specs.Keeping.{Keeps, keeps_none, keeps_then}
use Rattle.shop_model.specs.Lawful.{IsLawful}
use Rattle.shop_model.specs.Meaning.{job_here, is_served, come_by, done_by, station_effect}
use Rattle.shop_model.specs.Parts.{AreRoutes, IsVisit}
use Rattle.shop_model.specs.Routes.{class_at, step_at, job_of, moved, HasJob}
use Rattle.shop_model.specs.Sites.{to_self, place_of, words_at, drawn_at, drawn_or, told}
use Rattle.shop_model.specs.StationEffects.{free_effect, take_effect, until_of, tire_sent, wait_effect, lose_effect, arrive_effect, come_effect}
use Rattle.shop_model.specs.StationEffects.{first_level, called_place, out_changes, begin_effect, begin_step, begin_job, pass_effect, entry_effect}
use Rattle.shop_model.specs.StationEffects.{call_effect, end_effect, done_effect, renege_effect, renege_step, renege_job, tires, tire_effect}
use Rattle.shop_model.specs.StationEffects.{shift_at, shift_again, shift_sent, shift_effect, still_effect, break_effect, works_effect, mend_effect}
use Rattle.shop_model.specs.StationSteps.{Stands, set_other, set_open, set_down, set_held, push_server, unpush_server}
use Rattle.shop_model.specs.Stations.{counts_of, busy_of, spare_of, call_sent, gone_word, mark_word, jobs_line, births_line, since_line, until_line}
use Rattle.shop_model.specs.Stations.{level_of, is_entry}

-- at one of the stations, which has such cells
pub record AtStation (site : Site) (routes : Routes) (station : Station) (cells : CellData) : Type 0 where
  pub routes_fine : AreRoutes routes
  pub station_in_range : IsStation station
  pub levels : HasLevels routes station
  pub rising : AllPairs (λ (a b : Shift). a.at < b.at) station.shifts
  pub exists : site.object < routes.stations
  pub lawful : IsLawful site.object routes station cells

abbrev objects_of : Routes → ℕ
objects_of routes = routes.stations + length routes.classes

abbrev StationKeeps : Site → Routes → Station → CellData → Effect → Type 0
StationKeeps site routes station cells effect = EffectKeeps (objects_of routes) (IsLawful site.object routes station) cells effect

abbrev Stood : Site → Routes → Station → CellData → CellData → Type 0
Stood site routes station cells later = Stands site.object routes station (counts_of cells).held (line_of cells FREE_SERVERS) later

exists_here : (site : Site) (routes : Routes) (station : Station) (cells : CellData) → AtStation site routes station cells
    → site.object < objects_of routes
exists_here site routes station cells is = omega (arith, is.exists)

-- lawful cells, as they stand
as_they_stand : (site : Site) (routes : Routes) (station : Station) (cells : CellData) → IsLawful site.object routes station cells
    → Stood site routes station cells cells
as_they_stand site routes station cells is = record { lawful = is; held = refl; servers = refl }

-- the changes of lawful cells leave lawful ones
leaves_lawful : (site : Site) (routes : Routes) (station : Station) (held : ℕ) (servers : List ℕ) (changes : List Change) (cells : CellData)
    → Keeps (Stands site.object routes station held servers) changes cells → Keeps (IsLawful site.object routes station) changes cells
leaves_lawful site routes station held servers changes cells keeps = record { fits = keeps.fits; after = keeps.after.lawful }

-- later cells with the same lines, and as many waiting jobs
record SameLines (cells later : CellData) : Type 0 where
  lines : later.lines ≡ cells.lines
  waiting : (counts_of later).waiting ≡ (counts_of cells).waiting

-- where the random place moves on, what follows does what it would do without that
placed_keeps : (site : Site) (routes : Routes) (station : Station) (Q : CellData → Type 0) (next : ℕ) (rest : List Change) (cells : CellData)
    → IsLawful site.object routes station cells
    → ((later : CellData) → Stood site routes station cells later → SameLines cells later → Keeps Q rest later)
    → Keeps Q (place_changes (place_of cells) next ++ rest) cells
unfolding AllFit cells_after_all
placed_keeps site routes station Q next rest cells is follows =
    place_cases (λ drawn. Keeps Q (drawn ++ rest) cells) (place_of cells) next stays moves
  where
    stays : Keeps Q rest cells
    stays = follows cells (as_they_stand site routes station cells is) (record { lines = refl; waiting = refl })

    set : Keeps (Stood site routes station cells) (Set 0 next ∷ []) cells
    set = set_other site.object routes station (counts_of cells).held (line_of cells FREE_SERVERS) 0 next cells
        (as_they_stand site routes station cells is) (omega (arith, is.words))
        (λ e. absurd (omega arith)) (λ e. absurd (omega arith)) (λ e. absurd (omega arith)) (λ e. absurd (omega arith))

    later : CellData
    later = record cells { words = slice_set cells.words 0 next }

    moves : Keeps Q (Set 0 next ∷ rest) cells
    moves =
        let after : Stood site routes station cells later = set.after in
        let rest_keeps =
        follows later after (record { lines = refl; waiting = get_or-set_other cells.words 0 WAITING next 0 (λ e. absurd (omega arith)) }) in
        record { fits = (set.fits.0, rest_keeps.fits); after = rest_keeps.after }

-- a spare server begins a job
begin_keeps : (site : Site) (routes : Routes) (station : Station) (visit : AVisit) (cells later : CellData) (counts : Counts)
    → IsLawful site.object routes station cells
    → Stood site routes station cells later → counts.held ≡ (counts_of cells).held → (counts_of cells).held < (counts_of cells).free
    → Keeps (IsLawful site.object routes station) (begin_changes station cells visit counts) later
unfolding begin_changes
begin_keeps site routes station visit cells later counts is stood same spare = by (is_none visit.service)
  where
    held : ℕ
    held = (counts_of cells).held

    servers : List ℕ
    servers = line_of cells FREE_SERVERS

    server : next_server cells < station.most
    server = ltb-true _ _ (is.servers (length servers - 1) 0 (omega arith))

    by : (takes : Bool) → Keeps (IsLawful site.object routes station)
        (if takes then Set HELD (counts.held + 1) ∷ []
        else Unpush FREE_SERVERS ∷ Set (mark_word station (next_server cells)) (slice_index cells.words LAG) ∷ []) later
    by true =
        leaves_lawful site routes station (counts.held + 1) servers (Set HELD (counts.held + 1) ∷ []) later
        (set_held site.object routes station held servers (counts.held + 1) later stood (omega arith))
    by false =
        keeps_then (Stands site.object routes station held (take (length servers - 1) servers)) (IsLawful site.object routes station)
        (Unpush FREE_SERVERS ∷ []) (Set (mark_word station (next_server cells)) (slice_index cells.words LAG) ∷ []) later
        (unpush_server site.object routes station held servers later stood spare)
        (λ c after. leaves_lawful site routes station held (take (length servers - 1) servers)
        (Set (mark_word station (next_server cells)) (slice_index cells.words LAG) ∷ []) c
        (set_other site.object routes station held (take (length servers - 1) servers) (mark_word station (next_server cells))
        (slice_index cells.words LAG) c after
        (omega (arith, after.lawful.words, server)) (λ e. absurd (omega arith)) (λ e. absurd (omega arith)) (λ e. absurd (omega arith))
        (λ e. absurd (omega arith))))

few_begin : (station : Station) (cells : CellData) (visit : AVisit) (counts : Counts) → length (begin_changes station cells visit counts) ≤ 2
unfolding begin_changes
few_begin station cells visit counts = by (is_none visit.service)
  where
    by : (takes : Bool) → length (if takes then Set HELD (counts.held + 1) ∷ []
        else Unpush FREE_SERVERS ∷ Set (mark_word station (next_server cells)) (slice_index cells.words LAG) ∷ []) ≤ 2
    by true = omega arith
    by false = omega arith

few_out : (order : Order) (cells : CellData) (level : ℕ) → length (out_changes order cells level) ≤ 5
few_out Last cells level = omega arith
few_out First cells level = omega arith
few_out Priority cells level = omega arith

service_short : (site : Site) (routes : Routes) (cells : CellData) (steps : ℕ) (visit : AVisit) → IsVisit routes.stations steps visit
    → (service_drawn site cells visit).0 ≤ 2 ^ 40
service_short site routes cells steps visit fine = by visit.service fine.service
  where
    by : (service : Option DelayLaw) → ForSome service (λ law. IsTrue (is_delay_law law))
        → (drawn_or 0 (words_at site (place_of cells)) service).0 ≤ 2 ^ 40
    by None fine = omega arith
    by (Some law) fine = drawn_short site (place_of cells) law (fine law refl)

begin_sent_laws : (site : Site) (routes : Routes) (station : Station) (cells : CellData) (visit : AVisit) (service : ℕ) (job : Job) (birth : ℕ)
    → AtStation site routes station cells
    → HasJob routes job → service ≤ 2 ^ 40 → Sent (objects_of routes) 1 (begin_sent site routes cells visit service job birth ∷ [])
unfolding begin_sent
begin_sent_laws site routes station cells visit service job birth is has short = by (is_none visit.service)
  where
    by : (takes : Bool) → Sent (objects_of routes) 1
        ((if takes then moved routes job birth (job.step + 1) 0
        else to_self site service DONE (job_at job.step job.id) (served_by (next_server cells) birth)) ∷ [])
    by true = job_sent routes job birth (job.step + 1) 0 is.routes_fine has (omega arith)
    by false = self_sent (objects_of routes) site service DONE (job_at job.step job.id) (served_by (next_server cells) birth)
        (exists_here site routes station cells is) short

-- the step at which a job is
visit_fine : (routes : Routes) (job : Job) (visit : AVisit) → AreRoutes routes → HasJob routes job
    → step_at routes job.class job.step ≡ Some (Visit visit)
    → IsVisit routes.stations (length (class_at routes job.class).route) visit
visit_fine routes job visit fine has visits = step_fine routes job.class job.step fine has.class (Visit visit) visits

free_keeps : (site : Site) (routes : Routes) (station : Station) (cells : CellData) (event : Event) (job : Job) → AtStation site routes station cells
    → HasJob routes job
    → StationKeeps site routes station cells (free_effect site routes station job cells event)
unfolding free_effect AllFit cells_after_all
free_keeps site routes station cells event job is has = by ((counts_of cells).held == 0)
  where
    counts : Counts
    counts = counts_of cells

    onward : Sent (objects_of routes) 1 (moved routes job event.b (job.step + 1) 0 ∷ [])
    onward = job_sent routes job event.b (job.step + 1) 0 is.routes_fine has (omega arith)

    by : (none : Bool) → StationKeeps site routes station cells
        (if none then record { changes = []; sends = moved routes job event.b (job.step + 1) 0 ∷ []; note = [] }
        else record {
          changes = Set HELD (counts.held - 1) ∷ [];
          sends = moved routes job event.b (job.step + 1) 0 ∷ call_sent station.most site (record counts { held = counts.held - 1 });
          note = told FREED_WORD job.id counts.waiting;
        })
    by true = record {
      changes = keeps_none (IsLawful site.object routes station) cells is.lawful;
      few_changes = omega arith;
      few_sends = omega arith;
      sends = onward.sends;
    }
    by false =
        let sent = sent_more (objects_of routes) 1 (moved routes job event.b (job.step + 1) 0)
        (call_sent station.most site (record counts { held = counts.held - 1 })) onward
        (call_sent-laws (objects_of routes) station.most site (record counts { held = counts.held - 1 })
        (exists_here site routes station cells is)) in
        record {
          changes = leaves_lawful site routes station (counts.held - 1) (line_of cells FREE_SERVERS) (Set HELD (counts.held - 1) ∷ []) cells
              (set_held site.object routes station counts.held (line_of cells FREE_SERVERS) (counts.held - 1) cells
              (as_they_stand site routes station cells is.lawful) (omega (arith, is.lawful.held)));
          few_changes = omega arith;
          few_sends = omega (arith, sent.few);
          sends = sent.sends;
        }

take_keeps : (site : Site) (routes : Routes) (station : Station) (cells : CellData) (event : Event) (job : Job) (visit : AVisit)
    → AtStation site routes station cells → HasJob routes job
    → step_at routes job.class job.step ≡ Some (Visit visit) → 0 < spare_of station.most (counts_of cells)
    → StationKeeps site routes station cells (take_effect site routes station visit job cells event)
unfolding take_effect
take_keeps site routes station cells event job visit is has visits spare =
    let drawn = service_drawn site cells visit in
    let free : (counts_of cells).held < (counts_of cells).free =
    spare_frees station.most (counts_of cells) (record { free = is.lawful.free; held = is.lawful.held }) is.lawful.opened spare in
    let sent = begin_sent_laws site routes station cells visit drawn.0 job (birth_of event.b) is has
    (service_short site routes cells (length (class_at routes job.class).route) visit (visit_fine routes job visit is.routes_fine has visits)) in
    record {
      changes = placed_keeps site routes station (IsLawful site.object routes station) drawn.1
          (begin_changes station cells visit (counts_of cells)) cells is.lawful
          (λ later stood same. begin_keeps site routes station visit cells later (counts_of cells) is.lawful stood refl free);
      few_changes = omega (
        arith,
        few_places (place_of cells) drawn.1,
        few_begin station cells visit (counts_of cells),
        length-append (place_changes (place_of cells) drawn.1) (begin_changes station cells visit (counts_of cells)),
      );
      few_sends = omega arith;
      sends = sent.sends;
    }

tire_sent_laws : (site : Site) (routes : Routes) (station : Station) (cells : CellData) (level : ℕ) (patience : Option DelayLaw)
    → AtStation site routes station cells
    → ForSome patience (λ law. IsTrue (is_delay_law law)) → Sent (objects_of routes) 1 (tire_sent site cells level patience)
tire_sent_laws site routes station cells level None is fine = record { few = omega arith; sends = tt }
tire_sent_laws site routes station cells level (Some law) is fine =
    self_sent (objects_of routes) site (drawn_at site (place_of cells) law).0 TIRE _ level (exists_here site routes station cells is)
    (drawn_short site (place_of cells) law (fine law refl))

wait_effect_keeps : (site : Site) (routes : Routes) (station : Station) (cells : CellData) (event : Event) (job : Job) (visit : AVisit) (level : ℕ)
    → AtStation site routes station cells
    → IsVisit routes.stations (length (class_at routes job.class).route) visit → level < station.levels
    → is_entry site.object routes (job_at job.step job.id) ≡ true → job_at job.step job.id < EMPTY
    → (counts_of cells).waiting < station.line + spare_of station.most (counts_of cells)
    → StationKeeps site routes station cells (wait_effect site visit level job cells event)
unfolding wait_effect spare_of
wait_effect_keeps site routes station cells event job visit level is fine below entry small room =
    let next = (drawn_or 0 (words_at site (place_of cells)) visit.patience).1 in
    let waiting = (counts_of cells).waiting + 1 in
    let until = until_of site cells visit.patience in
    let few_spare : spare_of station.most (counts_of cells) ≤ station.most = spare-le station.most (counts_of cells) is.lawful.opened in
    let sent = tire_sent_laws site routes station cells level visit.patience is fine.patience in
    let rest : List Change = Set WAITING waiting ∷ Push (jobs_line level) (job_at job.step job.id) ∷ Push (births_line level) (birth_of event.b)
    ∷ Push (since_line level) site.tick ∷ Push (until_line level) until ∷ [] in
    record {
      changes = placed_keeps site routes station (IsLawful site.object routes station) next rest cells is.lawful
          (λ later stood same. leaves_lawful site routes station (counts_of cells).held (line_of cells FREE_SERVERS) rest later
          (wait_keeps site.object routes station (counts_of cells).held (line_of cells FREE_SERVERS) level waiting (job_at job.step job.id)
          (birth_of event.b) site.tick until later stood below entry small
          (omega arith) (omega (arith, same.waiting)) (omega (arith, few_spare, room))));
      few_changes = omega (arith, few_places (place_of cells) next, length-append (place_changes (place_of cells) next) rest);
      few_sends = omega (arith, sent.few);
      sends = sent.sends;
    }

lose_keeps : (site : Site) (routes : Routes) (station : Station) (cells : CellData) (event : Event) (job : Job) (visit : AVisit)
    → AtStation site routes station cells → HasJob routes job
    → StationKeeps site routes station cells (lose_effect routes visit job cells event)
unfolding lose_effect
lose_keeps site routes station cells event job visit is has =
    let sent = job_sent routes job event.b visit.full 0 is.routes_fine has (omega arith) in
    record {
      changes = keeps_none (IsLawful site.object routes station) cells is.lawful;
      few_changes = omega arith;
      few_sends = omega arith;
      sends = sent.sends;
    }

arrive_keeps : (site : Site) (routes : Routes) (station : Station) (cells : CellData) (event : Event) (job : Job) (visit : AVisit)
    → AtStation site routes station cells
    → HasHere routes site.object event.a job → step_at routes job.class job.step ≡ Some (Visit visit)
    → StationKeeps site routes station cells (arrive_effect site routes station visit job cells event)
unfolding arrive_effect
arrive_keeps site routes station cells event job visit is here visits =
    by ((counts_of cells).waiting == 0 && nat_lt 0 spare) (nat_lt (counts_of cells).waiting (station.line + spare)) refl refl
  where
    spare : ℕ
    spare = spare_of station.most (counts_of cells)

    level : ℕ
    level = level_of station.order (class_at routes job.class).priority

    entry : is_entry site.object routes (job_at job.step job.id) ≡ true
    entry = ap (λ a. is_entry site.object routes a) here.names.named ∙ waits_here routes site.object event.a job visit here visits

    by : (begins room : Bool) → ((counts_of cells).waiting == 0 && nat_lt 0 spare) ≡ begins
        → nat_lt (counts_of cells).waiting (station.line + spare) ≡ room
        → StationKeeps site routes station cells
        (if begins then take_effect site routes station visit job cells event
        else if room then wait_effect site visit level job cells event
        else lose_effect routes visit job cells event)
    by true room begins_is room_is =
        take_keeps site routes station cells event job visit is here.names.has visits (ltb-true _ _ (and_parts _ _ begins_is).1)
    by false true begins_is room_is =
        wait_effect_keeps site routes station cells event job visit level is (visit_fine routes job visit is.routes_fine here.names.has visits)
        (is.levels job.class here.names.has.class) entry (omega (arith, here.names.named, here.names.small)) (ltb-true _ _ room_is)
    by false false begins_is room_is = lose_keeps site routes station cells event job visit is here.names.has

come_keeps : (site : Site) (routes : Routes) (station : Station) (cells : CellData) (event : Event) (found : Option Job)
    → AtStation site routes station cells
    → job_here routes site.object event.a ≡ found → StationKeeps site routes station cells (come_by site routes station cells event found)
come_keeps site routes station cells event None is none = blank_keeps (objects_of routes) (IsLawful site.object routes station) cells is.lawful
come_keeps site routes station cells event (Some job) is some = by (step_at routes job.class job.step) refl
  where
    here : HasHere routes site.object event.a job
    here = job_here_is routes site.object event.a job is.routes_fine some

    by : (step : Option Step) → step_at routes job.class job.step ≡ step
        → StationKeeps site routes station cells (come_effect site routes station step job cells event)
    by None steps = blank_keeps (objects_of routes) (IsLawful site.object routes station) cells is.lawful
    by (Some (Visit visit)) steps = arrive_keeps site routes station cells event job visit is here steps
    by (Some (Free other)) steps = free_keeps site routes station cells event job is here.names.has
    by (Some (Delay law)) steps = blank_keeps (objects_of routes) (IsLawful site.object routes station) cells is.lawful
    by (Some (Go branch)) steps = blank_keeps (objects_of routes) (IsLawful site.object routes station) cells is.lawful

-- the level that is called is one of the station's
first_level-lt : (station : Station) (cells : CellData) → 1 ≤ station.levels → first_level station cells < station.levels
unfolding first_level
first_level-lt station cells some =
    let test = λ (level : ℕ). nat_lt 0 (length (line_of cells (jobs_line level))) in
    omega (
      arith,
      prefix_len-le-length (λ (level : ℕ). not (test level)) (range_with_len 0 (station.levels - 1)),
      length-range_with_len 0 (station.levels - 1),
    )

begin_effect_keeps : (site : Site) (routes : Routes) (station : Station) (cells : CellData) (level : ℕ) (visit : AVisit) (job : Job)
    → AtStation site routes station cells
    → HasJob routes job → step_at routes job.class job.step ≡ Some (Visit visit) → level < station.levels
    → 0 < length (line_of cells (jobs_line level))
    → slice_index (line_of cells (jobs_line level)) (called_place station.order (length (line_of cells (jobs_line level)))) < EMPTY
    → 0 < (counts_of cells).waiting → 0 < spare_of station.most (counts_of cells)
    → StationKeeps site routes station cells
    (begin_effect site routes station level (called_place station.order (length (line_of cells (jobs_line level)))) visit job cells)
unfolding begin_effect
begin_effect_keeps site routes station cells level visit job is has visits below some small waits spare =
    let place = called_place station.order (length (line_of cells (jobs_line level))) in
    let drawn = service_drawn site cells visit in
    let waiting = (counts_of cells).waiting - 1 in
    let counts : Counts = record (counts_of cells) { waiting = waiting } in
    let held = (counts_of cells).held in
    let servers = line_of cells FREE_SERVERS in
    let out : List Change = Set WAITING waiting ∷ out_changes station.order cells level in
    let begins = begin_changes station cells visit counts in
    let free : held < (counts_of cells).free =
    spare_frees station.most (counts_of cells) (record { free = is.lawful.free; held = is.lawful.held }) is.lawful.opened spare in
    let sent =
    sent_more (objects_of routes) 1 (begin_sent site routes cells visit drawn.0 job (slice_index (line_of cells (births_line level)) place))
    (call_sent station.most site (counts_begun visit counts))
    (begin_sent_laws site routes station cells visit drawn.0 job (slice_index (line_of cells (births_line level)) place) is has
    (service_short site routes cells (length (class_at routes job.class).route) visit (visit_fine routes job visit is.routes_fine has visits)))
    (call_sent-laws (objects_of routes) station.most site (counts_begun visit counts) (exists_here site routes station cells is)) in
    record {
      changes = keeps_then (Stands site.object routes station held servers) (IsLawful site.object routes station)
          (place_changes (place_of cells) drawn.1 ++ out) begins cells
          (placed_keeps site routes station (Stands site.object routes station held servers) drawn.1 out cells is.lawful
          (λ later stood same. called_keeps site.object routes station held servers level waiting cells later station.order stood below
          (subst (λ lines. 0 < length (slice_index_or lines (jobs_line level) [])) (sym same.lines) some)
          (subst (λ lines. slice_index (slice_index_or lines (jobs_line level) [])
          (called_place station.order (length (slice_index_or lines (jobs_line level) []))) < EMPTY) (sym same.lines) small)
          (omega (arith, same.waiting, waits))))
          (λ later stood. begin_keeps site routes station visit cells later counts is.lawful stood refl free);
      few_changes = omega (
        arith,
        few_places (place_of cells) drawn.1,
        few_begin station cells visit counts,
        few_out station.order cells level,
        length-append (place_changes (place_of cells) drawn.1) out,
        length-append (place_changes (place_of cells) drawn.1 ++ out) begins,
      );
      few_sends = omega (arith, sent.few);
      sends = sent.sends;
    }

begin_job_keeps : (site : Site) (routes : Routes) (station : Station) (cells : CellData) (level a : ℕ) (found : Option Job)
    → AtStation site routes station cells
    → job_of routes a ≡ found → level < station.levels → 0 < length (line_of cells (jobs_line level))
    → slice_index (line_of cells (jobs_line level)) (called_place station.order (length (line_of cells (jobs_line level)))) < EMPTY
    → 0 < (counts_of cells).waiting → 0 < spare_of station.most (counts_of cells)
    → StationKeeps site routes station cells
    (begin_job site routes station level (called_place station.order (length (line_of cells (jobs_line level)))) cells found)
begin_job_keeps site routes station cells level a None is none below some small waits spare =
    blank_keeps (objects_of routes) (IsLawful site.object routes station) cells is.lawful
begin_job_keeps site routes station cells level a (Some job) is found below some small waits spare = by (step_at routes job.class job.step) refl
  where
    has : HasJob routes job
    has = (job_named routes a job is.routes_fine found).has

    by : (step : Option Step) → step_at routes job.class job.step ≡ step
        → StationKeeps site routes station cells
        (begin_step site routes station level (called_place station.order (length (line_of cells (jobs_line level)))) job cells step)
    by None steps = blank_keeps (objects_of routes) (IsLawful site.object routes station) cells is.lawful
    by (Some (Visit visit)) steps = begin_effect_keeps site routes station cells level visit job is has steps below some small waits spare
    by (Some (Free other)) steps = blank_keeps (objects_of routes) (IsLawful site.object routes station) cells is.lawful
    by (Some (Delay law)) steps = blank_keeps (objects_of routes) (IsLawful site.object routes station) cells is.lawful
    by (Some (Go branch)) steps = blank_keeps (objects_of routes) (IsLawful site.object routes station) cells is.lawful

pass_keeps : (site : Site) (routes : Routes) (station : Station) (cells : CellData) (level : ℕ) → AtStation site routes station cells
    → level < station.levels
    → 0 < length (line_of cells (jobs_line level))
    → EMPTY ≤ slice_index (line_of cells (jobs_line level)) (called_place station.order (length (line_of cells (jobs_line level))))
    → StationKeeps site routes station cells (pass_effect site station level cells)
unfolding pass_effect
pass_keeps site routes station cells level is below some empty =
    let sent = self_sent (objects_of routes) site 0 CALL 0 0 (exists_here site routes station cells is) (omega arith) in
    record {
      changes = leaves_lawful site routes station (counts_of cells).held (line_of cells FREE_SERVERS) (out_changes station.order cells level) cells
          (passed_keeps site.object routes station (counts_of cells).held (line_of cells FREE_SERVERS) level cells cells station.order
          (as_they_stand site routes station cells is.lawful) below some empty);
      few_changes = omega (arith, few_out station.order cells level);
      few_sends = omega arith;
      sends = sent.sends;
    }

entry_keeps : (site : Site) (routes : Routes) (station : Station) (cells : CellData) (level : ℕ) → AtStation site routes station cells
    → level < station.levels
    → 0 < (counts_of cells).waiting → 0 < spare_of station.most (counts_of cells)
    → StationKeeps site routes station cells (entry_effect site routes station level cells)
unfolding entry_effect
entry_keeps site routes station cells level is below waits spare = by (length jobs == 0) (nat_le EMPTY a) refl refl
  where
    jobs : List ℕ
    jobs = line_of cells (jobs_line level)

    place : ℕ
    place = called_place station.order (length jobs)

    a : ℕ
    a = slice_index jobs place

    some_entry : (length jobs == 0) ≡ false → 0 < length jobs
    some_entry differs = grind (arith, nat_tests)

    by : (none empty : Bool) → (length jobs == 0) ≡ none → nat_le EMPTY a ≡ empty → StationKeeps site routes station cells
        (if none then blank else if empty then pass_effect site station level cells
        else begin_job site routes station level place cells (job_of routes a))
    by true empty none_is empty_is = blank_keeps (objects_of routes) (IsLawful site.object routes station) cells is.lawful
    by false true none_is empty_is = pass_keeps site routes station cells level is below (some_entry none_is) (leb-true _ _ empty_is)
    by false false none_is empty_is =
        begin_job_keeps site routes station cells level a (job_of routes a) is refl below (some_entry none_is) (leb-false _ _ empty_is) waits spare

call_keeps : (site : Site) (routes : Routes) (station : Station) (cells : CellData) → AtStation site routes station cells
    → StationKeeps site routes station cells (call_effect site routes station cells)
unfolding call_effect
call_keeps site routes station cells is = by (nat_lt 0 counts.waiting && nat_lt 0 (spare_of station.most counts)) refl
  where
    counts : Counts
    counts = counts_of cells

    by : (calls : Bool) → (nat_lt 0 counts.waiting && nat_lt 0 (spare_of station.most counts)) ≡ calls
        → StationKeeps site routes station cells (if calls then entry_effect site routes station (first_level station cells) cells else blank)
    by true calls =
        let both = and_parts _ _ calls in
        entry_keeps site routes station cells (first_level station cells) is (first_level-lt station cells is.station_in_range.some_levels)
        (ltb-true _ _ both.0) (ltb-true _ _ both.1)
    by false calls = blank_keeps (objects_of routes) (IsLawful site.object routes station) cells is.lawful

end_keeps : (site : Site) (routes : Routes) (station : Station) (cells : CellData) (event : Event) (job : Job) (server : ℕ)
    → AtStation site routes station cells → HasJob routes job
    → server < station.most → StationKeeps site routes station cells (end_effect site routes station job server cells event)
unfolding end_effect
end_keeps site routes station cells event job server is has below = by (nat_lt counts.free station.most) refl
  where
    counts : Counts
    counts = counts_of cells

    by : (some : Bool) → nat_lt counts.free station.most ≡ some → StationKeeps site routes station cells
        (if some then record {
          changes = Push FREE_SERVERS server ∷ [];
          sends = moved routes job event.b (job.step + 1) 0 ∷ call_sent station.most site (record counts { free = counts.free + 1 });
          note = told DONE_WORD job.id counts.waiting;
        }
        else blank)
    by false some_is = blank_keeps (objects_of routes) (IsLawful site.object routes station) cells is.lawful
    by true some_is =
        let servers = line_of cells FREE_SERVERS in
        let sent = sent_more (objects_of routes) 1 (moved routes job event.b (job.step + 1) 0)
        (call_sent station.most site (record counts { free = counts.free + 1 }))
        (job_sent routes job event.b (job.step + 1) 0 is.routes_fine has (omega arith))
        (call_sent-laws (objects_of routes) station.most site (record counts { free = counts.free + 1 })
        (exists_here site routes station cells is)) in
        record {
          changes = leaves_lawful site routes station counts.held (servers ++ server ∷ []) (Push FREE_SERVERS server ∷ []) cells
              (push_server site.object routes station counts.held servers server cells (as_they_stand site routes station cells is.lawful)
              (ltb-true _ _ some_is) below);
          few_changes = omega arith;
          few_sends = omega (arith, sent.few);
          sends = sent.sends;
        }

done_keeps : (site : Site) (routes : Routes) (station : Station) (cells : CellData) (event : Event) (job : Job) → AtStation site routes station cells
    → HasJob routes job
    → StationKeeps site routes station cells (done_effect site routes station job cells event)
unfolding done_effect
done_keeps site routes station cells event job is has = by (nat_le station.most server) (late == 0) refl
  where
    server : ℕ
    server = server_of event.b

    word : ℕ
    word = mark_word station server

    mark : ℕ
    mark = slice_index cells.words word

    late : ℕ
    late = (slice_index cells.words LAG + 2 ^ 64 - mark) % 2 ^ 64

    by : (past ends : Bool) → nat_le station.most server ≡ past → StationKeeps site routes station cells
        (if past then blank
        else if ends then end_effect site routes station job server cells event
        else record {
          changes = Set word ((mark + min late LONGEST) % 2 ^ 64) ∷ [];
          sends = to_self site (min late LONGEST) DONE event.a event.b ∷ [];
          note = [];
        })
    by true ends past_is = blank_keeps (objects_of routes) (IsLawful site.object routes station) cells is.lawful
    by false true past_is = end_keeps site routes station cells event job server is has (leb-false _ _ past_is)
    by false false past_is =
        let below : server < station.most = leb-false _ _ past_is in
        let held = (counts_of cells).held in
        let servers = line_of cells FREE_SERVERS in
        let value = (mark + min late LONGEST) % 2 ^ 64 in
        let sent =
        self_sent (objects_of routes) site (min late LONGEST) DONE event.a event.b (exists_here site routes station cells is) (omega arith) in
        record {
          changes = leaves_lawful site routes station held servers (Set word value ∷ []) cells
              (set_other site.object routes station held servers word value cells (as_they_stand site routes station cells is.lawful)
              (omega (arith, is.lawful.words, below))
              (λ e. absurd (omega arith)) (λ e. absurd (omega arith)) (λ e. absurd (omega arith)) (λ e. absurd (omega arith)));
          few_changes = omega arith;
          few_sends = omega arith;
          sends = sent.sends;
        }

done_by_keeps : (site : Site) (routes : Routes) (station : Station) (cells : CellData) (event : Event) (found : Option Job)
    → AtStation site routes station cells
    → job_here routes site.object event.a ≡ found → StationKeeps site routes station cells (done_by site routes station cells event found)
done_by_keeps site routes station cells event None is none = blank_keeps (objects_of routes) (IsLawful site.object routes station) cells is.lawful
done_by_keeps site routes station cells event (Some job) is some = by (is_served (step_at routes job.class job.step))
  where
    by : (served : Bool) → StationKeeps site routes station cells (if served then done_effect site routes station job cells event else blank)
    by true = done_keeps site routes station cells event job is (job_here_is routes site.object event.a job is.routes_fine some).names.has
    by false = blank_keeps (objects_of routes) (IsLawful site.object routes station) cells is.lawful

renege_job_keeps : (site : Site) (routes : Routes) (station : Station) (cells : CellData) (level place : ℕ) (found : Option Job)
    → AtStation site routes station cells
    → job_of routes (slice_index (line_of cells (jobs_line level)) place) ≡ found → level < station.levels
    → place < length (line_of cells (jobs_line level))
    → slice_index (line_of cells (jobs_line level)) place < EMPTY
    → StationKeeps site routes station cells (renege_job site routes level place cells found)
unfolding renege_effect
renege_job_keeps site routes station cells level place None is none below within small =
    blank_keeps (objects_of routes) (IsLawful site.object routes station) cells is.lawful
renege_job_keeps site routes station cells level place (Some job) is found below within small = by (step_at routes job.class job.step)
  where
    has : HasJob routes job
    has = (job_named routes (slice_index (line_of cells (jobs_line level)) place) job is.routes_fine found).has

    by : (step : Option Step) → StationKeeps site routes station cells (renege_step site routes level place job cells step)
    by None = blank_keeps (objects_of routes) (IsLawful site.object routes station) cells is.lawful
    by (Some (Visit visit)) =
        let held = (counts_of cells).held in
        let servers = line_of cells FREE_SERVERS in
        let changes : List Change = Set WAITING ((counts_of cells).waiting - 1) ∷ Flip (jobs_line level) place ∷ [] in
        let sent = job_sent routes job (slice_index (line_of cells (births_line level)) place) visit.away 0 is.routes_fine has (omega arith) in
        record {
          changes = leaves_lawful site routes station held servers changes cells
              (renege_keeps site.object routes station held servers level place cells
              (as_they_stand site routes station cells is.lawful) below within small);
          few_changes = omega arith;
          few_sends = omega arith;
          sends = sent.sends;
        }
    by (Some (Free other)) = blank_keeps (objects_of routes) (IsLawful site.object routes station) cells is.lawful
    by (Some (Delay law)) = blank_keeps (objects_of routes) (IsLawful site.object routes station) cells is.lawful
    by (Some (Go branch)) = blank_keeps (objects_of routes) (IsLawful site.object routes station) cells is.lawful

tire_keeps : (site : Site) (routes : Routes) (station : Station) (cells : CellData) (event : Event) → AtStation site routes station cells
    → StationKeeps site routes station cells (tire_effect site routes station cells event)
unfolding tire_effect tires
tire_keeps site routes station cells event is = by (nat_lt event.b station.levels && nat_le gone event.a && tires site cells event.b place) refl
  where
    gone : ℕ
    gone = slice_index cells.words (gone_word event.b)

    place : ℕ
    place = event.a - gone

    entry : ℕ
    entry = slice_index (line_of cells (jobs_line event.b)) place

    by : (goes : Bool) → (nat_lt event.b station.levels && nat_le gone event.a && tires site cells event.b place) ≡ goes
        → StationKeeps site routes station cells (if goes then renege_job site routes event.b place cells (job_of routes entry) else blank)
    by false goes = blank_keeps (objects_of routes) (IsLawful site.object routes station) cells is.lawful
    by true goes =
        let both = and_parts _ _ goes in
        let level = and_parts _ _ both.0 in
        let all = and_parts _ _ both.1 in
        let waits = and_parts _ _ all.0 in
        renege_job_keeps site routes station cells event.b place (job_of routes entry) is refl (ltb-true _ _ level.0) (ltb-true _ _ waits.0)
        (ltb-true _ _ waits.1)

-- a shift with this number
shift_fine : (station : Station) (number : ℕ) → IsStation station → number < length station.shifts → IsShift station (shift_at station number)
shift_fine station number fine within = fine.shifts number (record { at = 0; servers = 0 }) within

-- no shift begins before the first
first_shift-le : (station : Station) (number : ℕ) → AllPairs (λ (a b : Shift). a.at < b.at) station.shifts → number < length station.shifts
    → (shift_at station 0).at ≤ (shift_at station number).at
first_shift-le station number rising within = ⊎_elim
    (λ (first : number ≡ 0). let same : (shift_at station number).at ≡ (shift_at station 0).at = ap (λ k. (shift_at station k).at) first in
    omega arith)
    (λ (later : number ≡ 0 → ⊥). let above = rising 0 number (record { at = 0; servers = 0 }) (omega (arith, later)) within in omega (arith, above))
    (cases_eq number 0)

again_sent : (site : Site) (routes : Routes) (station : Station) (cells : CellData) (number : ℕ) (period : Option ℕ)
    → AtStation site routes station cells
    → number < length station.shifts → ForSome period (λ period. period ≤ 2 ^ 40)
    → Sent (objects_of routes) 1 (shift_again site station number period)
again_sent site routes station cells number None is within short = record { few = omega arith; sends = tt }
again_sent site routes station cells number (Some period) is within short =
    self_sent (objects_of routes) site (period + (shift_at station 0).at - (shift_at station number).at) SHIFT 0 0
    (exists_here site routes station cells is)
    (omega (arith, short period refl, first_shift-le station number is.rising within))

shift_sent_laws : (site : Site) (routes : Routes) (station : Station) (cells : CellData) (number : ℕ) → AtStation site routes station cells
    → number < length station.shifts
    → Sent (objects_of routes) 1 (shift_sent site station number)
unfolding shift_sent
shift_sent_laws site routes station cells number is within = by (nat_lt (number + 1) (length station.shifts)) refl
  where
    by : (more : Bool) → nat_lt (number + 1) (length station.shifts) ≡ more → Sent (objects_of routes) 1
        (if more then to_self site ((shift_at station (number + 1)).at - (shift_at station number).at) SHIFT (number + 1) 0 ∷ []
        else shift_again site station number station.period)
    by true more =
        let next = shift_fine station (number + 1) is.station_in_range (ltb-true _ _ more) in
        self_sent (objects_of routes) site ((shift_at station (number + 1)).at - (shift_at station number).at) SHIFT (number + 1) 0
        (exists_here site routes station cells is) (omega (arith, next.at))
    by false more = again_sent site routes station cells number station.period is within is.station_in_range.period

shift_keeps : (site : Site) (routes : Routes) (station : Station) (cells : CellData) (event : Event) → AtStation site routes station cells
    → StationKeeps site routes station cells (shift_effect site station cells event)
unfolding shift_effect
shift_keeps site routes station cells event is = by (nat_lt event.a (length station.shifts)) refl
  where
    shift : Shift
    shift = shift_at station event.a

    counts : Counts
    counts = record (counts_of cells) { opened = shift.servers }

    by : (exists : Bool) → nat_lt event.a (length station.shifts) ≡ exists → StationKeeps site routes station cells
        (if exists then record {
          changes = Set OPEN shift.servers ∷ [];
          sends = shift_sent site station event.a ++ call_sent station.most site counts;
          note = told OPENED_WORD shift.servers (busy_of station.most counts);
        }
        else blank)
    by false exists = blank_keeps (objects_of routes) (IsLawful site.object routes station) cells is.lawful
    by true exists =
        let within : event.a < length station.shifts = ltb-true _ _ exists in
        let held = (counts_of cells).held in
        let servers = line_of cells FREE_SERVERS in
        let sent = sent_append (objects_of routes) 1 1 (shift_sent site station event.a) (call_sent station.most site counts)
        (shift_sent_laws site routes station cells event.a is within)
        (call_sent-laws (objects_of routes) station.most site counts (exists_here site routes station cells is)) in
        record {
          changes = leaves_lawful site routes station held servers (Set OPEN shift.servers ∷ []) cells
              (set_open site.object routes station held servers shift.servers cells (as_they_stand site routes station cells is.lawful)
              (shift_fine station event.a is.station_in_range within).servers);
          few_changes = omega arith;
          few_sends = omega (arith, sent.few);
          sends = sent.sends;
        }

break_keeps : (site : Site) (routes : Routes) (station : Station) (cells : CellData) (breakdowns : Option Breakdowns)
    → AtStation site routes station cells
    → ForSome breakdowns AreBreakdowns → StationKeeps site routes station cells (break_effect site station cells breakdowns)
unfolding still_effect
break_keeps site routes station cells None is fine = blank_keeps (objects_of routes) (IsLawful site.object routes station) cells is.lawful
break_keeps site routes station cells (Some breakdowns) is fine = by ((counts_of cells).down == 0)
  where
    drawn : ℕ × ℕ
    drawn = drawn_at site (place_of cells) breakdowns.down

    lag : ℕ
    lag = (slice_index cells.words LAG + drawn.0) % 2 ^ 64

    held : ℕ
    held = (counts_of cells).held

    servers : List ℕ
    servers = line_of cells FREE_SERVERS

    sent : Sent (objects_of routes) 1 (to_self site drawn.0 MEND 0 0 ∷ [])
    sent = self_sent (objects_of routes) site drawn.0 MEND 0 0 (exists_here site routes station cells is)
        (drawn_short site (place_of cells) breakdowns.down (fine breakdowns refl).down)

    lags : (later : CellData) → Stands site.object routes station held servers later
        → Keeps (Stands site.object routes station held servers) (Set LAG lag ∷ []) later
    lags later stood =
        set_other site.object routes station held servers LAG lag later stood (omega (arith, stood.lawful.words))
        (λ e. absurd (omega arith)) (λ e. absurd (omega arith)) (λ e. absurd (omega arith)) (λ e. absurd (omega arith))

    stops : (later : CellData) → Stands site.object routes station held servers later
        → Keeps (IsLawful site.object routes station) (Set DOWN 1 ∷ Set LAG lag ∷ []) later
    stops later stood =
        leaves_lawful site routes station held servers (Set DOWN 1 ∷ Set LAG lag ∷ []) later
        (keeps_then (Stands site.object routes station held servers) (Stands site.object routes station held servers) (Set DOWN 1 ∷ [])
        (Set LAG lag ∷ []) later
        (set_down site.object routes station held servers 1 later stood (omega arith)) lags)

    by : (works : Bool) → StationKeeps site routes station cells (if works then still_effect site station breakdowns.down cells else blank)
    by false = blank_keeps (objects_of routes) (IsLawful site.object routes station) cells is.lawful
    by true = record {
      changes = placed_keeps site routes station (IsLawful site.object routes station) drawn.1 (Set DOWN 1 ∷ Set LAG lag ∷ []) cells is.lawful
          (λ later stood same. stops later stood);
      few_changes =
          omega (arith, few_places (place_of cells) drawn.1, length-append (place_changes (place_of cells) drawn.1) (Set DOWN 1 ∷ Set LAG lag ∷ []));
      few_sends = omega arith;
      sends = sent.sends;
    }

mend_keeps : (site : Site) (routes : Routes) (station : Station) (cells : CellData) (breakdowns : Option Breakdowns)
    → AtStation site routes station cells
    → ForSome breakdowns AreBreakdowns → StationKeeps site routes station cells (mend_effect site station cells breakdowns)
unfolding works_effect
mend_keeps site routes station cells None is fine = blank_keeps (objects_of routes) (IsLawful site.object routes station) cells is.lawful
mend_keeps site routes station cells (Some breakdowns) is fine =
    let drawn = drawn_at site (place_of cells) breakdowns.up in
    let counts : Counts = record (counts_of cells) { down = 0 } in
    let held = (counts_of cells).held in
    let servers = line_of cells FREE_SERVERS in
    let sent = sent_more (objects_of routes) 1 (to_self site drawn.0 BREAK 0 0) (call_sent station.most site counts)
    (self_sent (objects_of routes) site drawn.0 BREAK 0 0 (exists_here site routes station cells is)
    (drawn_short site (place_of cells) breakdowns.up (fine breakdowns refl).up))
    (call_sent-laws (objects_of routes) station.most site counts (exists_here site routes station cells is)) in
    record {
      changes = placed_keeps site routes station (IsLawful site.object routes station) drawn.1 (Set DOWN 0 ∷ []) cells is.lawful
          (λ later stood same. leaves_lawful site routes station held servers (Set DOWN 0 ∷ []) later
          (set_down site.object routes station held servers 0 later stood (omega arith)));
      few_changes = omega (arith, few_places (place_of cells) drawn.1, length-append (place_changes (place_of cells) drawn.1) (Set DOWN 0 ∷ []));
      few_sends = omega (arith, sent.few);
      sends = sent.sends;
    }

pub station_keeps : (site : Site) (routes : Routes) (station : Station) (cells : CellData) (event : Event) → AtStation site routes station cells
    → StationKeeps site routes station cells (station_effect site routes station cells event)
unfolding station_effect
station_keeps site routes station cells event is =
    by (event.kind == COME) (event.kind == DONE) (event.kind == CALL) (event.kind == TIRE) (event.kind == SHIFT) (event.kind == BREAK)
    (event.kind == MEND)
  where
    by : (come done call tire shift break mend : Bool) → StationKeeps site routes station cells
        (if come then come_by site routes station cells event (job_here routes site.object event.a)
        else if done then done_by site routes station cells event (job_here routes site.object event.a)
        else if call then call_effect site routes station cells
        else if tire then tire_effect site routes station cells event
        else if shift then shift_effect site station cells event
        else if break then break_effect site station cells station.breakdowns
        else if mend then mend_effect site station cells station.breakdowns
        else blank)
    by true done call tire shift break mend = come_keeps site routes station cells event (job_here routes site.object event.a) is refl
    by false true call tire shift break mend = done_by_keeps site routes station cells event (job_here routes site.object event.a) is refl
    by false false true tire shift break mend = call_keeps site routes station cells is
    by false false false true shift break mend = tire_keeps site routes station cells event is
    by false false false false true break mend = shift_keeps site routes station cells event is
    by false false false false false true mend = break_keeps site routes station cells station.breakdowns is is.station_in_range.breakdowns
    by false false false false false false true = mend_keeps site routes station cells station.breakdowns is is.station_in_range.breakdowns
    by false false false false false false false = blank_keeps (objects_of routes) (IsLawful site.object routes station) cells is.lawful
