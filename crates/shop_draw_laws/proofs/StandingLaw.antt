-- A service takes the ticks that were drawn, and those for which the station stands still in between.
use Rattle.std.proofs.Common.{◌≡◌, ◌≢◌, ◌⊎◌, ℕ, suc, ◌+◌, ◌-◌, ◌%◌, ◌^◌, ◌<◌, ◌≤◌, Bool, true, false, cond, List, [], ◌∷◌, ◌++◌, length, map, inl, inr, refl, sym, ap, ◌∙◌, subst, ⊎_elim, arith, append-nil, eq-eqb, get_or-set_same}
use Rattle.std.specs.Prelude.{if◌then◌else◌, ◌==◌, ◌||◌, min, is_none, slice_index, slice_set, Contains, count_by, Option, None, Some}
use Rattle.std.specs.List.{AllByRecursion as Each}
use Rattle.std.proofs.lemmas.Bool.{cases_eq, cases_lt, and_from, eqb-false, ltb-true}
use Rattle.std.proofs.lemmas.List.{get_or-replicate}
use Rattle.std.proofs.lemmas.List.Sums.{sum_by-cons}
use Rattle.std.proofs.lemmas.List.Elements.{Contains-append_left, Contains-append_right, Contains-get_or}
use Rattle.event_key.specs.declared.key.Key.{Key}
use Rattle.event_key.specs.Stamps.{time_part}
use Rattle.key_order.proofs.EachLemmas.{Each-append, Each-map}
use Rattle.key_order.proofs.MemberLemmas.{each-contains, each-member, is-first, is-later}
use Rattle.delta_exchange.specs.declared.change.Change.{Change}
use Rattle.delta_exchange.specs.declared.change.Change.TheVariants.{Set, Unpush}
use Rattle.delta_exchange.specs.Changes.{CellData, line_of, cells_after_all}
use Rattle.delta_exchange.proofs.Lists.{cells_after_all_append}
use Rattle.model_core.specs.declared.effect.Effect.{Effect}
use Rattle.model_core.specs.declared.event.Event.{Event}
use Rattle.model_core.specs.declared.event.Send.{Send}
use Rattle.model_core.specs.declared.note.Note.{Note}
use Rattle.model_core.specs.declared.words.TheConstants.{DONE_WORD}
use Rattle.model_core.specs.Meaning.{Meaning}
use Rattle.model_core.specs.Places.{place_changes}
use Rattle.random_streams.specs.declared.delay_law.DelayLaw.{DelayLaw}
use Rattle.random_streams.proofs.DelayBounds.{draw_delay-le}
use Rattle.run_laws.specs.Reached.{after_events}
use Rattle.run_laws.proofs.Induction.{after_events-does, after_events-stops, gathered-more, each_number}
use Rattle.run_laws.proofs.OrderLaw.{step_keeps}
use Rattle.sim_spec.specs.declared.terms.Terms.{Terms}
use Rattle.sim_spec.specs.Run.{stops, does, next}
use Rattle.sim_spec.specs.State.{State, initial_state, object_at as state_at}
use Rattle.sim_spec.proofs.LawfulLemmas.{time_early}
use Rattle.shop_model.specs.declared.counts.Counts.{Counts}
use Rattle.shop_model.specs.declared.done.TheConstants.{LONGEST}
use Rattle.shop_model.specs.declared.job.Job.{Job}
use Rattle.shop_model.specs.declared.kinds.TheConstants.{MAKE, COME, DONE, CALL, TIRE, SHIFT, BREAK, MEND}
use Rattle.shop_model.specs.declared.routes.Routes.{Routes}
use Rattle.shop_model.specs.declared.site.Site.{Site}
use Rattle.shop_model.specs.declared.station.Breakdowns.{Breakdowns}
use Rattle.shop_model.specs.declared.station.Station.{Station}
use Rattle.shop_model.specs.declared.station.TheConstants.{HELD, WAITING, LAG, FREE_SERVERS}
use Rattle.shop_model.specs.declared.step.Visit.{Visit as AVisit}
use Rattle.shop_model.specs.Beginnings.{next_server, service_drawn, begin_changes, begin_sent}
use Rattle.shop_model.specs.Jobs.{id_of, birth_of, server_of, job_at, served_by}
use Rattle.shop_model.specs.Meaning.{shop_meaning, site_of, class_of_object}
use Rattle.shop_model.specs.ModelLaws.{station_fine}
use Rattle.shop_model.specs.Routes.{moved}
use Rattle.shop_model.specs.ShopParts.{ShopParts, IsShop, routes_of, station_at}
use Rattle.shop_model.specs.Sites.{to_self, place_of, words_at, drawn_at, drawn_or}
use Rattle.shop_model.specs.StationEffects.{take_effect, wait_effect, lose_effect, out_changes, begin_effect, pass_effect, renege_effect, shift_sent, still_effect, works_effect}
use Rattle.shop_model.specs.Stations.{counts_of, call_sent, spare_of, first_station_cells, mark_word, jobs_line, births_line}
use Rattle.shop_totals.specs.Flows.{is_beginning}
use Rattle.shop_laws.specs.ServerLaws.{ends_by, AreServers}
use Rattle.shop_laws.specs.Told.{word_told, first_told, cells_at}
use Rattle.shop_laws.specs.TurnLaws.{turns}
use Rattle.shop_laws.proofs.After.{one_less, readings_after, reads_after}
use Rattle.shop_laws.proofs.Cases.{StationDoes, rests, goes_on, frees, takes, waits, loses, passes, begins, ends, puts_off, reneges, shifts, stands, works, late_by, calls_at, called_within}
use Rattle.shop_laws.proofs.ClassCases.{class_sends_each}
use Rattle.shop_laws.proofs.Fine.{named_of, IsFine}
use Rattle.shop_laws.proofs.Moves.{AtStationOf, some_free, next_below, call_each, tire_each, shift_each}
use Rattle.shop_laws.proofs.Readings.{readings_of, went_out, began_lag}
use Rattle.shop_laws.proofs.Serving.{IsStationStep, serving, station_step, class_step}
use Rattle.shop_laws.proofs.ServersLaw.{servers_law}
use Rattle.shop_laws.proofs.Starts.{pending_start}
use Rattle.shop_laws.proofs.Steps.{IsShopStep, shop_step, cells_here, cells_elsewhere, station_at_start}
use Rattle.shop_laws.proofs.TurnLaw.{breaks_in_turn}
use Rattle.shop_draw_laws.specs.DrawLaws.{value_at}
use Rattle.shop_draw_laws.specs.Draws.{laws_of, laws_next}
use Rattle.shop_draw_laws.specs.Services.{Service, lag_at, services_next, services}
use Rattle.shop_draw_laws.specs.StandingLaws.{IsOver, ServicesStandStill}
use Rattle.shop_draw_laws.proofs.DrawsLaw.{law_of, station_laws, laws_here}
use Rattle.shop_draw_laws.proofs.Places.{Leaves, word_stays, words_long, placed_leaves, out_leaves, begin_leaves}
use Rattle.shop_draw_laws.proofs.Sending.{AsSent, AsEvent, each_sent, some_pass}

-- up to which lag the service on a server was put off, and the lag
abbrev mark_of : Station → CellData → ℕ → ℕ
mark_of station cells server = slice_index cells.words (mark_word station server)

abbrev lag_of : CellData → ℕ
lag_of cells = slice_index cells.words LAG

-- an end that is pending at this time is of a service that began, put off up to its server's mark
record UnderWay (begun : List Service) (station : Station) (cells : CellData) (time a b : ℕ) : Type 0 where
  pub service : Service
  pub began : Contains begun service
  pub its : service.id ≡ id_of a
  pub from : service.lag ≤ mark_of station cells (server_of b)
  pub upto : mark_of station cells (server_of b) ≤ lag_of cells
  pub now : time ≡ service.began + service.ticks + (mark_of station cells (server_of b) - service.lag)

-- the same in later cells, with the same mark and no less lag
way_on : (begun more : List Service) (station : Station) (cells later : CellData) (time a b : ℕ) → mark_of station later (server_of b) ≡ mark_of station cells (server_of b)
    → lag_of cells ≤ lag_of later → UnderWay begun station cells time a b → UnderWay (begun ++ more) station later time a b
way_on begun more station cells later time a b mark lag way = record {
  service = way.service;
  began = Contains-append_left begun more way.service way.began;
  its = way.its;
  from = omega (arith, way.from, mark);
  upto = omega (arith, way.upto, mark, lag);
  now = way.now ∙ ap (λ m. way.service.began + way.service.ticks + (m - way.service.lag)) (sym mark);
}

-- what holds of each pending event: an end is of a service under way, and a turn comes no earlier than the lag
record Stands (begun : List Service) (object : ℕ) (station : Station) (cells : CellData) (time dest kind a b : ℕ) : Type 0 where
  pub done : kind ≡ DONE → dest ≡ object → UnderWay begun station cells time a b
  pub turn : (kind ≡ BREAK) ⊎ (kind ≡ MEND) → dest ≡ object → lag_of cells ≤ time

-- an event of another kind
record Plain (kind : ℕ) : Type 0 where
  pub no_done : kind ≢ DONE
  pub no_break : kind ≢ BREAK
  pub no_mend : kind ≢ MEND

plain_stands : (begun : List Service) (object : ℕ) (station : Station) (cells : CellData) (time dest kind a b : ℕ) → Plain kind → Stands begun object station cells time dest kind a b
plain_stands begun object station cells time dest kind a b plain = record {
  done = λ is. absurd (plain.no_done is);
  turn = λ is. ⊎_elim (λ (break : kind ≡ BREAK). absurd (plain.no_break break)) (λ (mend : kind ≡ MEND). absurd (plain.no_mend mend)) is;
}

a_plain : (kind : ℕ) → kind ≢ DONE → kind ≢ BREAK → kind ≢ MEND → Plain kind
a_plain kind no_done no_break no_mend = record { no_done = no_done; no_break = no_break; no_mend = no_mend }

plain_moved : (routes : Routes) (job : Job) (b step delay : ℕ) → Plain (moved routes job b step delay).kind
unfolding moved
plain_moved routes job b step delay = a_plain COME (λ e. absurd (omega arith)) (λ e. absurd (omega arith)) (λ e. absurd (omega arith))

plain_other : (kind : ℕ) → CALL ≤ kind → kind ≤ SHIFT → Plain kind
plain_other kind from to = a_plain kind (λ e. absurd (omega arith)) (λ e. absurd (omega arith)) (λ e. absurd (omega arith))

plain_call : (site : Site) (most : ℕ) (counts : Counts) → Each (λ (s : Send). Plain s.kind) (call_sent most site counts)
plain_call site most counts = call_each (λ (s : Send). Plain s.kind) most site counts (plain_other CALL (omega arith) (omega arith))

-- an event at a station
module _ (p : ShopParts) (cells : CellData) (e : Event) (begun more : List Service) (fine : IsShop p) (at_station : AtStationOf p (site_of p e.key.dest e) cells) where
  abbrev site : Site
  site = site_of p e.key.dest e

  abbrev routes : Routes
  routes = routes_of p

  abbrev dest : ℕ
  dest = e.key.dest

  abbrev station : Station
  station = station_at p.stations e.key.dest

  words : 0 < length cells.words
  words = omega (arith, at_station.lawful.words)

  abbrev Does : Effect → Type 0
  Does x = StationDoes site routes station cells e x

  -- the server whose mark an event sets
  abbrev touched_by : AVisit → Option ℕ
  touched_by visit = if is_none visit.service then None else Some (next_server cells)

  abbrev touched : (x : Effect) → Does x → Option ℕ
  touched x (rests no_come no_done no_call no_turn) = None
  touched x (goes_on job at) = None
  touched x (frees job at some) = None
  touched x (takes job visit at visits nobody spare) = touched_by visit
  touched x (waits job visit level at visits below busy) = None
  touched x (loses job visit at visits) = None
  touched x (passes level calls empty) = None
  touched x (begins level job visit calls there) = touched_by visit
  touched x (ends job at below some on_time) = None
  touched x (puts_off job at served below late) = Some (server_of e.b)
  touched x (reneges level place job visit kind below within now there) = None
  touched x (shifts kind within) = None
  touched x (stands breakdowns kind has up) = None
  touched x (works breakdowns kind has) = None

  -- the mark of another server stays
  module _ (server : ℕ) where
    abbrev word : ℕ
    word = mark_word station server

    begin_so : (visit : AVisit) (counts : Counts) → (touched_by visit ≡ Some server → ⊥) → Each (Leaves (mark_word station server)) (begin_changes station cells visit counts)
    begin_so visit counts other =
        begin_leaves (mark_word station server) station cells visit counts (λ e. absurd (omega arith))
        (λ serves same. other (ap (λ b. if b then None else Some (next_server cells)) serves ∙ ap (λ v. Some v) (let e : next_server cells ≡ server = omega (arith, same) in e)))

    placed : (next : ℕ) → Each (Leaves (mark_word station server)) (place_changes (place_of cells) next)
    placed next = placed_leaves (mark_word station server) (place_of cells) next (λ e. absurd (omega arith))

    out_so : (level : ℕ) → level < station.levels → Each (Leaves (mark_word station server)) (out_changes station.order cells level)
    out_so level below =
        subst (λ (cs : List Change). Each (Leaves (mark_word station server)) cs) (append-nil (out_changes station.order cells level))
        (out_leaves (mark_word station server) station.order cells level [] (λ e. absurd (omega arith)) tt)

    leaves : (x : Effect) (does_so : Does x) → (touched x does_so ≡ Some server → ⊥) → Each (Leaves (mark_word station server)) x.changes
    unfolding take_effect wait_effect lose_effect begin_effect pass_effect renege_effect still_effect works_effect
    leaves x (rests no_come no_done no_call no_turn) other = tt
    leaves x (goes_on job at) other = tt
    leaves x (frees job at some) other = ((λ e. absurd (omega arith)), tt)
    leaves x (takes job visit at visits nobody spare) other =
        Each-append (Leaves (mark_word station server)) (place_changes (place_of cells) (service_drawn site cells visit).1) _ (placed _) (begin_so visit (counts_of cells) other)
    leaves x (waits job visit level at visits below busy) other =
        Each-append (Leaves (mark_word station server)) (place_changes (place_of cells) (drawn_or 0 (words_at site (place_of cells)) visit.patience).1) _ (placed _)
        ((λ e. absurd (omega arith)), (tt, (tt, (tt, (tt, tt)))))
    leaves x (loses job visit at visits) other = tt
    leaves x (passes level calls empty) other = out_so level calls.below
    leaves x (begins level job visit calls there) other =
        Each-append (Leaves (mark_word station server))
        (place_changes (place_of cells) (service_drawn site cells visit).1 ++ (Set WAITING ((counts_of cells).waiting - 1) ∷ out_changes station.order cells level)) _
        (Each-append (Leaves (mark_word station server)) (place_changes (place_of cells) (service_drawn site cells visit).1) _ (placed _)
        ((λ e. absurd (omega arith)), out_so level calls.below))
        (begin_so visit (one_less cells) other)
    leaves x (ends job at below some on_time) other = (tt, tt)
    leaves x (puts_off job at served below late) other =
        ((λ same. other (ap (λ v. Some v) (let e : server_of e.b ≡ server = omega (arith, same) in e))), tt)
    leaves x (reneges level place job visit kind below within now there) other = ((λ e. absurd (omega arith)), (tt, tt))
    leaves x (shifts kind within) other = ((λ e. absurd (omega arith)), tt)
    leaves x (stands breakdowns kind has up) other =
        Each-append (Leaves (mark_word station server)) (place_changes (place_of cells) (drawn_at site (place_of cells) breakdowns.down).1) _ (placed _)
        ((λ e. absurd (omega arith)), ((λ e. absurd (omega arith)), tt))
    leaves x (works breakdowns kind has) other =
        Each-append (Leaves (mark_word station server)) (place_changes (place_of cells) (drawn_at site (place_of cells) breakdowns.up).1) _ (placed _)
        ((λ e. absurd (omega arith)), tt)

  mark_stays : (server : ℕ) (x : Effect) (does_so : Does x) → (touched x does_so ≡ Some server → ⊥)
      → mark_of station (cells_after_all x.changes cells) server ≡ mark_of station cells server
  mark_stays server x does_so other = word_stays (mark_word station server) x.changes cells (leaves server x does_so other)

  abbrev after_of : Effect → CellData
  after_of x = cells_after_all x.changes cells

  -- the lag after an event, as it is read
  lag_read : (x : Effect) (does_so : Does x) → lag_of (after_of x) ≡ (readings_after site routes station cells e x (readings_of cells) does_so).lag
  lag_read x does_so = (reads_after site routes station cells e at_station.lawful x does_so).lag

  abbrev standstill : Breakdowns → ℕ
  standstill breakdowns = (drawn_at site (place_of cells) breakdowns.down).0

  short : (breakdowns : Breakdowns) → station.breakdowns ≡ Some breakdowns → standstill breakdowns ≤ 2 ^ 40
  short breakdowns has =
      let shop = station_fine p dest fine at_station.exists in
      draw_delay-le p.seed dest (place_of cells) breakdowns.down (shop.numbers.breakdowns breakdowns has).down

  module _ (bound : lag_of cells ≤ 2 ^ 47) where
    still_lag : (x : Effect) (breakdowns : Breakdowns) → station.breakdowns ≡ Some breakdowns → lag_of (after_of x) ≡ (lag_of cells + standstill breakdowns) % 2 ^ 64
        → lag_of (after_of x) ≡ lag_of cells + standstill breakdowns
    still_lag x breakdowns has read = let d = short breakdowns has in omega (arith, read, bound, d)

    -- it grows by a standstill that begins
    record Broke (x : Effect) : Type 0 where
      pub kind : e.kind ≡ BREAK
      pub breakdowns : Breakdowns
      pub has : station.breakdowns ≡ Some breakdowns
      pub lag : lag_of (after_of x) ≡ lag_of cells + standstill breakdowns

    lag_cases : (x : Effect) → Does x → (lag_of (after_of x) ≡ lag_of cells) ⊎ Broke x
    lag_cases x (rests no_come no_done no_call no_turn) = inl (lag_read x (rests no_come no_done no_call no_turn))
    lag_cases x (goes_on job at) = inl (lag_read x (goes_on job at))
    lag_cases x (frees job at some) = inl (lag_read x (frees job at some))
    lag_cases x (takes job visit at visits nobody spare) = inl (lag_read x (takes job visit at visits nobody spare) ∙ began_lag visit (counts_of cells) (readings_of cells))
    lag_cases x (waits job visit level at visits below busy) = inl (lag_read x (waits job visit level at visits below busy))
    lag_cases x (loses job visit at visits) = inl (lag_read x (loses job visit at visits))
    lag_cases x (passes level calls empty) = inl (lag_read x (passes level calls empty))
    lag_cases x (begins level job visit calls there) = inl (lag_read x (begins level job visit calls there) ∙ began_lag visit (one_less cells) (went_out station.order level (record (readings_of cells) { waiting = (counts_of cells).waiting - 1 })))
    lag_cases x (ends job at below some on_time) = inl (lag_read x (ends job at below some on_time))
    lag_cases x (puts_off job at served below late) = inl (lag_read x (puts_off job at served below late))
    lag_cases x (reneges level place job visit kind below within now there) = inl (lag_read x (reneges level place job visit kind below within now there))
    lag_cases x (shifts kind within) = inl (lag_read x (shifts kind within))
    lag_cases x (stands breakdowns kind has up) = inr (record { kind = kind; breakdowns = breakdowns; has = has; lag = still_lag x breakdowns has (lag_read x (stands breakdowns kind has up)) })
    lag_cases x (works breakdowns kind has) = inl (lag_read x (works breakdowns kind has))

    lag_grows : (x : Effect) → Does x → lag_of cells ≤ lag_of (after_of x)
    lag_grows x does_so = ⊎_elim
        (λ (same : lag_of (after_of x) ≡ lag_of cells). omega (arith, same))
        (λ (broke : Broke x). let lag = broke.lag in omega (arith, lag))
        (lag_cases x does_so)

    -- what is sent, beside what was pending
    record Good (x : Effect) (s : Send) : Type 0 where
      pub stands : Stands (begun ++ more) dest station (after_of x) (site.tick + s.delay) s.dest s.kind s.a s.b
      pub own : Plain s.kind ⊎ (s.dest ≡ dest)

    plain_good : (x : Effect) (s : Send) → Plain s.kind → Good x s
    plain_good x s plain = record { stands = plain_stands (begun ++ more) dest station (after_of x) (site.tick + s.delay) s.dest s.kind s.a s.b plain; own = inl plain }

    plain_goods : (x : Effect) (sends : List Send) → Each (λ (s : Send). Plain s.kind) sends → Each (Good x) sends
    plain_goods x sends all =
        Each-map (λ (s : Send). Plain s.kind) (Good x) sends (λ s plain. plain_good x s plain) all

    plain_rest : (x : Effect) (counts : Counts) → Each (Good x) (call_sent station.most site counts)
    plain_rest x counts = plain_goods x (call_sent station.most site counts) (plain_call site station.most counts)

    -- a service that begins has the lag as its mark
    begun_mark : (visit : AVisit) (counts : Counts) (cs : List Change) (law : DelayLaw) → visit.service ≡ Some law → mark_word station (next_server cells) < length cells.words
        → mark_of station (cells_after_all (cs ++ begin_changes station cells visit counts) cells) (next_server cells) ≡ lag_of cells
    unfolding begin_changes cells_after_all
    begun_mark visit counts cs law is within =
        ap (λ (c : CellData). mark_of station c (next_server cells)) (cells_after_all_append cs (begin_changes station cells visit counts) cells)
        ∙ by (is_none visit.service) (ap (λ (l : Option DelayLaw). is_none l) is)
      where
        mid : CellData
        mid = cells_after_all cs cells

        by : (takes_it : Bool) → takes_it ≡ false → mark_of station
            (cells_after_all (if takes_it then Set HELD (counts.held + 1) ∷ [] else Unpush FREE_SERVERS ∷ Set (mark_word station (next_server cells)) (lag_of cells) ∷ []) (cells_after_all cs cells))
            (next_server cells) ≡ lag_of cells
        by true serves = absurd (cc)
        by false serves = get_or-set_same (cells_after_all cs cells).words (mark_word station (next_server cells)) (lag_of cells) 0 (omega (arith, within, words_long cs cells))

    begin_good : (x : Effect) (visit : AVisit) (job : Job) (birth : ℕ) (counts : Counts) (cs : List Change) → after_of x ≡ cells_after_all (cs ++ begin_changes station cells visit counts) cells
        → lag_of (after_of x) ≡ lag_of cells → job.id < 2 ^ 40 → birth < 2 ^ 48 → next_server cells < station.most
        → ((law : DelayLaw) → visit.service ≡ Some law → Contains more (record { id = job.id; began = site.tick; ticks = value_at p dest (place_of cells) law; lag = lag_of cells }))
        → Good x (begin_sent site routes cells visit (service_drawn site cells visit).0 job birth)
    unfolding begin_sent
    begin_good x visit job birth counts cs after lag small early below member = by visit.service refl
      where
        next : ℕ
        next = next_server cells

        by : (service : Option DelayLaw) → visit.service ≡ service → Good x
            (if is_none service then moved routes job birth (job.step + 1) 0
            else to_self site (drawn_or 0 (words_at site (place_of cells)) service).0 DONE (job_at job.step job.id) (served_by (next_server cells) birth))
        by None is = plain_good x (moved routes job birth (job.step + 1) 0) (plain_moved routes job birth (job.step + 1) 0)
        by (Some law) is =
            let one : Service = record { id = job.id; began = site.tick; ticks = value_at p dest (place_of cells) law; lag = lag_of cells } in
            let server : server_of (served_by (next_server cells) birth) ≡ next_server cells = omega arith in
            let mark : mark_of station (after_of x) (server_of (served_by (next_server cells) birth)) ≡ lag_of cells =
            ap (λ v. mark_of station (after_of x) v) server
            ∙ ap (λ (c : CellData). mark_of station c (next_server cells)) after
            ∙ begun_mark visit counts cs law is (omega (arith, below, at_station.lawful.words)) in
            record {
              own = inr refl;
              stands = record {
                done = λ done there. record {
                  service = one;
                  began = Contains-append_right begun more one (member law is);
                  its = (let e : job.id ≡ id_of (job_at job.step job.id) = omega arith in e);
                  from = omega (arith, mark);
                  upto = omega (arith, mark, lag);
                  now = omega (arith, mark);
                };
                turn = λ is. ⊎_elim (λ (break : DONE ≡ BREAK). absurd (omega arith)) (λ (mend : DONE ≡ MEND). absurd (omega arith)) is;
              };
            }

    -- a service that is put off
    module _ (own : e.kind ≡ DONE → UnderWay begun station cells site.tick e.a e.b) where
      later_so : e.kind ≡ DONE → late_by station cells e ≡ lag_of cells - mark_of station cells (server_of e.b)
      later_so done = let way = own done in let upto = way.upto in omega (arith, upto, bound)

      put_off_good : (x : Effect) → e.kind ≡ DONE → server_of e.b < station.most → (o : ℕ) → o ≤ late_by station cells e
          → after_of x ≡ record cells { words = slice_set cells.words (mark_word station (server_of e.b)) ((mark_of station cells (server_of e.b) + o) % 2 ^ 64) }
          → lag_of (after_of x) ≡ lag_of cells → Good x (to_self site o DONE e.a e.b)
      put_off_good x done below o few after lag =
          let way = own done in
          let m : ℕ = mark_of station cells (server_of e.b) in
          let upto = way.upto in
          let from = way.from in
          let late = later_so done in
          let mark : mark_of station (after_of x) (server_of e.b) ≡ m + o =
          ap (λ (c : CellData). mark_of station c (server_of e.b)) after
          ∙ get_or-set_same cells.words (mark_word station (server_of e.b)) ((m + o) % 2 ^ 64) 0 (omega (arith, below, at_station.lawful.words))
          ∙ (let e : (m + o) % 2 ^ 64 ≡ m + o = omega (arith, upto, few, late, bound) in e) in
          record {
            own = inr refl;
            stands = record {
              done = λ done there. record {
                service = way.service;
                began = Contains-append_left begun more way.service way.began;
                its = way.its;
                from = omega (arith, from, mark);
                upto = omega (arith, upto, few, late, mark, lag);
                now = omega (arith, way.now, from, mark);
              };
              turn = λ is. ⊎_elim (λ (break : DONE ≡ BREAK). absurd (omega arith)) (λ (mend : DONE ≡ MEND). absurd (omega arith)) is;
            };
          }

      goods : (turned : (e.kind ≡ BREAK) ⊎ (e.kind ≡ MEND) → lag_of cells ≤ site.tick) (x : Effect) (does_so : Does x)
          → ((law : DelayLaw) → law_of p cells e x does_so ≡ Some law → is_beginning (word_told x.note) ≡ true
          → Contains more (record { id = first_told x.note; began = site.tick; ticks = value_at p dest (place_of cells) law; lag = lag_of cells }))
          → Each (Good x) x.sends
      unfolding take_effect wait_effect lose_effect begin_effect pass_effect renege_effect still_effect works_effect cells_after_all
      goods turned x (rests no_come no_done no_call no_turn) news = tt
      goods turned x (goes_on job at) news = plain_goods x x.sends (plain_moved routes job e.b (job.step + 1) 0, tt)
      goods turned x (frees job at some) news = plain_goods x x.sends (plain_moved routes job e.b (job.step + 1) 0, plain_call site station.most _)
      goods turned x (takes job visit at visits nobody spare) news =
          let lag : lag_of (after_of x) ≡ lag_of cells = lag_read x (takes job visit at visits nobody spare) ∙ began_lag visit (counts_of cells) (readings_of cells) in (
            begin_good x visit job (birth_of e.b) (counts_of cells) (place_changes (place_of cells) (service_drawn site cells visit).1) refl lag at.here.names.has.id (omega arith)
                (next_below p site cells e at_station (some_free p site cells e at_station spare)) (λ law is. news law is refl),
            tt,
          )
      goods turned x (waits job visit level at visits below busy) news = plain_goods x x.sends (tire_each (λ (s : Send). Plain s.kind) site cells level visit.patience (λ delay a b. plain_other TIRE (omega arith) (omega arith)))
      goods turned x (loses job visit at visits) news = plain_goods x x.sends (plain_moved routes job e.b visit.full 0, tt)
      goods turned x (passes level calls empty) news = plain_goods x x.sends (plain_other CALL (omega arith) (omega arith), tt)
      goods turned x (begins level job visit calls there) news =
          let place = calls_at station cells level in
          let within : place < length (line_of cells (jobs_line level)) = called_within station cells level calls.some in
          let births = (at_station.lawful.levels level calls.below).births in
          let early : slice_index (line_of cells (births_line level)) place < 2 ^ 48 = ltb-true _ _ ((at_station.lawful.levels level calls.below).early place 0 (omega (arith, births, within))) in
          let lag : lag_of (after_of x) ≡ lag_of cells =
          lag_read x (begins level job visit calls there) ∙ began_lag visit (one_less cells) (went_out station.order level (record (readings_of cells) { waiting = (counts_of cells).waiting - 1 })) in (
            begin_good x visit job (slice_index (line_of cells (births_line level)) place) (one_less cells)
                (place_changes (place_of cells) (service_drawn site cells visit).1 ++ (Set WAITING ((counts_of cells).waiting - 1) ∷ out_changes station.order cells level)) refl lag
                (named_of routes (slice_index (line_of cells (jobs_line level)) place) job there.found).0.small early
                (next_below p site cells e at_station (some_free p site cells e at_station calls.spare)) (λ law is. news law is refl),
            plain_rest x _,
          )
      goods turned x (ends job at below some on_time) news = plain_goods x x.sends (plain_moved routes job e.b (job.step + 1) 0, plain_call site station.most _)
      goods turned x (puts_off job at served below late) news =
          (put_off_good x at.kind below (min (late_by station cells e) LONGEST) (omega arith) refl (lag_read x (puts_off job at served below late)), tt)
      goods turned x (reneges level place job visit kind below within now there) news = plain_goods x x.sends (plain_moved routes job _ visit.away 0, tt)
      goods turned x (shifts kind within) news =
          plain_goods x x.sends (Each-append (λ (s : Send). Plain s.kind) (shift_sent site station e.a) _ (shift_each (λ (s : Send). Plain s.kind) site station e.a (λ delay a b. plain_other SHIFT (omega arith) (omega arith))) (plain_call site station.most _))
      goods turned x (stands breakdowns kind has up) news =
          let lag = still_lag x breakdowns has (lag_read x (stands breakdowns kind has up)) in
          let before = turned (inl kind) in
          (record { stands = record { done = λ is. absurd (omega arith); turn = λ is there. omega (arith, lag, before) }; own = inr refl }, tt)
      goods turned x (works breakdowns kind has) news =
          let lag = lag_read x (works breakdowns kind has) in
          let before = turned (inr kind) in
          (record { stands = record { done = λ is. absurd (omega arith); turn = λ is there. omega (arith, lag, before) }; own = inr refl }, plain_rest x _)

  the_next : (visit : AVisit) (server : ℕ) → 0 < length (line_of cells FREE_SERVERS) → touched_by visit ≡ Some server → Contains (line_of cells FREE_SERVERS) server
  the_next visit server some is = by (is_none visit.service) is
    where
      by : (takes_it : Bool) → (if takes_it then None else Some (next_server cells)) ≡ Some server → Contains (line_of cells FREE_SERVERS) server
      by true none = absurd (cc)
      by false same =
          let one : next_server cells ≡ server = cc in
          subst (λ v. Contains (line_of cells FREE_SERVERS) v) one (Contains-get_or (line_of cells FREE_SERVERS) (length (line_of cells FREE_SERVERS) - 1) 0 (omega arith))

  -- whose mark is set serves nobody, or is done now
  touched_how : (free : 0 < spare_of station.most (counts_of cells) → 0 < length (line_of cells FREE_SERVERS)) (x : Effect) (does_so : Does x) (server : ℕ) → touched x does_so ≡ Some server
      → Contains (line_of cells FREE_SERVERS) server ⊎ ((e.kind ≡ DONE) × (server_of e.b ≡ server))
  touched_how free x (rests no_come no_done no_call no_turn) server is = absurd (cc)
  touched_how free x (goes_on job at) server is = absurd (cc)
  touched_how free x (frees job at some) server is = absurd (cc)
  touched_how free x (takes job visit at visits nobody spare) server is = inl (the_next visit server (free spare) is)
  touched_how free x (waits job visit level at visits below busy) server is = absurd (cc)
  touched_how free x (loses job visit at visits) server is = absurd (cc)
  touched_how free x (passes level calls empty) server is = absurd (cc)
  touched_how free x (begins level job visit calls there) server is = inl (the_next visit server (free calls.spare) is)
  touched_how free x (ends job at below some on_time) server is = absurd (cc)
  touched_how free x (puts_off job at served below late) server is = inr (at.kind, (cc))
  touched_how free x (reneges level place job visit kind below within now there) server is = absurd (cc)
  touched_how free x (shifts kind within) server is = absurd (cc)
  touched_how free x (stands breakdowns kind has up) server is = absurd (cc)
  touched_how free x (works breakdowns kind has) server is = absurd (cc)

  -- `done` tells that a service ends, which is put off no more
  record Ends (note : Note) : Type 0 where
    pub kind : e.kind ≡ DONE
    pub on_time : late_by station cells e ≡ 0
    pub id : first_told note ≡ id_of e.a

  ends_so : (x : Effect) → Does x → word_told x.note ≡ DONE_WORD → Ends x.note
  unfolding take_effect wait_effect lose_effect begin_effect pass_effect renege_effect still_effect works_effect
  ends_so x (rests no_come no_done no_call no_turn) word = absurd (omega arith)
  ends_so x (goes_on job at) word = absurd (omega arith)
  ends_so x (frees job at some) word = absurd (omega arith)
  ends_so x (takes job visit at visits nobody spare) word = absurd (omega arith)
  ends_so x (waits job visit level at visits below busy) word = absurd (omega arith)
  ends_so x (loses job visit at visits) word = absurd (omega arith)
  ends_so x (passes level calls empty) word = absurd (omega arith)
  ends_so x (begins level job visit calls there) word = absurd (omega arith)
  ends_so x (ends job at below some on_time) word = record { kind = at.kind; on_time = on_time; id = sym (named_of routes e.a job at.here.is).1 }
  ends_so x (puts_off job at served below late) word = absurd (omega arith)
  ends_so x (reneges level place job visit kind below within now there) word = absurd (omega arith)
  ends_so x (shifts kind within) word = absurd (omega arith)
  ends_so x (stands breakdowns kind has up) word = absurd (omega arith)
  ends_so x (works breakdowns kind has) word = absurd (omega arith)

-- of a state: each pending event stands as said, and no lag is above the ticks
record Standing (p : ShopParts) (t : Terms) (n : ℕ) (s : State) : Type 0 where
  pub pending : (i : ℕ) → i < length p.stations → Each (AsEvent (Stands (services p t i n) i (station_at p.stations i) (cells_at s i))) s.pending
  pub bound : (i : ℕ) → i < length p.stations → lag_at s i ≤ 2 ^ 47

-- two of a list pass
two_pass : (p : Event → Bool) (e : Event) (rest : List Event) (other : Event) → p e ≡ true → Contains rest other → p other ≡ true → 2 ≤ count_by p (e ∷ rest)
two_pass p e rest other first there second =
    let one : ◌≡◌ {A = ℕ} (cond (p e) 1 0) 1 = ap (λ b. cond b 1 0) first in
    omega (arith, sum_by-cons (λ (e : Event). cond (p e) 1 0) e rest, one, some_pass p other rest there second)

is_end : (i : ℕ) (e : Event) → e.kind ≡ DONE → e.key.dest ≡ i → ends_by i (server_of e.b) e ≡ true
is_end i e kind there = and_from _ _ (eq-eqb e.kind DONE kind) (and_from _ _ (eq-eqb e.key.dest i there) (eq-eqb (server_of e.b) (server_of e.b) refl))

is_turn : (i : ℕ) (e : Event) → (e.kind ≡ BREAK) ⊎ (e.kind ≡ MEND) → e.key.dest ≡ i → turns i e ≡ true
is_turn i e kind there = and_from _ _ (by (e.kind == BREAK) refl) (eq-eqb e.key.dest i there)
  where
    by : (break : Bool) → (e.kind == BREAK) ≡ break → (break || e.kind == MEND) ≡ true
    by true is = refl
    by false apart = ⊎_elim (λ (is : e.kind ≡ BREAK). absurd (eqb-false e.kind BREAK apart is)) (λ (is : e.kind ≡ MEND). eq-eqb e.kind MEND is) kind

module _ (p : ShopParts) (t : Terms) (fine : IsShop p) (n : ℕ) (told : Key × Note) (after : State) (is_next : next (shop_meaning p) t (after_events n (shop_meaning p) t) ≡ does told after)
    (before : Standing p t n (after_events n (shop_meaning p) t)) where
  abbrev m : Meaning
  m = shop_meaning p

  abbrev s : State
  s = after_events n (shop_meaning p) t

  the_step : IsShopStep p t (after_events n (shop_meaning p) t) told after
  the_step = shop_step p t (after_events n (shop_meaning p) t) told after fine (n, refl) is_next

  abbrev event : Event
  event = the_step.step.event

  abbrev object : ℕ
  object = the_step.step.event.key.dest

  its : (i : ℕ) → i < length p.stations → AsEvent (Stands (services p t i n) i (station_at p.stations i) (cells_at s i)) event
  its i exists =
      let Q : List Event → Type 0 = λ es. Each (AsEvent (Stands (services p t i n) i (station_at p.stations i) (cells_at s i))) es in
      let all : Q (event ∷ the_step.step.rest) = subst Q the_step.step.pending (before.pending i exists) in
      all.0

  others : (i : ℕ) → i < length p.stations → Each (AsEvent (Stands (services p t i n) i (station_at p.stations i) (cells_at s i))) the_step.step.rest
  others i exists =
      let Q : List Event → Type 0 = λ es. Each (AsEvent (Stands (services p t i n) i (station_at p.stations i) (cells_at s i))) es in
      let all : Q (event ∷ the_step.step.rest) = subst Q the_step.step.pending (before.pending i exists) in
      all.1

  abbrev more : ℕ → List Service
  more i = services_next p i s (does told after)

  -- at another object
  elsewhere : (i : ℕ) → i < length p.stations → i ≢ the_step.step.event.key.dest
      → Each (AsEvent (Stands (services p t i n ++ more i) i (station_at p.stations i) (cells_at after i))) the_step.step.rest
  elsewhere i exists apart =
      let same : cells_at after i ≡ cells_at s i = cells_elsewhere p t s told after the_step i apart in
      Each-map (AsEvent (Stands (services p t i n) i (station_at p.stations i) (cells_at s i))) (AsEvent (Stands (services p t i n ++ more i) i (station_at p.stations i) (cells_at after i)))
      the_step.step.rest
      (λ e is. record {
        done = λ kind there.
            way_on (services p t i n) (more i) (station_at p.stations i) (cells_at s i) (cells_at after i) (time_part e.key.stamp) e.a e.b
            (ap (λ (c : CellData). mark_of (station_at p.stations i) c (server_of e.b)) same) (omega (arith, ap lag_of same)) (is.done kind there);
        turn = λ kind there. omega (arith, is.turn kind there, ap lag_of same);
      })
      (others i exists)

  module _ (early : the_step.step.event.key.dest < length p.stations) where
    st : IsStationStep p t (after_events n (shop_meaning p) t) told after the_step
    st = station_step p t (after_events n (shop_meaning p) t) told after fine the_step (serving p t (after_events n (shop_meaning p) t) fine (n, refl)) early

    abbrev its_cells : CellData
    its_cells = cells_at s object

    abbrev x : Effect
    x = the_step.step.effect

    abbrev its_station : Station
    its_station = station_at p.stations object

    now : cells_at after the_step.step.event.key.dest ≡ cells_after_all the_step.step.effect.changes (cells_at s the_step.step.event.key.dest)
    now = cells_here p t s told after the_step

    servers : AreServers s object its_station
    servers = servers_law p t s object fine early (n, refl)

    -- the servers of the others have another mark than the one that is set
    other_mark : (e : Event) → Contains the_step.step.rest e → e.kind ≡ DONE → e.key.dest ≡ object → server_of e.b < its_station.most
        → touched p its_cells event (services p t object n) (more object) fine st.at x st.does_so ≡ Some (server_of e.b) → ⊥
    other_mark e there kind at below is =
        let v : ℕ = server_of e.b in
        let passes : ends_by object v e ≡ true = is_end object e kind at in
        let once = servers.each_once v below in
        let all : count_by (ends_by object v) s.pending ≡ count_by (ends_by object v) (event ∷ the_step.step.rest) = ap (λ (es : List Event). count_by (ends_by object v) es) the_step.step.pending in
        ⊎_elim
        (λ (free : Contains (line_of its_cells FREE_SERVERS) v). absurd (
        let one = some_pass (λ f. f == v) v (line_of its_cells FREE_SERVERS) free (eq-eqb v v refl) in
        let two = some_pass (ends_by object v) e (event ∷ the_step.step.rest) (is-later e event the_step.step.rest there) passes in
        omega (arith, once, all, one, two)
        ))
        (λ (done : (event.kind ≡ DONE) × (server_of event.b ≡ v)). absurd (
        let first : ends_by object v event ≡ true = subst (λ k. ends_by object k event ≡ true) done.1 (is_end object event done.0 refl) in
        let two = two_pass (ends_by object v) event the_step.step.rest e first there passes in
        omega (arith, once, all, two)
        ))
        (touched_how p its_cells event (services p t object n) (more object) fine st.at (some_free p (site_of p object event) its_cells event st.at) x st.does_so v is)

    -- the other events of the its_station
    here : Each (AsEvent (Stands (services p t object n ++ more object) object its_station (cells_at after object))) the_step.step.rest
    here = each-member (AsEvent (Stands (services p t object n ++ more object) object its_station (cells_at after object))) the_step.step.rest one
      where
        bound : lag_of (cells_at s the_step.step.event.key.dest) ≤ 2 ^ 47
        bound = before.bound the_step.step.event.key.dest early

        one : (e : Event) → Contains the_step.step.rest e
            → AsEvent (Stands (services p t the_step.step.event.key.dest n ++ more the_step.step.event.key.dest) the_step.step.event.key.dest (station_at p.stations the_step.step.event.key.dest) (cells_at after the_step.step.event.key.dest)) e
        one e there =
            let is : AsEvent (Stands (services p t object n) object its_station its_cells) e =
            each-contains (AsEvent (Stands (services p t object n) object its_station its_cells)) e the_step.step.rest (others object early) there in
            let grows : lag_of its_cells ≤ lag_of (cells_at after object) =
            omega (arith, lag_grows p its_cells event (services p t object n) (more object) fine st.at bound x st.does_so, ap lag_of now) in
            record {
              done = λ kind at.
                  let service = each-contains (λ (e : Event). IsFine p e.key.dest e.kind e.a e.b) e the_step.step.rest rest_fine there in
                  let below : server_of e.b < its_station.most = subst (λ k. server_of e.b < (station_at p.stations k).most) at (service.serves kind).server in
                  way_on (services p t object n) (more object) its_station its_cells (cells_at after object) (time_part e.key.stamp) e.a e.b
                  (ap (λ (c : CellData). mark_of its_station c (server_of e.b)) now
                  ∙ mark_stays p its_cells event (services p t object n) (more object) fine st.at (server_of e.b) x st.does_so (other_mark e there kind at below))
                  grows (is.done kind at);
              turn = λ kind at. ⊎_elim
                  (λ (same : lag_of (cells_after_all x.changes its_cells) ≡ lag_of its_cells). omega (arith, is.turn kind at, same, ap lag_of now))
                  (λ (broke : Broke p its_cells event (services p t object n) (more object) fine st.at bound x). absurd (
                  let turns_once = (breaks_in_turn p t s object fine (n, refl) early).one broke.breakdowns broke.has in
                  let all : count_by (turns object) s.pending ≡ count_by (turns object) (event ∷ the_step.step.rest) = ap (λ (es : List Event). count_by (turns object) es) the_step.step.pending in
                  let two = two_pass (turns object) event the_step.step.rest e (is_turn object event (inl broke.kind) refl) there (is_turn object e kind at) in
                  omega (arith, turns_once, all, two)
                  ))
                  (lag_cases p its_cells event (services p t object n) (more object) fine st.at bound x st.does_so);
            }
          where
            rest_fine : Each (λ (e : Event). IsFine p e.key.dest e.kind e.a e.b) the_step.step.rest
            rest_fine =
                let F : List Event → Type 0 = λ es. Each (λ (e : Event). IsFine p e.key.dest e.kind e.a e.b) es in
                let all : F (event ∷ the_step.step.rest) = subst F the_step.step.pending (serving p t s fine (n, refl)).fine in
                all.1

    -- what the event sends
    goods_here : Each (Good p its_cells event (services p t object n) (more object) fine st.at (before.bound object early) x) (the_step.step.effect.sends)
    goods_here =
        goods p its_cells event (services p t object n) (more object) fine st.at (before.bound object early) (λ done. (its object early).done done refl) (λ kind. (its object early).turn kind refl) x st.does_so news
      where
        news : (law : DelayLaw) → law_of p (cells_at s the_step.step.event.key.dest) event x st.does_so ≡ Some law
            → is_beginning (word_told x.note) ≡ true
            → Contains (more the_step.step.event.key.dest)
            (record { id = first_told x.note; began = time_part the_step.step.event.key.stamp; ticks = value_at p the_step.step.event.key.dest (place_of (cells_at s the_step.step.event.key.dest)) law; lag = lag_of (cells_at s the_step.step.event.key.dest) })
        news law is begins_so =
            let some : 0 < length (cells_at s object).words = words p (cells_at s object) event [] [] fine st.at in
            let laws : laws_next p object s (does told after) ≡ law ∷ [] =
            laws_here p t s told after the_step ∙ station_laws p its_cells event fine early some x st.does_so ∙ ap laws_of is in
            let service : Key × Note → DelayLaw → Service = λ r law. record { id = first_told r.1; began = time_part r.0.stamp; ticks = value_at p object (place_of its_cells) law; lag = lag_at s object } in
            let tells : told ≡ (event.key, x.note) = the_step.step.tells in
            let all : more object ≡ service (event.key, x.note) law ∷ [] =
            ap (λ (ls : List DelayLaw). if is_beginning (word_told told.1) then map (service told) ls else []) laws
            ∙ ap (λ (r : Key × Note). if is_beginning (word_told r.1) then service r law ∷ [] else []) tells
            ∙ ap (λ b. if b then service (event.key, x.note) law ∷ [] else []) begins_so in
            subst (λ (ss : List Service). Contains ss (service (event.key, x.note) law)) (sym all) (is-first (service (event.key, x.note) law) (service (event.key, x.note) law) [] refl)

  -- what is sent stands as said at each its_station
  sent : (i : ℕ) → i < length p.stations → Each (AsSent (Stands (services p t i n ++ more i) i (station_at p.stations i) (cells_at after i)) the_step.step.event.key.stamp) the_step.step.effect.sends
  sent i exists = ⊎_elim at_station at_class (cases_lt object (length p.stations))
    where
      at_class : length p.stations ≤ the_step.step.event.key.dest
          → Each (AsSent (Stands (services p t i n ++ more i) i (station_at p.stations i) (cells_at after i)) the_step.step.event.key.stamp) the_step.step.effect.sends
      at_class past =
          let st = class_step p t s told after fine the_step (serving p t s fine (n, refl)) past in
          Each-map (λ (s : Send). Plain s.kind) (AsSent (Stands (services p t i n ++ more i) i (station_at p.stations i) (cells_at after i)) event.key.stamp) the_step.step.effect.sends
          (λ s plain. plain_stands (services p t i n ++ more i) i (station_at p.stations i) (cells_at after i) (time_part event.key.stamp + s.delay) s.dest s.kind s.a s.b plain)
          (class_sends_each p (site_of p object event) (class_of_object p object) (cells_at s object) event st.home (λ (s : Send). Plain s.kind)
          (λ delay a b. a_plain MAKE (λ e. absurd (omega arith)) (λ e. absurd (omega arith)) (λ e. absurd (omega arith)))
          (λ job b step delay named within. plain_moved (routes_of p) job b step delay) the_step.step.effect st.does_so)

      at_station : the_step.step.event.key.dest < length p.stations
          → Each (AsSent (Stands (services p t i n ++ more i) i (station_at p.stations i) (cells_at after i)) the_step.step.event.key.stamp) the_step.step.effect.sends
      at_station early = ⊎_elim
          (λ (same : object ≡ i).
          subst (λ k. Each (AsSent (Stands (services p t k n ++ more k) k (station_at p.stations k) (cells_at after k)) event.key.stamp) the_step.step.effect.sends) same
          (Each-map (Good p (cells_at s object) event (services p t object n) (more object) fine (st early).at (before.bound object early) the_step.step.effect)
          (AsSent (Stands (services p t object n ++ more object) object (station_at p.stations object) (cells_at after object)) event.key.stamp) the_step.step.effect.sends
          (λ s good. subst (λ (c : CellData). Stands (services p t object n ++ more object) object (station_at p.stations object) c (time_part event.key.stamp + s.delay) s.dest s.kind s.a s.b) (sym (now early)) good.stands)
          (goods_here early)))
          (λ (apart : object ≢ i).
          Each-map (Good p (cells_at s object) event (services p t object n) (more object) fine (st early).at (before.bound object early) the_step.step.effect)
          (AsSent (Stands (services p t i n ++ more i) i (station_at p.stations i) (cells_at after i)) event.key.stamp) the_step.step.effect.sends
          (λ s good. ⊎_elim
          (λ (plain : Plain s.kind). plain_stands (services p t i n ++ more i) i (station_at p.stations i) (cells_at after i) (time_part event.key.stamp + s.delay) s.dest s.kind s.a s.b plain)
          (λ (own : s.dest ≡ object). record { done = λ kind there. absurd (apart (sym own ∙ there)); turn = λ kind there. absurd (apart (sym own ∙ there)) })
          good.own)
          (goods_here early))
          (cases_eq object i)

  pending_on : (i : ℕ) → i < length p.stations → Each (AsEvent (Stands (services p t i n ++ more i) i (station_at p.stations i) (cells_at after i))) after.pending
  pending_on i exists =
      step_keeps m t s told after (AsEvent (Stands (services p t i n ++ more i) i (station_at p.stations i) (cells_at after i))) the_step.step
      (each_sent (Stands (services p t i n ++ more i) i (station_at p.stations i) (cells_at after i)) event.key.stamp object (state_at s.objects object).sent the_step.step.effect.sends the_step.step.no_chain
      (sent i exists))
      (⊎_elim
      (λ (same : object ≡ i).
      subst (λ k. Each (AsEvent (Stands (services p t k n ++ more k) k (station_at p.stations k) (cells_at after k))) the_step.step.rest) same (here (omega (arith, exists, same))))
      (λ (apart : object ≢ i). elsewhere i exists (λ same. apart (sym same)))
      (cases_eq object i))

  bound_on : (i : ℕ) → i < length p.stations → lag_at after i ≤ 2 ^ 47
  bound_on i exists = ⊎_elim
      (λ (same : object ≡ i).
      subst (λ k. lag_at after k ≤ 2 ^ 47) same
      (let early : object < length p.stations = omega (arith, exists, same) in
      let st = st early in
      let bound = before.bound object early in
      let lag : lag_at after object ≡ lag_of (cells_after_all the_step.step.effect.changes (cells_at s object)) = ap lag_of (now early) in
      let tick : time_part event.key.stamp < 2 ^ 46 = time_early t event.key.stamp the_step.step.due in
      ⊎_elim
      (λ (same : lag_of (cells_after_all the_step.step.effect.changes (cells_at s object)) ≡ lag_of (cells_at s object)). omega (arith, same, lag, bound))
      (λ (broke : Broke p (cells_at s object) event (services p t object n) (more object) fine st.at bound the_step.step.effect).
      let few : lag_of (cells_at s object) ≤ time_part event.key.stamp = (its object early).turn (inl broke.kind) refl in
      let ticks = short p (cells_at s object) event (services p t object n) (more object) fine st.at broke.breakdowns broke.has in
      omega (arith, broke.lag, lag, few, tick, ticks))
      (lag_cases p (cells_at s object) event (services p t object n) (more object) fine st.at bound the_step.step.effect st.does_so)))
      (λ (apart : object ≢ i). omega (arith, before.bound i exists, ap lag_of (cells_elsewhere p t s told after the_step i (λ same. apart (sym same)))))
      (cases_eq object i)

-- at the start
no_lag : (station : Station) → lag_of (first_station_cells station) ≡ 0
unfolding first_station_cells
no_lag station = get_or-replicate (4 + station.levels + station.most) 3 0 0 (omega arith)

standing_first : (p : ShopParts) (t : Terms) → Standing p t 0 (initial_state (shop_meaning p))
standing_first p t = record {
  pending = λ i exists.
      pending_start p (AsEvent (Stands (services p t i 0) i (station_at p.stations i) (cells_at (initial_state (shop_meaning p)) i)))
      (λ e no_come no_done. record {
        done = λ kind. absurd (no_done kind);
        turn = λ kind there. omega (arith, ap lag_of (station_at_start p i exists), no_lag (station_at p.stations i));
      });
  bound = λ i exists. omega (arith, ap lag_of (station_at_start p i exists), no_lag (station_at p.stations i));
}

-- after any number of events
all_standing : (p : ShopParts) (t : Terms) → IsShop p → (n : ℕ) → Standing p t n (after_events n (shop_meaning p) t)
unfolding after_events
all_standing p t fine =
    each_number m t (λ n. Standing p t n (after_events n m t))
    (standing_first p t)
    (λ n stop is_next before.
    let same : (i : ℕ) → services p t i (suc n) ≡ services p t i n = λ i. gathered-more (services_next p i) m t n (stops stop) is_next ∙ append-nil (services p t i n) in
    subst (λ (s : State). Standing p t (suc n) s) (sym (after_events-stops m t n stop is_next)) (record {
      pending = λ i exists.
          subst (λ (begun : List Service). Each (AsEvent (Stands begun i (station_at p.stations i) (cells_at (after_events n m t) i))) (after_events n m t).pending) (sym (same i)) (before.pending i exists);
      bound = before.bound;
    }))
    (λ n told after is_next before.
    subst (λ (s : State). Standing p t (suc n) s) (sym (after_events-does m t n told after is_next)) (record {
      pending = λ i exists.
          subst (λ (begun : List Service). Each (AsEvent (Stands begun i (station_at p.stations i) (cells_at after i))) after.pending) (sym (gathered-more (services_next p i) m t n (does told after) is_next))
          (pending_on p t fine n told after is_next before i exists);
      bound = λ i exists. bound_on p t fine n told after is_next before i exists;
    }))
  where
    m : Meaning
    m = shop_meaning p

-- no lag comes near 2 ^ 64
pub lag_bound : (p : ShopParts) (t : Terms) → IsShop p → (n i : ℕ) → i < length p.stations → lag_at (after_events n (shop_meaning p) t) i ≤ 2 ^ 47
lag_bound p t fine n i exists = (all_standing p t fine n).bound i exists

pub services_stand_still : ServicesStandStill
services_stand_still p t n told after fine is_next early word =
    let s : State = after_events n (shop_meaning p) t in
    let all = all_standing p t fine n in
    let step = the_step p t fine n told after is_next all in
    let P : Key × Note → Type 0 = λ told. told.0.dest < length p.stations → word_told told.1 ≡ DONE_WORD
    → IsOver (services p t told.0.dest n) (first_told told.1) (time_part told.0.stamp) (lag_at s told.0.dest) in
    subst P (sym step.step.tells)
    (λ exists is.
    let event : Event = step.step.event in
    let dest : ℕ = event.key.dest in
    let x : Effect = step.step.effect in
    let st = station_step p t s told after fine step (serving p t s fine (n, refl)) exists in
    let ends = ends_so p (cells_at s dest) event [] [] fine st.at x st.does_so is in
    let way = (its p t fine n told after is_next all dest exists).done ends.kind refl in
    let bound = all.bound dest exists in
    let upto = way.upto in
    let on_time = ends.on_time in
    let mark : mark_of (station_at p.stations dest) (cells_at s dest) (server_of event.b) ≡ lag_at s dest = omega (arith, upto, bound, on_time) in
    record {
      service = way.service;
      among = way.began;
      its = way.its ∙ sym ends.id;
      still = omega (arith, way.from, mark);
      over = way.now ∙ ap (λ k. way.service.began + way.service.ticks + (k - way.service.lag)) mark;
    })
    early word
