-- What a station sends: the job of its event or of its line, if one goes on or begins, and beside it what names no job.
use Rattle.std.proofs.Common.{◌≡◌, ◌≢◌, ℕ, ◌+◌, ◌-◌, ◌^◌, ◌<◌, Bool, true, false, List, [], ◌∷◌, ◌++◌, length, refl, sym, ap, ◌∙◌, subst, arith}
use Rattle.std.specs.Prelude.{if◌then◌else◌, ◌==◌, ◌&&◌, min, nat_lt, is_none, is_some, slice_index, sum_by, Option, None, Some}
use Rattle.std.specs.List.{AllByRecursion as Each}
use Rattle.std.specs.Option.{option_and_then}
use Rattle.std.proofs.lemmas.Bool.{eqb-true, ltb-true}
use Rattle.std.proofs.lemmas.List.Sums.{sum_by-cons, sum_by-append}
use Rattle.key_order.proofs.EachLemmas.{Each-append, Each-map}
use Rattle.delta_exchange.specs.Changes.{CellData, line_of}
use Rattle.model_core.specs.declared.effect.Effect.{Effect}
use Rattle.model_core.specs.declared.event.Event.{Event}
use Rattle.model_core.specs.declared.event.Send.{Send}
use Rattle.random_streams.specs.declared.delay_law.DelayLaw.{DelayLaw}
use Rattle.shop_model.specs.declared.counts.Counts.{Counts}
use Rattle.shop_model.specs.declared.done.TheConstants.{LONGEST}
use Rattle.shop_model.specs.declared.job.Job.{Job}
use Rattle.shop_model.specs.declared.kinds.TheConstants.{COME, DONE, CALL, TIRE, SHIFT, BREAK, MEND}
use Rattle.shop_model.specs.declared.levels.TheConstants.{EMPTY}
use Rattle.shop_model.specs.declared.routes.Routes.{Routes}
use Rattle.shop_model.specs.declared.site.Site.{Site}
use Rattle.shop_model.specs.declared.station.Station.{Station}
use Rattle.shop_model.specs.declared.station.TheConstants.{FREE_SERVERS}
use Rattle.shop_model.specs.declared.step.Step.TheVariants.{Visit}
use Rattle.shop_model.specs.declared.step.Visit.{Visit as AVisit}
use Rattle.shop_model.specs.Beginnings.{next_server, service_drawn, begin_sent, counts_begun}
use Rattle.shop_model.specs.CountLaws.{spare_frees}
use Rattle.shop_model.specs.EffectKeeps.{step_fine}
use Rattle.shop_model.specs.JobLaws.{HasHere, job_named}
use Rattle.shop_model.specs.Jobs.{job_at, birth_of, served_by}
use Rattle.shop_model.specs.Lawful.{IsLawful}
use Rattle.shop_model.specs.Meaning.{is_served}
use Rattle.shop_model.specs.Parts.{AreRoutes, IsVisit}
use Rattle.shop_model.specs.Routes.{class_at, step_at, stands_at, object_at, job_of, visit_of, visit_at, moved}
use Rattle.shop_model.specs.ShopParts.{ShopParts, routes_of, station_at}
use Rattle.shop_model.specs.Sites.{to_self, place_of, drawn_at}
use Rattle.shop_model.specs.StationEffects.{take_effect, tire_sent, wait_effect, lose_effect, begin_effect, pass_effect, renege_effect, shift_at, shift_again, shift_sent, still_effect, works_effect}
use Rattle.shop_model.specs.Stations.{counts_of, spare_of, call_sent, jobs_line, births_line, is_entry}
use Rattle.shop_laws.proofs.After.{one_less}
use Rattle.shop_laws.proofs.Cases.{StationDoes, rests, goes_on, frees, takes, waits, loses, passes, begins, ends, puts_off, reneges, shifts, stands, works, WaitsAt, entry_at, calls_at, called_within, step_within, late_by}
use Rattle.shop_laws.proofs.Fine.{IsFine, IsService, IsNamed, named_of, moved_fine, other_fine}

-- the job that goes on, begins or is put off
abbrev pub job_sent : (site : Site) (routes : Routes) (station : Station) (cells : CellData) (e : Event) (x : Effect) → StationDoes site routes station cells e x → List Send
job_sent site routes station cells e x (rests no_come no_done no_call no_turn) = []
job_sent site routes station cells e x (goes_on job at) = moved routes job e.b (job.step + 1) 0 ∷ []
job_sent site routes station cells e x (frees job at some) = moved routes job e.b (job.step + 1) 0 ∷ []
job_sent site routes station cells e x (takes job visit at visits nobody spare) = begin_sent site routes cells visit (service_drawn site cells visit).0 job (birth_of e.b) ∷ []
job_sent site routes station cells e x (waits job visit level at visits below busy) = []
job_sent site routes station cells e x (loses job visit at visits) = moved routes job e.b visit.full 0 ∷ []
job_sent site routes station cells e x (passes level calls empty) = []
job_sent site routes station cells e x (begins level job visit calls there) =
    begin_sent site routes cells visit (service_drawn site cells visit).0 job (slice_index (line_of cells (births_line level)) (calls_at station cells level)) ∷ []
job_sent site routes station cells e x (ends job at below some on_time) = moved routes job e.b (job.step + 1) 0 ∷ []
job_sent site routes station cells e x (puts_off job at served below late) = to_self site (min (late_by station cells e) LONGEST) DONE e.a e.b ∷ []
job_sent site routes station cells e x (reneges level place job visit kind below within now there) =
    moved routes job (slice_index (line_of cells (births_line level)) place) visit.away 0 ∷ []
job_sent site routes station cells e x (shifts kind within) = []
job_sent site routes station cells e x (stands breakdowns kind has up) = []
job_sent site routes station cells e x (works breakdowns kind has) = []

-- what is sent beside it
abbrev pub others_sent : (site : Site) (routes : Routes) (station : Station) (cells : CellData) (e : Event) (x : Effect) → StationDoes site routes station cells e x → List Send
others_sent site routes station cells e x (rests no_come no_done no_call no_turn) = []
others_sent site routes station cells e x (goes_on job at) = []
others_sent site routes station cells e x (frees job at some) = call_sent station.most site (record (counts_of cells) { held = (counts_of cells).held - 1 })
others_sent site routes station cells e x (takes job visit at visits nobody spare) = []
others_sent site routes station cells e x (waits job visit level at visits below busy) = tire_sent site cells level visit.patience
others_sent site routes station cells e x (loses job visit at visits) = []
others_sent site routes station cells e x (passes level calls empty) = to_self site 0 CALL 0 0 ∷ []
others_sent site routes station cells e x (begins level job visit calls there) = call_sent station.most site (counts_begun visit (one_less cells))
others_sent site routes station cells e x (ends job at below some on_time) = call_sent station.most site (record (counts_of cells) { free = (counts_of cells).free + 1 })
others_sent site routes station cells e x (puts_off job at served below late) = []
others_sent site routes station cells e x (reneges level place job visit kind below within now there) = []
others_sent site routes station cells e x (shifts kind within) = shift_sent site station e.a ++ call_sent station.most site (record (counts_of cells) { opened = (shift_at station e.a).servers })
others_sent site routes station cells e x (stands breakdowns kind has up) = to_self site (drawn_at site (place_of cells) breakdowns.down).0 MEND 0 0 ∷ []
others_sent site routes station cells e x (works breakdowns kind has) =
    to_self site (drawn_at site (place_of cells) breakdowns.up).0 BREAK 0 0 ∷ call_sent station.most site (record (counts_of cells) { down = 0 })

pub sends_are : (site : Site) (routes : Routes) (station : Station) (cells : CellData) (e : Event) (x : Effect) (does_so : StationDoes site routes station cells e x)
    → x.sends ≡ job_sent site routes station cells e x does_so ++ others_sent site routes station cells e x does_so
unfolding take_effect wait_effect lose_effect begin_effect pass_effect renege_effect still_effect works_effect
sends_are site routes station cells e x (rests no_come no_done no_call no_turn) = refl
sends_are site routes station cells e x (goes_on job at) = refl
sends_are site routes station cells e x (frees job at some) = refl
sends_are site routes station cells e x (takes job visit at visits nobody spare) = refl
sends_are site routes station cells e x (waits job visit level at visits below busy) = refl
sends_are site routes station cells e x (loses job visit at visits) = refl
sends_are site routes station cells e x (passes level calls empty) = refl
sends_are site routes station cells e x (begins level job visit calls there) = refl
sends_are site routes station cells e x (ends job at below some on_time) = refl
sends_are site routes station cells e x (puts_off job at served below late) = refl
sends_are site routes station cells e x (reneges level place job visit kind below within now there) = refl
sends_are site routes station cells e x (shifts kind within) = refl
sends_are site routes station cells e x (stands breakdowns kind has up) = refl
sends_are site routes station cells e x (works breakdowns kind has) = refl

-- no job comes by it, and no service ends
abbrev pub NoJob : Send → Type 0
NoJob s = (s.kind ≢ COME) × (s.kind ≢ DONE)

-- what holds of a call holds of each that is sent, and so of the end of a patience and of shifts
pub call_each : (P : Send → Type 0) (most : ℕ) (site : Site) (counts : Counts) → P (to_self site 0 CALL 0 0) → Each P (call_sent most site counts)
unfolding call_sent
call_each P most site counts is = by (nat_lt 0 counts.waiting && nat_lt 0 (spare_of most counts))
  where
    by : (calls : Bool) → Each P (if calls then to_self site 0 CALL 0 0 ∷ [] else [])
    by true = (is, tt)
    by false = tt

pub tire_each : (P : Send → Type 0) (site : Site) (cells : CellData) (level : ℕ) (patience : Option DelayLaw) → ((delay a b : ℕ) → P (to_self site delay TIRE a b))
    → Each P (tire_sent site cells level patience)
tire_each P site cells level None is = tt
tire_each P site cells level (Some law) is = (is _ _ _, tt)

again_each : (P : Send → Type 0) (site : Site) (station : Station) (number : ℕ) (period : Option ℕ) → ((delay a b : ℕ) → P (to_self site delay SHIFT a b))
    → Each P (shift_again site station number period)
again_each P site station number None is = tt
again_each P site station number (Some period) is = (is _ _ _, tt)

pub shift_each : (P : Send → Type 0) (site : Site) (station : Station) (number : ℕ) → ((delay a b : ℕ) → P (to_self site delay SHIFT a b))
    → Each P (shift_sent site station number)
unfolding shift_sent
shift_each P site station number is = by (nat_lt (number + 1) (length station.shifts))
  where
    by : (more : Bool) → Each P
        (if more then to_self site ((shift_at station (number + 1)).at - (shift_at station number).at) SHIFT (number + 1) 0 ∷ [] else shift_again site station number station.period)
    by true = (is _ _ _, tt)
    by false = again_each P site station number station.period is

pub call_no_job : (most : ℕ) (site : Site) (counts : Counts) → Each NoJob (call_sent most site counts)
call_no_job most site counts = call_each NoJob most site counts ((λ e. absurd (omega arith)), (λ e. absurd (omega arith)))

pub others_no_job : (site : Site) (routes : Routes) (station : Station) (cells : CellData) (e : Event) (x : Effect) (does_so : StationDoes site routes station cells e x)
    → Each NoJob (others_sent site routes station cells e x does_so)
others_no_job site routes station cells e x (rests no_come no_done no_call no_turn) = tt
others_no_job site routes station cells e x (goes_on job at) = tt
others_no_job site routes station cells e x (frees job at some) = call_no_job station.most site _
others_no_job site routes station cells e x (takes job visit at visits nobody spare) = tt
others_no_job site routes station cells e x (waits job visit level at visits below busy) =
    tire_each NoJob site cells level visit.patience (λ delay a b. ((λ e. absurd (omega arith)), (λ e. absurd (omega arith))))
others_no_job site routes station cells e x (loses job visit at visits) = tt
others_no_job site routes station cells e x (passes level calls empty) = (((λ e. absurd (omega arith)), (λ e. absurd (omega arith))), tt)
others_no_job site routes station cells e x (begins level job visit calls there) = call_no_job station.most site _
others_no_job site routes station cells e x (ends job at below some on_time) = call_no_job station.most site _
others_no_job site routes station cells e x (puts_off job at served below late) = tt
others_no_job site routes station cells e x (reneges level place job visit kind below within now there) = tt
others_no_job site routes station cells e x (shifts kind within) =
    Each-append NoJob (shift_sent site station e.a) (call_sent station.most site (record (counts_of cells) { opened = (shift_at station e.a).servers }))
    (shift_each NoJob site station e.a (λ delay a b. ((λ e. absurd (omega arith)), (λ e. absurd (omega arith))))) (call_no_job station.most site _)
others_no_job site routes station cells e x (stands breakdowns kind has up) = (((λ e. absurd (omega arith)), (λ e. absurd (omega arith))), tt)
others_no_job site routes station cells e x (works breakdowns kind has) = (((λ e. absurd (omega arith)), (λ e. absurd (omega arith))), call_no_job station.most site _)

pub one_sum : (f : Send → ℕ) (s : Send) → sum_by f (s ∷ []) ≡ f s
one_sum f s = omega (arith, sum_by-cons f s [])

-- so what weighs nothing there weighs what the job does
pub sum_none : (f : Send → ℕ) (sends : List Send) → ((s : Send) → NoJob s → f s ≡ 0) → Each NoJob sends → sum_by f sends ≡ 0
sum_none f [] none all = refl
sum_none f (s ∷ rest) none all = omega (arith, sum_by-cons f s rest, none s all.0, sum_none f rest none all.1)

pub sum_job_sent : (site : Site) (routes : Routes) (station : Station) (cells : CellData) (e : Event) (x : Effect) (does_so : StationDoes site routes station cells e x) (f : Send → ℕ)
    → ((s : Send) → NoJob s → f s ≡ 0) → sum_by f x.sends ≡ sum_by f (job_sent site routes station cells e x does_so)
sum_job_sent site routes station cells e x does_so f none =
    let job : List Send = job_sent site routes station cells e x does_so in
    let others : List Send = others_sent site routes station cells e x does_so in
    omega (
      arith,
      ap (sum_by f) (sends_are site routes station cells e x does_so),
      sum_by-append f job others,
      sum_none f others none (others_no_job site routes station cells e x does_so),
    )

-- who waits here visits this station
entry_station : (routes : Routes) (object a : ℕ) (job : Job) (visit : AVisit) → a < EMPTY → job_of routes a ≡ Some job → step_at routes job.class job.step ≡ Some (Visit visit)
    → is_entry object routes a ≡ true → visit.station ≡ object
unfolding is_entry visit_at
entry_station routes object a job visit small is visits entry =
    let low : min a (2 ^ 64 - 1 - a) ≡ a = omega arith in
    let same : is_some (visit_of object (Some (Visit visit))) ≡ true =
    sym (ap (λ n. is_some (option_and_then (λ (j : Job). visit_of object (step_at routes j.class j.step)) (job_of routes n))) low
    ∙ ap (λ found. is_some (option_and_then (λ (j : Job). visit_of object (step_at routes j.class j.step)) found)) is
    ∙ ap (λ step. is_some (visit_of object step)) visits)
    ∙ entry in
    by (visit.station == object) refl same
  where
    by : (here : Bool) → (visit.station == object) ≡ here → is_some (if here then Some visit else None) ≡ true → visit.station ≡ object
    by true here same = eqb-true _ _ here
    by false here same = absurd (cc)

-- at a station of a shop
pub record AtStationOf (p : ShopParts) (site : Site) (cells : CellData) : Type 0 where
  pub routes : AreRoutes (routes_of p)
  pub exists : site.object < length p.stations
  pub lawful : IsLawful site.object (routes_of p) (station_at p.stations site.object) cells

module _ (p : ShopParts) (site : Site) (cells : CellData) (e : Event) (is : AtStationOf p site cells) where
  abbrev station : Station
  station = station_at p.stations site.object

  abbrev routes : Routes
  routes = routes_of p

  -- a job that waits stands here
  pub waits_named : (level place : ℕ) (job : Job) (visit : AVisit) → level < station.levels → place < length (line_of cells (jobs_line level)) → WaitsAt routes cells level place job visit
      → HasHere routes site.object (entry_at cells level place) job
  unfolding object_at
  waits_named level place job visit below within waits_there =
      let entry : is_entry site.object routes (entry_at cells level place) ≡ true = (is.lawful.levels level below).entries place 0 within in
      let station_is : visit.station ≡ site.object = entry_station routes site.object (entry_at cells level place) job visit waits_there.small waits_there.found waits_there.visits entry in
      record {
        is = waits_there.found;
        names = job_named routes (entry_at cells level place) job is.routes waits_there.found;
        here = ap (λ step. stands_at (routes.stations + job.class) step) waits_there.visits ∙ station_is;
      }

  -- some server serves nobody
  pub some_free : 0 < spare_of station.most (counts_of cells) → 0 < length (line_of cells FREE_SERVERS)
  some_free spare =
      let free = spare_frees station.most (counts_of cells) (record { free = is.lawful.free; held = is.lawful.held }) is.lawful.opened spare in
      omega (arith, free)

  pub next_below : 0 < length (line_of cells FREE_SERVERS) → next_server cells < station.most
  next_below some = ltb-true _ _ (is.lawful.servers (length (line_of cells FREE_SERVERS) - 1) 0 (omega arith))

  -- a job that begins
  begin_fine : (visit : AVisit) (service : ℕ) (job : Job) (a birth : ℕ) → HasHere routes site.object a job → step_at routes job.class job.step ≡ Some (Visit visit)
      → job.step < length (class_at routes job.class).route → birth < 2 ^ 48 → 0 < length (line_of cells FREE_SERVERS)
      → (let s = begin_sent site routes cells visit service job birth in IsFine p s.dest s.kind s.a s.b)
  unfolding begin_sent
  begin_fine visit service job a birth has visits within early some = by (is_none visit.service) refl
    where
      by : (takes : Bool) → is_none visit.service ≡ takes
          → (let s = (if takes then moved routes job birth (job.step + 1) 0 else to_self site service DONE (job_at job.step job.id) (served_by (next_server cells) birth)) in IsFine p s.dest s.kind s.a s.b)
      by true none = moved_fine p job birth (job.step + 1) 0 is.routes (named_of routes a job has.is).0 (omega (arith, within))
      by false some_law = record {
        comes = λ come. absurd (omega arith);
        serves = λ done. record {
          station = is.exists;
          job = job;
          here = subst (λ n. HasHere routes site.object n job) (sym has.names.named) has;
          served = ap (λ step. is_served step) visits ∙ served visit.service some_law;
          server = let below : next_server cells < station.most = next_below some in omega (arith, below, early);
        };
      }
        where
          served : (service : Option DelayLaw) → is_none service ≡ false → is_some service ≡ true
          served None none = absurd (cc)
          served (Some law) some = refl

  visit_of_step : (job : Job) (visit : AVisit) → IsNamed routes job → step_at routes job.class job.step ≡ Some (Visit visit)
      → IsVisit routes.stations (length (class_at routes job.class).route) visit
  visit_of_step job visit named visits = step_fine routes job.class job.step is.routes named.class (Visit visit) visits

  -- the job that is sent is one that stands where it goes
  pub job_sent_fine : (x : Effect) (does_so : StationDoes site routes station cells e x) → (e.kind ≡ DONE → IsService p site.object e.a e.b)
      → Each (λ (s : Send). IsFine p s.dest s.kind s.a s.b) (job_sent site routes station cells e x does_so)
  job_sent_fine x (rests no_come no_done no_call no_turn) service = tt
  job_sent_fine x (goes_on job at) service = (moved_fine p job e.b (job.step + 1) 0 is.routes (named_of routes e.a job at.here.is).0 (omega (arith, at.within)), tt)
  job_sent_fine x (frees job at some) service = (moved_fine p job e.b (job.step + 1) 0 is.routes (named_of routes e.a job at.here.is).0 (omega (arith, at.within)), tt)
  job_sent_fine x (takes job visit at visits nobody spare) service =
      (begin_fine visit (service_drawn site cells visit).0 job e.a (birth_of e.b) at.here visits at.within (omega arith) (some_free spare), tt)
  job_sent_fine x (waits job visit level at visits below busy) service = tt
  job_sent_fine x (loses job visit at visits) service =
      let named = (named_of routes e.a job at.here.is).0 in
      (moved_fine p job e.b visit.full 0 is.routes named (visit_of_step job visit named visits).full, tt)
  job_sent_fine x (passes level calls empty) service = tt
  job_sent_fine x (begins level job visit calls there) service =
      let within : calls_at station cells level < length (line_of cells (jobs_line level)) = called_within station cells level calls.some in
      let has = waits_named level (calls_at station cells level) job visit calls.below within there in
      let births = (is.lawful.levels level calls.below).births in
      let early = ltb-true _ _ ((is.lawful.levels level calls.below).early (calls_at station cells level) 0 (omega (arith, births, within))) in (
        begin_fine visit (service_drawn site cells visit).0 job (entry_at cells level (calls_at station cells level)) (slice_index (line_of cells (births_line level)) (calls_at station cells level))
            has there.visits (step_within routes job.class job.step (Visit visit) there.visits) early (some_free calls.spare),
        tt,
      )
  job_sent_fine x (ends job at below some on_time) service = (moved_fine p job e.b (job.step + 1) 0 is.routes (named_of routes e.a job at.here.is).0 (omega (arith, at.within)), tt)
  job_sent_fine x (puts_off job at served below late) service = (record { comes = λ come. absurd (omega arith); serves = λ done. service at.kind }, tt)
  job_sent_fine x (reneges level place job visit kind below within now there) service =
      let named = (named_of routes (entry_at cells level place) job there.found).0 in
      (moved_fine p job (slice_index (line_of cells (births_line level)) place) visit.away 0 is.routes named (visit_of_step job visit named there.visits).away, tt)
  job_sent_fine x (shifts kind within) service = tt
  job_sent_fine x (stands breakdowns kind has up) service = tt
  job_sent_fine x (works breakdowns kind has) service = tt

  pub sends_fine : (x : Effect) (does_so : StationDoes site routes station cells e x) → (e.kind ≡ DONE → IsService p site.object e.a e.b)
      → Each (λ (s : Send). IsFine p s.dest s.kind s.a s.b) x.sends
  sends_fine x does_so service =
      let Fine : Send → Type 0 = λ s. IsFine p s.dest s.kind s.a s.b in
      subst (λ (sends : List Send). Each Fine sends) (sym (sends_are site routes station cells e x does_so))
      (Each-append Fine (job_sent site routes station cells e x does_so) (others_sent site routes station cells e x does_so) (job_sent_fine x does_so service)
      (Each-map NoJob Fine (others_sent site routes station cells e x does_so) (λ s no. other_fine p s.dest s.kind s.a s.b no.0 no.1) (others_no_job site routes station cells e x does_so)))
