-- What the jobs in the shop weigh, an event keeps, but for the job that it makes and the one that it lets go.
use Rattle.std.proofs.Common.{◌≡◌, ◌≢◌, ℕ, ◌+◌, ◌-◌, ◌^◌, ◌<◌, ◌≤◌, Bool, true, false, List, [], ◌∷◌, ◌++◌, length, map, refl, ap, ◌∙◌, ⊎_elim, arith}
use Rattle.std.specs.Prelude.{if◌then◌else◌, ◌==◌, ◌||◌, nat_lt, slice_index, sum_by, Option}
use Rattle.std.proofs.lemmas.Bool.{cases_lt}
use Rattle.std.proofs.lemmas.List.Sums.{sum_by-cons, sum_by-append}
use Rattle.event_key.specs.declared.key.Key.{Key}
use Rattle.event_key.specs.Stamps.{time_part}
use Rattle.delta_exchange.specs.Changes.{CellData, line_of, cells_after_all}
use Rattle.model_core.specs.declared.effect.Effect.{Effect}
use Rattle.model_core.specs.declared.event.Event.{Event}
use Rattle.model_core.specs.declared.event.Send.{Send}
use Rattle.model_core.specs.declared.note.Note.{Note}
use Rattle.model_core.specs.declared.words.TheConstants.{MADE_WORD, LEFT_WORD, DROPPED_WORD}
use Rattle.random_streams.specs.declared.law.Law.TheVariants.{Choice}
use Rattle.random_streams.specs.Laws.{draw}
use Rattle.sim_spec.specs.declared.terms.Terms.{Terms}
use Rattle.sim_spec.specs.State.{State, object_at as state_at}
use Rattle.sim_spec.specs.Run.{does}
use Rattle.sim_spec.proofs.RunLemmas.{first_sound}
use Rattle.run_laws.specs.Sent.{first_of}
use Rattle.run_laws.proofs.Steps.{first_firing}
use Rattle.shop_model.specs.declared.class.Class.{Class}
use Rattle.shop_model.specs.declared.job.Job.{Job}
use Rattle.shop_model.specs.declared.kinds.TheConstants.{DONE}
use Rattle.shop_model.specs.declared.routes.Routes.{Routes}
use Rattle.shop_model.specs.declared.site.Site.{Site}
use Rattle.shop_model.specs.declared.station.Station.{Station}
use Rattle.shop_model.specs.Classes.{made_jobs, next_job, others_sent, next_arrival, one_made, overdue, stay_effect, go_effect, leave_effect}
use Rattle.shop_model.specs.Jobs.{id_of, birth_of}
use Rattle.shop_model.specs.LevelSums.{sums_same, sum_changed}
use Rattle.shop_model.specs.Meaning.{site_of, class_of_object}
use Rattle.shop_model.specs.Routes.{moved}
use Rattle.shop_model.specs.ShopParts.{ShopParts, IsShop, routes_of, station_at}
use Rattle.shop_model.specs.Sites.{place_of, drawn_at}
use Rattle.shop_model.specs.StationEffects.{take_effect, wait_effect, lose_effect, begin_effect, pass_effect, renege_effect, still_effect, works_effect}
use Rattle.shop_laws.specs.Places.{at_event, in_line, in_shop, made_next, gone_next, weight_of}
use Rattle.shop_laws.specs.Told.{word_told, first_told, cells_at}
use Rattle.shop_laws.specs.Waiting.{sum_in_line}
use Rattle.shop_laws.proofs.After.{readings_after, reads_after}
use Rattle.shop_laws.proofs.Cases.{StationDoes, rests, goes_on, frees, takes, waits, loses, passes, begins, ends, puts_off, reneges, shifts, stands, works}
use Rattle.shop_laws.proofs.ClassCases.{ClassDoes, idles, makes_none, makes, holds, branches, leaves, IsEventHome, ComesHome, next_named, arrival_each, others_each}
use Rattle.shop_laws.proofs.Entries.{reads_sum}
use Rattle.shop_laws.proofs.Fine.{named_of, sum_emissions}
use Rattle.shop_laws.proofs.Holding.{job_weight, job_sent_weight, no_job_weight, come_weight, moved_weight, holds_jobs}
use Rattle.shop_laws.proofs.Moves.{NoJob, sum_job_sent, sum_none}
use Rattle.shop_laws.proofs.Readings.{Readings, readings_of}
use Rattle.shop_laws.proofs.Serving.{Serving, IsStationStep, IsClassStep, station_step, class_step}
use Rattle.shop_laws.proofs.Steps.{IsShopStep, cells_here, cells_elsewhere, sum_before, sum_after}

-- the job that a note tells was made, and the one of an event that it tells has gone
abbrev pub made_by : Note → ℕ → List (ℕ × ℕ)
made_by note time = if word_told note == MADE_WORD then (first_told note, time) ∷ [] else []

abbrev pub gone_by : Note → Event → List (ℕ × ℕ)
gone_by note e = if word_told note == LEFT_WORD || word_told note == DROPPED_WORD then (id_of e.a, birth_of e.b) ∷ [] else []

-- a station makes no job and lets none go
pub record NoneMoved (note : Note) (e : Event) (time : ℕ) : Type 0 where
  pub made : made_by note time ≡ []
  pub gone : gone_by note e ≡ []

pub station_words : (site : Site) (routes : Routes) (station : Station) (cells : CellData) (e : Event) (x : Effect) → StationDoes site routes station cells e x → (time : ℕ) → NoneMoved x.note e time
unfolding take_effect wait_effect lose_effect begin_effect pass_effect renege_effect still_effect works_effect
station_words site routes station cells e x (rests no_come no_done no_call no_turn) time = record { made = refl; gone = refl }
station_words site routes station cells e x (goes_on job at) time = record { made = refl; gone = refl }
station_words site routes station cells e x (frees job at some) time = record { made = refl; gone = refl }
station_words site routes station cells e x (takes job visit at visits nobody spare) time = record { made = refl; gone = refl }
station_words site routes station cells e x (waits job visit level at visits below busy) time = record { made = refl; gone = refl }
station_words site routes station cells e x (loses job visit at visits) time = record { made = refl; gone = refl }
station_words site routes station cells e x (passes level calls empty) time = record { made = refl; gone = refl }
station_words site routes station cells e x (begins level job visit calls there) time = record { made = refl; gone = refl }
station_words site routes station cells e x (ends job at below some on_time) time = record { made = refl; gone = refl }
station_words site routes station cells e x (puts_off job at served below late) time = record { made = refl; gone = refl }
station_words site routes station cells e x (reneges level place job visit kind below within now there) time = record { made = refl; gone = refl }
station_words site routes station cells e x (shifts kind within) time = record { made = refl; gone = refl }
station_words site routes station cells e x (stands breakdowns kind has up) time = record { made = refl; gone = refl }
station_words site routes station cells e x (works breakdowns kind has) time = record { made = refl; gone = refl }

module _ (w : ℕ → ℕ → ℕ) (p : ShopParts) (site : Site) (class : Class) (cells : CellData) (e : Event) (is : IsEventHome p site class cells e) where
  abbrev routes : Routes
  routes = routes_of p

  arrivals_none : (made : ℕ) (pause : Option ℕ) → sum_by (job_sent_weight w) (next_arrival site class made pause) ≡ 0
  arrivals_none made pause =
      sum_none (job_sent_weight w) (next_arrival site class made pause) (λ s no. no_job_weight w s.dest s.kind s.a s.b no.0 no.1)
      (arrival_each p site class cells e is NoJob (λ delay a b. ((λ d. absurd (omega arith)), (λ d. absurd (omega arith)))) made pause)

  others_none : (jobs : ℕ) → sum_by (job_sent_weight w) (others_sent site class cells jobs) ≡ 0
  others_none jobs =
      sum_none (job_sent_weight w) (others_sent site class cells jobs) (λ s no. no_job_weight w s.dest s.kind s.a s.b no.0 no.1)
      (others_each p site class cells e is NoJob (λ delay a b. ((λ d. absurd (omega arith)), (λ d. absurd (omega arith)))) jobs)

  home_job : (job : Job) → ComesHome site routes e job → (step delay : ℕ) → sum_by (job_sent_weight w) (moved routes job e.b step delay ∷ []) ≡ job_weight w site.object e.kind e.a e.b
  home_job job at step delay =
      let named = named_of routes e.a job at.here.is in
      omega (
        arith,
        sum_by-cons (job_sent_weight w) (moved routes job e.b step delay) [],
        moved_weight w routes job e.b step delay named.0.small,
        come_weight w site.object e.kind e.a e.b at.kind,
        ap (λ n. w n (birth_of e.b)) named.1,
      )

  -- at a class the event and the job that is made weigh what is sent and the job that goes
  pub holds_home : (x : Effect) → ClassDoes site routes class cells e x → e.kind ≢ DONE → site.tick < 2 ^ 47
      → job_weight w site.object e.kind e.a e.b + sum_by (weight_of w) (made_by x.note site.tick)
      ≡ sum_by (job_sent_weight w) x.sends + sum_by (weight_of w) (gone_by x.note e)
  unfolding one_made stay_effect go_effect leave_effect
  holds_home x (idles no_come) no_done early = omega (arith, no_job_weight w site.object e.kind e.a e.b no_come no_done)
  holds_home x (makes_none arrival next kind arrival_is some) no_done early =
      omega (arith, no_job_weight w site.object e.kind e.a e.b (λ come. absurd (omega arith)) no_done, arrivals_none (made_jobs cells) arrival.pause)
  holds_home x (makes arrival next kind arrival_is some) no_done early =
      let job : Job = next_job site routes cells in
      let first : Send = moved routes job site.tick 0 0 in
      let others : List Send = others_sent site class cells arrival.jobs in
      let same : birth_of site.tick ≡ site.tick = omega arith in
      omega (
        arith,
        no_job_weight w site.object e.kind e.a e.b (λ come. absurd (omega arith)) no_done,
        sum_by-append (job_sent_weight w) (first ∷ others) (next_arrival site class (made_jobs cells + 1) arrival.pause),
        sum_by-cons (job_sent_weight w) first others,
        others_none arrival.jobs,
        arrivals_none (made_jobs cells + 1) arrival.pause,
        moved_weight w routes job site.tick 0 0 (next_named p site class cells e is some).small,
        ap (λ n. w job.id n) same,
        sum_by-cons (weight_of w) (job.id, site.tick) [],
      )
  holds_home x (holds law job at steps) no_done early = omega (arith, home_job job at (job.step + 1) (drawn_at site (place_of cells) law).0)
  holds_home x (branches branch job at steps) no_done early = omega (arith, home_job job at (slice_index branch.steps (draw site.seed site.object (place_of cells) (Choice branch.weights)).0) 0)
  holds_home x (leaves job at steps) no_done early = by (nat_lt (length class.route) job.step)
    where
      age : ℕ
      age = site.tick - birth_of e.b

      gone : sum_by (weight_of w) ((id_of e.a, birth_of e.b) ∷ []) ≡ job_weight w site.object e.kind e.a e.b
      gone = omega (arith, sum_by-cons (weight_of w) (id_of e.a, birth_of e.b) [], come_weight w site.object e.kind e.a e.b at.kind)

      by : (drops : Bool) → (let note : Note = (if drops then record { word = DROPPED_WORD; a = job.id; b = age } ∷ [] else (record { word = LEFT_WORD; a = job.id; b = age } ∷ []) ++ overdue class.due job.id age) in
          job_weight w site.object e.kind e.a e.b + sum_by (weight_of w) (made_by note site.tick) ≡ 0 + sum_by (weight_of w) (gone_by note e))
      by true = omega (arith, gone)
      by false = omega (arith, gone)

module _ (w : ℕ → ℕ → ℕ) (p : ShopParts) (t : Terms) (s : State) (told : Key × Note) (after : State) (fine : IsShop p) (n : IsShopStep p t s told after) (before : Serving p s) where
  abbrev here : CellData
  here = cells_at s n.dest

  abbrev at : Site
  at = site_of p n.dest n.event

  pub made_is : made_next s (does told after) ≡ made_by n.effect.note (time_part n.event.key.stamp)
  made_is = ap (λ (r : Key × Note). made_next s (does r after)) n.tells

  pub gone_is : gone_next s (does told after) ≡ gone_by n.effect.note n.event
  gone_is =
      ap (λ (r : Key × Note). gone_next s (does r after)) n.tells
      ∙ ap (λ (es : List Event). if word_told n.effect.note == LEFT_WORD || word_told n.effect.note == DROPPED_WORD
      then map (λ (e : Event). (id_of e.a, birth_of e.b)) (first_of es) else []) n.pending

  events_sent : sum_by (at_event w) (first_firing s n.event n.effect).events ≡ sum_by (job_sent_weight w) n.effect.sends
  events_sent = sum_emissions (job_weight w) n.event.key.stamp n.dest (state_at s.objects n.dest).sent n.effect.sends

  -- what a station's lines weigh
  abbrev lines_at : State → ℕ → ℕ
  lines_at s i = sum_in_line (in_line w) (λ k. line_of (cells_at s i) k) (station_at p.stations i).levels

  lines_elsewhere : (i : ℕ) → i ≢ n.dest → lines_at after i ≡ lines_at s i
  lines_elsewhere i apart =
      ap (λ (c : CellData). sum_in_line (in_line w) (λ k. line_of c k) (station_at p.stations i).levels) (cells_elsewhere p t s told after n i apart)

  station_balance : n.dest < length p.stations → in_shop p w s + sum_by (weight_of w) (made_next s (does told after)) ≡ in_shop p w after + sum_by (weight_of w) (gone_next s (does told after))
  station_balance early =
      let st : IsStationStep p t s told after n = station_step p t s told after fine n before early in
      let x : Effect = n.effect in
      let r : Readings = readings_after at (routes_of p) (station_at p.stations n.dest) here n.event x (readings_of here) st.does_so in
      let reads = reads_after at (routes_of p) (station_at p.stations n.dest) here n.event st.at.lawful x st.does_so in
      let now : lines_at after n.dest ≡ sum_in_line (in_line w) r.line (station_at p.stations n.dest).levels =
      ap (λ (c : CellData). sum_in_line (in_line w) (λ k. line_of c k) (station_at p.stations n.dest).levels) (cells_here p t s told after n)
      ∙ reads_sum (in_line w) (station_at p.stations n.dest).levels (cells_after_all x.changes here) r reads in
      let words = station_words at (routes_of p) (station_at p.stations n.dest) here n.event x st.does_so (time_part n.event.key.stamp) in
      omega (
        arith,
        sum_changed (λ i. lines_at s i) (λ i. lines_at after i) (length p.stations) n.dest early (λ i apart. lines_elsewhere i apart),
        now,
        sum_before p t s told after n (at_event w),
        sum_after p t s told after n (at_event w),
        events_sent,
        sum_job_sent at (routes_of p) (station_at p.stations n.dest) here n.event x st.does_so (job_sent_weight w) (λ s no. no_job_weight w s.dest s.kind s.a s.b no.0 no.1),
        holds_jobs w p at here n.event st.at x st.does_so,
        ap (λ (jobs : List (ℕ × ℕ)). sum_by (weight_of w) jobs) (made_is ∙ words.made),
        ap (λ (jobs : List (ℕ × ℕ)). sum_by (weight_of w) jobs) (gone_is ∙ words.gone),
      )

  class_balance : length p.stations ≤ n.dest → in_shop p w s + sum_by (weight_of w) (made_next s (does told after)) ≡ in_shop p w after + sum_by (weight_of w) (gone_next s (does told after))
  class_balance past =
      let st : IsClassStep p t s told after n = class_step p t s told after fine n before past in
      let x : Effect = n.effect in
      let early : time_part n.event.key.stamp < 2 ^ 47 = (first_sound _ t s n.event n.rest n.lawful n.pending).time in
      omega (
        arith,
        sums_same (λ i. lines_at s i) (λ i. lines_at after i) 0 (length p.stations) (λ i from to. lines_elsewhere i (λ eq. absurd (omega arith))),
        sum_before p t s told after n (at_event w),
        sum_after p t s told after n (at_event w),
        events_sent,
        holds_home w p at (class_of_object p n.dest) here n.event st.home x st.does_so st.no_service early,
        ap (λ (jobs : List (ℕ × ℕ)). sum_by (weight_of w) jobs) made_is,
        ap (λ (jobs : List (ℕ × ℕ)). sum_by (weight_of w) jobs) gone_is,
      )

  -- the jobs in the shop and the one that is made weigh what those in the shop after it weigh, and the one that goes
  pub balance : in_shop p w s + sum_by (weight_of w) (made_next s (does told after)) ≡ in_shop p w after + sum_by (weight_of w) (gone_next s (does told after))
  balance = ⊎_elim (λ (early : n.dest < length p.stations). station_balance early) (λ (past : length p.stations ≤ n.dest). class_balance past) (cases_lt n.dest (length p.stations))
