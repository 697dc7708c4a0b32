-- Each server serves nobody or one job.
use Rattle.std.proofs.Common.{◌≡◌, ◌≢◌, ℕ, ◌+◌, ◌-◌, ◌^◌, ◌<◌, ◌≤◌, Bool, true, false, cond, List, [], ◌∷◌, length, take, reverse, refl, sym, ap, ◌∙◌, subst, ⊎_elim, arith, eq-eqb, ne_eqb}
use Rattle.std.specs.Prelude.{if◌then◌else◌, ◌==◌, ◌&&◌, is_none, min, slice_index, sum_by}
use Rattle.std.specs.List.{range_with_len, AllByRecursion as Each}
use Rattle.std.proofs.lemmas.Bool.{cases_eq, cases_lt, ltb-true}
use Rattle.std.proofs.lemmas.List.{take_all}
use Rattle.std.proofs.lemmas.List.FromFn.{length-range_with_len}
use Rattle.std.proofs.lemmas.List.Sorted.{IsPermutation-reverse, sum_by-IsPermutation}
use Rattle.std.proofs.lemmas.List.Sums.{sum_by-cons, sum_by_push, sum_by_more}
use Rattle.event_key.specs.declared.key.Key.{Key}
use Rattle.delta_exchange.specs.Changes.{CellData, line_of}
use Rattle.model_core.specs.declared.effect.Effect.{Effect}
use Rattle.model_core.specs.declared.event.Event.{Event}
use Rattle.model_core.specs.declared.event.Send.{Send}
use Rattle.model_core.specs.declared.note.Note.{Note}
use Rattle.sim_spec.specs.declared.terms.Terms.{Terms}
use Rattle.sim_spec.specs.State.{State, initial_state, object_at as state_at}
use Rattle.run_laws.specs.Reached.{Reaches}
use Rattle.run_laws.proofs.Induction.{each_reached}
use Rattle.run_laws.proofs.OrderLaw.{step_keeps}
use Rattle.run_laws.proofs.Steps.{first_firing}
use Rattle.shop_model.specs.declared.counts.Counts.{Counts}
use Rattle.shop_model.specs.declared.job.Job.{Job}
use Rattle.shop_model.specs.declared.done.TheConstants.{LONGEST}
use Rattle.shop_model.specs.declared.kinds.TheConstants.{COME, DONE, CALL, TIRE, SHIFT, BREAK, MEND}
use Rattle.shop_model.specs.declared.routes.Routes.{Routes}
use Rattle.shop_model.specs.declared.site.Site.{Site}
use Rattle.shop_model.specs.declared.station.Station.{Station}
use Rattle.shop_model.specs.declared.station.TheConstants.{FREE_SERVERS}
use Rattle.shop_model.specs.declared.step.Visit.{Visit as AVisit}
use Rattle.shop_model.specs.Beginnings.{next_server, service_drawn, begin_sent}
use Rattle.shop_model.specs.Jobs.{job_at, birth_of, server_of, served_by}
use Rattle.shop_model.specs.Meaning.{site_of, class_of_object, shop_meaning}
use Rattle.shop_model.specs.ModelLaws.{station_fine, has_levels, effect_station, effect_class}
use Rattle.shop_model.specs.Routes.{moved}
use Rattle.shop_model.specs.ShopParts.{ShopParts, IsShop, routes_of, station_at}
use Rattle.shop_model.specs.Sites.{to_self}
use Rattle.shop_model.specs.Stations.{counts_of, births_line, jobs_line, first_station_cells}
use Rattle.shop_laws.specs.ServerLaws.{free_at}
use Rattle.shop_laws.specs.Told.{cells_at}
use Rattle.shop_laws.proofs.After.{readings_after, reads_after, one_less}
use Rattle.shop_laws.proofs.Cases.{StationDoes, rests, goes_on, frees, takes, waits, loses, passes, begins, ends, puts_off, reneges, shifts, stands, works, IsEventAt, station_does, calls_at, called_within, late_by}
use Rattle.shop_laws.proofs.ClassCases.{ClassDoes, IsEventHome, class_does, class_sends_fine, class_no_service}
use Rattle.shop_laws.proofs.Fine.{IsFine, IsService, each_emission, sum_emissions, other_fine}
use Rattle.shop_laws.proofs.Moves.{one_sum, AtStationOf, job_sent, sum_job_sent, some_free, sends_fine}
use Rattle.shop_laws.proofs.Readings.{Readings, readings_of, went_out, began}
use Rattle.shop_laws.proofs.Starts.{pending_start}
use Rattle.shop_laws.proofs.Steps.{IsShopStep, shop_step, station_lawful, cells_here, cells_elsewhere, sum_before, sum_after, station_at_start}

-- what the end of a service at a station weighs, by its server; other events weigh nothing
abbrev pub serve_at : (ℕ → ℕ) → ℕ → ℕ → ℕ → ℕ → ℕ → ℕ
serve_at w i dest kind a b = cond (kind == DONE && dest == i) (w (server_of b)) 0

abbrev pub serve_weight : (ℕ → ℕ) → ℕ → Event → ℕ
serve_weight w i e = serve_at w i e.key.dest e.kind e.a e.b

abbrev pub serve_sent : (ℕ → ℕ) → ℕ → Send → ℕ
serve_sent w i s = serve_at w i s.dest s.kind s.a s.b

pub no_service : (w : ℕ → ℕ) (i dest kind a b : ℕ) → kind ≢ DONE → serve_at w i dest kind a b ≡ 0
no_service w i dest kind a b other = ap (λ d. cond (d && dest == i) (w (server_of b)) 0) (ne_eqb kind DONE other)

pub service_elsewhere : (w : ℕ → ℕ) (i dest kind a b : ℕ) → dest ≢ i → serve_at w i dest kind a b ≡ 0
service_elsewhere w i dest kind a b apart = by (kind == DONE) (dest == i) (ne_eqb dest i apart)
  where
    by : (done here : Bool) → here ≡ false → ◌≡◌ {A = ℕ} (cond (done && here) (w (server_of b)) 0) 0
    by true true is = absurd (cc)
    by true false is = refl
    by false here is = refl

pub service_there : (w : ℕ → ℕ) (i dest kind a b : ℕ) → kind ≡ DONE → dest ≡ i → serve_at w i dest kind a b ≡ w (server_of b)
service_there w i dest kind a b done here =
    ap (λ d. cond (d && dest == i) (w (server_of b)) 0) (eq-eqb kind DONE done) ∙ ap (λ h. cond h (w (server_of b)) 0) (eq-eqb dest i here)

moved_none : (w : ℕ → ℕ) (i : ℕ) (routes : Routes) (job : Job) (b step delay : ℕ) → sum_by (serve_sent w i) (moved routes job b step delay ∷ []) ≡ 0
unfolding moved
moved_none w i routes job b step delay = refl

module _ (w : ℕ → ℕ) (site : Site) (routes : Routes) (station : Station) (cells : CellData) (e : Event) where
  -- a job that begins at the last server that serves nobody, or holds one of them
  begin_serves : (visit : AVisit) (service birth : ℕ) (job : Job) (counts : Counts) (r : Readings) → r.idle ≡ line_of cells FREE_SERVERS → 0 < length (line_of cells FREE_SERVERS) → birth < 2 ^ 48
      → sum_by w (line_of cells FREE_SERVERS)
      ≡ sum_by w (began visit counts r).idle + sum_by (serve_sent w site.object) (begin_sent site routes cells visit service job birth ∷ [])
  unfolding begin_sent
  begin_serves visit service birth job counts r idle some early = by (is_none visit.service)
    where
      free : List ℕ
      free = line_of cells FREE_SERVERS

      n : ℕ
      n = length free - 1

      end : Send
      end = to_self site service DONE (job_at job.step job.id) (served_by (next_server cells) birth)

      by : (takes : Bool) → sum_by w free
          ≡ sum_by w (if takes then record r { held = counts.held + 1 } else record r { idle = take (length r.idle - 1) r.idle }).idle
          + sum_by (serve_sent w site.object) ((if takes then moved routes job birth (job.step + 1) 0 else end) ∷ [])
      by true = omega (arith, ap (sum_by w) idle, moved_none w site.object routes job birth (job.step + 1) 0)
      by false =
          let all : take (n + 1) free ≡ free = take_all (n + 1) free (omega arith) in
          let last : sum_by w (take (n + 1) free) ≡ sum_by w (take n free) + w (slice_index free n) = sum_by_more w free n 0 (omega arith) in
          let server : server_of (served_by (next_server cells) birth) ≡ next_server cells = omega arith in
          let sent : serve_sent w site.object end ≡ w (next_server cells) =
          service_there w site.object site.object DONE (job_at job.step job.id) (served_by (next_server cells) birth) refl refl ∙ ap w server in
          let idle_is : sum_by w (take (length r.idle - 1) r.idle) ≡ sum_by w (take n free) = ap (λ xs. sum_by w (take (length xs - 1) xs)) idle in
          omega (arith, ap (sum_by w) all, last, one_sum (serve_sent w site.object) end, sent, idle_is)

  -- to other stations no end of a service is sent
  begin_elsewhere : (visit : AVisit) (service birth : ℕ) (job : Job) (i : ℕ) → site.object ≢ i → sum_by (serve_sent w i) (begin_sent site routes cells visit service job birth ∷ []) ≡ 0
  unfolding begin_sent
  begin_elsewhere visit service birth job i apart = by (is_none visit.service)
    where
      end : Send
      end = to_self site service DONE (job_at job.step job.id) (served_by (next_server cells) birth)

      by : (takes : Bool) → sum_by (serve_sent w i) ((if takes then moved routes job birth (job.step + 1) 0 else end) ∷ []) ≡ 0
      by true = moved_none w i routes job birth (job.step + 1) 0
      by false = one_sum (serve_sent w i) end ∙ service_elsewhere w i site.object DONE end.a end.b apart

  pub serves_elsewhere : (x : Effect) (does_so : StationDoes site routes station cells e x) (i : ℕ) → site.object ≢ i
      → sum_by (serve_sent w i) (job_sent site routes station cells e x does_so) ≡ 0
  serves_elsewhere x (rests no_come no_done no_call no_turn) i apart = refl
  serves_elsewhere x (goes_on job at) i apart = moved_none w i routes job e.b (job.step + 1) 0
  serves_elsewhere x (frees job at some) i apart = moved_none w i routes job e.b (job.step + 1) 0
  serves_elsewhere x (takes job visit at visits nobody spare) i apart = begin_elsewhere visit (service_drawn site cells visit).0 (birth_of e.b) job i apart
  serves_elsewhere x (waits job visit level at visits below busy) i apart = refl
  serves_elsewhere x (loses job visit at visits) i apart = moved_none w i routes job e.b visit.full 0
  serves_elsewhere x (passes level calls empty) i apart = refl
  serves_elsewhere x (begins level job visit calls there) i apart =
      begin_elsewhere visit (service_drawn site cells visit).0 (slice_index (line_of cells (births_line level)) (calls_at station cells level)) job i apart
  serves_elsewhere x (ends job at below some on_time) i apart = moved_none w i routes job e.b (job.step + 1) 0
  serves_elsewhere x (puts_off job at served below late) i apart =
      one_sum (serve_sent w i) (to_self site (min (late_by station cells e) LONGEST) DONE e.a e.b) ∙ service_elsewhere w i site.object DONE e.a e.b apart
  serves_elsewhere x (reneges level place job visit kind below within now there) i apart =
      moved_none w i routes job (slice_index (line_of cells (births_line level)) place) visit.away 0
  serves_elsewhere x (shifts kind within) i apart = refl
  serves_elsewhere x (stands breakdowns kind has up) i apart = refl
  serves_elsewhere x (works breakdowns kind has) i apart = refl

module _ (w : ℕ → ℕ) (p : ShopParts) (site : Site) (cells : CellData) (e : Event) (is : AtStationOf p site cells) where
  abbrev station : Station
  station = station_at p.stations site.object

  abbrev routes : Routes
  routes = routes_of p

  not_done : (k : ℕ) → e.kind ≡ k → k ≢ DONE → serve_at w site.object site.object e.kind e.a e.b ≡ 0
  not_done k kind other = no_service w site.object site.object e.kind e.a e.b (λ done. other (sym kind ∙ done))

  -- who serves nobody, and the service that ends, are who serves nobody after it and the service that begins or goes on
  pub serves : (x : Effect) (does_so : StationDoes site routes station cells e x)
      → sum_by w (line_of cells FREE_SERVERS) + serve_at w site.object site.object e.kind e.a e.b
      ≡ sum_by w (readings_after site routes station cells e x (readings_of cells) does_so).idle
      + sum_by (serve_sent w site.object) (job_sent site routes station cells e x does_so)
  serves x (rests no_come no_done no_call no_turn) = omega (arith, no_service w site.object site.object e.kind e.a e.b no_done)
  serves x (goes_on job at) = omega (arith, not_done COME at.kind (λ d. absurd (omega arith)), moved_none w site.object routes job e.b (job.step + 1) 0)
  serves x (frees job at some) = omega (arith, not_done COME at.kind (λ d. absurd (omega arith)), moved_none w site.object routes job e.b (job.step + 1) 0)
  serves x (takes job visit at visits nobody spare) =
      omega (
        arith,
        not_done COME at.kind (λ d. absurd (omega arith)),
        begin_serves w site routes station cells e visit (service_drawn site cells visit).0 (birth_of e.b) job (counts_of cells) (readings_of cells) refl (some_free p site cells e is spare) (omega arith),
      )
  serves x (waits job visit level at visits below busy) = omega (arith, not_done COME at.kind (λ d. absurd (omega arith)))
  serves x (loses job visit at visits) = omega (arith, not_done COME at.kind (λ d. absurd (omega arith)), moved_none w site.object routes job e.b visit.full 0)
  serves x (passes level calls empty) = omega (arith, not_done CALL calls.kind (λ d. absurd (omega arith)))
  serves x (begins level job visit calls there) =
      let place = calls_at station cells level in
      let within : place < length (line_of cells (jobs_line level)) = called_within station cells level calls.some in
      let births = (is.lawful.levels level calls.below).births in
      let early : slice_index (line_of cells (births_line level)) place < 2 ^ 48 = ltb-true _ _ ((is.lawful.levels level calls.below).early place 0 (omega (arith, births, within))) in
      let before : Readings = went_out station.order level (record (readings_of cells) { waiting = (counts_of cells).waiting - 1 }) in
      omega (
        arith,
        not_done CALL calls.kind (λ d. absurd (omega arith)),
        begin_serves w site routes station cells e visit (service_drawn site cells visit).0 (slice_index (line_of cells (births_line level)) place) job (one_less cells) before refl
            (some_free p site cells e is calls.spare) early,
      )
  serves x (ends job at below some on_time) =
      omega (
        arith,
        service_there w site.object site.object e.kind e.a e.b at.kind refl,
        sum_by_push w (line_of cells FREE_SERVERS) (server_of e.b),
        moved_none w site.object routes job e.b (job.step + 1) 0,
      )
  serves x (puts_off job at served below late) =
      let again : Send = to_self site (min (late_by station cells e) LONGEST) DONE e.a e.b in
      omega (
        arith,
        service_there w site.object site.object e.kind e.a e.b at.kind refl,
        one_sum (serve_sent w site.object) again,
        service_there w site.object site.object DONE e.a e.b refl refl,
      )
  serves x (reneges level place job visit kind below within now there) =
      omega (arith, not_done TIRE kind (λ d. absurd (omega arith)), moved_none w site.object routes job (slice_index (line_of cells (births_line level)) place) visit.away 0)
  serves x (shifts kind within) = omega (arith, not_done SHIFT kind (λ d. absurd (omega arith)))
  serves x (stands breakdowns kind has up) = omega (arith, not_done BREAK kind (λ d. absurd (omega arith)))
  serves x (works breakdowns kind has) = omega (arith, not_done MEND kind (λ d. absurd (omega arith)))

-- of a state: each event of a job is fine, and each server serves nobody or one job, whatever servers weigh
pub record Serving (p : ShopParts) (s : State) : Type 0 where
  pub fine : Each (λ (e : Event). IsFine p e.key.dest e.kind e.a e.b) s.pending
  pub servers : (i : ℕ) → i < length p.stations → (w : ℕ → ℕ)
      → sum_by w (free_at s i) + sum_by (serve_weight w i) s.pending ≡ sum_by w (range_with_len 0 (station_at p.stations i).most)

pub sum_ones : (xs : List ℕ) → sum_by (λ (x : ℕ). 1) xs ≡ length xs
sum_ones [] = refl
sum_ones (x ∷ xs) = omega (arith, sum_by-cons (λ (x : ℕ). 1) x xs, sum_ones xs)

-- what an event at a station does
pub record IsStationStep (p : ShopParts) (t : Terms) (s : State) (told : Key × Note) (after : State) (n : IsShopStep p t s told after) : Type 0 where
  pub exists : n.step.event.key.dest < length p.stations
  pub at : AtStationOf p (site_of p n.step.event.key.dest n.step.event) (cells_at s n.step.event.key.dest)
  pub service : n.step.event.kind ≡ DONE → IsService p n.step.event.key.dest n.step.event.a n.step.event.b
  pub does_so : StationDoes (site_of p n.step.event.key.dest n.step.event) (routes_of p) (station_at p.stations n.step.event.key.dest) (cells_at s n.step.event.key.dest)
      n.step.event n.step.effect

-- and one at a class
pub record IsClassStep (p : ShopParts) (t : Terms) (s : State) (told : Key × Note) (after : State) (n : IsShopStep p t s told after) : Type 0 where
  pub home : IsEventHome p (site_of p n.step.event.key.dest n.step.event) (class_of_object p n.step.event.key.dest) (cells_at s n.step.event.key.dest) n.step.event
  pub no_service : n.step.event.kind ≢ DONE
  pub does_so : ClassDoes (site_of p n.step.event.key.dest n.step.event) (routes_of p) (class_of_object p n.step.event.key.dest) (cells_at s n.step.event.key.dest)
      n.step.event n.step.effect

module _ (p : ShopParts) (t : Terms) (s : State) (told : Key × Note) (after : State) (fine : IsShop p) (n : IsShopStep p t s told after) (before : Serving p s) where
  abbrev here : CellData
  here = cells_at s n.dest

  abbrev at : Site
  at = site_of p n.dest n.event

  event_fine : IsFine p n.dest n.event.kind n.event.a n.event.b
  event_fine =
      let F : List Event → Type 0 = λ es. Each (λ (e : Event). IsFine p e.key.dest e.kind e.a e.b) es in
      let all : F (n.event ∷ n.rest) = subst F n.pending before.fine in
      all.0

  rest_fine : Each (λ (e : Event). IsFine p e.key.dest e.kind e.a e.b) n.rest
  rest_fine =
      let F : List Event → Type 0 = λ es. Each (λ (e : Event). IsFine p e.key.dest e.kind e.a e.b) es in
      let all : F (n.event ∷ n.rest) = subst F n.pending before.fine in
      all.1

  -- where a service ends, its server isn't free
  busy_there : n.dest < length p.stations → n.event.kind ≡ DONE → length (line_of here FREE_SERVERS) < (station_at p.stations n.dest).most
  busy_there early done =
      let w : ℕ → ℕ = λ (x : ℕ). 1 in
      let most : ℕ = (station_at p.stations n.dest).most in
      omega (
        arith,
        before.servers n.dest early w,
        sum_before p t s told after n (serve_weight w n.dest),
        service_there w n.dest n.dest n.event.kind n.event.a n.event.b done refl,
        sum_ones (free_at s n.dest),
        sum_ones (range_with_len 0 most),
        length-range_with_len 0 most,
      )

  pub station_step : n.dest < length p.stations → IsStationStep p t s told after n
  station_step early =
      let shop = station_fine p n.dest fine early in
      let is : IsEventAt at (routes_of p) (station_at p.stations n.dest) here n.event = record {
        routes_fine = fine.routes;
        levels = has_levels p (station_at p.stations n.dest) shop;
        some_levels = shop.numbers.some_levels;
        exists = early;
        lawful = station_lawful p t s n.dest n.lawful early;
        comes = event_fine.comes;
        serves = λ done. let service = event_fine.serves done in (service.job, service.here, service.served);
        server = λ done. (event_fine.serves done).server;
        busy = busy_there early;
      } in
      let Does : Effect → Type 0 = StationDoes at (routes_of p) (station_at p.stations n.dest) here n.event in
      record {
        exists = early;
        at = record { routes = fine.routes; exists = early; lawful = station_lawful p t s n.dest n.lawful early };
        service = event_fine.serves;
        does_so = subst Does (sym (n.does_so ∙ effect_station p n.dest here n.event early)) (station_does at (routes_of p) (station_at p.stations n.dest) here n.event is);
      }

  pub class_step : length p.stations ≤ n.dest → IsClassStep p t s told after n
  class_step past =
      let is : IsEventHome p at (class_of_object p n.dest) here n.event = record { routes = fine.routes; past = past; exists = n.exists; is = refl; comes = event_fine.comes } in
      let Does : Effect → Type 0 = ClassDoes at (routes_of p) (class_of_object p n.dest) here n.event in
      record {
        home = is;
        no_service = λ done. absurd (let service = event_fine.serves done in let early : n.dest < length p.stations = service.station in omega arith);
        does_so = subst Does (sym (n.does_so ∙ effect_class p n.dest here n.event past)) (class_does p at (class_of_object p n.dest) here n.event is);
      }

  all_fine : Each (λ (e : Event). IsFine p e.key.dest e.kind e.a e.b) (first_firing s n.event n.effect).events
  all_fine =
      each_emission (IsFine p) n.event.key.stamp n.dest (state_at s.objects n.dest).sent n.effect.sends
      (⊎_elim
      (λ (early : n.dest < length p.stations). let st = station_step early in sends_fine p at here n.event st.at n.effect st.does_so st.service)
      (λ (past : length p.stations ≤ n.dest). let st = class_step past in class_sends_fine p at (class_of_object p n.dest) here n.event st.home n.effect st.does_so)
      (cases_lt n.dest (length p.stations)))

  -- a sum over the ends of services that are sent
  pub services_sent : (w : ℕ → ℕ) (i : ℕ) → sum_by (serve_weight w i) (first_firing s n.event n.effect).events ≡ sum_by (serve_sent w i) n.effect.sends
  services_sent w i = sum_emissions (serve_at w i) n.event.key.stamp n.dest (state_at s.objects n.dest).sent n.effect.sends

  class_none : (w : ℕ → ℕ) (i : ℕ) (sends : List Send) → Each (λ (s : Send). s.kind ≢ DONE) sends → sum_by (serve_sent w i) sends ≡ 0
  class_none w i [] none = refl
  class_none w i (s ∷ rest) none = omega (arith, sum_by-cons (serve_sent w i) s rest, no_service w i s.dest s.kind s.a s.b none.0, class_none w i rest none.1)

  -- what a station's services weigh after the n.event
  sent_elsewhere : (w : ℕ → ℕ) (i : ℕ) → n.dest ≢ i → sum_by (serve_sent w i) n.effect.sends ≡ 0
  sent_elsewhere w i apart = ⊎_elim
      (λ (early : n.dest < length p.stations).
      let st = station_step early in
      sum_job_sent at (routes_of p) (station_at p.stations n.dest) here n.event n.effect st.does_so (serve_sent w i) (λ s no. no_service w i s.dest s.kind s.a s.b no.1)
      ∙ serves_elsewhere w at (routes_of p) (station_at p.stations n.dest) here n.event n.effect st.does_so i apart)
      (λ (past : length p.stations ≤ n.dest).
      let st = class_step past in
      class_none w i n.effect.sends (class_no_service p at (class_of_object p n.dest) here n.event st.home n.effect st.does_so))
      (cases_lt n.dest (length p.stations))

  servers_elsewhere : (i : ℕ) → i < length p.stations → i ≢ n.dest → (w : ℕ → ℕ)
      → sum_by w (free_at after i) + sum_by (serve_weight w i) after.pending ≡ sum_by w (range_with_len 0 (station_at p.stations i).most)
  servers_elsewhere i exists apart w =
      let same : sum_by w (free_at after i) ≡ sum_by w (free_at s i) = ap (λ (c : CellData). sum_by w (line_of c FREE_SERVERS)) (cells_elsewhere p t s told after n i apart) in
      omega (
        arith,
        before.servers i exists w,
        same,
        sum_before p t s told after n (serve_weight w i),
        sum_after p t s told after n (serve_weight w i),
        services_sent w i,
        sent_elsewhere w i (λ eq. apart (sym eq)),
        service_elsewhere w i n.dest n.event.kind n.event.a n.event.b (λ eq. apart (sym eq)),
      )

  servers_here : n.dest < length p.stations → (w : ℕ → ℕ)
      → sum_by w (free_at after n.dest) + sum_by (serve_weight w n.dest) after.pending ≡ sum_by w (range_with_len 0 (station_at p.stations n.dest).most)
  servers_here early w =
      let st = station_step early in
      let x : Effect = n.effect in
      let r : Readings = readings_after at (routes_of p) (station_at p.stations n.dest) here n.event x (readings_of here) st.does_so in
      let reads = reads_after at (routes_of p) (station_at p.stations n.dest) here n.event st.at.lawful x st.does_so in
      let now : sum_by w (free_at after n.dest) ≡ sum_by w r.idle =
      ap (λ (c : CellData). sum_by w (line_of c FREE_SERVERS)) (cells_here p t s told after n) ∙ ap (sum_by w) reads.idle in
      omega (
        arith,
        before.servers n.dest early w,
        now,
        sum_before p t s told after n (serve_weight w n.dest),
        sum_after p t s told after n (serve_weight w n.dest),
        services_sent w n.dest,
        sum_job_sent at (routes_of p) (station_at p.stations n.dest) here n.event x st.does_so (serve_sent w n.dest) (λ s no. no_service w n.dest s.dest s.kind s.a s.b no.1),
        serves w p at here n.event st.at x st.does_so,
      )

  pub serving_kept : Serving p after
  serving_kept = record {
    fine = step_keeps (shop_meaning p) t s told after (λ (e : Event). IsFine p e.key.dest e.kind e.a e.b) n.step all_fine rest_fine;
    servers = λ i exists w. ⊎_elim
        (λ (same : i ≡ n.dest).
        subst (λ k. sum_by w (free_at after k) + sum_by (serve_weight w k) after.pending ≡ sum_by w (range_with_len 0 (station_at p.stations k).most)) (sym same)
        (servers_here (let there : i < length p.stations = exists in omega (arith, same)) w))
        (λ (apart : i ≢ n.dest). servers_elsewhere i exists apart w)
        (cases_eq i n.dest);
  }

pub sum_zero : (f : Event → ℕ) (es : List Event) → Each (λ e. f e ≡ 0) es → sum_by f es ≡ 0
sum_zero f [] none = refl
sum_zero f (e ∷ rest) none = omega (arith, sum_by-cons f e rest, none.0, sum_zero f rest none.1)

pub serving_first : (p : ShopParts) → Serving p (initial_state (shop_meaning p))
unfolding first_station_cells
serving_first p = record {
  fine = pending_start p (λ (e : Event). IsFine p e.key.dest e.kind e.a e.b) (λ e no_come no_done. other_fine p e.key.dest e.kind e.a e.b no_come no_done);
  servers = λ i exists w.
      let most : ℕ = (station_at p.stations i).most in
      let none : sum_by (serve_weight w i) (initial_state (shop_meaning p)).pending ≡ 0 =
      sum_zero (serve_weight w i) (initial_state (shop_meaning p)).pending
      (pending_start p (λ (e : Event). serve_weight w i e ≡ 0) (λ e no_come no_done. no_service w i e.key.dest e.kind e.a e.b no_done)) in
      let free : sum_by w (free_at (initial_state (shop_meaning p)) i) ≡ sum_by w (reverse (range_with_len 0 most)) =
      ap (λ (c : CellData). sum_by w (line_of c FREE_SERVERS)) (station_at_start p i exists) in
      omega (arith, none, free, sum_by-IsPermutation w (range_with_len 0 most) (reverse (range_with_len 0 most)) (IsPermutation-reverse (range_with_len 0 most)));
}

-- in every reached state
pub serving : (p : ShopParts) (t : Terms) (s : State) → IsShop p → Reaches (shop_meaning p) t s → Serving p s
serving p t s fine reached =
    each_reached (shop_meaning p) t (Serving p) (serving_first p)
    (λ s told after here is_next before. serving_kept p t s told after fine (shop_step p t s told after fine here is_next) before) s reached
