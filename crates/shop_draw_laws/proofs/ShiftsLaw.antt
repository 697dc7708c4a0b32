-- How many servers are busy beside those that are open.
use Rattle.std.proofs.Common.{◌≡◌, ◌≢◌, ℕ, ◌+◌, ◌-◌, ◌<◌, ◌≤◌, List, [], ◌∷◌, length, refl, sym, ap, ◌∙◌, subst, ⊎_elim, arith, length-append}
use Rattle.std.specs.List.{range_with_len}
use Rattle.std.proofs.lemmas.Bool.{cases_eq, cases_lt}
use Rattle.std.proofs.lemmas.List.{length-reverse, get_or-replicate}
use Rattle.std.proofs.lemmas.List.FromFn.{length-range_with_len}
use Rattle.event_key.specs.declared.key.Key.{Key}
use Rattle.delta_exchange.specs.Changes.{CellData, line_of, cells_after_all}
use Rattle.model_core.specs.declared.effect.Effect.{Effect}
use Rattle.model_core.specs.declared.event.Event.{Event}
use Rattle.model_core.specs.declared.note.Note.{Note}
use Rattle.run_laws.specs.Reached.{Reaches}
use Rattle.run_laws.proofs.Induction.{each_reached}
use Rattle.sim_spec.specs.declared.terms.Terms.{Terms}
use Rattle.sim_spec.specs.Run.{does, next}
use Rattle.sim_spec.specs.State.{State, initial_state}
use Rattle.shop_model.specs.declared.routes.Routes.{Routes}
use Rattle.shop_model.specs.declared.site.Site.{Site}
use Rattle.shop_model.specs.declared.station.Shift.{Shift}
use Rattle.shop_model.specs.declared.station.Station.{Station}
use Rattle.shop_model.specs.declared.station.TheConstants.{FREE_SERVERS}
use Rattle.shop_model.specs.Jobs.{server_of}
use Rattle.shop_model.specs.Lawful.{IsLawful}
use Rattle.shop_model.specs.Meaning.{shop_meaning, site_of}
use Rattle.shop_model.specs.ShopParts.{ShopParts, IsShop, routes_of, station_at}
use Rattle.shop_model.specs.Stations.{counts_of, busy_of, spare_of, first_station_cells}
use Rattle.shop_laws.specs.ServerLaws.{busy_at}
use Rattle.shop_laws.specs.Told.{cells_at}
use Rattle.shop_laws.proofs.After.{readings_after, reads_after, one_less}
use Rattle.shop_laws.proofs.Cases.{StationDoes, rests, goes_on, frees, takes, waits, loses, passes, begins, ends, puts_off, reneges, shifts, stands, works}
use Rattle.shop_laws.proofs.FlowLaw.{busy_in, began_as}
use Rattle.shop_laws.proofs.Moves.{some_free}
use Rattle.shop_laws.proofs.Readings.{Readings, Reads, readings_of, went_out}
use Rattle.shop_laws.proofs.Serving.{serving, station_step}
use Rattle.shop_laws.proofs.ServersLaw.{spare_is}
use Rattle.shop_laws.proofs.Steps.{IsShopStep, shop_step, cells_here, cells_elsewhere, station_at_start}
use Rattle.shop_draw_laws.specs.ShiftLaws.{BusyRisesWithin, BusyWithinServers}

module _ (site : Site) (routes : Routes) (station : Station) (cells : CellData) (e : Event) (is : IsLawful site.object routes station cells)
    (free : 0 < spare_of station.most (counts_of cells) → 0 < length (line_of cells FREE_SERVERS)) where
  abbrev before : Readings
  before = readings_of cells

  -- the busy servers rise only where there are no more of them then than are open
  record RisesWithin (after : Readings) : Type 0 where
    pub rises : busy_in station.most before < busy_in station.most after → busy_in station.most after ≤ after.opened

  -- a server begins that is spare
  spare_rises : (after : Readings) → busy_in station.most after ≡ busy_in station.most before + 1 → after.opened ≡ before.opened → 0 < spare_of station.most (counts_of cells) → RisesWithin after
  spare_rises after busy opened spare = record {
    rises = λ more.
        let some = (spare_is station.most (counts_of cells) spare).1 in
        omega (arith, some, busy, opened);
  }

  never : (after : Readings) → busy_in station.most after ≤ busy_in station.most before → RisesWithin after
  never after upto = record { rises = λ more. absurd (omega arith) }

  rises_within : (x : Effect) (does_so : StationDoes site routes station cells e x) → RisesWithin (readings_after site routes station cells e x before does_so)
  rises_within x (rests no_come no_done no_call no_turn) = never _ (omega arith)
  rises_within x (goes_on job at) = never _ (omega arith)
  rises_within x (frees job at some) = never _ (omega arith)
  rises_within x (takes job visit at visits nobody spare) =
      let one = began_as station.most visit (counts_of cells) before refl (free spare) is.free in
      spare_rises _ one.busy one.opened spare
  rises_within x (waits job visit level at visits below busy) = never _ (omega arith)
  rises_within x (loses job visit at visits) = never _ (omega arith)
  rises_within x (passes level calls empty) = never _ (omega arith)
  rises_within x (begins level job visit calls there) =
      let r : Readings = went_out station.order level (record before { waiting = (counts_of cells).waiting - 1 }) in
      let one = began_as station.most visit (one_less cells) r refl (free calls.spare) is.free in
      spare_rises _ one.busy one.opened calls.spare
  rises_within x (ends job at below some on_time) = never _ (omega (arith, length-append (line_of cells FREE_SERVERS) (server_of e.b ∷ [])))
  rises_within x (puts_off job at served below late) = never _ (omega arith)
  rises_within x (reneges level place job visit kind below within now there) = never _ (omega arith)
  rises_within x (shifts kind within) = never _ (omega arith)
  rises_within x (stands breakdowns kind has up) = never _ (omega arith)
  rises_within x (works breakdowns kind has) = never _ (omega arith)

  -- without shifts as many are open as before
  stays_open : station.shifts ≡ [] → (x : Effect) (does_so : StationDoes site routes station cells e x)
      → (readings_after site routes station cells e x before does_so).opened ≡ before.opened
  stays_open none x (rests no_come no_done no_call no_turn) = refl
  stays_open none x (goes_on job at) = refl
  stays_open none x (frees job at some) = refl
  stays_open none x (takes job visit at visits nobody spare) = (began_as station.most visit (counts_of cells) before refl (free spare) is.free).opened
  stays_open none x (waits job visit level at visits below busy) = refl
  stays_open none x (loses job visit at visits) = refl
  stays_open none x (passes level calls empty) = refl
  stays_open none x (begins level job visit calls there) =
      let r : Readings = went_out station.order level (record before { waiting = (counts_of cells).waiting - 1 }) in
      (began_as station.most visit (one_less cells) r refl (free calls.spare) is.free).opened
  stays_open none x (ends job at below some on_time) = refl
  stays_open none x (puts_off job at served below late) = refl
  stays_open none x (reneges level place job visit kind below within now there) = refl
  stays_open none x (shifts kind within) = absurd (let no : length station.shifts ≡ 0 = ap (λ (xs : List Shift). length xs) none in omega arith)
  stays_open none x (stands breakdowns kind has up) = refl
  stays_open none x (works breakdowns kind has) = refl

module _ (p : ShopParts) (t : Terms) (fine : IsShop p) (s : State) (told : Key × Note) (after : State) (reached : Reaches (shop_meaning p) t s)
    (is_next : next (shop_meaning p) t s ≡ does told after) where
  n : IsShopStep p t s told after
  n = shop_step p t s told after fine reached is_next

  abbrev dest : ℕ
  dest = n.step.event.key.dest

  abbrev station : Station
  station = station_at p.stations n.step.event.key.dest

  -- what an event does to the numbers of a station
  record Step (i : ℕ) : Type 0 where
    pub rises : busy_at s i (station_at p.stations i) < busy_at after i (station_at p.stations i) → busy_at after i (station_at p.stations i) ≤ (counts_of (cells_at after i)).opened
    pub opened : (station_at p.stations i).shifts ≡ [] → (counts_of (cells_at after i)).opened ≡ (counts_of (cells_at s i)).opened

  here : n.step.event.key.dest < length p.stations → Step n.step.event.key.dest
  here early =
      let st = station_step p t s told after fine n (serving p t s fine reached) early in
      let site : Site = site_of p dest n.step.event in
      let cells : CellData = cells_at s dest in
      let x : Effect = n.step.effect in
      let free = some_free p site cells n.step.event st.at in
      let r : Readings = readings_after site (routes_of p) station cells n.step.event x (readings_of cells) st.does_so in
      let reads : Reads (cells_after_all x.changes cells) r = reads_after site (routes_of p) station cells n.step.event st.at.lawful x st.does_so in
      let now : cells_at after dest ≡ cells_after_all x.changes cells = cells_here p t s told after n in
      let within = rises_within site (routes_of p) station cells n.step.event st.at.lawful free x st.does_so in
      let busy : busy_at after dest station ≡ busy_in station.most r =
      ap (λ (c : CellData). busy_of station.most (counts_of c)) now
      ∙ ap (λ xs. station.most - length xs + (counts_of (cells_after_all x.changes cells)).held) reads.idle
      ∙ ap (λ k. station.most - length r.idle + k) reads.held in
      let opened : (counts_of (cells_at after dest)).opened ≡ r.opened = ap (λ (c : CellData). (counts_of c).opened) now ∙ reads.opened in
      record {
        rises = λ more.
            let upto : busy_in station.most r ≤ r.opened = within.rises (omega (arith, more, busy)) in
            omega (arith, upto, busy, opened);
        opened = λ none. opened ∙ stays_open site (routes_of p) station cells n.step.event st.at.lawful free none x st.does_so;
      }

  elsewhere : (i : ℕ) → i ≢ n.step.event.key.dest → Step i
  elsewhere i apart =
      let same : cells_at after i ≡ cells_at s i = cells_elsewhere p t s told after n i apart in
      let busy : busy_at after i (station_at p.stations i) ≡ busy_at s i (station_at p.stations i) = ap (λ (c : CellData). busy_of (station_at p.stations i).most (counts_of c)) same in
      record { rises = λ more. absurd (omega (arith, more, busy)); opened = λ none. ap (λ (c : CellData). (counts_of c).opened) same }

  step_of : (i : ℕ) → i < length p.stations → Step i
  step_of i exists = ⊎_elim
      (λ (same : i ≡ n.step.event.key.dest). subst (λ k. Step k) (sym same) (here (omega (arith, exists, same))))
      (λ (apart : i ≢ n.step.event.key.dest). elsewhere i apart)
      (cases_eq i n.step.event.key.dest)

pub busy_rises_within : BusyRisesWithin
busy_rises_within p t s told after i fine reached is_next exists more = (step_of p t fine s told after reached is_next i exists).rises more

-- so many are open as there are, and no more are busy
record Within (station : Station) (cells : CellData) : Type 0 where
  pub opened : (counts_of cells).opened ≡ station.servers
  pub busy : busy_of station.most (counts_of cells) ≤ station.servers

within_first : (station : Station) → Within station (first_station_cells station)
unfolding first_station_cells
within_first station =
    let all : length (line_of (first_station_cells station) FREE_SERVERS) ≡ station.most = length-reverse (range_with_len 0 station.most) ∙ length-range_with_len 0 station.most in
    let none : (counts_of (first_station_cells station)).held ≡ 0 = get_or-replicate (4 + station.levels + station.most) 0 0 0 (omega arith) in
    record { opened = refl; busy = omega (arith, all, none) }

pub busy_within_servers : BusyWithinServers
busy_within_servers p t s i fine reached exists none = (each_reached (shop_meaning p) t Q first keeps s reached).busy
  where
    station : Station
    station = station_at p.stations i

    Q : State → Type 0
    Q s = Within (station_at p.stations i) (cells_at s i)

    first : Within (station_at p.stations i) (cells_at (initial_state (shop_meaning p)) i)
    first = subst (λ (c : CellData). Within (station_at p.stations i) c) (sym (station_at_start p i exists)) (within_first (station_at p.stations i))

    keeps : (s : State) (told : Key × Note) (after : State) → Reaches (shop_meaning p) t s → next (shop_meaning p) t s ≡ does told after
        → Within (station_at p.stations i) (cells_at s i) → Within (station_at p.stations i) (cells_at after i)
    keeps s told after reached is_next before =
        let step = step_of p t fine s told after reached is_next i exists in
        let same : (counts_of (cells_at after i)).opened ≡ (station_at p.stations i).servers = step.opened none ∙ before.opened in
        record {
          opened = same;
          busy = ⊎_elim
              (λ (more : busy_at s i (station_at p.stations i) < busy_at after i (station_at p.stations i)). omega (arith, step.rises more, same))
              (λ (no : busy_at after i (station_at p.stations i) ≤ busy_at s i (station_at p.stations i)). omega (arith, no, before.busy))
              (cases_lt (busy_at s i (station_at p.stations i)) (busy_at after i (station_at p.stations i)));
        }
