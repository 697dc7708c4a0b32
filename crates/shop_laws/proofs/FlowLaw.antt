-- What comes to a station is accounted for, and what is told of it keeps count.
use Rattle.std.proofs.Common.{◌≡◌, ◌≢◌, ℕ, suc, ◌+◌, ◌-◌, ◌%◌, ◌^◌, ◌<◌, ◌≤◌, Bool, true, false, cond, List, [], ◌∷◌, ◌++◌, length, take, replicate, reverse, refl, sym, ap, ◌∙◌, subst, ⊎_elim, arith, append-nil, length-append, get_or}
use Rattle.std.specs.Prelude.{if◌then◌else◌, ◌==◌, is_none, nat_lt, slice_index}
use Rattle.std.specs.List.{range_with_len}
use Rattle.std.proofs.lemmas.Bool.{cases_eq, lt-ltb}
use Rattle.std.proofs.lemmas.List.{length-take-le, length-reverse, get_or-replicate}
use Rattle.std.proofs.lemmas.List.FromFn.{get_or-range_with_len, length-range_with_len}
use Rattle.std.proofs.lemmas.List.Sums.{sum_by-append, get_or-le-sum_by}
use Rattle.event_key.specs.declared.key.Key.{Key}
use Rattle.event_key.specs.Stamps.{time_part}
use Rattle.delta_exchange.specs.Changes.{CellData, line_of, cells_after_all}
use Rattle.model_core.specs.declared.effect.Effect.{Effect}
use Rattle.model_core.specs.declared.event.Event.{Event}
use Rattle.model_core.specs.declared.note.Note.{Note}
use Rattle.model_core.specs.declared.note.Part.{Part}
use Rattle.model_core.specs.declared.words.TheConstants.{DOWN_WORD}
use Rattle.model_core.specs.Meaning.{Meaning}
use Rattle.sim_spec.specs.declared.terms.Terms.{Terms}
use Rattle.sim_spec.specs.State.{State}
use Rattle.sim_spec.specs.Run.{stops, does}
use Rattle.run_laws.specs.Reached.{after_events, gathered, record_of}
use Rattle.run_laws.proofs.Induction.{after_events-does, after_events-stops, gathered-more, each_number}
use Rattle.shop_model.specs.declared.counts.Counts.{Counts}
use Rattle.shop_model.specs.declared.levels.TheConstants.{EMPTY}
use Rattle.shop_model.specs.declared.routes.Routes.{Routes}
use Rattle.shop_model.specs.declared.site.Site.{Site}
use Rattle.shop_model.specs.declared.station.Station.{Station}
use Rattle.shop_model.specs.declared.station.TheConstants.{FREE_SERVERS, LAG}
use Rattle.shop_model.specs.declared.step.Visit.{Visit as AVisit}
use Rattle.shop_model.specs.Jobs.{server_of}
use Rattle.shop_model.specs.Lawful.{IsLawful, waiting_in}
use Rattle.shop_model.specs.Meaning.{shop_meaning, site_of}
use Rattle.shop_model.specs.ShopParts.{ShopParts, IsShop, routes_of, station_at}
use Rattle.shop_model.specs.StationEffects.{take_effect, wait_effect, lose_effect, begin_effect, pass_effect, renege_effect, still_effect, works_effect}
use Rattle.shop_model.specs.Stations.{counts_of, busy_of, waiting_at, jobs_line, first_station_cells}
use Rattle.shop_totals.specs.Flows.{is_coming, is_beginning, is_end, is_loss, is_reneging, count_told, flow_of}
use Rattle.shop_totals.specs.Kept.{number_after}
use Rattle.shop_totals.specs.Records.{timed_parts, parts_at, told_at}
use Rattle.shop_totals.specs.Sums.{after_busy, after_waiting, after_open, after_down}
use Rattle.shop_totals.specs.Told.{TimedPart}
use Rattle.shop_totals.proofs.RecordLemmas.{told_at-here, told_at-elsewhere}
use Rattle.shop_laws.specs.FlowLaws.{IsAccountedFor, FlowLaw, standstills}
use Rattle.shop_laws.specs.Told.{cells_at}
use Rattle.shop_laws.proofs.After.{readings_after, reads_after, one_less}
use Rattle.shop_laws.proofs.Cases.{StationDoes, rests, goes_on, frees, takes, waits, loses, passes, begins, ends, puts_off, reneges, shifts, stands, works, entry_at}
use Rattle.shop_laws.proofs.Moves.{AtStationOf, some_free}
use Rattle.shop_laws.proofs.Readings.{Readings, Reads, readings_of, went_out, began, began_keeps, began_lag, began_waiting, began_down}
use Rattle.shop_laws.proofs.Serving.{Serving, serving, station_step}
use Rattle.shop_laws.proofs.Steps.{IsShopStep, shop_step, cells_here, cells_elsewhere, station_at_start}

-- how many servers are busy, of so many, as the cells are read
abbrev pub busy_in : ℕ → Readings → ℕ
busy_in most r = most - length r.idle + r.held

-- a server that begins a job is busy then, and nothing else is read otherwise
pub record BeganAs (most : ℕ) (visit : AVisit) (counts : Counts) (r : Readings) : Type 0 where
  pub busy : busy_in most (began visit counts r) ≡ busy_in most r + 1
  pub waiting : (began visit counts r).waiting ≡ r.waiting
  pub opened : (began visit counts r).opened ≡ r.opened
  pub down : (began visit counts r).down ≡ r.down

pub began_as : (most : ℕ) (visit : AVisit) (counts : Counts) (r : Readings) → counts.held ≡ r.held → 0 < length r.idle → length r.idle ≤ most → BeganAs most visit counts r
began_as most visit counts r held some few = record {
  busy = by (is_none visit.service);
  waiting = began_waiting visit counts r;
  opened = began_keeps (λ r. r.opened) visit counts r (λ held. refl) (λ idle. refl);
  down = began_down visit counts r;
}
  where
    by : (takes : Bool) → busy_in most (if takes then record r { held = counts.held + 1 } else record r { idle = take (length r.idle - 1) r.idle }) ≡ busy_in most r + 1
    by true = omega arith
    by false = omega (arith, length-take-le (length r.idle - 1) r.idle (omega arith))

-- a job waits where one stands in the line
some_waits : (object : ℕ) (routes : Routes) (station : Station) (cells : CellData) (level place : ℕ) → IsLawful object routes station cells → level < station.levels
    → place < length (line_of cells (jobs_line level)) → entry_at cells level place < EMPTY → 0 < (counts_of cells).waiting
unfolding waiting_at
some_waits object routes station cells level place is below within small =
    let weight : ℕ → ℕ = λ a. cond (nat_lt a EMPTY) 1 0 in
    let jobs : List ℕ = line_of cells (jobs_line level) in
    let one : weight (get_or jobs place 0) ≡ 1 = ap (λ b. cond b 1 0) (lt-ltb (entry_at cells level place) EMPTY small) in
    let here : 1 ≤ waiting_at cells level = omega (arith, one, get_or-le-sum_by weight jobs place 0 within) in
    let at : get_or (range_with_len 0 station.levels) level 0 ≡ level = omega (arith, get_or-range_with_len 0 station.levels level 0 below) in
    let all : waiting_at cells (get_or (range_with_len 0 station.levels) level 0) ≤ waiting_in cells station.levels =
    get_or-le-sum_by (λ l. waiting_at cells l) (range_with_len 0 station.levels) level 0 (omega (arith, length-range_with_len 0 station.levels)) in
    omega (arith, is.waiting, here, all, ap (λ l. waiting_at cells l) at)

-- what an event at a station tells, beside what is read before and after it
pub record Tells (most time : ℕ) (note : Note) (before after : Readings) : Type 0 where
  pub came : count_told is_coming (parts_at time note) + before.waiting
      ≡ count_told is_beginning (parts_at time note) + count_told is_loss (parts_at time note) + count_told is_reneging (parts_at time note) + after.waiting
  pub begun : count_told is_beginning (parts_at time note) + busy_in most before ≡ count_told is_end (parts_at time note) + busy_in most after
  pub busy : number_after after_busy (busy_in most before) (parts_at time note) ≡ busy_in most after
  pub waiting : number_after after_waiting before.waiting (parts_at time note) ≡ after.waiting
  pub opened : number_after after_open before.opened (parts_at time note) ≡ after.opened
  pub down : number_after after_down before.down (parts_at time note) ≡ after.down

module _ (p : ShopParts) (site : Site) (cells : CellData) (e : Event) (is : AtStationOf p site cells) (time : ℕ) where
  abbrev station : Station
  station = station_at p.stations site.object

  abbrev routes : Routes
  routes = routes_of p

  abbrev r : Readings
  r = readings_of cells

  few : length (line_of cells FREE_SERVERS) ≤ station.most
  few = is.lawful.free

  pub tells : (x : Effect) (does_so : StationDoes site routes station cells e x) → Tells station.most time x.note (readings_of cells) (readings_after site routes station cells e x (readings_of cells) does_so)
  unfolding number_after take_effect wait_effect lose_effect begin_effect pass_effect renege_effect still_effect works_effect
  tells x (rests no_come no_done no_call no_turn) = record { came = omega arith; begun = omega arith; busy = refl; waiting = refl; opened = refl; down = refl }
  tells x (goes_on job at) = record { came = omega arith; begun = omega arith; busy = refl; waiting = refl; opened = refl; down = refl }
  tells x (frees job at some) = record { came = omega arith; begun = omega (arith, some); busy = omega (arith, some); waiting = refl; opened = refl; down = refl }
  tells x (takes job visit at visits nobody spare) =
      let so = began_as station.most visit (counts_of cells) r refl (some_free p site cells e is spare) few in
      record { came = omega (arith, so.waiting); begun = omega (arith, so.busy); busy = sym so.busy; waiting = sym so.waiting; opened = sym so.opened; down = sym so.down }
  tells x (waits job visit level at visits below busy) = record { came = omega arith; begun = omega arith; busy = refl; waiting = refl; opened = refl; down = refl }
  tells x (loses job visit at visits) = record { came = omega arith; begun = omega arith; busy = refl; waiting = refl; opened = refl; down = refl }
  tells x (passes level calls empty) = record { came = omega arith; begun = omega arith; busy = refl; waiting = refl; opened = refl; down = refl }
  tells x (begins level job visit calls there) =
      let before : Readings = went_out station.order level (record r { waiting = (counts_of cells).waiting - 1 }) in
      let so = began_as station.most visit (one_less cells) before refl (some_free p site cells e is calls.spare) few in
      record {
        came = omega (arith, so.waiting, calls.waits);
        begun = omega (arith, so.busy);
        busy = sym so.busy;
        waiting = sym so.waiting;
        opened = sym so.opened;
        down = sym so.down;
      }
  tells x (ends job at below some on_time) =
      let more = length-append (line_of cells FREE_SERVERS) (server_of e.b ∷ []) in
      record { came = omega arith; begun = omega (arith, some, more); busy = omega (arith, some, more); waiting = refl; opened = refl; down = refl }
  tells x (puts_off job at served below late) = record { came = omega arith; begun = omega arith; busy = refl; waiting = refl; opened = refl; down = refl }
  tells x (reneges level place job visit kind below within now there) =
      let some = some_waits site.object routes station cells level place is.lawful below within there.small in
      record { came = omega (arith, some); begun = omega arith; busy = refl; waiting = refl; opened = refl; down = refl }
  tells x (shifts kind within) = record { came = omega arith; begun = omega arith; busy = refl; waiting = refl; opened = refl; down = refl }
  tells x (stands breakdowns kind has up) = record { came = omega arith; begun = omega arith; busy = refl; waiting = refl; opened = refl; down = refl }
  tells x (works breakdowns kind has) = record { came = omega arith; begun = omega arith; busy = refl; waiting = refl; opened = refl; down = refl }

-- the lag grows by the standstills that are told
lags : (site : Site) (routes : Routes) (station : Station) (cells : CellData) (e : Event) (x : Effect) (does_so : StationDoes site routes station cells e x) (time n : ℕ)
    → slice_index cells.words LAG ≡ n % 2 ^ 64 → (readings_after site routes station cells e x (readings_of cells) does_so).lag ≡ (n + standstills (parts_at time x.note)) % 2 ^ 64
unfolding take_effect wait_effect lose_effect begin_effect pass_effect renege_effect still_effect works_effect
lags site routes station cells e x (rests no_come no_done no_call no_turn) time n is = omega (arith, is)
lags site routes station cells e x (goes_on job at) time n is = omega (arith, is)
lags site routes station cells e x (frees job at some) time n is = omega (arith, is)
lags site routes station cells e x (takes job visit at visits nobody spare) time n is = omega (arith, is, began_lag visit (counts_of cells) (readings_of cells))
lags site routes station cells e x (waits job visit level at visits below busy) time n is = omega (arith, is)
lags site routes station cells e x (loses job visit at visits) time n is = omega (arith, is)
lags site routes station cells e x (passes level calls empty) time n is = omega (arith, is)
lags site routes station cells e x (begins level job visit calls there) time n is =
    omega (arith, is, began_lag visit (one_less cells) (went_out station.order level (record (readings_of cells) { waiting = (counts_of cells).waiting - 1 })))
lags site routes station cells e x (ends job at below some on_time) time n is = omega (arith, is)
lags site routes station cells e x (puts_off job at served below late) time n is = omega (arith, is)
lags site routes station cells e x (reneges level place job visit kind below within now there) time n is = omega (arith, is)
lags site routes station cells e x (shifts kind within) time n is = omega (arith, is)
lags site routes station cells e x (stands breakdowns kind has up) time n is = omega (arith, is)
lags site routes station cells e x (works breakdowns kind has) time n is = omega (arith, is)

pub number_append : (after : ℕ → Part → ℕ) (now : ℕ) (xs ys : List TimedPart) → number_after after now (xs ++ ys) ≡ number_after after (number_after after now xs) ys
unfolding number_after
number_append after now [] ys = refl
number_append after now (x ∷ xs) ys = number_append after (after now x.part) xs ys

pub told_count : (c : ℕ → Bool) (xs ys : List TimedPart) → count_told c (xs ++ ys) ≡ count_told c xs + count_told c ys
told_count c xs ys = sum_by-append (λ (one : TimedPart). cond (c one.part.word) 1 0) xs ys

-- so what is accounted for stays so
accounts_on : (station : Station) (told : List TimedPart) (time : ℕ) (note : Note) (before after : CellData) (r : Readings) → IsAccountedFor station told before
    → Tells station.most time note (readings_of before) r → r.lag ≡ (standstills told + standstills (parts_at time note)) % 2 ^ 64 → Reads after r → IsAccountedFor station (told ++ parts_at time note) after
unfolding flow_of
accounts_on station told time note before after r is more lag reads =
    let parts : List TimedPart = parts_at time note in
    let busy : busy_of station.most (counts_of after) ≡ busy_in station.most r =
    ap (λ xs. station.most - length xs + (counts_of after).held) reads.idle ∙ ap (λ n. station.most - length r.idle + n) reads.held in
    record {
      came = omega (
        arith,
        is.came,
        more.came,
        reads.waiting,
        told_count is_coming told parts,
        told_count is_beginning told parts,
        told_count is_loss told parts,
        told_count is_reneging told parts,
      );
      begun = omega (arith, is.begun, more.begun, busy, told_count is_beginning told parts, told_count is_end told parts);
      busy = number_append after_busy 0 told parts ∙ ap (λ n. number_after after_busy n parts) is.busy ∙ more.busy ∙ sym busy;
      waiting = number_append after_waiting 0 told parts ∙ ap (λ n. number_after after_waiting n parts) is.waiting ∙ more.waiting ∙ sym reads.waiting;
      opened = number_append after_open station.servers told parts ∙ ap (λ n. number_after after_open n parts) is.opened ∙ more.opened ∙ sym reads.opened;
      down = number_append after_down 0 told parts ∙ ap (λ n. number_after after_down n parts) is.down ∙ more.down ∙ sym reads.down;
      lag = reads.lag ∙ lag ∙ ap (λ n. n % 2 ^ 64) (sym (sum_by-append (λ (one : TimedPart). if one.part.word == DOWN_WORD then one.part.a else 0) told parts));
    }

-- before anything is told nobody waits and all servers are free
accounts_first : (station : Station) → IsAccountedFor station [] (first_station_cells station)
unfolding flow_of number_after first_station_cells
accounts_first station =
    let free : length (reverse (range_with_len 0 station.most)) ≡ station.most = length-reverse (range_with_len 0 station.most) ∙ length-range_with_len 0 station.most in
    let zeros : (k : ℕ) → k < 4 → slice_index (replicate (4 + station.levels + station.most) 0) k ≡ 0 =
    λ k small. get_or-replicate (4 + station.levels + station.most) k 0 0 (omega arith) in
    record {
      came = omega (arith, zeros 1 (omega arith));
      begun = omega (arith, free, zeros 0 (omega arith));
      busy = omega (arith, free, zeros 0 (omega arith));
      waiting = omega (arith, zeros 1 (omega arith));
      opened = refl;
      down = omega (arith, zeros 2 (omega arith));
      lag = omega (arith, zeros 3 (omega arith));
    }

on : (p : ShopParts) (t : Terms) (s : State) (told : Key × Note) (after : State) → IsShop p → IsShopStep p t s told after → Serving p s → (i : ℕ) → i < length p.stations
    → (records : List (Key × Note)) → IsAccountedFor (station_at p.stations i) (told_at i records) (cells_at s i)
    → IsAccountedFor (station_at p.stations i) (told_at i (records ++ told ∷ [])) (cells_at after i)
on p t s told after fine n all i exists records before = ⊎_elim here elsewhere (cases_eq i n.step.event.key.dest)
  where
    dest : ℕ
    dest = n.step.event.key.dest

    told_dest : told.0.dest ≡ dest
    told_dest = ap (λ (r : Key × Note). r.0.dest) n.step.tells

    elsewhere : i ≢ dest → IsAccountedFor (station_at p.stations i) (told_at i (records ++ told ∷ [])) (cells_at after i)
    elsewhere apart =
        let same : told_at i (records ++ told ∷ []) ≡ told_at i records = told_at-elsewhere i records told (λ eq. apart (sym eq ∙ told_dest)) in
        subst (λ (parts : List TimedPart). IsAccountedFor (station_at p.stations i) parts (cells_at after i)) (sym same)
        (subst (λ (c : CellData). IsAccountedFor (station_at p.stations i) (told_at i records) c) (sym (cells_elsewhere p t s told after n i apart)) before)

    here : i ≡ dest → IsAccountedFor (station_at p.stations i) (told_at i (records ++ told ∷ [])) (cells_at after i)
    here is =
        let early : dest < length p.stations = omega arith in
        let st = station_step p t s told after fine n all early in
        let e : Event = n.step.event in
        let x : Effect = n.step.effect in
        let site : Site = site_of p dest e in
        let cells : CellData = cells_at s dest in
        let time : ℕ = time_part e.key.stamp in
        let later : CellData = cells_after_all x.changes cells in
        let r : Readings = readings_after site (routes_of p) (station_at p.stations dest) cells e x (readings_of cells) st.does_so in
        let had : IsAccountedFor (station_at p.stations dest) (told_at dest records) cells =
        subst (λ k. IsAccountedFor (station_at p.stations k) (told_at k records) (cells_at s k)) is before in
        let now : IsAccountedFor (station_at p.stations dest) (told_at dest records ++ parts_at time x.note) later =
        accounts_on (station_at p.stations dest) (told_at dest records) time x.note cells later r had (tells p site cells e st.at time x st.does_so)
        (lags site (routes_of p) (station_at p.stations dest) cells e x st.does_so time (standstills (told_at dest records)) had.lag)
        (reads_after site (routes_of p) (station_at p.stations dest) cells e st.at.lawful x st.does_so) in
        let parts : timed_parts told ≡ parts_at time x.note = ap (λ (r : Key × Note). timed_parts r) n.step.tells in
        let same : told_at dest (records ++ told ∷ []) ≡ told_at dest records ++ parts_at time x.note =
        told_at-here dest records told told_dest ∙ ap (λ (more : List TimedPart). told_at dest records ++ more) parts in
        subst (λ k. IsAccountedFor (station_at p.stations k) (told_at k (records ++ told ∷ [])) (cells_at after k)) (sym is)
        (subst (λ (parts : List TimedPart). IsAccountedFor (station_at p.stations dest) parts (cells_at after dest)) (sym same)
        (subst (λ (c : CellData). IsAccountedFor (station_at p.stations dest) (told_at dest records ++ parts_at time x.note) c) (sym (cells_here p t s told after n)) now))

pub flow_law : FlowLaw
unfolding after_events gathered told_at
flow_law p t n i fine exists =
    let m : Meaning = shop_meaning p in
    let station : Station = station_at p.stations i in
    each_number m t (λ n. IsAccountedFor station (told_at i (gathered record_of n m t)) (cells_at (after_events n m t) i))
    (subst (λ (c : CellData). IsAccountedFor station (told_at i []) c) (sym (station_at_start p i exists)) (accounts_first station))
    (λ n stop is_next before.
    let records : gathered record_of (suc n) m t ≡ gathered record_of n m t = gathered-more record_of m t n (stops stop) is_next ∙ append-nil (gathered record_of n m t) in
    subst (λ (s : State). IsAccountedFor station (told_at i (gathered record_of (suc n) m t)) (cells_at s i)) (sym (after_events-stops m t n stop is_next))
    (subst (λ (rs : List (Key × Note)). IsAccountedFor station (told_at i rs) (cells_at (after_events n m t) i)) (sym records) before))
    (λ n told after is_next before.
    let s : State = after_events n m t in
    let records : gathered record_of (suc n) m t ≡ gathered record_of n m t ++ told ∷ [] = gathered-more record_of m t n (does told after) is_next in
    subst (λ (s : State). IsAccountedFor station (told_at i (gathered record_of (suc n) m t)) (cells_at s i)) (sym (after_events-does m t n told after is_next))
    (subst (λ (rs : List (Key × Note)). IsAccountedFor station (told_at i rs) (cells_at after i)) (sym records)
    (on p t s told after fine (shop_step p t s told after fine (n, refl) is_next) (serving p t s fine (n, refl)) i exists (gathered record_of n m t) before)))
    n
