-- For how many ticks jobs wait and servers are busy, exactly.
use Rattle.std.proofs.Common.{◌≡◌, ◌≢◌, ℕ, suc, ◌+◌, ◌-◌, ◌*◌, ◌<◌, ◌≤◌, cond, List, [], ◌∷◌, ◌++◌, length, refl, sym, ap, ◌∙◌, subst, ⊎_elim, arith, append-nil, mul-le-mul_right}
use Rattle.std.specs.Prelude.{if◌then◌else◌}
use Rattle.std.proofs.lemmas.Bool.{cases_eq, le-ltb}
use Rattle.std.proofs.lemmas.List.Elements.{recursion_from_All}
use Rattle.std.proofs.lemmas.List.Sums.{sum_by-append}
use Rattle.event_key.specs.declared.key.Key.{Key}
use Rattle.event_key.specs.Stamps.{time_part}
use Rattle.delta_exchange.specs.Changes.{CellData, line_of, cells_after_all}
use Rattle.key_order.proofs.EachLemmas.{Each-append, Each-front, Each-back}
use Rattle.model_core.specs.declared.effect.Effect.{Effect}
use Rattle.model_core.specs.declared.event.Event.{Event}
use Rattle.model_core.specs.declared.note.Note.{Note}
use Rattle.model_core.specs.declared.note.Part.{Part}
use Rattle.model_core.specs.Meaning.{Meaning}
use Rattle.sim_spec.specs.declared.terms.Terms.{Terms}
use Rattle.sim_spec.specs.State.{State}
use Rattle.sim_spec.specs.Run.{stops, does, next}
use Rattle.run_laws.specs.Reached.{after_events, gathered, record_of, first_records, Reaches}
use Rattle.run_laws.proofs.Induction.{after_events-does, after_events-stops, gathered-more, each_number}
use Rattle.shop_model.specs.declared.routes.Routes.{Routes}
use Rattle.shop_model.specs.declared.site.Site.{Site}
use Rattle.shop_model.specs.declared.station.Station.{Station}
use Rattle.shop_model.specs.LevelSums.{sums_same}
use Rattle.shop_model.specs.Meaning.{shop_meaning, site_of}
use Rattle.shop_model.specs.ShopParts.{ShopParts, IsShop, routes_of, station_at}
use Rattle.shop_model.specs.StationEffects.{take_effect, wait_effect, lose_effect, begin_effect, pass_effect, renege_effect, still_effect, works_effect}
use Rattle.shop_model.specs.Stations.{counts_of, busy_of, waiting_at, jobs_line, births_line, since_line, first_station_cells}
use Rattle.shop_totals.specs.Flows.{is_beginning, is_end, count_told}
use Rattle.shop_totals.specs.Kept.{number_after, ticks_of}
use Rattle.shop_totals.specs.Records.{timed_parts, parts_at, told_at}
use Rattle.shop_totals.specs.Sums.{after_busy, after_waiting, ticks_waited}
use Rattle.shop_totals.specs.Told.{TimedPart, AreBy, told_by}
use Rattle.shop_totals.proofs.RecordLemmas.{told_at-here, told_at-elsewhere}
use Rattle.shop_laws.specs.FlowLaws.{IsAccountedFor, told_of}
use Rattle.shop_laws.specs.TimeLaws.{waits_told, WaitsAddUp, WorkAddsUp, LittleLaw, UtilisationLaw}
use Rattle.shop_laws.specs.Told.{cells_at}
use Rattle.shop_laws.specs.Waiting.{sum_waiting, sum_in_line}
use Rattle.shop_laws.proofs.After.{readings_after, reads_after}
use Rattle.shop_laws.proofs.Cases.{sums_none, StationDoes, rests, goes_on, frees, takes, waits, loses, passes, begins, ends, puts_off, reneges, shifts, stands, works}
use Rattle.shop_laws.proofs.Clocks.{ticks_pass, ticks_same, times_told, told_by_then, later_than, waited_by, as_one, level_pass, level_count, levels_pass}
use Rattle.shop_laws.proofs.Entries.{reads_sum}
use Rattle.shop_laws.proofs.FlowLaw.{Tells, busy_in, tells, flow_law}
use Rattle.shop_laws.proofs.JobsLaw.{nobody_waits}
use Rattle.shop_laws.proofs.Lines.{entered, went_away, line_moves}
use Rattle.shop_laws.proofs.Moves.{AtStationOf}
use Rattle.shop_laws.proofs.Readings.{Readings, Reads, readings_of}
use Rattle.shop_laws.proofs.Serving.{serving, station_step}
use Rattle.shop_laws.proofs.Steps.{AllBy, earlier, IsShopStep, shop_step, reached_lawful, station_lawful, cells_here, cells_elsewhere, station_at_start}

-- a sum over the line of a station
abbrev in_line : (ℕ → ℕ → ℕ → ℕ) → Station → CellData → ℕ
in_line w station cells = sum_in_line w (λ k. line_of cells k) station.levels

-- at a clock: nobody waits since later, and waits and work add up
record AddsUp (station : Station) (told : List TimedPart) (cells : CellData) (clock : ℕ) : Type 0 where
  pub on_time : in_line (later_than clock) station cells ≡ 0
  pub waits : WaitsAddUp station told cells clock
  pub work : WorkAddsUp station told cells clock

-- what a lawful station counts: its waiting jobs are those in its lines, and no more servers are busy than there are
record Counts (station : Station) (cells : CellData) : Type 0 where
  pub waiting : (counts_of cells).waiting ≡ in_line as_one station cells
  pub busy : busy_of station.most (counts_of cells) ≤ station.most

counts_lawful : (p : ShopParts) (t : Terms) (s : State) (i : ℕ) → IsShop p → Reaches (shop_meaning p) t s → i < length p.stations → Counts (station_at p.stations i) (cells_at s i)
unfolding waiting_at
counts_lawful p t s i fine reached exists =
    let lawful = station_lawful p t s i (reached_lawful p t s fine reached) exists in
    let cells : CellData = cells_at s i in
    record {
      waiting = lawful.waiting
          ∙ sym (sums_same (λ k. waiting_at cells k) (λ k. sum_waiting as_one (line_of cells (jobs_line k)) (line_of cells (births_line k)) (line_of cells (since_line k))) 0 (station_at p.stations i).levels
          (λ k from to. level_count (line_of cells (jobs_line k)) (line_of cells (births_line k)) (line_of cells (since_line k)) (lawful.levels k (omega arith)).births (lawful.levels k (omega arith)).since));
      busy = omega (arith, lawful.held, lawful.free);
    }

-- the clock goes on
clock_passes : (station : Station) (told : List TimedPart) (cells : CellData) (earlier later : ℕ) → AreBy earlier told → earlier ≤ later → IsAccountedFor station told cells → Counts station cells
    → AddsUp station told cells earlier → AddsUp station told cells later
clock_passes station told cells earlier later are le flow counts before =
    let d : ℕ = later - earlier in
    let levels = levels_pass
    (λ k. sum_waiting (waited_by later) (line_of cells (jobs_line k)) (line_of cells (births_line k)) (line_of cells (since_line k)))
    (λ k. sum_waiting (waited_by earlier) (line_of cells (jobs_line k)) (line_of cells (births_line k)) (line_of cells (since_line k)))
    (λ k. sum_waiting as_one (line_of cells (jobs_line k)) (line_of cells (births_line k)) (line_of cells (since_line k)))
    (λ k. sum_waiting (later_than earlier) (line_of cells (jobs_line k)) (line_of cells (births_line k)) (line_of cells (since_line k)))
    (λ k. sum_waiting (later_than later) (line_of cells (jobs_line k)) (line_of cells (births_line k)) (line_of cells (since_line k)))
    d 0 station.levels (λ k none. level_pass earlier later (line_of cells (jobs_line k)) (line_of cells (births_line k)) (line_of cells (since_line k)) le none) before.on_time in
    let waiting : number_after after_waiting 0 told * d ≡ in_line as_one station cells * d = ap (λ n. n * d) (flow.waiting ∙ counts.waiting) in
    let b : ℕ = busy_of station.most (counts_of cells) in
    let busy : number_after after_busy 0 told * d ≡ b * d = ap (λ n. n * d) flow.busy in
    let split : b * later ≡ b * earlier + b * d = ap (λ n. b * n) (let parts : later ≡ earlier + d = omega arith in parts) ∙ omega arith in
    let whole : station.most * later ≡ station.most * earlier + station.most * d = ap (λ n. station.most * n) (let parts : later ≡ earlier + d = omega arith in parts) ∙ omega arith in
    let few : b * d ≤ station.most * d = mul-le-mul_right d counts.busy in
    record {
      on_time = levels.1;
      waits = omega (arith, ticks_pass after_waiting 0 told earlier later are le, before.waits, levels.0, waiting);
      work = record {
        ticks = omega (arith, ticks_pass after_busy 0 told earlier later are le, before.work.ticks, busy, split);
        most = omega (arith, ticks_pass after_busy 0 told earlier later are le, before.work.most, busy, few, whole);
      };
    }

-- what `call` and `renege` tell is for how long the job that goes out of the line waited
module _ (p : ShopParts) (site : Site) (cells : CellData) (e : Event) (is : AtStationOf p site cells) where
  abbrev station : Station
  station = station_at p.stations site.object

  abbrev routes : Routes
  routes = routes_of p

  waits_are_told : (x : Effect) (does_so : StationDoes site routes station cells e x)
      → waits_told (parts_at site.tick x.note) ≡ went_away (waited_by site.tick) p site cells e is x does_so
  unfolding take_effect wait_effect lose_effect begin_effect pass_effect renege_effect still_effect works_effect
  waits_are_told x (rests no_come no_done no_call no_turn) = refl
  waits_are_told x (goes_on job at) = refl
  waits_are_told x (frees job at some) = refl
  waits_are_told x (takes job visit at visits nobody spare) = refl
  waits_are_told x (waits job visit level at visits below busy) = refl
  waits_are_told x (loses job visit at visits) = refl
  waits_are_told x (passes level calls empty) = refl
  waits_are_told x (begins level job visit calls there) = omega arith
  waits_are_told x (ends job at below some on_time) = refl
  waits_are_told x (puts_off job at served below late) = refl
  waits_are_told x (reneges level place job visit kind below within now there) = omega arith
  waits_are_told x (shifts kind within) = refl
  waits_are_told x (stands breakdowns kind has up) = refl
  waits_are_told x (works breakdowns kind has) = refl

  -- nobody comes since later than now, nor has waited already
  enters_now : (x : Effect) (does_so : StationDoes site routes station cells e x)
      → (entered (waited_by site.tick) p site cells e is x does_so ≡ 0) × (entered (later_than site.tick) p site cells e is x does_so ≡ 0)
  enters_now x (rests no_come no_done no_call no_turn) = (refl, refl)
  enters_now x (goes_on job at) = (refl, refl)
  enters_now x (frees job at some) = (refl, refl)
  enters_now x (takes job visit at visits nobody spare) = (refl, refl)
  enters_now x (waits job visit level at visits below busy) = (omega arith, ap (λ b. cond b 1 0) (le-ltb site.tick site.tick (omega arith)))
  enters_now x (loses job visit at visits) = (refl, refl)
  enters_now x (passes level calls empty) = (refl, refl)
  enters_now x (begins level job visit calls there) = (refl, refl)
  enters_now x (ends job at below some on_time) = (refl, refl)
  enters_now x (puts_off job at served below late) = (refl, refl)
  enters_now x (reneges level place job visit kind below within now there) = (refl, refl)
  enters_now x (shifts kind within) = (refl, refl)
  enters_now x (stands breakdowns kind has up) = (refl, refl)
  enters_now x (works breakdowns kind has) = (refl, refl)

  -- at its tick an event keeps what adds up
  adds_on : (x : Effect) (does_so : StationDoes site routes station cells e x) (told : List TimedPart) (later : CellData)
      → Reads later (readings_after site routes station cells e x (readings_of cells) does_so) → AddsUp station told cells site.tick
      → AddsUp station (told ++ parts_at site.tick x.note) later site.tick
  adds_on x does_so told later reads before =
      let now : ℕ = site.tick in
      let parts : List TimedPart = parts_at now x.note in
      let r : Readings = readings_after site routes station cells e x (readings_of cells) does_so in
      let more : Tells station.most now x.note (readings_of cells) r = tells p site cells e is now x does_so in
      let entering = enters_now x does_so in
      let late = line_moves (later_than now) p site cells e is x does_so in
      let waited = line_moves (waited_by now) p site cells e is x does_so in
      let busy : busy_of station.most (counts_of later) ≡ busy_in station.most r =
      ap (λ xs. station.most - length xs + (counts_of later).held) reads.idle ∙ ap (λ n. station.most - length r.idle + n) reads.held in
      let work : (count_told is_beginning parts + busy_in station.most (readings_of cells)) * now ≡ (count_told is_end parts + busy_in station.most r) * now = ap (λ n. n * now) more.begun in
      let busy_now : busy_of station.most (counts_of later) * now ≡ busy_in station.most r * now = ap (λ n. n * now) busy in
      record {
        on_time = omega (arith, before.on_time, late, entering.1, reads_sum (later_than now) station.levels later r reads);
        waits = omega (
          arith,
          ticks_same after_waiting 0 told now x.note,
          before.waits,
          sum_by-append (λ (one : TimedPart). ticks_waited one.part) told parts,
          waits_are_told x does_so,
          waited,
          entering.0,
          reads_sum (waited_by now) station.levels later r reads,
        );
        work = record {
          ticks = omega (
            arith,
            ticks_same after_busy 0 told now x.note,
            before.work.ticks,
            sum_by-append (λ (one : TimedPart). if is_beginning one.part.word then one.time else 0) told parts,
            sum_by-append (λ (one : TimedPart). if is_end one.part.word then one.time else 0) told parts,
            times_told is_beginning now x.note,
            times_told is_end now x.note,
            work,
            busy_now,
          );
          most = omega (arith, ticks_same after_busy 0 told now x.note, before.work.most);
        };
      }

-- at the start
pub ticks_none : (after : ℕ → Part → ℕ) (clock : ℕ) → ticks_of after 0 0 [] clock ≡ 0
unfolding ticks_of number_after
ticks_none after clock = sums_none (λ tick. number_after after 0 (told_by tick [])) 0 (clock - 0) (λ k from to. refl)

adds_first : (station : Station) (clock : ℕ) → IsAccountedFor station [] (first_station_cells station) → AddsUp station [] (first_station_cells station) clock
unfolding number_after
adds_first station clock flow =
    let busy : busy_of station.most (counts_of (first_station_cells station)) * clock ≡ 0 * clock = ap (λ n. n * clock) (sym flow.busy) in
    record {
      on_time = nobody_waits (later_than clock) station station.levels;
      waits = omega (arith, ticks_none after_waiting clock, nobody_waits (waited_by clock) station station.levels);
      work = record {
        ticks = omega (arith, ticks_none after_busy clock, busy);
        most = omega (arith, ticks_none after_busy clock);
      };
    }

module _ (p : ShopParts) (t : Terms) (fine : IsShop p) (i : ℕ) (exists : i < length p.stations) where
  abbrev m : Meaning
  m = shop_meaning p

  abbrev here : Station
  here = station_at p.stations i

  -- after n events, by any clock that isn't before the last one
  abbrev Stands : ℕ → Type 0
  Stands n = (clock : ℕ) → AllBy clock (first_records n m t) → AddsUp here (told_of p t n i) (cells_at (after_events n m t) i) clock

  module _ (n : ℕ) (told : Key × Note) (after : State) (is_next : next m t (after_events n m t) ≡ does told after) (before : Stands n) where
    abbrev s : State
    s = after_events n m t

    step : IsShopStep p t s told after
    step = shop_step p t s told after fine (n, refl) is_next

    records_are : first_records (suc n) m t ≡ first_records n m t ++ told ∷ []
    records_are = gathered-more record_of m t n (does told after) is_next

    told_dest : told.0.dest ≡ step.dest
    told_dest = ap (λ (r : Key × Note). r.0.dest) step.tells

    -- what is told, and the cells, after the step.event
    as_after : (clock : ℕ) → AddsUp here (told_at i (first_records n m t ++ told ∷ [])) (cells_at after i) clock
        → AddsUp here (told_of p t (suc n) i) (cells_at (after_events (suc n) m t) i) clock
    as_after clock adds =
        subst (λ (s : State). AddsUp here (told_of p t (suc n) i) (cells_at s i) clock) (sym (after_events-does m t n told after is_next))
        (subst (λ (rs : List (Key × Note)). AddsUp here (told_at i rs) (cells_at after i) clock) (sym records_are) adds)

    elsewhere : i ≢ step.dest → (clock : ℕ) → AllBy clock (first_records n m t) → AddsUp here (told_of p t (suc n) i) (cells_at (after_events (suc n) m t) i) clock
    elsewhere apart clock by_then =
        let same : told_at i (first_records n m t ++ told ∷ []) ≡ told_at i (first_records n m t) = told_at-elsewhere i (first_records n m t) told (λ eq. apart (sym eq ∙ told_dest)) in
        as_after clock
        (subst (λ (parts : List TimedPart). AddsUp here parts (cells_at after i) clock) (sym same)
        (subst (λ (c : CellData). AddsUp here (told_at i (first_records n m t)) c clock) (sym (cells_elsewhere p t s told after step i apart)) (before clock by_then)))

    -- at its own tick
    at_tick : i ≡ step.dest → AddsUp here (told_of p t (suc n) i) (cells_at (after_events (suc n) m t) i) (time_part step.event.key.stamp)
    at_tick is =
        let now : ℕ = time_part step.event.key.stamp in
        let early : step.dest < length p.stations = omega (arith, exists) in
        let st = station_step p t s told after fine step (serving p t s fine (n, refl)) early in
        let x : Effect = step.effect in
        let site : Site = site_of p step.dest step.event in
        let cells : CellData = cells_at s step.dest in
        let there : Station = station_at p.stations step.dest in
        let later : CellData = cells_after_all x.changes cells in
        let had : AddsUp there (told_at step.dest (first_records n m t)) cells now =
        subst (λ k. AddsUp (station_at p.stations k) (told_at k (first_records n m t)) (cells_at s k) now) is (before now (earlier p t fine n step.event step.rest step.pending)) in
        let now_so : AddsUp there (told_at step.dest (first_records n m t) ++ parts_at now x.note) later now =
        adds_on p site cells step.event st.at x st.does_so (told_at step.dest (first_records n m t)) later
        (reads_after site (routes_of p) there cells step.event st.at.lawful x st.does_so) had in
        let parts : timed_parts told ≡ parts_at now x.note = ap (λ (r : Key × Note). timed_parts r) step.tells in
        let same : told_at step.dest (first_records n m t ++ told ∷ []) ≡ told_at step.dest (first_records n m t) ++ parts_at now x.note =
        told_at-here step.dest (first_records n m t) told told_dest ∙ ap (λ (more : List TimedPart). told_at step.dest (first_records n m t) ++ more) parts in
        as_after now
        (subst (λ k. AddsUp (station_at p.stations k) (told_at k (first_records n m t ++ told ∷ [])) (cells_at after k) now) (sym is)
        (subst (λ (parts : List TimedPart). AddsUp there parts (cells_at after step.dest) now) (sym same)
        (subst (λ (c : CellData). AddsUp there (told_at step.dest (first_records n m t) ++ parts_at now x.note) c now) (sym (cells_here p t s told after step)) now_so)))

    stands_on : Stands (suc n)
    stands_on clock by_then =
        let By : List (Key × Note) → Type 0 = AllBy clock in
        let all : By (first_records n m t ++ told ∷ []) = subst By records_are by_then in
        let front : By (first_records n m t) = Each-front (λ (r : Key × Note). time_part r.0.stamp ≤ clock) (first_records n m t) (told ∷ []) all in
        let back : By (told ∷ []) = Each-back (λ (r : Key × Note). time_part r.0.stamp ≤ clock) (first_records n m t) (told ∷ []) all in
        let now : ℕ = time_part step.event.key.stamp in
        let time : time_part told.0.stamp ≡ now = ap (λ (r : Key × Note). time_part r.0.stamp) step.tells in
        let last : time_part told.0.stamp ≤ clock = back.0 in
        ⊎_elim
        (λ (is : i ≡ step.dest).
        let records : AllBy now (first_records (suc n) m t) =
        subst (AllBy now) (sym records_are)
        (Each-append (λ (r : Key × Note). time_part r.0.stamp ≤ now) (first_records n m t) (told ∷ []) (earlier p t fine n step.event step.rest step.pending) ((omega arith), tt)) in
        clock_passes here (told_of p t (suc n) i) (cells_at (after_events (suc n) m t) i) now clock (told_by_then i now (first_records (suc n) m t) records) (omega arith)
        (flow_law p t (suc n) i fine exists) (counts_lawful p t (after_events (suc n) m t) i fine (suc n, refl) exists) (at_tick is))
        (λ (apart : i ≢ step.dest). elsewhere apart clock front)
        (cases_eq i step.dest)

  all_stand : (n : ℕ) → Stands n
  unfolding after_events gathered told_at
  all_stand =
      each_number m t Stands
      (λ clock by_then.
      subst (λ (c : CellData). AddsUp here (told_at i []) c clock) (sym (station_at_start p i exists))
      (adds_first here clock (subst (λ (c : CellData). IsAccountedFor here (told_at i []) c) (station_at_start p i exists) (flow_law p t 0 i fine exists))))
      (λ n stop is_next before clock by_then.
      let records : first_records (suc n) m t ≡ first_records n m t = gathered-more record_of m t n (stops stop) is_next ∙ append-nil (first_records n m t) in
      subst (λ (s : State). AddsUp here (told_of p t (suc n) i) (cells_at s i) clock) (sym (after_events-stops m t n stop is_next))
      (subst (λ (rs : List (Key × Note)). AddsUp here (told_at i rs) (cells_at (after_events n m t) i) clock) (sym records) (before clock (subst (AllBy clock) records by_then))))
      (λ n told after is_next before. stands_on n told after is_next before)

pub little_law : LittleLaw
little_law p t n i clock fine exists by_then =
    (all_stand p t fine i exists n clock (recursion_from_All (λ (r : Key × Note). time_part r.0.stamp ≤ clock) (first_records n (shop_meaning p) t) by_then)).waits

pub utilisation_law : UtilisationLaw
utilisation_law p t n i clock fine exists by_then =
    (all_stand p t fine i exists n clock (recursion_from_All (λ (r : Key × Note). time_part r.0.stamp ≤ clock) (first_records n (shop_meaning p) t) by_then)).work
