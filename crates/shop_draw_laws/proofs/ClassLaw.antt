-- What comes to a station is accounted for, class by class.
use Rattle.std.proofs.Common.{◌≡◌, ◌≢◌, ℕ, suc, ◌+◌, ◌/◌, ◌^◌, ◌<◌, Bool, true, false, cond, List, [], ◌∷◌, ◌++◌, length, refl, sym, ap, ◌∙◌, subst, ⊎_elim, arith, append-nil}
use Rattle.std.specs.Prelude.{if◌then◌else◌, ◌==◌, count_by}
use Rattle.std.specs.Int.{from_bool}
use Rattle.std.proofs.lemmas.Bool.{cases_eq}
use Rattle.std.proofs.lemmas.List.Elements.{filter-append}
use Rattle.event_key.specs.declared.key.Key.{Key}
use Rattle.event_key.specs.Stamps.{time_part}
use Rattle.delta_exchange.specs.Changes.{CellData, cells_after_all}
use Rattle.model_core.specs.declared.effect.Effect.{Effect}
use Rattle.model_core.specs.declared.event.Event.{Event}
use Rattle.model_core.specs.declared.note.Note.{Note}
use Rattle.model_core.specs.Meaning.{Meaning}
use Rattle.run_laws.specs.Reached.{after_events, gathered, record_of}
use Rattle.run_laws.proofs.Induction.{after_events-does, after_events-stops, gathered-more, each_number}
use Rattle.sim_spec.specs.declared.terms.Terms.{Terms}
use Rattle.sim_spec.specs.Run.{stops, does, next}
use Rattle.sim_spec.specs.State.{State}
use Rattle.shop_model.specs.declared.job.Job.{Job}
use Rattle.shop_model.specs.declared.job.TheConstants.{JOBS_A_CLASS}
use Rattle.shop_model.specs.declared.routes.Routes.{Routes}
use Rattle.shop_model.specs.declared.site.Site.{Site}
use Rattle.shop_model.specs.declared.station.Station.{Station}
use Rattle.shop_model.specs.Jobs.{class_of, id_of, job_at}
use Rattle.shop_model.specs.Meaning.{shop_meaning, site_of}
use Rattle.shop_model.specs.ShopParts.{ShopParts, IsShop, routes_of, station_at}
use Rattle.shop_model.specs.Sites.{told as one_told}
use Rattle.shop_model.specs.StationEffects.{take_effect, wait_effect, lose_effect, begin_effect, pass_effect, renege_effect, still_effect, works_effect}
use Rattle.shop_totals.specs.Flows.{is_coming, is_beginning, is_loss, is_reneging, count_told, flow_of}
use Rattle.shop_totals.specs.Records.{timed_parts, parts_at, told_at, of_class}
use Rattle.shop_totals.specs.Told.{TimedPart}
use Rattle.shop_totals.proofs.RecordLemmas.{told_at-here, told_at-elsewhere}
use Rattle.shop_laws.specs.Told.{cells_at}
use Rattle.shop_laws.proofs.After.{readings_after, reads_after}
use Rattle.shop_laws.proofs.Cases.{StationDoes, rests, goes_on, frees, takes, waits, loses, passes, begins, ends, puts_off, reneges, shifts, stands, works, entry_at, calls_at}
use Rattle.shop_laws.proofs.Entries.{reads_sum}
use Rattle.shop_laws.proofs.Fine.{named_of}
use Rattle.shop_laws.proofs.FlowLaw.{told_count}
use Rattle.shop_laws.proofs.JobsLaw.{nobody_waits}
use Rattle.shop_laws.proofs.Lines.{entered, went_away, line_moves}
use Rattle.shop_laws.proofs.Moves.{AtStationOf}
use Rattle.shop_laws.proofs.Readings.{Readings, readings_of}
use Rattle.shop_laws.proofs.Serving.{serving, station_step}
use Rattle.shop_laws.proofs.Steps.{IsShopStep, shop_step, cells_here, cells_elsewhere, station_at_start}
use Rattle.shop_draw_laws.specs.ClassLaws.{waiting_of, ClassFlow}

module _ (class : ℕ) where
  -- a job of the class weighs 1
  abbrev weight : ℕ → ℕ → ℕ → ℕ
  weight a birth since = from_bool (class_of a == class)

  abbrev counted : (ℕ → Bool) → List TimedPart → ℕ
  counted c told = count_told c (of_class class told)

  counted_more : (c : ℕ → Bool) (xs ys : List TimedPart) → counted c (xs ++ ys) ≡ counted c xs + counted c ys
  counted_more c xs ys =
      ap (λ (told : List TimedPart). count_told c told) (filter-append (λ (one : TimedPart). one.part.a / JOBS_A_CLASS == class) xs ys)
      ∙ told_count c (of_class class xs) (of_class class ys)

  -- a note of one part
  counted_one : (c : ℕ → Bool) (time word a b : ℕ) → counted c (parts_at time (one_told word a b)) ≡ (if c word then from_bool (a / JOBS_A_CLASS == class) else 0)
  counted_one c time word a b = by (a / JOBS_A_CLASS == class) (c word)
    where
      one : TimedPart
      one = record { time = time; part = record { word = word; a = a; b = b } }

      by : (is counts : Bool) → count_by (λ (one : TimedPart). c one.part.word) (cond is (record { time = time; part = record { word = word; a = a; b = b } } ∷ []) []) ≡ (if c word then from_bool is else 0)
      by true counts = at (c word)
        where
          at : (counts : Bool) → ◌≡◌ {A = ℕ} (0 + cond counts 1 0) (if counts then 1 else 0)
          at true = refl
          at false = refl
      by false counts = at (c word)
        where
          at : (counts : Bool) → ◌≡◌ {A = ℕ} 0 (if counts then 0 else 0)
          at true = refl
          at false = refl

  -- jobs come into the line, or go out of it, as is told
  record Tells (time came_in went : ℕ) (note : Note) : Type 0 where
    pub flow : counted is_coming (parts_at time note) + went
        ≡ counted is_beginning (parts_at time note) + counted is_loss (parts_at time note) + counted is_reneging (parts_at time note) + came_in

  one_tells : (time came_in went word a b : ℕ) → (let q = from_bool (a / JOBS_A_CLASS == class) in
      (if is_coming word then q else 0) + went ≡ (if is_beginning word then q else 0) + (if is_loss word then q else 0) + (if is_reneging word then q else 0) + came_in)
      → Tells time came_in went (one_told word a b)
  one_tells time came_in went word a b is = record {
    flow = omega (arith, is, counted_one is_coming time word a b, counted_one is_beginning time word a b, counted_one is_loss time word a b, counted_one is_reneging time word a b);
  }

  module _ (p : ShopParts) (site : Site) (cells : CellData) (e : Event) (is : AtStationOf p site cells) (time : ℕ) where
    abbrev station : Station
    station = station_at p.stations site.object

    abbrev routes : Routes
    routes = routes_of p

    -- a job weighs by its id
    by_id : (a : ℕ) (job : Job) → id_of a ≡ job.id → from_bool (class_of a == class) ≡ from_bool (job.id / JOBS_A_CLASS == class)
    by_id a job same = ap (λ k. from_bool (k / JOBS_A_CLASS == class)) same

    tells : (x : Effect) (does_so : StationDoes site routes station cells e x)
        → Tells time (entered weight p site cells e is x does_so) (went_away weight p site cells e is x does_so) x.note
    unfolding take_effect wait_effect lose_effect begin_effect pass_effect renege_effect still_effect works_effect
    tells x (rests no_come no_done no_call no_turn) = record { flow = refl }
    tells x (goes_on job at) = record { flow = refl }
    tells x (frees job at some) = one_tells time 0 0 _ job.id _ refl
    tells x (takes job visit at visits nobody spare) = one_tells time 0 0 _ job.id _ (omega arith)
    tells x (waits job visit level at visits below busy) =
        let small : job.id < 2 ^ 40 = at.here.names.has.id in
        one_tells time (from_bool (class_of (job_at job.step job.id) == class)) 0 _ job.id _ (omega (arith, by_id (job_at job.step job.id) job (omega arith)))
    tells x (loses job visit at visits) = one_tells time 0 0 _ job.id _ (omega arith)
    tells x (passes level calls empty) = record { flow = refl }
    tells x (begins level job visit calls there) =
        let a : ℕ = entry_at cells level (calls_at station cells level) in
        one_tells time 0 (from_bool (class_of a == class)) _ job.id _ (omega (arith, by_id a job (named_of routes a job there.found).1))
    tells x (ends job at below some on_time) = one_tells time 0 0 _ job.id _ refl
    tells x (puts_off job at served below late) = record { flow = refl }
    tells x (reneges level place job visit kind below within now there) =
        let a : ℕ = entry_at cells level place in
        one_tells time 0 (from_bool (class_of a == class)) _ job.id _ (omega (arith, by_id a job (named_of routes a job there.found).1))
    tells x (shifts kind within) = one_tells time 0 0 _ _ _ refl
    tells x (stands breakdowns kind has up) = one_tells time 0 0 _ _ _ refl
    tells x (works breakdowns kind has) = one_tells time 0 0 _ _ _ refl

  -- what is told of a station, beside its cells then
  record Accounts (station : Station) (told : List TimedPart) (cells : CellData) : Type 0 where
    pub came : counted is_coming told ≡ counted is_beginning told + counted is_loss told + counted is_reneging told + waiting_of station cells class

  on : (p : ShopParts) (t : Terms) (s : State) (told : Key × Note) (after : State) → IsShop p → (n : ℕ) → after_events n (shop_meaning p) t ≡ s
      → next (shop_meaning p) t s ≡ does told after → (i : ℕ) → i < length p.stations → (records : List (Key × Note))
      → Accounts (station_at p.stations i) (told_at i records) (cells_at s i) → Accounts (station_at p.stations i) (told_at i (records ++ told ∷ [])) (cells_at after i)
  on p t s told after fine n reached is_next i exists records before = ⊎_elim here elsewhere (cases_eq i step.step.event.key.dest)
    where
      step : IsShopStep p t s told after
      step = shop_step p t s told after fine (n, reached) is_next

      dest : ℕ
      dest = step.step.event.key.dest

      told_dest : told.0.dest ≡ dest
      told_dest = ap (λ (r : Key × Note). r.0.dest) step.step.tells

      elsewhere : i ≢ step.step.event.key.dest → Accounts (station_at p.stations i) (told_at i (records ++ told ∷ [])) (cells_at after i)
      elsewhere apart =
          let same : told_at i (records ++ told ∷ []) ≡ told_at i records = told_at-elsewhere i records told (λ eq. apart (sym eq ∙ told_dest)) in
          subst (λ (parts : List TimedPart). Accounts (station_at p.stations i) parts (cells_at after i)) (sym same)
          (subst (λ (c : CellData). Accounts (station_at p.stations i) (told_at i records) c) (sym (cells_elsewhere p t s told after step i apart)) before)

      here : i ≡ step.step.event.key.dest → Accounts (station_at p.stations i) (told_at i (records ++ told ∷ [])) (cells_at after i)
      here is =
          let early : dest < length p.stations = omega (arith, exists, is) in
          let st = station_step p t s told after fine step (serving p t s fine (n, reached)) early in
          let e : Event = step.step.event in
          let x : Effect = step.step.effect in
          let site : Site = site_of p dest e in
          let station : Station = station_at p.stations dest in
          let cells : CellData = cells_at s dest in
          let time : ℕ = time_part e.key.stamp in
          let later : CellData = cells_after_all x.changes cells in
          let parts : List TimedPart = parts_at time x.note in
          let r : Readings = readings_after site (routes_of p) station cells e x (readings_of cells) st.does_so in
          let had : Accounts station (told_at dest records) cells = subst (λ k. Accounts (station_at p.stations k) (told_at k records) (cells_at s k)) is before in
          let told_of_it : Accounts station (told_at dest records ++ parts) later = record {
            came = omega (
              arith,
              had.came,
              (tells p site cells e st.at time x st.does_so).flow,
              line_moves weight p site cells e st.at x st.does_so,
              reads_sum weight station.levels later r (reads_after site (routes_of p) station cells e st.at.lawful x st.does_so),
              counted_more is_coming (told_at dest records) parts,
              counted_more is_beginning (told_at dest records) parts,
              counted_more is_loss (told_at dest records) parts,
              counted_more is_reneging (told_at dest records) parts,
            );
          } in
          let its : timed_parts told ≡ parts = ap (λ (r : Key × Note). timed_parts r) step.step.tells in
          let same : told_at dest (records ++ told ∷ []) ≡ told_at dest records ++ parts =
          told_at-here dest records told told_dest ∙ ap (λ (more : List TimedPart). told_at dest records ++ more) its in
          subst (λ k. Accounts (station_at p.stations k) (told_at k (records ++ told ∷ [])) (cells_at after k)) (sym is)
          (subst (λ (parts : List TimedPart). Accounts station parts (cells_at after dest)) (sym same)
          (subst (λ (c : CellData). Accounts station (told_at dest records ++ parts) c) (sym (cells_here p t s told after step)) told_of_it))

pub class_flow : ClassFlow
unfolding after_events gathered told_at flow_of
class_flow p t n i class fine exists =
    (each_number m t (λ n. Accounts class station (told_at i (gathered record_of n m t)) (cells_at (after_events n m t) i))
    (subst (λ (c : CellData). Accounts class station [] c) (sym (station_at_start p i exists))
    (record { came = omega (arith, nobody_waits (weight class) station station.levels) }))
    (λ n stop is_next before.
    let records : gathered record_of (suc n) m t ≡ gathered record_of n m t = gathered-more record_of m t n (stops stop) is_next ∙ append-nil (gathered record_of n m t) in
    subst (λ (s : State). Accounts class station (told_at i (gathered record_of (suc n) m t)) (cells_at s i)) (sym (after_events-stops m t n stop is_next))
    (subst (λ (rs : List (Key × Note)). Accounts class station (told_at i rs) (cells_at (after_events n m t) i)) (sym records) before))
    (λ n told after is_next before.
    let records : gathered record_of (suc n) m t ≡ gathered record_of n m t ++ told ∷ [] = gathered-more record_of m t n (does told after) is_next in
    subst (λ (s : State). Accounts class station (told_at i (gathered record_of (suc n) m t)) (cells_at s i)) (sym (after_events-does m t n told after is_next))
    (subst (λ (rs : List (Key × Note)). Accounts class station (told_at i rs) (cells_at after i)) (sym records)
    (on class p t (after_events n m t) told after fine n refl is_next i exists (gathered record_of n m t) before)))
    n).came
  where
    m : Meaning
    m = shop_meaning p

    station : Station
    station = station_at p.stations i
