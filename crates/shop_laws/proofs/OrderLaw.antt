-- Who is called first.
use Rattle.std.proofs.Common.{◌≡◌, ◌≢◌, ℕ, suc, ◌+◌, ◌-◌, ◌<◌, ◌≤◌, Bool, false, List, [], ◌∷◌, ◌++◌, length, take, drop, refl, sym, ap, ◌∙◌, subst, ⊎_elim, arith, append-nil, get_or, length-drop}
use Rattle.std.specs.Prelude.{nat_lt, not, All}
use Rattle.std.specs.List.{AllPairs, range_with_len}
use Rattle.std.proofs.lemmas.Bool.{cases_eq, ltb-false}
use Rattle.std.proofs.lemmas.List.{get_or-take, get_or-drop, length-take-le}
use Rattle.std.proofs.lemmas.List.Elements.{All-push, All-take, All-drop, All-nil, All-weaker}
use Rattle.std.proofs.lemmas.List.FromFn.{get_or-range_with_len, length-range_with_len}
use Rattle.std.proofs.lemmas.List.Quantifiers.{all_pairs_push}
use Rattle.std.proofs.lemmas.List.Sums.{fails_before_first, prefix_len-le-length}
use Rattle.event_key.specs.declared.key.Key.{Key}
use Rattle.event_key.specs.Stamps.{time_part}
use Rattle.delta_exchange.specs.Changes.{CellData, line_of, cells_after_all}
use Rattle.key_order.proofs.EachLemmas.{Each-map, Each-front, Each-back}
use Rattle.model_core.specs.declared.effect.Effect.{Effect}
use Rattle.model_core.specs.declared.event.Event.{Event}
use Rattle.model_core.specs.declared.note.Note.{Note}
use Rattle.model_core.specs.declared.words.TheConstants.{TAKEN_WORD, CALLED_WORD}
use Rattle.model_core.specs.Meaning.{Meaning}
use Rattle.sim_spec.specs.declared.terms.Terms.{Terms}
use Rattle.sim_spec.specs.State.{State}
use Rattle.sim_spec.specs.Run.{stops, does, next}
use Rattle.run_laws.specs.Reached.{after_events, gathered, record_of, first_records}
use Rattle.run_laws.proofs.Induction.{after_events-does, after_events-stops, gathered-more, each_number}
use Rattle.shop_model.specs.declared.routes.Routes.{Routes}
use Rattle.shop_model.specs.declared.site.Site.{Site}
use Rattle.shop_model.specs.declared.station.Order.{Order}
use Rattle.shop_model.specs.declared.station.Order.TheVariants.{First, Last, Priority}
use Rattle.shop_model.specs.declared.station.Station.{Station}
use Rattle.shop_model.specs.EntrySteps.{out_of}
use Rattle.shop_model.specs.Jobs.{job_at, birth_of}
use Rattle.shop_model.specs.Meaning.{shop_meaning, site_of}
use Rattle.shop_model.specs.ShopParts.{ShopParts, IsShop, routes_of, station_at}
use Rattle.shop_model.specs.StationEffects.{until_of, first_level, take_effect, wait_effect, lose_effect, begin_effect, pass_effect, renege_effect, still_effect, works_effect}
use Rattle.shop_model.specs.Stations.{counts_of, jobs_line, since_line}
use Rattle.shop_laws.specs.OrderLaws.{IsFirstInLine, CallsInOrder, TakesInOrder, JoinedInOrder}
use Rattle.shop_laws.specs.Told.{word_told, first_told, cells_at}
use Rattle.shop_laws.proofs.After.{readings_after, reads_after, push, one_less}
use Rattle.shop_laws.proofs.Cases.{StationDoes, rests, goes_on, frees, takes, waits, loses, passes, begins, ends, puts_off, reneges, shifts, stands, works, calls_at, entry_at}
use Rattle.shop_laws.proofs.Entries.{four_since, four_elsewhere}
use Rattle.shop_laws.proofs.Fine.{named_of}
use Rattle.shop_laws.proofs.JobsLaw.{empty_line}
use Rattle.shop_laws.proofs.Readings.{Readings, readings_of, went_out, began_line, put_other}
use Rattle.shop_laws.proofs.Serving.{serving, station_step}
use Rattle.shop_laws.proofs.Steps.{AllBy, earlier, IsShopStep, shop_step, cells_here, cells_elsewhere, station_at_start}

none_there : (xs : List ℕ) → length xs ≤ 0 → xs ≡ []
none_there [] none = refl
none_there (x ∷ xs) none = absurd (omega arith)

-- levels before the first that has an entry have none
urgent_levels : (station : Station) (cells : CellData) (k : ℕ) → k < first_level station cells → line_of cells (jobs_line k) ≡ []
unfolding first_level
urgent_levels station cells k before = none_there (line_of cells (jobs_line k)) (ltb-false 0 (length (line_of cells (jobs_line k))) fails)
  where
    test : ℕ → Bool
    test level = nat_lt 0 (length (line_of cells (jobs_line level)))

    numbers : List ℕ
    numbers = range_with_len 0 (station.levels - 1)

    number : get_or numbers k 0 ≡ k
    number = omega (
      arith,
      before,
      prefix_len-le-length (λ (level : ℕ). not (test level)) numbers,
      length-range_with_len 0 (station.levels - 1),
      get_or-range_with_len 0 (station.levels - 1) k 0 (omega (arith, before, prefix_len-le-length (λ (level : ℕ). not (test level)) numbers, length-range_with_len 0 (station.levels - 1))),
    )

    fails : test k ≡ false
    fails = ap test (sym number) ∙ fails_before_first test numbers k 0 before

called_first : (site : Site) (routes : Routes) (station : Station) (cells : CellData) (e : Event) (x : Effect) → StationDoes site routes station cells e x → word_told x.note ≡ CALLED_WORD
    → IsFirstInLine station cells (first_told x.note)
unfolding take_effect wait_effect lose_effect begin_effect pass_effect renege_effect still_effect works_effect
called_first site routes station cells e x (rests no_come no_done no_call no_turn) word = absurd (omega arith)
called_first site routes station cells e x (goes_on job at) word = absurd (omega arith)
called_first site routes station cells e x (frees job at some) word = absurd (omega arith)
called_first site routes station cells e x (takes job visit at visits nobody spare) word = absurd (omega arith)
called_first site routes station cells e x (waits job visit level at visits below busy) word = absurd (omega arith)
called_first site routes station cells e x (loses job visit at visits) word = absurd (omega arith)
called_first site routes station cells e x (passes level calls empty) word = absurd (omega arith)
called_first site routes station cells e x (begins level job visit calls there) word = record {
  level = level;
  urgent = λ k before. urgent_levels station cells k (let first = calls.first in omega arith);
  some = calls.some;
  first = sym (named_of routes (entry_at cells level (calls_at station cells level)) job there.found).1;
}
called_first site routes station cells e x (ends job at below some on_time) word = absurd (omega arith)
called_first site routes station cells e x (puts_off job at served below late) word = absurd (omega arith)
called_first site routes station cells e x (reneges level place job visit kind below within now there) word = absurd (omega arith)
called_first site routes station cells e x (shifts kind within) word = absurd (omega arith)
called_first site routes station cells e x (stands breakdowns kind has up) word = absurd (omega arith)
called_first site routes station cells e x (works breakdowns kind has) word = absurd (omega arith)

taken_alone : (site : Site) (routes : Routes) (station : Station) (cells : CellData) (e : Event) (x : Effect) → StationDoes site routes station cells e x → word_told x.note ≡ TAKEN_WORD
    → (counts_of cells).waiting ≡ 0
unfolding take_effect wait_effect lose_effect begin_effect pass_effect renege_effect still_effect works_effect
taken_alone site routes station cells e x (rests no_come no_done no_call no_turn) word = absurd (omega arith)
taken_alone site routes station cells e x (goes_on job at) word = absurd (omega arith)
taken_alone site routes station cells e x (frees job at some) word = absurd (omega arith)
taken_alone site routes station cells e x (takes job visit at visits nobody spare) word = nobody
taken_alone site routes station cells e x (waits job visit level at visits below busy) word = absurd (omega arith)
taken_alone site routes station cells e x (loses job visit at visits) word = absurd (omega arith)
taken_alone site routes station cells e x (passes level calls empty) word = absurd (omega arith)
taken_alone site routes station cells e x (begins level job visit calls there) word = absurd (omega arith)
taken_alone site routes station cells e x (ends job at below some on_time) word = absurd (omega arith)
taken_alone site routes station cells e x (puts_off job at served below late) word = absurd (omega arith)
taken_alone site routes station cells e x (reneges level place job visit kind below within now there) word = absurd (omega arith)
taken_alone site routes station cells e x (shifts kind within) word = absurd (omega arith)
taken_alone site routes station cells e x (stands breakdowns kind has up) word = absurd (omega arith)
taken_alone site routes station cells e x (works breakdowns kind has) word = absurd (omega arith)

pub calls_in_order : CallsInOrder
calls_in_order p t s told after fine reached is_next early word =
    let n = shop_step p t s told after fine reached is_next in
    let P : Key × Note → Type 0 = λ told. told.0.dest < length p.stations → word_told told.1 ≡ CALLED_WORD
    → IsFirstInLine (station_at p.stations told.0.dest) (cells_at s told.0.dest) (first_told told.1) in
    subst P (sym n.step.tells)
    (λ exists is. called_first _ _ _ _ _ n.step.effect (station_step p t s told after fine n (serving p t s fine reached) exists).does_so is)
    early word

pub takes_in_order : TakesInOrder
takes_in_order p t s told after fine reached is_next early word =
    let n = shop_step p t s told after fine reached is_next in
    let P : Key × Note → Type 0 = λ told. told.0.dest < length p.stations → word_told told.1 ≡ TAKEN_WORD → (counts_of (cells_at s told.0.dest)).waiting ≡ 0 in
    subst P (sym n.step.tells)
    (λ exists is. taken_alone _ _ _ _ _ n.step.effect (station_step p t s told after fine n (serving p t s fine reached) exists).does_so is)
    early word

-- times that don't fall, up to a clock
record Rise (clock : ℕ) (times : List ℕ) : Type 0 where
  pub ordered : AllPairs (λ (a b : ℕ). a ≤ b) times
  pub by_then : All (λ time. time ≤ clock) times

rise_later : (earlier later : ℕ) (times : List ℕ) → earlier ≤ later → Rise earlier times → Rise later times
rise_later earlier later times le rise = record {
  ordered = rise.ordered;
  by_then = All-weaker (λ time. time ≤ earlier) (λ time. time ≤ later) (λ time by_then. omega arith) times rise.by_then;
}

rise_push : (clock : ℕ) (times : List ℕ) → Rise clock times → Rise clock (times ++ clock ∷ [])
rise_push clock times rise = record {
  ordered = all_pairs_push (λ (a b : ℕ). a ≤ b) times clock rise.ordered (λ k d below. rise.by_then k d below);
  by_then = All-push (λ time. time ≤ clock) times clock rise.by_then (omega arith);
}

rise_drop : (clock : ℕ) (times : List ℕ) → Rise clock times → Rise clock (drop 1 times)
rise_drop clock times rise = record {
  ordered = λ i j d lt below.
      let a : get_or (drop 1 times) i d ≡ get_or times (1 + i) d = get_or-drop 1 times i d in
      let b : get_or (drop 1 times) j d ≡ get_or times (1 + j) d = get_or-drop 1 times j d in
      let le : get_or times (1 + i) d ≤ get_or times (1 + j) d = rise.ordered (1 + i) (1 + j) d (omega arith) (omega (arith, length-drop 1 times)) in
      omega (arith, a, b, le);
  by_then = All-drop (λ time. time ≤ clock) 1 times rise.by_then;
}

rise_take : (clock k : ℕ) (times : List ℕ) → k ≤ length times → Rise clock times → Rise clock (take k times)
rise_take clock k times few rise = record {
  ordered = λ i j d lt below.
      let long : length (take k times) ≡ k = length-take-le k times few in
      let a : get_or (take k times) i d ≡ get_or times i d = get_or-take k times i d (omega (arith, long)) in
      let b : get_or (take k times) j d ≡ get_or times j d = get_or-take k times j d (omega (arith, long)) in
      let le : get_or times i d ≤ get_or times j d = rise.ordered i j d lt (omega (arith, long)) in
      omega (arith, a, b, le);
  by_then = All-take (λ time. time ≤ clock) k times rise.by_then;
}

rise_out : (clock : ℕ) (order : Order) (times : List ℕ) → Rise clock times → Rise clock (out_of order times)
rise_out clock First times rise = rise_drop clock times rise
rise_out clock Last times rise = rise_take clock (length times - 1) times (omega arith) rise
rise_out clock Priority times rise = rise_drop clock times rise

-- what an event at a station makes of the times of a level
module _ (site : Site) (routes : Routes) (station : Station) (cells : CellData) (e : Event) (level : ℕ) where
  abbrev times : List ℕ
  times = line_of cells (since_line level)

  abbrev now : ℕ → List ℕ
  now k = line_of cells k

  out_rises : (from : ℕ) → Rise site.tick (line_of cells (since_line level)) → Rise site.tick ((went_out station.order from (readings_of cells)).line (since_line level))
  out_rises from rise =
      let out = out_of station.order in
      ⊎_elim
      (λ (same : level ≡ from).
      subst (λ k. Rise site.tick ((went_out station.order k (readings_of cells)).line (since_line level))) same
      (subst (λ xs. Rise site.tick xs) (sym (four_since out out out out level now)) (rise_out site.tick station.order times rise)))
      (λ (other : level ≢ from).
      subst (λ xs. Rise site.tick xs)
      (sym (four_elsewhere out out out out from now (since_line level) (λ e. absurd (omega arith)) (λ e. absurd (omega arith)) (λ e. other (omega arith)) (λ e. absurd (omega arith)))) rise)
      (cases_eq level from)

  since_rises : (x : Effect) (does_so : StationDoes site routes station cells e x) → Rise site.tick (line_of cells (since_line level))
      → Rise site.tick ((readings_after site routes station cells e x (readings_of cells) does_so).line (since_line level))
  since_rises x (rests no_come no_done no_call no_turn) rise = rise
  since_rises x (goes_on job at) rise = rise
  since_rises x (frees job at some) rise = rise
  since_rises x (takes job visit at visits nobody spare) rise =
      subst (λ (line : ℕ → List ℕ). Rise site.tick (line (since_line level))) (sym (began_line visit (counts_of cells) (readings_of cells))) rise
  since_rises x (waits job visit from at visits below busy) rise =
      let f = push (job_at job.step job.id) in
      let g = push (birth_of e.b) in
      let h = push site.tick in
      let i = push (until_of site cells visit.patience) in
      ⊎_elim
      (λ (same : level ≡ from).
      subst (λ k. Rise site.tick ((readings_after site routes station cells e x (readings_of cells) (waits job visit from at visits below busy)).line (since_line k))) (sym same)
      (subst (λ xs. Rise site.tick xs) (sym (four_since f g h i from now)) (rise_push site.tick (line_of cells (since_line from)) (subst (λ k. Rise site.tick (line_of cells (since_line k))) same rise))))
      (λ (other : level ≢ from).
      subst (λ xs. Rise site.tick xs)
      (sym (four_elsewhere f g h i from now (since_line level) (λ e. absurd (omega arith)) (λ e. absurd (omega arith)) (λ e. other (omega arith)) (λ e. absurd (omega arith)))) rise)
      (cases_eq level from)
  since_rises x (loses job visit at visits) rise = rise
  since_rises x (passes from calls empty) rise = out_rises from rise
  since_rises x (begins from job visit calls there) rise =
      subst (λ (line : ℕ → List ℕ). Rise site.tick (line (since_line level)))
      (sym (began_line visit (one_less cells) (went_out station.order from (record (readings_of cells) { waiting = (counts_of cells).waiting - 1 })))) (out_rises from rise)
  since_rises x (ends job at below some on_time) rise = rise
  since_rises x (puts_off job at served below late) rise = rise
  since_rises x (reneges from place job visit kind below within now_is there) rise =
      subst (λ xs. Rise site.tick xs) (sym (put_other (jobs_line from) (since_line level) _ now (λ e. absurd (omega arith)))) rise
  since_rises x (shifts kind within) rise = rise
  since_rises x (stands breakdowns kind has up) rise = rise
  since_rises x (works breakdowns kind has) rise = rise

module _ (p : ShopParts) (t : Terms) (fine : IsShop p) (i : ℕ) (exists : i < length p.stations) (level : ℕ) where
  abbrev m : Meaning
  m = shop_meaning p

  abbrev Rises : State → List (Key × Note) → Type 0
  Rises s records = (clock : ℕ) → AllBy clock records → Rise clock (line_of (cells_at s i) (since_line level))

  rises_on : (n : ℕ) (told : Key × Note) (after : State) → next m t (after_events n m t) ≡ does told after → Rises (after_events n m t) (first_records n m t)
      → Rises after (first_records n m t ++ told ∷ [])
  rises_on n told after is_next before clock all = ⊎_elim here elsewhere (cases_eq i step.dest)
    where
      s : State
      s = after_events n m t

      step : IsShopStep p t s told after
      step = shop_step p t s told after fine (n, refl) is_next

      front : AllBy clock (first_records n m t)
      front = Each-front (λ (r : Key × Note). time_part r.0.stamp ≤ clock) (first_records n m t) (told ∷ []) all

      last : time_part step.event.key.stamp ≤ clock
      last =
          let back : AllBy clock (told ∷ []) = Each-back (λ (r : Key × Note). time_part r.0.stamp ≤ clock) (first_records n m t) (told ∷ []) all in
          let time : time_part told.0.stamp ≡ time_part step.event.key.stamp = ap (λ (r : Key × Note). time_part r.0.stamp) step.tells in
          let at : time_part told.0.stamp ≤ clock = back.0 in
          omega arith

      elsewhere : i ≢ step.dest → Rise clock (line_of (cells_at after i) (since_line level))
      elsewhere apart = subst (λ (c : CellData). Rise clock (line_of c (since_line level))) (sym (cells_elsewhere p t s told after step i apart)) (before clock front)

      here : i ≡ step.dest → Rise clock (line_of (cells_at after i) (since_line level))
      here is =
          let now : ℕ = time_part step.event.key.stamp in
          let early : step.dest < length p.stations = omega (arith, exists) in
          let st = station_step p t s told after fine step (serving p t s fine (n, refl)) early in
          let x : Effect = step.effect in
          let site : Site = site_of p step.dest step.event in
          let station : Station = station_at p.stations step.dest in
          let cells : CellData = cells_at s step.dest in
          let r : Readings = readings_after site (routes_of p) station cells step.event x (readings_of cells) st.does_so in
          let reads = reads_after site (routes_of p) station cells step.event st.at.lawful x st.does_so in
          let had : Rise now (line_of cells (since_line level)) =
          subst (λ k. Rise now (line_of (cells_at s k) (since_line level))) is (before now (earlier p t fine n step.event step.rest step.pending)) in
          let rises : Rise now (r.line (since_line level)) = since_rises site (routes_of p) station cells step.event level x st.does_so had in
          let later : Rise now (line_of (cells_after_all x.changes cells) (since_line level)) =
          subst (λ xs. Rise now xs) (sym (reads.line (since_line level) (λ e. absurd (omega arith)))) rises in
          subst (λ k. Rise clock (line_of (cells_at after k) (since_line level))) (sym is)
          (subst (λ (c : CellData). Rise clock (line_of c (since_line level))) (sym (cells_here p t s told after step))
          (rise_later now clock (line_of (cells_after_all x.changes cells) (since_line level)) last later))

  all_rise : (n : ℕ) → Rises (after_events n m t) (first_records n m t)
  unfolding after_events gathered
  all_rise =
      each_number m t (λ n. Rises (after_events n m t) (first_records n m t))
      (λ clock by_then.
      subst (λ (c : CellData). Rise clock (line_of c (since_line level))) (sym (station_at_start p i exists))
      (subst (λ xs. Rise clock xs) (sym (empty_line (station_at p.stations i) (since_line level) (λ e. absurd (omega arith))))
      (record { ordered = λ a b d lt below. absurd (omega arith); by_then = All-nil (λ time. time ≤ clock) })))
      (λ n stop is_next before.
      let records : first_records (suc n) m t ≡ first_records n m t = gathered-more record_of m t n (stops stop) is_next ∙ append-nil (first_records n m t) in
      subst (λ (s : State). Rises s (first_records (suc n) m t)) (sym (after_events-stops m t n stop is_next))
      (subst (λ (rs : List (Key × Note)). Rises (after_events n m t) rs) (sym records) before))
      (λ n told after is_next before.
      let records : first_records (suc n) m t ≡ first_records n m t ++ told ∷ [] = gathered-more record_of m t n (does told after) is_next in
      subst (λ (s : State). Rises s (first_records (suc n) m t)) (sym (after_events-does m t n told after is_next))
      (subst (λ (rs : List (Key × Note)). Rises after rs) (sym records) (rises_on n told after is_next before)))

-- a clock that no record is later than
latest : (records : List (Key × Note)) → (clock : ℕ) × AllBy clock records
latest [] = (0, tt)
latest (r ∷ rest) =
    let more = latest rest in
    (time_part r.0.stamp + more.0, (omega arith, Each-map (λ (r : Key × Note). time_part r.0.stamp ≤ more.0) (λ (q : Key × Note). time_part q.0.stamp ≤ time_part r.0.stamp + more.0) rest (λ q by_then. omega arith) more.1))

pub joined_in_order : JoinedInOrder
joined_in_order p t s i level fine reached exists below =
    let n : ℕ = reached.0 in
    let clock = latest (first_records n (shop_meaning p) t) in
    subst (λ (s : State). AllPairs (λ (a b : ℕ). a ≤ b) (line_of (cells_at s i) (since_line level))) reached.1 (all_rise p t fine i exists level n clock.0 clock.1).ordered
