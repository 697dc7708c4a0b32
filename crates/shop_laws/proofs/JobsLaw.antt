-- Each job of a shop is at one place, or gone, with the birth of its make.
use Rattle.std.proofs.Common.{◌≡◌, ◌≢◌, ℕ, suc, ◌+◌, ◌-◌, ◌*◌, ◌/◌, ◌<◌, ◌≤◌, Bool, true, false, cond, List, [], ◌∷◌, ◌++◌, length, map, refl, sym, ap, ◌∙◌, subst, ⊎_elim, arith, append-nil, get_or-set_same, get_or-set_other, eq-eqb, ne_eqb}
use Rattle.std.specs.Prelude.{if◌then◌else◌, ◌==◌, nat_lt, filter, slice_index, slice_set, sum_by}
use Rattle.std.specs.Int.{from_bool}
use Rattle.std.specs.List.{range_with_len}
use Rattle.std.proofs.lemmas.Bool.{cases_eq, cases_lt, eqb-true}
use Rattle.std.proofs.lemmas.List.{map-append, get_or_past, get_or-replicate, length-replicate, length-set}
use Rattle.std.proofs.lemmas.List.Elements.{filter-append}
use Rattle.std.proofs.lemmas.List.Sums.{sum_by-cons, sum_by-append}
use Rattle.event_key.specs.declared.key.Key.{Key}
use Rattle.event_key.specs.Stamps.{time_part}
use Rattle.delta_exchange.specs.declared.change.Change.{Change}
use Rattle.delta_exchange.specs.declared.change.Change.TheVariants.{Set}
use Rattle.delta_exchange.specs.Changes.{CellData, line_of, cells_after_all}
use Rattle.model_core.specs.declared.effect.Effect.{Effect}
use Rattle.model_core.specs.declared.event.Event.{Event}
use Rattle.model_core.specs.declared.note.Note.{Note}
use Rattle.model_core.specs.declared.words.TheConstants.{MADE_WORD, LEFT_WORD, DROPPED_WORD, DELAYED_WORD, WENT_WORD}
use Rattle.model_core.specs.Meaning.{Meaning}
use Rattle.model_core.specs.Places.{place_changes, place_cases}
use Rattle.model_core.proofs.Numbers.{numbers-more}
use Rattle.sim_spec.specs.declared.terms.Terms.{Terms}
use Rattle.sim_spec.specs.State.{State, initial_state}
use Rattle.sim_spec.specs.Run.{Next, stops, does, next}
use Rattle.random_streams.specs.declared.law.Law.TheVariants.{Choice}
use Rattle.random_streams.specs.Laws.{draw}
use Rattle.run_laws.specs.Reached.{after_events, gathered}
use Rattle.run_laws.proofs.Induction.{after_events-does, after_events-stops, gathered-more, each_number}
use Rattle.shop_model.specs.declared.class.Class.{Class}
use Rattle.shop_model.specs.declared.class.TheConstants.{MADE, INSIDE}
use Rattle.shop_model.specs.declared.job.TheConstants.{JOBS_A_CLASS}
use Rattle.shop_model.specs.declared.site.Site.{Site}
use Rattle.shop_model.specs.declared.station.Station.{Station}
use Rattle.shop_model.specs.Classes.{made_jobs as made_of, jobs_inside, first_class_cells, one_made, overdue, stay_effect, go_effect, leave_effect}
use Rattle.shop_model.specs.Jobs.{id_of, class_of, birth_of}
use Rattle.shop_model.specs.EffectKeeps.{class_fine}
use Rattle.shop_model.specs.Meaning.{class_of_object, shop_meaning, site_of}
use Rattle.shop_model.specs.Routes.{stands_at, object_at}
use Rattle.shop_model.specs.ShopParts.{ShopParts, IsShop, routes_of, station_at}
use Rattle.shop_model.specs.Sites.{place_of, drawn_at}
use Rattle.shop_model.specs.Stations.{jobs_line, births_line, since_line, first_station_cells}
use Rattle.shop_laws.specs.JobLaws.{of_class, ids_of, EachJobOnce}
use Rattle.shop_laws.specs.Places.{at_event, in_line, in_lines, in_shop, made_next, gone_next, made_jobs, gone_jobs, this_job, weight_of}
use Rattle.shop_laws.specs.Told.{cells_at}
use Rattle.shop_laws.specs.Waiting.{sum_waiting, sum_in_line}
use Rattle.shop_laws.proofs.Balance.{balance, made_by, gone_by, made_is, gone_is, station_words}
use Rattle.shop_laws.proofs.Cases.{sums_none}
use Rattle.shop_laws.proofs.ClassCases.{ClassDoes, idles, makes_none, makes, holds, branches, leaves}
use Rattle.shop_laws.proofs.Fine.{named_of}
use Rattle.shop_laws.proofs.Holding.{no_job_weight}
use Rattle.shop_laws.proofs.Serving.{Serving, serving, station_step, class_step, sum_zero}
use Rattle.shop_laws.proofs.Starts.{pending_start}
use Rattle.shop_laws.proofs.Steps.{IsShopStep, shop_step, class_cells_lawful, cells_here, cells_elsewhere, station_at_start, class_at_start}

-- a sum over what a run gathers, with one event more
tally : (of : State → Next → List (ℕ × ℕ)) (f : ℕ × ℕ → ℕ) (m : Meaning) (t : Terms) (n : ℕ) (x : Next) → next m t (after_events n m t) ≡ x
    → sum_by f (gathered of (suc n) m t) ≡ sum_by f (gathered of n m t) + sum_by f (of (after_events n m t) x)
tally of f m t n x is_next =
    ap (λ (jobs : List (ℕ × ℕ)). sum_by f jobs) (gathered-more of m t n x is_next) ∙ sum_by-append f (gathered of n m t) (of (after_events n m t) x)

-- at the start nobody waits
pub empty_line : (station : Station) (k : ℕ) → k ≢ 0 → line_of (first_station_cells station) k ≡ []
unfolding first_station_cells
empty_line station k past = ⊎_elim
    (λ (within : k - 1 < 4 * station.levels).
    let place : k ≡ suc (k - 1) = omega (arith, past) in
    ap (λ j. line_of (first_station_cells station) j) place ∙ get_or-replicate {A = List ℕ} (4 * station.levels) (k - 1) [] [] within)
    (λ (beyond : 4 * station.levels ≤ k - 1).
    let long : length (first_station_cells station).lines ≡ 1 + 4 * station.levels = omega (arith, length-replicate {A = List ℕ} (4 * station.levels) []) in
    get_or_past (first_station_cells station).lines k [] (omega (arith, past, long)))
    (cases_lt (k - 1) (4 * station.levels))

pub nobody_waits : (w : ℕ → ℕ → ℕ → ℕ) (station : Station) (levels : ℕ) → sum_in_line w (λ k. line_of (first_station_cells station) k) levels ≡ 0
unfolding sum_waiting
nobody_waits w station levels =
    sums_none (λ level. sum_waiting w (line_of (first_station_cells station) (jobs_line level)) (line_of (first_station_cells station) (births_line level)) (line_of (first_station_cells station) (since_line level)))
    0 levels
    (λ level from to. ap (λ jobs. sum_waiting w jobs (line_of (first_station_cells station) (births_line level)) (line_of (first_station_cells station) (since_line level)))
    (empty_line station (jobs_line level) (λ e. absurd (omega arith))))

pub first_in_shop : (p : ShopParts) (w : ℕ → ℕ → ℕ) → in_shop p w (initial_state (shop_meaning p)) ≡ 0
first_in_shop p w =
    let s : State = initial_state (shop_meaning p) in
    let pending : sum_by (at_event w) s.pending ≡ 0 =
    sum_zero (at_event w) s.pending (pending_start p (λ (e : Event). at_event w e ≡ 0) (λ e no_come no_done. no_job_weight w e.key.dest e.kind e.a e.b no_come no_done)) in
    let lines : in_lines p w s ≡ 0 =
    sums_none (λ i. sum_in_line (in_line w) (λ k. line_of (cells_at s i) k) (station_at p.stations i).levels) 0 (length p.stations)
    (λ i from to. ap (λ (c : CellData). sum_in_line (in_line w) (λ k. line_of c k) (station_at p.stations i).levels) (station_at_start p i (omega arith))
    ∙ nobody_waits (in_line w) (station_at p.stations i) (station_at p.stations i).levels) in
    omega (arith, pending, lines)

-- the jobs in the shop and those that have gone weigh what those that were made weigh
pub all_once : (p : ShopParts) (t : Terms) → IsShop p → (w : ℕ → ℕ → ℕ) (n : ℕ)
    → in_shop p w (after_events n (shop_meaning p) t) + sum_by (weight_of w) (gone_jobs p t n) ≡ sum_by (weight_of w) (made_jobs p t n)
unfolding after_events gathered
all_once p t fine w =
    let m : Meaning = shop_meaning p in
    each_number m t (λ n. in_shop p w (after_events n m t) + sum_by (weight_of w) (gathered gone_next n m t) ≡ sum_by (weight_of w) (gathered made_next n m t))
    (omega (arith, first_in_shop p w))
    (λ n stop is_next before.
    omega (
      arith,
      before,
      ap (in_shop p w) (after_events-stops m t n stop is_next),
      tally gone_next (weight_of w) m t n (stops stop) is_next,
      tally made_next (weight_of w) m t n (stops stop) is_next,
    ))
    (λ n told after is_next before.
    let s : State = after_events n m t in
    let step : IsShopStep p t s told after = shop_step p t s told after fine (n, refl) is_next in
    omega (
      arith,
      before,
      ap (in_shop p w) (after_events-does m t n told after is_next),
      tally gone_next (weight_of w) m t n (does told after) is_next,
      tally made_next (weight_of w) m t n (does told after) is_next,
      balance w p t s told after fine step (serving p t s fine (n, refl)),
    ))

-- what an event does to the counts of a class: nothing, or it makes the next job, or lets one go
data Turn (class : ℕ) (before after : CellData) (made gone : List (ℕ × ℕ)) : Type 0 where
  same : made_of after ≡ made_of before → jobs_inside after ≡ jobs_inside before → ids_of class made ≡ []
      → sum_by (weight_of (of_class class)) made ≡ 0 → sum_by (weight_of (of_class class)) gone ≡ 0 → Turn class before after made gone
  makes_one : made_of after ≡ made_of before + 1 → jobs_inside after ≡ jobs_inside before + 1 → ids_of class made ≡ (class * JOBS_A_CLASS + 1 + made_of before) ∷ []
      → sum_by (weight_of (of_class class)) made ≡ 1 → sum_by (weight_of (of_class class)) gone ≡ 0 → Turn class before after made gone
  lets_go : made_of after ≡ made_of before → jobs_inside after ≡ jobs_inside before - 1 → ids_of class made ≡ []
      → sum_by (weight_of (of_class class)) made ≡ 0 → sum_by (weight_of (of_class class)) gone ≡ 1 → Turn class before after made gone

-- a list of one job: of the class, or not
ids_own : (class id time : ℕ) → id / JOBS_A_CLASS ≡ class → ids_of class ((id, time) ∷ []) ≡ id ∷ []
ids_own class id time own = ap (λ b. cond b (id ∷ []) []) (eq-eqb (id / JOBS_A_CLASS) class own)

ids_other : (class id time : ℕ) → id / JOBS_A_CLASS ≢ class → ids_of class ((id, time) ∷ []) ≡ []
ids_other class id time other = ap (λ b. cond b (id ∷ []) []) (ne_eqb (id / JOBS_A_CLASS) class other)

weight_own : (class id time : ℕ) → id / JOBS_A_CLASS ≡ class → sum_by (weight_of (of_class class)) ((id, time) ∷ []) ≡ 1
weight_own class id time own =
    let one : of_class class id time ≡ 1 = ap (λ b. from_bool b) (eq-eqb (id / JOBS_A_CLASS) class own) in
    omega (arith, sum_by-cons (weight_of (of_class class)) (id, time) [], one)

weight_other : (class id time : ℕ) → id / JOBS_A_CLASS ≢ class → sum_by (weight_of (of_class class)) ((id, time) ∷ []) ≡ 0
weight_other class id time other =
    let none : of_class class id time ≡ 0 = ap (λ b. from_bool b) (ne_eqb (id / JOBS_A_CLASS) class other) in
    omega (arith, sum_by-cons (weight_of (of_class class)) (id, time) [], none)

-- what an event at a class does to its cells and tells
pub data Moves (cells later : CellData) (note : Note) (e : Event) (time own : ℕ) : Type 0 where
  keeps : made_of later ≡ made_of cells → jobs_inside later ≡ jobs_inside cells → made_by note time ≡ [] → gone_by note e ≡ [] → Moves cells later note e time own
  adds : (id : ℕ) → made_of later ≡ made_of cells + 1 → jobs_inside later ≡ jobs_inside cells + 1 → id ≡ own * JOBS_A_CLASS + 1 + made_of cells → made_of cells + 1 ≤ 9999999
      → made_by note time ≡ (id, time) ∷ [] → gone_by note e ≡ [] → Moves cells later note e time own
  drops : made_of later ≡ made_of cells → jobs_inside later ≡ jobs_inside cells - 1 → made_by note time ≡ [] → gone_by note e ≡ (id_of e.a, birth_of e.b) ∷ []
      → class_of e.a ≡ own → Moves cells later note e time own

-- the random place alone moves on
pub placed_words : (Q : CellData → Type 0) (place next : ℕ) (rest : List Change) (cells : CellData)
    → ((c : CellData) → length c.words ≡ length cells.words → made_of c ≡ made_of cells → jobs_inside c ≡ jobs_inside cells → Q (cells_after_all rest c))
    → Q (cells_after_all (place_changes place next ++ rest) cells)
unfolding cells_after_all
placed_words Q place next rest cells follows =
    place_cases (λ drawn. Q (cells_after_all (drawn ++ rest) cells)) place next (follows cells refl refl refl)
    (follows (record cells { words = slice_set cells.words 0 next }) (length-set cells.words 0 next)
    (get_or-set_other cells.words 0 MADE next 0 (λ e. absurd (omega arith))) (get_or-set_other cells.words 0 INSIDE next 0 (λ e. absurd (omega arith))))

pub class_moves : (p : ShopParts) (site : Site) (class : Class) (cells : CellData) (e : Event) (x : Effect) → ClassDoes site (routes_of p) class cells e x → length cells.words ≡ 3
    → class.count ≤ 9999999 → (time : ℕ) → Moves cells (cells_after_all x.changes cells) x.note e time (site.object - length p.stations)
unfolding one_made stay_effect go_effect leave_effect cells_after_all object_at
class_moves p site class cells e x (idles no_come) long few time = keeps refl refl refl refl
class_moves p site class cells e x (makes_none arrival next kind arrival_is some) long few time =
    let M : CellData → Type 0 = λ c. Moves cells c [] e time (site.object - length p.stations) in
    subst (λ (cs : List Change). M (cells_after_all cs cells)) (append-nil (place_changes (place_of cells) next))
    (placed_words M (place_of cells) next [] cells (λ c words made inside. keeps made inside refl refl))
class_moves p site class cells e x (makes arrival next kind arrival_is some) long few time =
    let own : ℕ = site.object - length p.stations in
    let id : ℕ = own * JOBS_A_CLASS + (made_of cells + 1) in
    let note : Note = record { word = MADE_WORD; a = id; b = jobs_inside cells + 1 } ∷ [] in
    placed_words (λ c. Moves cells c note e time own) (place_of cells) next (Set MADE (made_of cells + 1) ∷ Set INSIDE (jobs_inside cells + 1) ∷ []) cells
    (λ c words made inside.
    let one : List ℕ = slice_set c.words MADE (made_of cells + 1) in
    adds id
    (get_or-set_other one INSIDE MADE (jobs_inside cells + 1) 0 (λ e. absurd (omega arith)) ∙ get_or-set_same c.words MADE (made_of cells + 1) 0 (omega (arith, words, long)))
    (get_or-set_same one INSIDE (jobs_inside cells + 1) 0 (omega (arith, words, long, length-set c.words MADE (made_of cells + 1))))
    (omega arith) (omega (arith, some)) refl refl)
class_moves p site class cells e x (holds law job at steps) long few time =
    let drawn = drawn_at site (place_of cells) law in
    let note : Note = record { word = DELAYED_WORD; a = job.id; b = drawn.0 } ∷ [] in
    let M : CellData → Type 0 = λ c. Moves cells c note e time (site.object - length p.stations) in
    subst (λ (cs : List Change). M (cells_after_all cs cells)) (append-nil (place_changes (place_of cells) drawn.1))
    (placed_words M (place_of cells) drawn.1 [] cells (λ c words made inside. keeps made inside refl refl))
class_moves p site class cells e x (branches branch job at steps) long few time =
    let drawn = draw site.seed site.object (place_of cells) (Choice branch.weights) in
    let note : Note = record { word = WENT_WORD; a = job.id; b = slice_index branch.steps drawn.0 } ∷ [] in
    let M : CellData → Type 0 = λ c. Moves cells c note e time (site.object - length p.stations) in
    subst (λ (cs : List Change). M (cells_after_all cs cells)) (append-nil (place_changes (place_of cells) drawn.1))
    (placed_words M (place_of cells) drawn.1 [] cells (λ c words made inside. keeps made inside refl refl))
class_moves p site class cells e x (leaves job at steps) long few time = by (jobs_inside cells == 0) refl (nat_lt (length class.route) job.step)
  where
    own : ℕ
    own = site.object - length p.stations

    age : ℕ
    age = site.tick - birth_of e.b

    of_own : class_of e.a ≡ own
    of_own =
        let named = named_of (routes_of p) e.a job at.here.is in
        let class_is : class_of e.a ≡ job.class = ap (λ n. n / JOBS_A_CLASS) named.1 ∙ named.0.own in
        let there : length p.stations + job.class ≡ site.object = ap (λ step. stands_at (length p.stations + job.class) step) (sym steps) ∙ at.here.here in
        omega (arith, class_is, there)

    by : (none : Bool) → (jobs_inside cells == 0) ≡ none → (drop : Bool)
        → (let note : Note = (if drop then record { word = DROPPED_WORD; a = job.id; b = age } ∷ [] else (record { word = LEFT_WORD; a = job.id; b = age } ∷ []) ++ overdue class.due job.id age) in
        Moves cells (cells_after_all (if none then [] else Set INSIDE (jobs_inside cells - 1) ∷ []) cells) note e time own)
    by true none true = drops refl (omega (arith, eqb-true _ _ none)) refl refl of_own
    by true none false = drops refl (omega (arith, eqb-true _ _ none)) refl refl of_own
    by false some true =
        drops (get_or-set_other cells.words INSIDE MADE (jobs_inside cells - 1) 0 (λ e. absurd (omega arith))) (get_or-set_same cells.words INSIDE (jobs_inside cells - 1) 0 (omega (arith, long))) refl refl of_own
    by false some false =
        drops (get_or-set_other cells.words INSIDE MADE (jobs_inside cells - 1) 0 (λ e. absurd (omega arith))) (get_or-set_same cells.words INSIDE (jobs_inside cells - 1) 0 (omega (arith, long))) refl refl of_own

abbrev sums : ℕ → List (ℕ × ℕ) → ℕ
sums class jobs = sum_by (weight_of (of_class class)) jobs

-- the class of the event
turn_own : (class : ℕ) (cells later : CellData) (note : Note) (e : Event) (time own : ℕ) → own ≡ class → Moves cells later note e time own
    → Turn class cells later (made_by note time) (gone_by note e)
turn_own class cells later note e time own is (keeps made inside none gone) = same made inside (ap (ids_of class) none) (ap (sums class) none) (ap (sums class) gone)
turn_own class cells later note e time own is (adds id made inside id_is few one gone) =
    let of : id / JOBS_A_CLASS ≡ class = omega arith in
    let exact : id ≡ class * JOBS_A_CLASS + 1 + made_of cells = omega arith in
    makes_one made inside (ap (ids_of class) one ∙ ids_own class id time of ∙ ap (λ n. n ∷ []) exact) (ap (sums class) one ∙ weight_own class id time of) (ap (sums class) gone)
turn_own class cells later note e time own is (drops made inside none gone of_own) =
    lets_go made inside (ap (ids_of class) none) (ap (sums class) none) (ap (sums class) gone ∙ weight_own class (id_of e.a) (birth_of e.b) (of_own ∙ is))

-- another class
turn_other : (class : ℕ) (cells later kept : CellData) (note : Note) (e : Event) (time own : ℕ) → own ≢ class → Moves cells later note e time own
    → Turn class kept kept (made_by note time) (gone_by note e)
turn_other class cells later kept note e time own apart (keeps made inside none gone) = same refl refl (ap (ids_of class) none) (ap (sums class) none) (ap (sums class) gone)
turn_other class cells later kept note e time own apart (adds id made inside id_is few one gone) =
    let of : id / JOBS_A_CLASS ≡ own = omega arith in
    let other : id / JOBS_A_CLASS ≢ class = λ eq. apart (sym of ∙ eq) in
    same refl refl (ap (ids_of class) one ∙ ids_other class id time other) (ap (sums class) one ∙ weight_other class id time other) (ap (sums class) gone)
turn_other class cells later kept note e time own apart (drops made inside none gone of_own) =
    same refl refl (ap (ids_of class) none) (ap (sums class) none) (ap (sums class) gone ∙ weight_other class (id_of e.a) (birth_of e.b) (λ eq. apart (sym of_own ∙ eq)))

module _ (p : ShopParts) (t : Terms) (s : State) (told : Key × Note) (after : State) (fine : IsShop p) (n : IsShopStep p t s told after) (before : Serving p s) (class : ℕ) (exists : class < length p.classes) where
  abbrev i : ℕ
  i = length p.stations + class

  abbrev event : Event
  event = n.step.event

  abbrev dest : ℕ
  dest = n.step.event.key.dest

  abbrev Turns : CellData → CellData → List (ℕ × ℕ) → List (ℕ × ℕ) → Type 0
  Turns b a made gone = Turn class b a made gone

  elsewhere : i ≢ dest → cells_at after i ≡ cells_at s i
  elsewhere apart = cells_elsewhere p t s told after n i apart

  made : made_next s (does told after) ≡ made_by n.step.effect.note (time_part event.key.stamp)
  made = made_is (of_class class) p t s told after fine n before

  gone : gone_next s (does told after) ≡ gone_by n.step.effect.note event
  gone = gone_is (of_class class) p t s told after fine n before

  -- by what the event tells
  told_turn : Turn class (cells_at s i) (cells_at after i) (made_by n.step.effect.note (time_part event.key.stamp)) (gone_by n.step.effect.note event)
      → Turn class (cells_at s i) (cells_at after i) (made_next s (does told after)) (gone_next s (does told after))
  told_turn turn =
      subst (λ (m : List (ℕ × ℕ)). Turn class (cells_at s i) (cells_at after i) m (gone_next s (does told after))) (sym made)
      (subst (λ (g : List (ℕ × ℕ)). Turn class (cells_at s i) (cells_at after i) (made_by n.step.effect.note (time_part event.key.stamp)) g) (sym gone) turn)

  station_turn : dest < length p.stations → Turn class (cells_at s i) (cells_at after i) (made_next s (does told after)) (gone_next s (does told after))
  station_turn early =
      let st = station_step p t s told after fine n before early in
      let words = station_words _ _ _ _ event n.step.effect st.does_so (time_part event.key.stamp) in
      let kept : cells_at after i ≡ cells_at s i = elsewhere (λ eq. absurd (omega arith)) in
      told_turn (same (ap (λ (c : CellData). made_of c) kept) (ap (λ (c : CellData). jobs_inside c) kept) (ap (ids_of class) words.made) (ap (sums class) words.made) (ap (sums class) words.gone))

  class_turn : length p.stations ≤ dest → Turn class (cells_at s i) (cells_at after i) (made_next s (does told after)) (gone_next s (does told after))
  class_turn past =
      let st = class_step p t s told after fine n before past in
      let here : CellData = cells_at s dest in
      let later : CellData = cells_after_all n.step.effect.changes here in
      let within : dest - length p.stations < length p.classes = (let there = n.exists in omega arith) in
      let few = (class_fine (routes_of p) (dest - length p.stations) fine.routes within).few in
      let lawful = class_cells_lawful p t s dest n.lawful past n.exists in
      let moves : Moves here later n.step.effect.note event (time_part event.key.stamp) (dest - length p.stations) =
      class_moves p (site_of p dest event) (class_of_object p dest) here event n.step.effect st.does_so lawful few (time_part event.key.stamp) in
      told_turn (⊎_elim
      (λ (is : i ≡ dest).
      let own : dest - length p.stations ≡ class = omega arith in
      subst (λ k. Turn class (cells_at s k) (cells_at after k) (made_by n.step.effect.note (time_part event.key.stamp)) (gone_by n.step.effect.note event)) (sym is)
      (subst (λ (c : CellData). Turn class here c (made_by n.step.effect.note (time_part event.key.stamp)) (gone_by n.step.effect.note event)) (sym (cells_here p t s told after n))
      (turn_own class here later n.step.effect.note event (time_part event.key.stamp) (dest - length p.stations) own moves)))
      (λ (apart : i ≢ dest).
      let other : dest - length p.stations ≢ class = λ eq. apart (omega arith) in
      subst (λ (c : CellData). Turn class (cells_at s i) c (made_by n.step.effect.note (time_part event.key.stamp)) (gone_by n.step.effect.note event)) (sym (elsewhere apart))
      (turn_other class here later (cells_at s i) n.step.effect.note event (time_part event.key.stamp) (dest - length p.stations) other moves))
      (cases_eq i dest))

  turn : Turn class (cells_at s i) (cells_at after i) (made_next s (does told after)) (gone_next s (does told after))
  turn = ⊎_elim (λ (early : dest < length p.stations). station_turn early) (λ (past : length p.stations ≤ dest). class_turn past) (cases_lt dest (length p.stations))

-- the jobs of a class, by their names, and how many of them are inside
pub record ClassStands (p : ShopParts) (s : State) (made : List (ℕ × ℕ)) (class : ℕ) : Type 0 where
  pub named : ids_of class made ≡ range_with_len (class * JOBS_A_CLASS + 1) (made_of (cells_at s (length p.stations + class)))
  pub inside : in_shop p (of_class class) s ≡ jobs_inside (cells_at s (length p.stations + class))

ids_more : (class : ℕ) (xs ys : List (ℕ × ℕ)) → ids_of class (xs ++ ys) ≡ ids_of class xs ++ ids_of class ys
ids_more class xs ys =
    let id : ℕ × ℕ → ℕ = λ job. job.0 in
    let own : ℕ → Bool = λ id. id / JOBS_A_CLASS == class in
    ap (filter own) (map-append id xs ys) ∙ filter-append own (map id xs) (map id ys)

stands_on : (p : ShopParts) (s after : State) (made_before made gone : List (ℕ × ℕ)) (class : ℕ) → ClassStands p s made_before class
    → in_shop p (of_class class) s + sum_by (weight_of (of_class class)) made ≡ in_shop p (of_class class) after + sum_by (weight_of (of_class class)) gone
    → Turn class (cells_at s (length p.stations + class)) (cells_at after (length p.stations + class)) made gone
    → ClassStands p after (made_before ++ made) class
stands_on p s after made_before made gone class before balances (same made_is inside ids up down) = record {
  named = ids_more class made_before made ∙ ap (λ xs. ids_of class made_before ++ xs) ids ∙ append-nil (ids_of class made_before) ∙ before.named
      ∙ ap (range_with_len (class * JOBS_A_CLASS + 1)) (sym made_is);
  inside = omega (arith, balances, up, down, before.inside, inside);
}
stands_on p s after made_before made gone class before balances (makes_one made_is inside ids up down) = record {
  named = ids_more class made_before made ∙ ap (λ xs. ids_of class made_before ++ xs) ids
      ∙ ap (λ xs. xs ++ (class * JOBS_A_CLASS + 1 + made_of (cells_at s (length p.stations + class))) ∷ []) before.named
      ∙ sym (numbers-more (class * JOBS_A_CLASS + 1) (made_of (cells_at s (length p.stations + class))) (class * JOBS_A_CLASS + 1 + made_of (cells_at s (length p.stations + class))) refl)
      ∙ ap (range_with_len (class * JOBS_A_CLASS + 1)) (sym made_is);
  inside = omega (arith, balances, up, down, before.inside, inside);
}
stands_on p s after made_before made gone class before balances (lets_go made_is inside ids up down) = record {
  named = ids_more class made_before made ∙ ap (λ xs. ids_of class made_before ++ xs) ids ∙ append-nil (ids_of class made_before) ∙ before.named
      ∙ ap (range_with_len (class * JOBS_A_CLASS + 1)) (sym made_is);
  inside = omega (arith, balances, up, down, before.inside, inside);
}

pub class_stands : (p : ShopParts) (t : Terms) → IsShop p → (class : ℕ) → class < length p.classes → (n : ℕ) → ClassStands p (after_events n (shop_meaning p) t) (made_jobs p t n) class
unfolding after_events gathered
class_stands p t fine class exists =
    let m : Meaning = shop_meaning p in
    each_number m t (λ n. ClassStands p (after_events n m t) (gathered made_next n m t) class)
    (let first : cells_at (initial_state m) (length p.stations + class) ≡ first_class_cells = class_at_start p class exists in
    record {
      named = ap (λ (c : CellData). range_with_len (class * JOBS_A_CLASS + 1) (made_of c)) (sym first);
      inside = first_in_shop p (of_class class) ∙ ap (λ (c : CellData). jobs_inside c) (sym first);
    })
    (λ n stop is_next before.
    let made : gathered made_next (suc n) m t ≡ gathered made_next n m t = gathered-more made_next m t n (stops stop) is_next ∙ append-nil (gathered made_next n m t) in
    subst (λ (s : State). ClassStands p s (gathered made_next (suc n) m t) class) (sym (after_events-stops m t n stop is_next))
    (subst (λ (jobs : List (ℕ × ℕ)). ClassStands p (after_events n m t) jobs class) (sym made) before))
    (λ n told after is_next before.
    let s : State = after_events n m t in
    let step : IsShopStep p t s told after = shop_step p t s told after fine (n, refl) is_next in
    let all : Serving p s = serving p t s fine (n, refl) in
    let made : gathered made_next (suc n) m t ≡ gathered made_next n m t ++ made_next s (does told after) = gathered-more made_next m t n (does told after) is_next in
    subst (λ (s : State). ClassStands p s (gathered made_next (suc n) m t) class) (sym (after_events-does m t n told after is_next))
    (subst (λ (jobs : List (ℕ × ℕ)). ClassStands p after jobs class) (sym made)
    (stands_on p s after (gathered made_next n m t) (made_next s (does told after)) (gone_next s (does told after)) class before
    (balance (of_class class) p t s told after fine step all) (turn p t s told after fine step all class exists))))

pub each_job_once : EachJobOnce
each_job_once p t n fine = record {
  once = λ id birth. all_once p t fine (this_job id birth) n;
  named = λ class exists. (class_stands p t fine class exists n).named;
  inside = λ class exists. (class_stands p t fine class exists n).inside;
}
