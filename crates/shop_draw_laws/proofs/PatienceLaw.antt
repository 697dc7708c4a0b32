-- Who loses patience has waited for as long as was drawn as it joined.
use Rattle.std.proofs.Common.{◌≡◌, ◌≢◌, ◌⊎◌, ℕ, suc, ◌+◌, ◌-◌, ◌^◌, ◌<◌, List, [], ◌∷◌, ◌++◌, length, map, inl, inr, refl, sym, ap, ◌∙◌, subst, ⊎_elim, arith, append-nil, eq-eqb}
use Rattle.std.specs.Prelude.{if◌then◌else◌, ◌==◌, slice_index, Contains, Option, None, Some}
use Rattle.std.specs.List.{flat_map}
use Rattle.std.specs.Option.{option_and_then}
use Rattle.std.proofs.lemmas.Bool.{cases_eq, and_from}
use Rattle.std.proofs.lemmas.List.Elements.{Contains-append_left, Contains-append_right}
use Rattle.event_key.specs.declared.key.Key.{Key}
use Rattle.event_key.specs.Stamps.{time_part}
use Rattle.key_order.proofs.MemberLemmas.{is-first}
use Rattle.delta_exchange.specs.Changes.{CellData, line_of, cells_after_all}
use Rattle.model_core.specs.declared.effect.Effect.{Effect}
use Rattle.model_core.specs.declared.event.Event.{Event}
use Rattle.model_core.specs.declared.note.Note.{Note}
use Rattle.model_core.specs.declared.words.TheConstants.{WAITING_WORD, RENEGED_WORD}
use Rattle.model_core.specs.Meaning.{Meaning}
use Rattle.random_streams.specs.declared.delay_law.DelayLaw.{DelayLaw}
use Rattle.run_laws.specs.Reached.{after_events, gathered}
use Rattle.run_laws.specs.Sent.{first_of}
use Rattle.run_laws.proofs.Induction.{after_events-does, after_events-stops, gathered-more, each_number}
use Rattle.sim_spec.specs.declared.terms.Terms.{Terms}
use Rattle.sim_spec.specs.Run.{stops, does, next}
use Rattle.sim_spec.specs.State.{State, initial_state}
use Rattle.sim_spec.proofs.LawfulLemmas.{time_early}
use Rattle.shop_model.specs.declared.job.Job.{Job}
use Rattle.shop_model.specs.declared.kinds.TheConstants.{COME}
use Rattle.shop_model.specs.declared.levels.TheConstants.{EMPTY, NEVER}
use Rattle.shop_model.specs.declared.routes.Routes.{Routes}
use Rattle.shop_model.specs.declared.site.Site.{Site}
use Rattle.shop_model.specs.declared.station.Station.{Station}
use Rattle.shop_model.specs.declared.step.Step.TheVariants.{Visit}
use Rattle.shop_model.specs.Jobs.{id_of}
use Rattle.shop_model.specs.Meaning.{shop_meaning, site_of}
use Rattle.shop_model.specs.Routes.{step_at}
use Rattle.shop_model.specs.ShopParts.{ShopParts, IsShop, routes_of, station_at}
use Rattle.shop_model.specs.Sites.{place_of}
use Rattle.shop_model.specs.StationEffects.{until_of, take_effect, wait_effect, lose_effect, begin_effect, pass_effect, renege_effect, still_effect, works_effect}
use Rattle.shop_model.specs.Stations.{jobs_line, since_line, until_line}
use Rattle.shop_laws.specs.Told.{word_told, first_told, second_told, cells_at}
use Rattle.shop_laws.proofs.After.{readings_after, reads_after}
use Rattle.shop_laws.proofs.Cases.{StationDoes, rests, goes_on, frees, takes, waits, loses, passes, begins, ends, puts_off, reneges, shifts, stands, works}
use Rattle.shop_laws.proofs.Fine.{named_of}
use Rattle.shop_laws.proofs.JobsLaw.{empty_line}
use Rattle.shop_laws.proofs.Readings.{Readings, Reads, readings_of}
use Rattle.shop_laws.proofs.Serving.{serving, station_step}
use Rattle.shop_laws.proofs.Steps.{IsShopStep, shop_step, cells_here, cells_elsewhere, station_at_start}
use Rattle.shop_draw_laws.specs.DrawLaws.{value_at}
use Rattle.shop_draw_laws.specs.Draws.{laws_of, patience_at, step_named, step_come}
use Rattle.shop_draw_laws.specs.Patience.{Waiter, joins_next, joined}
use Rattle.shop_draw_laws.specs.PatienceLaws.{LosesPatience, PatienceIsDrawn}
use Rattle.shop_draw_laws.proofs.DrawsLaw.{come_step}
use Rattle.shop_draw_laws.proofs.EntriesAfter.{Stands, Came, stood, joins, came, ups}

-- a job that waits is among those that joined, until its patience ends, or it has none
abbrev pub IsWaiter : Routes → List Waiter → ℕ → ℕ → ℕ → Type 0
IsWaiter routes waiters a since until =
    ((until ≡ NEVER) × (patience_at (step_named routes a) ≡ None))
    ⊎ ((patience : ℕ) × (until ≡ since + patience) × Contains waiters (record { id = id_of a; since = since; patience = patience }))

waiter_more : (routes : Routes) (waiters more : List Waiter) (a since until : ℕ) → IsWaiter routes waiters a since until → IsWaiter routes (waiters ++ more) a since until
waiter_more routes waiters more a since until is = ⊎_elim
    (λ (never : (until ≡ NEVER) × (patience_at (step_named routes a) ≡ None)). inl never)
    (λ (waits : (patience : ℕ) × (until ≡ since + patience) × Contains waiters (record { id = id_of a; since = since; patience = patience })).
    inr (waits.0, waits.1, Contains-append_left waiters more (record { id = id_of a; since = since; patience = waits.0 }) waits.2))
    is

waiter_later : (routes : Routes) (waiters more : List Waiter) (a since until : ℕ) → IsWaiter routes more a since until → IsWaiter routes (waiters ++ more) a since until
waiter_later routes waiters more a since until is = ⊎_elim
    (λ (never : (until ≡ NEVER) × (patience_at (step_named routes a) ≡ None)). inl never)
    (λ (waits : (patience : ℕ) × (until ≡ since + patience) × Contains more (record { id = id_of a; since = since; patience = patience })).
    inr (waits.0, waits.1, Contains-append_right waiters more (record { id = id_of a; since = since; patience = waits.0 }) waits.2))
    is

-- each job that waits at a station is one of these
abbrev pub AreWaiters : Routes → Station → (ℕ → List ℕ) → List Waiter → Type 0
AreWaiters routes station line waiters =
    (level place a since until : ℕ) → level < station.levels → a < EMPTY → Stands line level place a since until → IsWaiter routes waiters a since until

module _ (p : ShopParts) (t : Terms) (fine : IsShop p) (i : ℕ) (exists : i < length p.stations) where
  abbrev m : Meaning
  m = shop_meaning p

  abbrev Waiting : State → List Waiter → Type 0
  Waiting s waiters = AreWaiters (routes_of p) (station_at p.stations i) (λ k. line_of (cells_at s i) k) waiters

  module _ (n : ℕ) (told : Key × Note) (after : State) (is_next : next m t (after_events n m t) ≡ does told after) where
    abbrev s : State
    s = after_events n m t

    step : IsShopStep p t s told after
    step = shop_step p t s told after fine (n, refl) is_next

    abbrev event : Event
    event = step.step.event

    abbrev dest : ℕ
    dest = step.step.event.key.dest

    elsewhere : (waiters more : List Waiter) → i ≢ step.step.event.key.dest → Waiting s waiters → Waiting after (waiters ++ more)
    elsewhere waiters more apart before level place a since until below small there =
        waiter_more (routes_of p) waiters more a since until
        (before level place a since until below small
        (subst (λ (c : CellData). Stands (λ k. line_of c k) level place a since until) (cells_elsewhere p t s told after step i apart) there))

    -- who joins at a station, by the event
    who_joins : (job : Job) (until : ℕ) → (at : event.kind ≡ COME) → told.0.dest ≡ dest → word_told told.1 ≡ WAITING_WORD → first_told told.1 ≡ job.id
        → (patience : Option DelayLaw) → patience_at (step_come (routes_of p) event) ≡ patience
        → until ≡ until_of (site_of p dest event) (cells_at s dest) patience
        → ((until ≡ NEVER) × (patience ≡ None))
        ⊎ ((drawn : ℕ) × (until ≡ time_part event.key.stamp + drawn)
        × Contains (joins_next p dest s (does told after)) (record { id = job.id; since = time_part event.key.stamp; patience = drawn }))
    who_joins job until at there word id None is until_is = inl (until_is, refl)
    who_joins job until at there word id (Some law) is until_is =
        let now : ℕ = time_part event.key.stamp in
        let drawn : ℕ = value_at p dest (place_of (cells_at s dest)) law in
        let one : List Event → List Waiter = λ es. flat_map
        (λ (e : Event). map
        (λ (law : DelayLaw). record { id = first_told told.1; since = time_part told.0.stamp; patience = value_at p dest (place_of (cells_at s dest)) law })
        (laws_of (patience_at (step_come (routes_of p) e)))) es in
        let all : joins_next p dest s (does told after) ≡ record { id = job.id; since = now; patience = drawn } ∷ [] =
        ap (λ b. if b then one (first_of s.pending) else []) (and_from (told.0.dest == dest) (word_told told.1 == WAITING_WORD) (eq-eqb told.0.dest dest there) (eq-eqb (word_told told.1) WAITING_WORD word))
        ∙ ap (λ (es : List Event). one (first_of es)) step.step.pending
        ∙ ap (λ (l : Option DelayLaw). map (λ (law : DelayLaw). let w : Waiter = record { id = first_told told.1; since = time_part told.0.stamp; patience = value_at p dest (place_of (cells_at s dest)) law } in w) (laws_of l) ++ []) is
        ∙ ap (λ k. let w : Waiter = record { id = k; since = time_part told.0.stamp; patience = drawn } in w ∷ []) id
        ∙ ap (λ (r : Key × Note). let w : Waiter = record { id = job.id; since = time_part r.0.stamp; patience = drawn } in w ∷ []) step.step.tells in
        inr (
          drawn,
          until_is,
          subst (λ (ws : List Waiter). Contains ws (record { id = job.id; since = now; patience = drawn })) (sym all)
              (is-first (record { id = job.id; since = now; patience = drawn }) (record { id = job.id; since = now; patience = drawn }) [] refl),
        )

    note_is : told.1 ≡ step.step.effect.note
    note_is = ap (λ (r : Key × Note). r.1) step.step.tells

    here : dest < length p.stations → (waiters : List Waiter) → AreWaiters (routes_of p) (station_at p.stations dest) (λ k. line_of (cells_at s dest) k) waiters
        → AreWaiters (routes_of p) (station_at p.stations dest) (λ k. line_of (cells_at after dest) k) (waiters ++ joins_next p dest s (does told after))
    here early waiters before level place a since until below small there =
        let st = station_step p t s told after fine step (serving p t s fine (n, refl)) early in
        let site : Site = site_of p dest event in
        let station : Station = station_at p.stations dest in
        let cells : CellData = cells_at s dest in
        let x : Effect = step.step.effect in
        let more : List Waiter = joins_next p dest s (does told after) in
        let r : Readings = readings_after site (routes_of p) station cells event x (readings_of cells) st.does_so in
        let reads : Reads (cells_after_all x.changes cells) r = reads_after site (routes_of p) station cells event st.at.lawful x st.does_so in
        let now : Stands (λ k. line_of (cells_after_all x.changes cells) k) level place a since until =
        subst (λ (c : CellData). Stands (λ k. line_of c k) level place a since until) (cells_here p t s told after step) there in
        let read : Stands r.line level place a since until = record {
          within = subst (λ xs. place < length xs) (reads.line (jobs_line level) (λ e. absurd (omega arith))) now.within;
          job = subst (λ xs. slice_index xs place ≡ a) (reads.line (jobs_line level) (λ e. absurd (omega arith))) now.job;
          since_is = subst (λ xs. slice_index xs place ≡ since) (reads.line (since_line level) (λ e. absurd (omega arith))) now.since_is;
          until_is = subst (λ xs. slice_index xs place ≡ until) (reads.line (until_line level) (λ e. absurd (omega arith))) now.until_is;
        } in
        by x st.does_so level place a since until below (came site (routes_of p) station cells event st.at.lawful x st.does_so level place a since until below small read) note_is small
      where
        by : (x : Effect) (does_so : StationDoes (site_of p dest event) (routes_of p) (station_at p.stations dest) (cells_at s dest) event x) (level place a since until : ℕ)
            → level < (station_at p.stations dest).levels
            → Came (site_of p dest event) (routes_of p) (station_at p.stations dest) (cells_at s dest) event x (ups (site_of p dest event) (routes_of p) (station_at p.stations dest) (cells_at s dest) event x does_so level) level place a since until
            → told.1 ≡ x.note → a < EMPTY → IsWaiter (routes_of p) (waiters ++ joins_next p dest s (does told after)) a since until
        by x does_so level place a since until below (stood was) note small =
            waiter_more (routes_of p) waiters (joins_next p dest s (does told after)) a since until (before level _ a since until below small was)
        by x does_so level place a since until below (joins one) note small =
            let more : List Waiter = joins_next p dest s (does told after) in
            let id : id_of a ≡ one.job.id = ap (λ k. id_of k) (one.named ∙ one.at.here.names.named) ∙ (named_of (routes_of p) event.a one.job one.at.here.is).1 in
            let stands_at_it : step_named (routes_of p) a ≡ Some (Visit one.visit) =
            ap (λ k. step_named (routes_of p) k) (one.named ∙ one.at.here.names.named)
            ∙ ap (λ found. option_and_then (λ (job : Job). step_at (routes_of p) job.class job.step) found) one.at.here.is ∙ one.visits in
            waiter_later (routes_of p) waiters more a since until
            (⊎_elim
            (λ (never : (until ≡ NEVER) × (one.visit.patience ≡ None)). inl (never.0, ap patience_at stands_at_it ∙ never.1))
            (λ (drawn : (d : ℕ) × (until ≡ time_part event.key.stamp + d) × Contains more (record { id = one.job.id; since = time_part event.key.stamp; patience = d })).
            inr (
              drawn.0,
              omega (arith, drawn.1, one.now),
              subst (λ k. Contains more (record { id = k; since = since; patience = drawn.0 })) (sym id)
                  (subst (λ k. Contains more (record { id = one.job.id; since = k; patience = drawn.0 })) (sym one.now) drawn.2),
            ))
            (who_joins one.job until one.at.kind (ap (λ (r : Key × Note). r.0.dest) step.step.tells)
            (ap (λ (note : Note). word_told note) note ∙ one.word) (ap (λ (note : Note). first_told note) note ∙ one.told)
            one.visit.patience (ap patience_at (come_step p (cells_at s dest) event one.job one.at.kind one.at.here.is ∙ one.visits)) one.ends))

    -- an event at a class adds none to those of a station, and what joins elsewhere none
    waiting_on : (waiters : List Waiter) → Waiting s waiters → Waiting after (waiters ++ joins_next p i s (does told after))
    waiting_on waiters before = ⊎_elim
        (λ (same : i ≡ step.step.event.key.dest).
        let W : ℕ → Type 0 = λ k. AreWaiters (routes_of p) (station_at p.stations k) (λ j. line_of (cells_at after k) j) (waiters ++ joins_next p k s (does told after)) in
        let B : ℕ → Type 0 = λ k. AreWaiters (routes_of p) (station_at p.stations k) (λ j. line_of (cells_at s k) j) waiters in
        subst W (sym same) (here (omega (arith, exists, same)) waiters (subst B same before)))
        (λ (apart : i ≢ step.step.event.key.dest). elsewhere waiters (joins_next p i s (does told after)) apart before)
        (cases_eq i step.step.event.key.dest)

  nobody : Waiting (initial_state m) []
  nobody level place a since until below small there =
      let none : line_of (cells_at (initial_state m) i) (jobs_line level) ≡ [] =
      ap (λ (c : CellData). line_of c (jobs_line level)) (station_at_start p i exists) ∙ empty_line (station_at p.stations i) (jobs_line level) (λ e. absurd (omega arith)) in
      absurd (let no = there.within in let zero : length (line_of (cells_at (initial_state m) i) (jobs_line level)) ≡ 0 = ap (λ (xs : List ℕ). length xs) none in omega arith)

  pub all_wait : (n : ℕ) → Waiting (after_events n m t) (joined p t i n)
  unfolding after_events gathered
  all_wait =
      each_number m t (λ n. Waiting (after_events n m t) (joined p t i n))
      nobody
      (λ n stop is_next before.
      let same : joined p t i (suc n) ≡ joined p t i n = gathered-more (joins_next p i) m t n (stops stop) is_next ∙ append-nil (joined p t i n) in
      subst (λ (s : State). Waiting s (joined p t i (suc n))) (sym (after_events-stops m t n stop is_next))
      (subst (λ (ws : List Waiter). Waiting (after_events n m t) ws) (sym same) before))
      (λ n told after is_next before.
      subst (λ (s : State). Waiting s (joined p t i (suc n))) (sym (after_events-does m t n told after is_next))
      (subst (λ (ws : List Waiter). Waiting after ws) (sym (gathered-more (joins_next p i) m t n (does told after) is_next))
      (waiting_on n told after is_next (joined p t i n) before)))

-- who loses patience at a station
record Reneges (site : Site) (station : Station) (cells : CellData) (note : Note) : Type 0 where
  pub level : ℕ
  pub place : ℕ
  pub below : level < station.levels
  pub within : place < length (line_of cells (jobs_line level))
  pub small : slice_index (line_of cells (jobs_line level)) place < EMPTY
  pub now : slice_index (line_of cells (until_line level)) place ≡ site.tick
  pub id : id_of (slice_index (line_of cells (jobs_line level)) place) ≡ first_told note
  pub waited : second_told note ≡ site.tick - slice_index (line_of cells (since_line level)) place

who_reneges : (site : Site) (routes : Routes) (station : Station) (cells : CellData) (e : Event) (x : Effect) → StationDoes site routes station cells e x → word_told x.note ≡ RENEGED_WORD
    → Reneges site station cells x.note
unfolding take_effect wait_effect lose_effect begin_effect pass_effect renege_effect still_effect works_effect
who_reneges site routes station cells e x (rests no_come no_done no_call no_turn) word = absurd (omega arith)
who_reneges site routes station cells e x (goes_on job at) word = absurd (omega arith)
who_reneges site routes station cells e x (frees job at some) word = absurd (omega arith)
who_reneges site routes station cells e x (takes job visit at visits nobody spare) word = absurd (omega arith)
who_reneges site routes station cells e x (waits job visit level at visits below busy) word = absurd (omega arith)
who_reneges site routes station cells e x (loses job visit at visits) word = absurd (omega arith)
who_reneges site routes station cells e x (passes level calls empty) word = absurd (omega arith)
who_reneges site routes station cells e x (begins level job visit calls there) word = absurd (omega arith)
who_reneges site routes station cells e x (ends job at below some on_time) word = absurd (omega arith)
who_reneges site routes station cells e x (puts_off job at served below late) word = absurd (omega arith)
who_reneges site routes station cells e x (reneges level place job visit kind below within now there) word = record {
  level = level;
  place = place;
  below = below;
  within = within;
  small = there.small;
  now = now;
  id = (named_of routes (slice_index (line_of cells (jobs_line level)) place) job there.found).1;
  waited = refl;
}
who_reneges site routes station cells e x (shifts kind within) word = absurd (omega arith)
who_reneges site routes station cells e x (stands breakdowns kind has up) word = absurd (omega arith)
who_reneges site routes station cells e x (works breakdowns kind has) word = absurd (omega arith)

pub patience_is_drawn : PatienceIsDrawn
patience_is_drawn p t n told after fine is_next early word =
    let s : State = after_events n (shop_meaning p) t in
    let step = shop_step p t s told after fine (n, refl) is_next in
    let P : Key × Note → Type 0 = λ told. told.0.dest < length p.stations → word_told told.1 ≡ RENEGED_WORD
    → LosesPatience (station_at p.stations told.0.dest) (cells_at s told.0.dest) (joined p t told.0.dest n) (first_told told.1) (time_part told.0.stamp) (second_told told.1) in
    subst P (sym step.step.tells)
    (λ exists is.
    let dest : ℕ = step.step.event.key.dest in
    let now : ℕ = time_part step.step.event.key.stamp in
    let x : Effect = step.step.effect in
    let one = who_reneges _ _ _ _ _ x (station_step p t s told after fine step (serving p t s fine (n, refl)) exists).does_so is in
    let a : ℕ = slice_index (line_of (cells_at s dest) (jobs_line one.level)) one.place in
    let since : ℕ = slice_index (line_of (cells_at s dest) (since_line one.level)) one.place in
    let waits : IsWaiter (routes_of p) (joined p t dest n) a since now =
    all_wait p t fine dest exists n one.level one.place a since now one.below one.small (record { within = one.within; job = refl; since_is = refl; until_is = one.now }) in
    let tick : now < 2 ^ 46 = time_early t step.step.event.key.stamp step.step.due in
    ⊎_elim
    (λ (never : (now ≡ NEVER) × (patience_at (step_named (routes_of p) a) ≡ None)). absurd (let until = never.0 in omega arith))
    (λ (drawn : (patience : ℕ) × (now ≡ since + patience) × Contains (joined p t dest n) (record { id = id_of a; since = since; patience = patience })).
    let waited : second_told x.note ≡ drawn.0 = one.waited ∙ (let e : now - since ≡ drawn.0 = omega (arith, drawn.1) in e) in
    record {
      since = since;
      waits = record { level = one.level; place = one.place; below = one.below; within = one.within; waits = one.small; its = one.id; joined = refl };
      drawn =
          subst (λ k. Contains (joined p t dest n) (record { id = first_told x.note; since = since; patience = k })) (sym waited)
          (subst (λ k. Contains (joined p t dest n) (record { id = k; since = since; patience = drawn.0 })) one.id drawn.2);
      ends = omega (arith, drawn.1, waited);
    })
    waits)
    early word
