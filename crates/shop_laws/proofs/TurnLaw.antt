-- A station that breaks down works and stands still in turn.
use Rattle.std.proofs.Common.{◌≡◌, ◌≢◌, ℕ, zero, suc, ◌+◌, ◌-◌, ◌<◌, ◌≤◌, Bool, true, false, cond, List, [], ◌∷◌, ◌++◌, length, map, take, refl, sym, ap, ◌∙◌, subst, ⊎_elim, arith, eq-eqb, ne_eqb, get_or}
use Rattle.std.specs.Prelude.{if◌then◌else◌, ◌==◌, ◌&&◌, ◌||◌, is_none, nat_le, nat_lt, sum_by, slice_index_or, Option, None, Some}
use Rattle.std.specs.List.{range_with_len, AllByRecursion as Each}
use Rattle.std.proofs.lemmas.Bool.{cases_eq, cases_lt, lt-ltb, le-ltb}
use Rattle.std.proofs.lemmas.List.{take_all, map-append, get_or-replicate}
use Rattle.std.proofs.lemmas.List.Sums.{sum_by-cons, sum_by-append, sum_by_push, sum_by_more, sum_by-le-sum_by}
use Rattle.event_key.specs.declared.key.Key.{Key}
use Rattle.delta_exchange.specs.Changes.{CellData}
use Rattle.key_order.proofs.EachLemmas.{Each-append}
use Rattle.model_core.specs.declared.effect.Effect.{Effect}
use Rattle.model_core.specs.declared.event.Event.{Event}
use Rattle.model_core.specs.declared.event.Send.{Send}
use Rattle.model_core.specs.declared.event.Start.{Start}
use Rattle.model_core.specs.declared.note.Note.{Note}
use Rattle.model_core.specs.Meaning.{Meaning}
use Rattle.model_core.proofs.Numbers.{numbers-more}
use Rattle.random_streams.specs.declared.delay_law.DelayLaw.{DelayLaw}
use Rattle.sim_spec.specs.declared.terms.Terms.{Terms}
use Rattle.sim_spec.specs.State.{State, initial_state, start_event, object_at as state_at}
use Rattle.run_laws.proofs.EnqueueSums.{sum_by-enqueue_all}
use Rattle.run_laws.proofs.Induction.{each_reached}
use Rattle.run_laws.proofs.Steps.{first_firing}
use Rattle.shop_model.specs.declared.class.Class.{Class}
use Rattle.shop_model.specs.declared.counts.Counts.{Counts}
use Rattle.shop_model.specs.declared.job.Job.{Job}
use Rattle.shop_model.specs.declared.kinds.TheConstants.{MAKE, COME, DONE, CALL, TIRE, SHIFT, BREAK, MEND}
use Rattle.shop_model.specs.declared.routes.Routes.{Routes}
use Rattle.shop_model.specs.declared.site.Site.{Site}
use Rattle.shop_model.specs.declared.station.Breakdowns.{Breakdowns}
use Rattle.shop_model.specs.declared.station.Shift.{Shift}
use Rattle.shop_model.specs.declared.station.Station.{Station}
use Rattle.shop_model.specs.declared.step.Visit.{Visit as AVisit}
use Rattle.shop_model.specs.Beginnings.{next_server, service_drawn, begin_sent}
use Rattle.shop_model.specs.Jobs.{job_at, birth_of, served_by}
use Rattle.shop_model.specs.Meaning.{shop_meaning, site_of, class_of_object}
use Rattle.shop_model.specs.Routes.{moved, no_class}
use Rattle.shop_model.specs.ShopParts.{ShopParts, IsShop, routes_of, station_at, no_station}
use Rattle.shop_model.specs.Sites.{to_self, place_of, drawn_at}
use Rattle.shop_model.specs.StartLaws.{starts_more-station, starts_more-class}
use Rattle.shop_model.specs.Starts.{start_at, first_shift, first_work, station_starts, first_arrival, class_starts, starts_below, starts_of}
use Rattle.shop_model.specs.StationEffects.{shift_sent}
use Rattle.shop_model.specs.Stations.{counts_of, call_sent, first_station_cells}
use Rattle.shop_laws.specs.Told.{cells_at}
use Rattle.shop_laws.specs.TurnLaws.{BreaksInTurn}
use Rattle.shop_laws.proofs.After.{readings_after, reads_after, one_less}
use Rattle.shop_laws.proofs.Cases.{StationDoes, rests, goes_on, frees, takes, waits, loses, passes, begins, ends, puts_off, reneges, shifts, stands, works}
use Rattle.shop_laws.proofs.ClassCases.{class_sends_each}
use Rattle.shop_laws.proofs.Fine.{sum_emissions}
use Rattle.shop_laws.proofs.Moves.{job_sent, others_sent, sends_are, one_sum, call_each, tire_each, shift_each}
use Rattle.shop_laws.proofs.Readings.{Readings, readings_of, went_out, began_down}
use Rattle.shop_laws.proofs.Serving.{Serving, serving, station_step, class_step}
use Rattle.shop_laws.proofs.Steps.{IsShopStep, shop_step, cells_here, cells_elsewhere, station_at_start, sum_before, sum_after}

-- a break or a repair of a station weighs 1, and so does a break alone
abbrev turn_at : ℕ → ℕ → ℕ → ℕ → ℕ → ℕ
turn_at i dest kind a b = cond ((kind == BREAK || kind == MEND) && dest == i) 1 0

abbrev break_at : ℕ → ℕ → ℕ → ℕ → ℕ → ℕ
break_at i dest kind a b = cond (kind == BREAK && dest == i) 1 0

abbrev turn_weight : ℕ → Event → ℕ
turn_weight i e = turn_at i e.key.dest e.kind e.a e.b

abbrev break_weight : ℕ → Event → ℕ
break_weight i e = break_at i e.key.dest e.kind e.a e.b

abbrev turn_sent : ℕ → Send → ℕ
turn_sent i s = turn_at i s.dest s.kind s.a s.b

abbrev break_sent : ℕ → Send → ℕ
break_sent i s = break_at i s.dest s.kind s.a s.b

-- an event of another kind
record Plain (kind : ℕ) : Type 0 where
  pub no_break : kind ≢ BREAK
  pub no_mend : kind ≢ MEND

plain_turn : (i dest kind a b : ℕ) → Plain kind → turn_at i dest kind a b ≡ 0
plain_turn i dest kind a b plain =
    ap (λ c. cond ((c || kind == MEND) && dest == i) 1 0) (ne_eqb kind BREAK plain.no_break) ∙ ap (λ c. cond (c && dest == i) 1 0) (ne_eqb kind MEND plain.no_mend)

turn_elsewhere : (i dest kind a b : ℕ) → dest ≢ i → turn_at i dest kind a b ≡ 0
turn_elsewhere i dest kind a b apart = by (kind == BREAK || kind == MEND) (dest == i) (ne_eqb dest i apart)
  where
    by : (turn here : Bool) → here ≡ false → ◌≡◌ {A = ℕ} (cond (turn && here) 1 0) 0
    by true true is = absurd (cc)
    by true false is = refl
    by false here is = refl

-- a break is one of the two
break_upto : (i : ℕ) (e : Event) → break_weight i e ≤ turn_weight i e
break_upto i e = by (e.kind == BREAK) (e.kind == MEND) (e.key.dest == i)
  where
    by : (a b c : Bool) → ◌≤◌ (cond (a && c) 1 0) (cond ((a || b) && c) 1 0)
    by true b true = omega arith
    by true b false = omega arith
    by false b c = omega arith

sums_plain : (i : ℕ) (sends : List Send) → Each (λ (s : Send). Plain s.kind) sends → sum_by (turn_sent i) sends ≡ 0
sums_plain i [] plain = refl
sums_plain i (s ∷ rest) plain = omega (arith, sum_by-cons (turn_sent i) s rest, plain_turn i s.dest s.kind s.a s.b plain.0, sums_plain i rest plain.1)

sums_upto : (i : ℕ) (sends : List Send) → sum_by (break_sent i) sends ≤ sum_by (turn_sent i) sends
sums_upto i sends = sum_by-le-sum_by (break_sent i) (turn_sent i) sends (λ s. by (s.kind == BREAK) (s.kind == MEND) (s.dest == i))
  where
    by : (a b c : Bool) → ◌≤◌ (cond (a && c) 1 0) (cond ((a || b) && c) 1 0)
    by true b true = omega arith
    by true b false = omega arith
    by false b c = omega arith

plain_moved : (routes : Routes) (job : Job) (b step delay : ℕ) → Plain (moved routes job b step delay).kind
unfolding moved
plain_moved routes job b step delay = record { no_break = λ e. absurd (omega arith); no_mend = λ e. absurd (omega arith) }

plain_kind : (kind : ℕ) → kind < BREAK → Plain kind
plain_kind kind below = record { no_break = λ e. absurd (omega arith); no_mend = λ e. absurd (omega arith) }

plain_begin : (site : Site) (routes : Routes) (cells : CellData) (visit : AVisit) (service birth : ℕ) (job : Job) → Plain (begin_sent site routes cells visit service job birth).kind
unfolding begin_sent
plain_begin site routes cells visit service birth job = by (is_none visit.service)
  where
    by : (takes_it : Bool) → Plain (if takes_it then moved routes job birth (job.step + 1) 0 else to_self site service DONE (job_at job.step job.id) (served_by (next_server cells) birth)).kind
    by true = plain_moved routes job birth (job.step + 1) 0
    by false = plain_kind DONE (omega arith)

plain_call : (most : ℕ) (site : Site) (counts : Counts) → Each (λ (s : Send). Plain s.kind) (call_sent most site counts)
plain_call most site counts = call_each (λ (s : Send). Plain s.kind) most site counts (plain_kind CALL (omega arith))

-- what an event at a station does to its turns
module _ (site : Site) (routes : Routes) (station : Station) (cells : CellData) (e : Event) where
  abbrev sends_of : (x : Effect) → StationDoes site routes station cells e x → List Send
  sends_of x does_so = job_sent site routes station cells e x does_so ++ others_sent site routes station cells e x does_so

  abbrev later : (x : Effect) → StationDoes site routes station cells e x → Readings
  later x does_so = readings_after site routes station cells e x (readings_of cells) does_so

  -- it is none of them and changes nothing of them; or it breaks the station down, and a repair is sent; or it repairs it, and a break is sent
  data TurnsOn (sends : List Send) (r : Readings) : Type 0 where
    stays : ((i : ℕ) → sum_by (turn_sent i) sends ≡ 0) → r.down ≡ (counts_of cells).down → (e.kind ≡ BREAK → (b : Breakdowns) → station.breakdowns ≡ Some b → (counts_of cells).down ≢ 0)
        → (e.kind ≡ MEND → station.breakdowns ≡ None) → TurnsOn sends r
    breaks : e.kind ≡ BREAK → ((i : ℕ) → sum_by (turn_sent i) sends ≡ cond (site.object == i) 1 0) → ((i : ℕ) → sum_by (break_sent i) sends ≡ 0) → TurnsOn sends r
    mends : e.kind ≡ MEND → ((i : ℕ) → sum_by (turn_sent i) sends ≡ cond (site.object == i) 1 0) → r.down ≡ 0 → TurnsOn sends r

  stays_so : (sends : List Send) (r : Readings) → Each (λ (s : Send). Plain s.kind) sends → r.down ≡ (counts_of cells).down → Plain e.kind → TurnsOn sends r
  stays_so sends r plain down kind = stays (λ i. sums_plain i sends plain) down (λ is. absurd (kind.no_break is)) (λ is. absurd (kind.no_mend is))

  kind_is : (k : ℕ) → e.kind ≡ k → k < BREAK → Plain e.kind
  kind_is k is below = plain_kind e.kind (omega arith)

  turns_on : (x : Effect) (does_so : StationDoes site routes station cells e x)
      → TurnsOn (job_sent site routes station cells e x does_so ++ others_sent site routes station cells e x does_so) (readings_after site routes station cells e x (readings_of cells) does_so)
  turns_on x (rests no_come no_done no_call no_turn) = stays (λ i. refl) refl no_turn.break no_turn.mend
  turns_on x (goes_on job at) = stays_so _ _ (plain_moved routes job e.b (job.step + 1) 0, tt) refl (kind_is COME at.kind (omega arith))
  turns_on x (frees job at some) = stays_so _ _ (plain_moved routes job e.b (job.step + 1) 0, plain_call station.most site _) refl (kind_is COME at.kind (omega arith))
  turns_on x (takes job visit at visits nobody spare) =
      stays_so _ _ (plain_begin site routes cells visit (service_drawn site cells visit).0 (birth_of e.b) job, tt) (began_down visit (counts_of cells) (readings_of cells)) (kind_is COME at.kind (omega arith))
  turns_on x (waits job visit level at visits below busy) = stays_so _ _ (tire_each (λ (s : Send). Plain s.kind) site cells level visit.patience (λ delay a b. plain_kind TIRE (omega arith))) refl (kind_is COME at.kind (omega arith))
  turns_on x (loses job visit at visits) = stays_so _ _ (plain_moved routes job e.b visit.full 0, tt) refl (kind_is COME at.kind (omega arith))
  turns_on x (passes level calls empty) = stays_so _ _ (plain_kind CALL (omega arith), tt) refl (kind_is CALL calls.kind (omega arith))
  turns_on x (begins level job visit calls there) =
      stays_so _ _ (plain_begin site routes cells visit (service_drawn site cells visit).0 _ job, plain_call station.most site _) (began_down visit (one_less cells) (went_out station.order level (record (readings_of cells) { waiting = (counts_of cells).waiting - 1 }))) (kind_is CALL calls.kind (omega arith))
  turns_on x (ends job at below some on_time) = stays_so _ _ (plain_moved routes job e.b (job.step + 1) 0, plain_call station.most site _) refl (kind_is DONE at.kind (omega arith))
  turns_on x (puts_off job at served below late) = stays_so _ _ (plain_kind DONE (omega arith), tt) refl (kind_is DONE at.kind (omega arith))
  turns_on x (reneges level place job visit kind below within now there) = stays_so _ _ (plain_moved routes job _ visit.away 0, tt) refl (kind_is TIRE kind (omega arith))
  turns_on x (shifts kind within) =
      stays_so _ _ (Each-append (λ (s : Send). Plain s.kind) (shift_sent site station e.a) _ (shift_each (λ (s : Send). Plain s.kind) site station e.a (λ delay a b. plain_kind SHIFT (omega arith))) (plain_call station.most site _)) refl (kind_is SHIFT kind (omega arith))
  turns_on x (stands breakdowns kind has up) =
      breaks kind (λ i. one_sum (turn_sent i) (to_self site (drawn_at site (place_of cells) breakdowns.down).0 MEND 0 0))
      (λ i. one_sum (break_sent i) (to_self site (drawn_at site (place_of cells) breakdowns.down).0 MEND 0 0))
  turns_on x (works breakdowns kind has) =
      mends kind
      (λ i. omega (
        arith,
        sum_by-cons (turn_sent i) (to_self site (drawn_at site (place_of cells) breakdowns.up).0 BREAK 0 0) (call_sent station.most site (record (counts_of cells) { down = 0 })),
        sums_plain i (call_sent station.most site (record (counts_of cells) { down = 0 })) (plain_call station.most site (record (counts_of cells) { down = 0 })),
      )) refl

-- what stands at a place, whatever stands where there is none
get_or_any : {A : Type 0} (xs : List A) (k : ℕ) (a b : A) → k < length xs → get_or xs k a ≡ get_or xs k b
get_or_any [] k a b within = absurd (omega arith)
get_or_any (x ∷ xs) zero a b within = refl
get_or_any (x ∷ xs) (suc k) a b within = get_or_any xs k a b (omega arith)

-- whether a station breaks down
abbrev has_turns : Option Breakdowns → ℕ
has_turns None = 0
has_turns (Some breakdowns) = 1

-- of a state: each station has its turns, and while it stands still no break is pending
record Turning (p : ShopParts) (s : State) : Type 0 where
  pub turns : (i : ℕ) → i < length p.stations → sum_by (turn_weight i) s.pending ≡ has_turns (station_at p.stations i).breakdowns
  pub works : (i : ℕ) → i < length p.stations → (counts_of (cells_at s i)).down ≢ 0 → sum_by (break_weight i) s.pending ≡ 0

module _ (p : ShopParts) (t : Terms) (s : State) (told : Key × Note) (after : State) (fine : IsShop p) (n : IsShopStep p t s told after) (all : Serving p s) (before : Turning p s) where
  abbrev event : Event
  event = n.step.event

  abbrev dest : ℕ
  dest = n.step.event.key.dest

  turns_sent : (i : ℕ) → sum_by (turn_weight i) (first_firing s n.step.event n.step.effect).events ≡ sum_by (turn_sent i) n.step.effect.sends
  turns_sent i = sum_emissions (turn_at i) event.key.stamp dest (state_at s.objects dest).sent n.step.effect.sends

  breaks_sent : (i : ℕ) → sum_by (break_weight i) (first_firing s n.step.event n.step.effect).events ≡ sum_by (break_sent i) n.step.effect.sends
  breaks_sent i = sum_emissions (break_at i) event.key.stamp dest (state_at s.objects dest).sent n.step.effect.sends

  -- an event that neither breaks this station nor repairs it, and changes nothing of its turns
  unturned : (i : ℕ) → i < length p.stations → turn_weight i event ≡ 0 → sum_by (turn_sent i) n.step.effect.sends ≡ 0 → (counts_of (cells_at after i)).down ≡ (counts_of (cells_at s i)).down
      → (sum_by (turn_weight i) after.pending ≡ has_turns (station_at p.stations i).breakdowns) × ((counts_of (cells_at after i)).down ≢ 0 → sum_by (break_weight i) after.pending ≡ 0)
  unturned i exists none sent down = (
    omega (arith, before.turns i exists, sum_before p t s told after n (turn_weight i), sum_after p t s told after n (turn_weight i), turns_sent i, none, sent),
    λ still. omega (
      arith,
      before.works i exists (λ zero. still (down ∙ zero)),
      sum_before p t s told after n (break_weight i),
      sum_after p t s told after n (break_weight i),
      breaks_sent i,
      sums_upto i n.step.effect.sends,
      sent,
    ),
  )

  elsewhere : (i : ℕ) → i < length p.stations → i ≢ dest
      → (sum_by (turn_weight i) after.pending ≡ has_turns (station_at p.stations i).breakdowns) × ((counts_of (cells_at after i)).down ≢ 0 → sum_by (break_weight i) after.pending ≡ 0)
  elsewhere i exists apart =
      unturned i exists (turn_elsewhere i dest event.kind event.a event.b (λ eq. apart (sym eq))) sent
      (ap (λ (c : CellData). (counts_of c).down) (cells_elsewhere p t s told after n i apart))
    where
      none_here : ◌≡◌ {A = ℕ} (cond (dest == i) 1 0) 0
      none_here = ap (λ b. cond b 1 0) (ne_eqb dest i (λ eq. apart (sym eq)))

      by : (sends : List Send) (r : Readings) (station : Station) (cells : CellData) → n.step.effect.sends ≡ sends → TurnsOn (site_of p dest event) (routes_of p) station cells event sends r → sum_by (turn_sent i) n.step.effect.sends ≡ 0
      by sends r station cells same (stays none down break mend) = ap (sum_by (turn_sent i)) same ∙ none i
      by sends r station cells same (breaks kind one none) = ap (sum_by (turn_sent i)) same ∙ one i ∙ none_here
      by sends r station cells same (mends kind one down) = ap (sum_by (turn_sent i)) same ∙ one i ∙ none_here

      sent : sum_by (turn_sent i) n.step.effect.sends ≡ 0
      sent = ⊎_elim
          (λ (early : dest < length p.stations).
          let st = station_step p t s told after fine n all early in
          by _ _ (station_at p.stations dest) (cells_at s dest) (sends_are (site_of p dest event) (routes_of p) (station_at p.stations dest) (cells_at s dest) event n.step.effect st.does_so)
          (turns_on (site_of p dest event) (routes_of p) (station_at p.stations dest) (cells_at s dest) event n.step.effect st.does_so))
          (λ (past : length p.stations ≤ dest).
          let st = class_step p t s told after fine n all past in
          sums_plain i n.step.effect.sends
          (class_sends_each p (site_of p dest event) (class_of_object p dest) (cells_at s dest) event st.home (λ (s : Send). Plain s.kind)
          (λ delay a b. plain_kind MAKE (omega arith)) (λ job b step delay named within. plain_moved (routes_of p) job b step delay) n.step.effect st.does_so))
          (cases_lt dest (length p.stations))

  -- an event of one of the two kinds at its own station
  turned_break : event.kind ≡ BREAK → (turn_weight dest event ≡ 1) × (break_weight dest event ≡ 1)
  turned_break kind =
      let own : ◌≡◌ {A = ℕ} (cond (dest == dest) 1 0) 1 = ap (λ b. cond b 1 0) (eq-eqb dest dest refl) in
      (ap (λ k. turn_at dest dest k event.a event.b) kind ∙ own, ap (λ k. break_at dest dest k event.a event.b) kind ∙ own)

  turned_mend : event.kind ≡ MEND → turn_weight dest event ≡ 1
  turned_mend kind =
      let own : ◌≡◌ {A = ℕ} (cond (dest == dest) 1 0) 1 = ap (λ b. cond b 1 0) (eq-eqb dest dest refl) in
      ap (λ k. turn_at dest dest k event.a event.b) kind ∙ own

  few_turns : (breakdowns : Option Breakdowns) → has_turns breakdowns ≤ 1
  few_turns None = omega arith
  few_turns (Some breakdowns) = omega arith

  -- no break passes unseen, nor a repair
  no_break : dest < length p.stations → (breakdowns : Option Breakdowns) → (station_at p.stations dest).breakdowns ≡ breakdowns
      → ((b : Breakdowns) → (station_at p.stations dest).breakdowns ≡ Some b → (counts_of (cells_at s dest)).down ≢ 0) → event.kind ≢ BREAK
  no_break early None has still kind =
      let turn = (turned_break kind).0 in
      let none : has_turns (station_at p.stations dest).breakdowns ≡ 0 = ap has_turns has in
      let sum = before.turns dest early in
      let split = sum_before p t s told after n (turn_weight dest) in
      absurd (omega arith)
  no_break early (Some b) has still kind =
      let one = (turned_break kind).1 in
      let none = before.works dest early (still b has) in
      let split = sum_before p t s told after n (break_weight dest) in
      absurd (omega arith)

  no_mend : dest < length p.stations → (station_at p.stations dest).breakdowns ≡ None → event.kind ≢ MEND
  no_mend early has kind =
      let turn = turned_mend kind in
      let none : has_turns (station_at p.stations dest).breakdowns ≡ 0 = ap has_turns has in
      let sum = before.turns dest early in
      let split = sum_before p t s told after n (turn_weight dest) in
      absurd (omega arith)

  here : dest < length p.stations
      → (sum_by (turn_weight dest) after.pending ≡ has_turns (station_at p.stations dest).breakdowns) × ((counts_of (cells_at after dest)).down ≢ 0 → sum_by (break_weight dest) after.pending ≡ 0)
  here early =
      let st = station_step p t s told after fine n all early in
      let site : Site = site_of p dest event in
      let station : Station = station_at p.stations dest in
      let cells : CellData = cells_at s dest in
      let x : Effect = n.step.effect in
      let reads = reads_after site (routes_of p) station cells event st.at.lawful x st.does_so in
      let down = ap (λ (c : CellData). (counts_of c).down) (cells_here p t s told after n) ∙ reads.down in
      by (job_sent site (routes_of p) station cells event x st.does_so ++ others_sent site (routes_of p) station cells event x st.does_so)
      (readings_after site (routes_of p) station cells event x (readings_of cells) st.does_so) (sends_are site (routes_of p) station cells event x st.does_so) down
      (turns_on site (routes_of p) station cells event x st.does_so)
    where
      own : ◌≡◌ {A = ℕ} (cond (dest == dest) 1 0) 1
      own = ap (λ b. cond b 1 0) (eq-eqb dest dest refl)

      by : (sends : List Send) (r : Readings) → n.step.effect.sends ≡ sends → (counts_of (cells_at after dest)).down ≡ r.down
          → TurnsOn (site_of p dest event) (routes_of p) (station_at p.stations dest) (cells_at s dest) event sends r
          → (sum_by (turn_weight dest) after.pending ≡ has_turns (station_at p.stations dest).breakdowns) × ((counts_of (cells_at after dest)).down ≢ 0 → sum_by (break_weight dest) after.pending ≡ 0)
      by sends r same down_is (stays none down break mend) =
          let plain : Plain event.kind = record {
            no_break = λ kind. no_break early (station_at p.stations dest).breakdowns refl (break kind) kind;
            no_mend = λ kind. no_mend early (mend kind) kind;
          } in
          unturned dest early (plain_turn dest dest event.kind event.a event.b plain) (ap (sum_by (turn_sent dest)) same ∙ none dest) (down_is ∙ down)
      by sends r same down_is (breaks kind one none) = (
        omega (
          arith,
          before.turns dest early,
          sum_before p t s told after n (turn_weight dest),
          sum_after p t s told after n (turn_weight dest),
          turns_sent dest,
          ap (sum_by (turn_sent dest)) same,
          one dest,
          own,
          (turned_break kind).0,
        ),
        λ still. omega (
          arith,
          before.turns dest early,
          few_turns (station_at p.stations dest).breakdowns,
          sum_before p t s told after n (turn_weight dest),
          (turned_break kind).0,
          sum_by-le-sum_by (break_weight dest) (turn_weight dest) n.step.rest (λ e. break_upto dest e),
          sum_after p t s told after n (break_weight dest),
          breaks_sent dest,
          ap (sum_by (break_sent dest)) same,
          none dest,
        ),
      )
      by sends r same down_is (mends kind one down) = (
        omega (
          arith,
          before.turns dest early,
          sum_before p t s told after n (turn_weight dest),
          sum_after p t s told after n (turn_weight dest),
          turns_sent dest,
          ap (sum_by (turn_sent dest)) same,
          one dest,
          own,
          turned_mend kind,
        ),
        λ still. absurd (still (down_is ∙ down)),
      )

  turning_kept : Turning p after
  turning_kept =
      let both : (i : ℕ) → i < length p.stations
      → (sum_by (turn_weight i) after.pending ≡ has_turns (station_at p.stations i).breakdowns) × ((counts_of (cells_at after i)).down ≢ 0 → sum_by (break_weight i) after.pending ≡ 0) =
      λ i exists. ⊎_elim
      (λ (is : i ≡ dest).
      subst (λ k. (sum_by (turn_weight k) after.pending ≡ has_turns (station_at p.stations k).breakdowns) × ((counts_of (cells_at after k)).down ≢ 0 → sum_by (break_weight k) after.pending ≡ 0)) (sym is)
      (here (let there : i < length p.stations = exists in omega (arith, is))))
      (λ (apart : i ≢ dest). elsewhere i exists apart)
      (cases_eq i dest) in
      record { turns = λ i exists. (both i exists).0; works = λ i exists. (both i exists).1 }

-- at the start each station that breaks down has its repair
abbrev start_turn : ℕ → Start → ℕ
start_turn i start = turn_at i start.dest start.kind start.a start.b

plain_starts : (i : ℕ) (xs : List Start) → Each (λ (x : Start). Plain x.kind) xs → sum_by (start_turn i) xs ≡ 0
plain_starts i [] plain = refl
plain_starts i (x ∷ rest) plain = omega (arith, sum_by-cons (start_turn i) x rest, plain_turn i x.dest x.kind x.a x.b plain.0, plain_starts i rest plain.1)

first_works : (i object : ℕ) (breakdowns : Option Breakdowns) → sum_by (start_turn i) (first_work object breakdowns) ≡ cond (object == i) (has_turns breakdowns) 0
first_works i object None = by (object == i)
  where
    by : (b : Bool) → ◌≡◌ {A = ℕ} 0 (cond b 0 0)
    by true = refl
    by false = refl
first_works i object (Some breakdowns) = omega (arith, sum_by-cons (start_turn i) (start_at object 0 MEND 0) [])

first_shifts : (i object : ℕ) (shifts : List Shift) → sum_by (start_turn i) (first_shift object shifts) ≡ 0
first_shifts i object [] = refl
first_shifts i object (shift ∷ rest) = plain_starts i (start_at object shift.at SHIFT 0 ∷ []) (plain_kind SHIFT (omega arith), tt)

class_plain : (object : ℕ) (class : Class) → Each (λ (x : Start). Plain x.kind) (class_starts object class)
class_plain object class =
    Each-append (λ (x : Start). Plain x.kind) (first_arrival object class.every class.first class.until) (map (λ time. start_at object time MAKE 0) class.times) (arrivals class.every) (times class.times)
  where
    first : (early : Bool) → Each (λ (x : Start). Plain x.kind) (if early then start_at object class.first MAKE 1 ∷ [] else [])
    first true = (plain_kind MAKE (omega arith), tt)
    first false = tt

    arrivals : (every : Option DelayLaw) → Each (λ (x : Start). Plain x.kind) (first_arrival object every class.first class.until)
    arrivals None = tt
    arrivals (Some every) = first (nat_le class.first class.until)

    times : (all_times : List ℕ) → Each (λ (x : Start). Plain x.kind) (map (λ time. start_at object time MAKE 0) all_times)
    times [] = tt
    times (time ∷ rest) = (plain_kind MAKE (omega arith), times rest)

module _ (p : ShopParts) (i : ℕ) (exists : i < length p.stations) where
  abbrev here_turns : ℕ
  here_turns = has_turns (station_at p.stations i).breakdowns

  stations_turns : (n : ℕ) → n ≤ length p.stations → sum_by (start_turn i) (starts_below p.stations p.classes n) ≡ cond (nat_lt i n) here_turns 0
  unfolding starts_below
  stations_turns zero within = sym (ap (λ b. cond b here_turns 0) (le-ltb i 0 (omega arith)))
  stations_turns (suc n) within =
      let station : Station = station_at p.stations n in
      let next : suc n ≡ n + 1 = omega arith in
      let read : station ≡ get_or p.stations n station = get_or_any p.stations n no_station station (omega arith) in
      let more : starts_below p.stations p.classes (suc n) ≡ starts_below p.stations p.classes n ++ station_starts n station =
      ap (λ k. starts_below p.stations p.classes k) next ∙ starts_more-station p.stations p.classes n station (omega arith) read in
      let sum : sum_by (start_turn i) (station_starts n station) ≡ cond (n == i) (has_turns station.breakdowns) 0 =
      omega (arith, sum_by-append (start_turn i) (first_shift n station.shifts) (first_work n station.breakdowns), first_shifts i n station.shifts, first_works i n station.breakdowns) in
      let all : sum_by (start_turn i) (starts_below p.stations p.classes (suc n)) ≡ cond (nat_lt i n) here_turns 0 + cond (n == i) (has_turns station.breakdowns) 0 =
      omega (
        arith,
        ap (sum_by (start_turn i)) more,
        sum_by-append (start_turn i) (starts_below p.stations p.classes n) (station_starts n station),
        stations_turns n (omega arith),
        sum,
      ) in
      ⊎_elim
      (λ (is : n ≡ i).
      let before : ◌≡◌ {A = ℕ} (cond (nat_lt i n) here_turns 0) 0 = ap (λ b. cond b here_turns 0) (le-ltb i n (omega arith)) in
      let own : cond (n == i) (has_turns station.breakdowns) 0 ≡ here_turns =
      ap (λ b. cond b (has_turns station.breakdowns) 0) (eq-eqb n i is) ∙ ap (λ k. has_turns (station_at p.stations k).breakdowns) is in
      let after : cond (nat_lt i (suc n)) here_turns 0 ≡ here_turns = ap (λ b. cond b here_turns 0) (lt-ltb i (suc n) (omega arith)) in
      omega (arith, all, before, own, after))
      (λ (other : n ≢ i).
      let own : ◌≡◌ {A = ℕ} (cond (n == i) (has_turns station.breakdowns) 0) 0 = ap (λ b. cond b (has_turns station.breakdowns) 0) (ne_eqb n i other) in
      ⊎_elim
      (λ (early : i < n).
      let before : cond (nat_lt i n) here_turns 0 ≡ here_turns = ap (λ b. cond b here_turns 0) (lt-ltb i n early) in
      let after : cond (nat_lt i (suc n)) here_turns 0 ≡ here_turns = ap (λ b. cond b here_turns 0) (lt-ltb i (suc n) (omega arith)) in
      omega (arith, all, own, before, after))
      (λ (late : n ≤ i).
      let before : ◌≡◌ {A = ℕ} (cond (nat_lt i n) here_turns 0) 0 = ap (λ b. cond b here_turns 0) (le-ltb i n late) in
      let after : ◌≡◌ {A = ℕ} (cond (nat_lt i (suc n)) here_turns 0) 0 = ap (λ b. cond b here_turns 0) (le-ltb i (suc n) (omega (arith, other))) in
      omega (arith, all, own, before, after))
      (cases_lt i n))
      (cases_eq n i)

  classes_turns : (n : ℕ) → n ≤ length p.classes → sum_by (start_turn i) (starts_below p.stations p.classes (length p.stations + n)) ≡ here_turns
  classes_turns zero within =
      let same : length p.stations + 0 ≡ length p.stations = omega arith in
      ap (λ k. sum_by (start_turn i) (starts_below p.stations p.classes k)) same
      ∙ stations_turns (length p.stations) (omega arith)
      ∙ ap (λ b. cond b here_turns 0) (lt-ltb i (length p.stations) exists)
  classes_turns (suc n) within =
      let class : Class = slice_index_or p.classes n no_class in
      let next : length p.stations + suc n ≡ length p.stations + (n + 1) = omega arith in
      let read : class ≡ get_or p.classes n class = get_or_any p.classes n no_class class (omega arith) in
      let more : starts_below p.stations p.classes (length p.stations + suc n) ≡ starts_below p.stations p.classes (length p.stations + n) ++ class_starts (length p.stations + n) class =
      ap (λ k. starts_below p.stations p.classes k) next ∙ starts_more-class p.stations p.classes n class (omega arith) read in
      omega (
        arith,
        ap (sum_by (start_turn i)) more,
        sum_by-append (start_turn i) (starts_below p.stations p.classes (length p.stations + n)) (class_starts (length p.stations + n) class),
        classes_turns n (omega arith),
        plain_starts i (class_starts (length p.stations + n) class) (class_plain (length p.stations + n) class),
      )

  -- the initial events weigh what the list of them weighs
  events_turns : (n : ℕ) → n ≤ length (starts_of p.stations p.classes)
      → sum_by (turn_weight i) (map (start_event (shop_meaning p)) (range_with_len 0 n)) ≡ sum_by (start_turn i) (take n (starts_of p.stations p.classes))
  unfolding shop_meaning
  events_turns zero within = refl
  events_turns (suc n) within =
      let next : suc n ≡ n + 1 = omega arith in
      let event : ℕ → Event = start_event (shop_meaning p) in
      let xs : List Start = starts_of p.stations p.classes in
      ap (λ k. sum_by (turn_weight i) (map event (range_with_len 0 k))) next
      ∙ ap (λ ns. sum_by (turn_weight i) (map event ns)) (numbers-more 0 n n (omega arith))
      ∙ ap (sum_by (turn_weight i)) (map-append event (range_with_len 0 n) (n ∷ []))
      ∙ sum_by_push (turn_weight i) (map event (range_with_len 0 n)) (event n)
      ∙ ap (λ k. k + turn_weight i (event n)) (events_turns n (omega arith))
      ∙ sym (sum_by_more (start_turn i) xs n (start_at 0 0 0 0) (omega arith))
      ∙ ap (λ k. sum_by (start_turn i) (take k xs)) (sym next)

  first_turns : sum_by (turn_weight i) (initial_state (shop_meaning p)).pending ≡ here_turns
  unfolding initial_state shop_meaning
  first_turns =
      let m : Meaning = shop_meaning p in
      let xs : List Start = starts_of p.stations p.classes in
      let whole : take (length xs) xs ≡ xs = take_all (length xs) xs (omega arith) in
      omega (
        arith,
        sum_by-enqueue_all (turn_weight i) (map (start_event m) (range_with_len 0 m.starts)) [],
        events_turns (length xs) (omega arith),
        ap (λ (ys : List Start). sum_by (start_turn i) ys) whole,
        classes_turns (length p.classes) (omega arith),
      )

turning_first : (p : ShopParts) → Turning p (initial_state (shop_meaning p))
unfolding first_station_cells
turning_first p = record {
  turns = λ i exists. first_turns p i exists;
  works = λ i exists still. absurd (still
      (ap (λ (c : CellData). (counts_of c).down) (station_at_start p i exists)
      ∙ get_or-replicate (4 + (station_at p.stations i).levels + (station_at p.stations i).most) 2 0 0 (omega arith)));
}

pub breaks_in_turn : BreaksInTurn
breaks_in_turn p t s i fine reached exists =
    let m : Meaning = shop_meaning p in
    let turning : Turning p s = each_reached m t (Turning p) (turning_first p)
    (λ s told after there is_next before. turning_kept p t s told after fine (shop_step p t s told after fine there is_next) (serving p t s fine there) before) s reached in
    record {
      one = λ breakdowns has. turning.turns i exists ∙ ap has_turns has;
      none = λ has. turning.turns i exists ∙ ap has_turns has;
    }
