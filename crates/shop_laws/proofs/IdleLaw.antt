-- No server idles while a job waits.
use Rattle.std.proofs.Common.{◌≡◌, ◌≢◌, ◌⊎◌, ℕ, suc, ◌+◌, ◌-◌, ◌<◌, ◌≤◌, Bool, true, false, List, [], ◌∷◌, ◌++◌, length, take, inl, inr, refl, sym, ap, ◌∙◌, subst, ⊎_elim, arith, append-nil, length-append, eqb-true}
use Rattle.std.specs.Prelude.{if◌then◌else◌, ◌==◌, is_none, nat_lt, Contains}
use Rattle.std.proofs.lemmas.Bool.{cases_eq, and_from, lt-ltb, eqb-false, or_parts}
use Rattle.std.proofs.lemmas.List.{length-take-le, get_or-replicate}
use Rattle.std.proofs.lemmas.List.Elements.{recursion_from_All, Contains-append_left, Contains-append_right}
use Rattle.std.proofs.lemmas.List.Sorted.{Contains-permutation}
use Rattle.event_key.specs.declared.key.Key.{Key}
use Rattle.event_key.specs.Stamps.{time_part, step_part, next_stamp, has_no_step}
use Rattle.key_order.specs.Pending.{enqueue_all}
use Rattle.key_order.proofs.ArrivalLemmas.{enqueue_all-permutation}
use Rattle.key_order.proofs.EachLemmas.{Each-front, Each-back}
use Rattle.key_order.proofs.MemberLemmas.{first-or-later, is-first, is-later, none-in}
use Rattle.delta_exchange.specs.Changes.{CellData, line_of, cells_after_all}
use Rattle.model_core.specs.declared.effect.Effect.{Effect}
use Rattle.model_core.specs.declared.event.Event.{Event}
use Rattle.model_core.specs.declared.event.Send.{Send}
use Rattle.model_core.specs.declared.note.Note.{Note}
use Rattle.model_core.specs.Meaning.{Meaning}
use Rattle.sim_spec.specs.declared.terms.Terms.{Terms}
use Rattle.sim_spec.specs.Firing.{has_endless_chain, emission, emissions}
use Rattle.sim_spec.specs.State.{State, initial_state, object_at as state_at}
use Rattle.sim_spec.specs.Run.{stops, does, next}
use Rattle.run_laws.specs.Reached.{after_events, gathered, record_of, first_records}
use Rattle.run_laws.proofs.Induction.{after_events-does, after_events-stops, gathered-more, each_number}
use Rattle.run_laws.proofs.Steps.{first_firing}
use Rattle.shop_model.specs.declared.counts.Counts.{Counts}
use Rattle.shop_model.specs.declared.kinds.TheConstants.{CALL}
use Rattle.shop_model.specs.declared.routes.Routes.{Routes}
use Rattle.shop_model.specs.declared.site.Site.{Site}
use Rattle.shop_model.specs.declared.station.Station.{Station}
use Rattle.shop_model.specs.declared.step.Visit.{Visit as AVisit}
use Rattle.shop_model.specs.Beginnings.{counts_begun}
use Rattle.shop_model.specs.Jobs.{server_of}
use Rattle.shop_model.specs.Meaning.{shop_meaning, site_of}
use Rattle.shop_model.specs.ShopParts.{ShopParts, IsShop, routes_of, station_at}
use Rattle.shop_model.specs.Sites.{to_self}
use Rattle.shop_model.specs.StationEffects.{shift_at, shift_sent}
use Rattle.shop_model.specs.Stations.{counts_of, busy_of, spare_of, call_sent, first_station_cells}
use Rattle.shop_laws.specs.IdleLaws.{IsCalled, NoneIdle}
use Rattle.shop_laws.specs.Told.{cells_at}
use Rattle.shop_laws.proofs.After.{readings_after, reads_after, one_less}
use Rattle.shop_laws.proofs.Cases.{StationDoes, rests, goes_on, frees, takes, waits, loses, passes, begins, ends, puts_off, reneges, shifts, stands, works}
use Rattle.shop_laws.proofs.Moves.{job_sent, others_sent, sends_are, some_free}
use Rattle.shop_laws.proofs.Readings.{Readings, Reads, readings_of, went_out, began, began_waiting}
use Rattle.shop_laws.proofs.Serving.{serving, station_step}
use Rattle.shop_laws.proofs.Steps.{AllBy, IsShopStep, shop_step, cells_here, cells_elsewhere, station_at_start}

-- the counts of a station, as its cells are read
abbrev counts_in : Readings → Counts
counts_in r = record { opened = r.opened; held = r.held; free = length r.idle; waiting = r.waiting; down = r.down }

counts_read : (cells : CellData) (r : Readings) → Reads cells r → counts_of cells ≡ counts_in r
counts_read cells r is =
    ap (λ x. let c : Counts = record (counts_of cells) { opened = x } in c) is.opened
    ∙ ap (λ x. let c : Counts = record (counts_of cells) { opened = r.opened; held = x } in c) is.held
    ∙ ap (λ x. let c : Counts = record (counts_of cells) { opened = r.opened; held = r.held; free = length x } in c) is.idle
    ∙ ap (λ x. let c : Counts = record (counts_of cells) { opened = r.opened; held = r.held; free = length r.idle; waiting = x } in c) is.waiting
    ∙ ap (λ x. let c : Counts = record (counts_of cells) { opened = r.opened; held = r.held; free = length r.idle; waiting = r.waiting; down = x } in c) is.down

-- a server could begin a job, and one waits
record Idles (most : ℕ) (counts : Counts) : Type 0 where
  pub waiting : 0 < counts.waiting
  pub spare : 0 < spare_of most counts

-- then it is called
call_is : (most : ℕ) (site : Site) (counts : Counts) → Idles most counts → call_sent most site counts ≡ to_self site 0 CALL 0 0 ∷ []
unfolding call_sent
call_is most site counts idles =
    ap (λ b. if b then to_self site 0 CALL 0 0 ∷ [] else []) (and_from (nat_lt 0 counts.waiting) (nat_lt 0 (spare_of most counts)) (lt-ltb 0 counts.waiting idles.waiting) (lt-ltb 0 (spare_of most counts) idles.spare))

-- an event sends a call, or one was due before and it is none
abbrev Fate : Site → Station → CellData → Event → List Send → Type 0
Fate site station cells e sends = Contains sends (to_self site 0 CALL 0 0) ⊎ (Idles station.most (counts_of cells) × (e.kind ≢ CALL))

no_spare_down : (most : ℕ) (counts : Counts) → counts.down ≡ 1 → 0 < spare_of most counts → ⊥
unfolding spare_of
no_spare_down most counts down some = by (counts.down == 0) refl some
  where
    by : (up : Bool) → (counts.down == 0) ≡ up → 0 < (if up then counts.opened - busy_of most counts else 0) → ⊥
    by true up some = absurd (let zero : counts.down ≡ 0 = eqb-true counts.down 0 up in omega arith)
    by false up some = absurd (omega arith)

-- the counts of a server that begins
begun_counts : (visit : AVisit) (counts : Counts) (r : Readings) → counts ≡ counts_in r → 0 < length r.idle → counts_begun visit counts ≡ counts_in (began visit counts r)
unfolding counts_begun
begun_counts visit counts r same some = by (is_none visit.service)
  where
    by : (takes_it : Bool) → (if takes_it then record counts { held = counts.held + 1 } else record counts { free = counts.free - 1 })
        ≡ counts_in (if takes_it then record r { held = counts.held + 1 } else record r { idle = take (length r.idle - 1) r.idle })
    by true = ap (λ (c : Counts). let more : Counts = record c { held = counts.held + 1 } in more) same
    by false =
        ap (λ (c : Counts). let more : Counts = record c { free = c.free - 1 } in more) same
        ∙ ap (λ n. let more : Counts = record (counts_in r) { free = n } in more) (sym (length-take-le (length r.idle - 1) r.idle (omega arith)))

-- whether a server is spare is no matter of who waits
spare_same : (most : ℕ) (counts : Counts) (waiting : ℕ) → spare_of most (record counts { waiting = waiting }) ≡ spare_of most counts
unfolding spare_of
spare_same most counts waiting = refl

module _ (site : Site) (routes : Routes) (station : Station) (cells : CellData) (e : Event) (free : 0 < spare_of station.most (counts_of cells) → 0 < length (line_of cells 0)) where
  abbrev the_call : Send
  the_call = to_self site 0 CALL 0 0

  -- a call that is sent at the end
  at_end : (front : List Send) (counts : Counts) → Idles station.most counts → Contains (front ++ call_sent station.most site counts) the_call
  at_end front counts idles =
      Contains-append_right front (call_sent station.most site counts) the_call
      (subst (λ (sends : List Send). Contains sends the_call) (sym (call_is station.most site counts idles)) (is-first the_call the_call [] refl))

  fate : (x : Effect) (does_so : StationDoes site routes station cells e x) → Idles station.most (counts_in (readings_after site routes station cells e x (readings_of cells) does_so))
      → Fate site station cells e (job_sent site routes station cells e x does_so ++ others_sent site routes station cells e x does_so)
  fate x (rests no_come no_done no_call no_turn) idles = inr (idles, λ call. no_call call idles.waiting idles.spare)
  fate x (goes_on job at) idles = inr (idles, λ call. absurd (let kind = at.kind in omega arith))
  fate x (frees job at some) idles = inl (at_end (job_sent site routes station cells e x (frees job at some)) (record (counts_of cells) { held = (counts_of cells).held - 1 }) idles)
  fate x (takes job visit at visits nobody spare) idles = absurd (
      let same = began_waiting visit (counts_of cells) (readings_of cells) in
      let some = idles.waiting in
      omega arith
      )
  fate x (waits job visit level at visits below busy) idles =
      inr (
        (record {
          waiting = ⊎_elim
              (λ (none : (counts_of cells).waiting ≡ 0). absurd (let zero = busy none in let some : 0 < spare_of station.most (counts_of cells) = subst (λ n. 0 < n) (spare_same station.most (counts_of cells) ((counts_of cells).waiting + 1)) idles.spare in omega arith))
              (λ (some : (counts_of cells).waiting ≢ 0). omega (arith, some))
              (cases_eq (counts_of cells).waiting 0);
          spare = subst (λ n. 0 < n) (spare_same station.most (counts_of cells) ((counts_of cells).waiting + 1)) idles.spare;
        }),
        λ call. absurd (let kind = at.kind in omega arith),
      )
  fate x (loses job visit at visits) idles = inr (idles, λ call. absurd (let kind = at.kind in omega arith))
  fate x (passes level calls empty) idles = inl (is-first the_call the_call [] refl)
  fate x (begins level job visit calls there) idles =
      let before : Readings = went_out station.order level (record (readings_of cells) { waiting = (counts_of cells).waiting - 1 }) in
      let same = begun_counts visit (one_less cells) before refl (free calls.spare) in
      inl (at_end (job_sent site routes station cells e x (begins level job visit calls there)) (counts_begun visit (one_less cells)) (subst (Idles station.most) (sym same) idles))
  fate x (ends job at below some on_time) idles =
      let long = length-append (line_of cells 0) (server_of e.b ∷ []) in
      let same : record (counts_of cells) { free = (counts_of cells).free + 1 } ≡ counts_in (readings_after site routes station cells e x (readings_of cells) (ends job at below some on_time)) =
      ap (λ n. let c : Counts = record (counts_of cells) { free = n } in c) (sym long) in
      inl (at_end (job_sent site routes station cells e x (ends job at below some on_time)) (record (counts_of cells) { free = (counts_of cells).free + 1 }) (subst (Idles station.most) (sym same) idles))
  fate x (puts_off job at served below late) idles = inr (idles, λ call. absurd (let kind = at.kind in omega arith))
  fate x (reneges level place job visit kind below within now there) idles =
      inr (
        (record {
          waiting = (let some = idles.waiting in omega arith);
          spare = subst (λ n. 0 < n) (spare_same station.most (counts_of cells) ((counts_of cells).waiting - 1)) idles.spare;
        }),
        λ call. absurd (omega arith),
      )
  fate x (shifts kind within) idles =
      inl (at_end (shift_sent site station e.a) (record (counts_of cells) { opened = (shift_at station e.a).servers }) idles)
  fate x (stands breakdowns kind has up) idles = absurd (no_spare_down station.most (counts_in (readings_after site routes station cells e x (readings_of cells) (stands breakdowns kind has up))) refl idles.spare)
  fate x (works breakdowns kind has) idles =
      inl (is-later the_call _ (call_sent station.most site (record (counts_of cells) { down = 0 })) (at_end [] (record (counts_of cells) { down = 0 }) idles))

-- at the start nobody waits
nobody_first : (station : Station) → (counts_of (first_station_cells station)).waiting ≡ 0
unfolding first_station_cells
nobody_first station = get_or-replicate (4 + station.levels + station.most) 1 0 0 (omega arith)

-- what is sent at once comes in the same tick
pub same_tick : (stamp : ℕ) → has_no_step stamp 0 ≡ false → time_part (next_stamp stamp 0) ≡ time_part stamp
unfolding has_no_step next_stamp
same_tick stamp more =
    let apart : step_part stamp ≢ 65535 = eqb-false (step_part stamp) 65535 more in
    omega arith

-- what is sent is among the events that are sent
pub sent_event : (stamp object serial : ℕ) (sends : List Send) (s : Send) → Contains sends s → has_endless_chain stamp sends ≡ false
    → (k : ℕ) × Contains (emissions stamp object serial sends) (emission stamp object k s) × (has_no_step stamp s.delay ≡ false)
unfolding emissions has_endless_chain
sent_event stamp object serial [] s there free = none-in s there
sent_event stamp object serial (first ∷ rest) s there free =
    let parts = or_parts _ _ free in
    ⊎_elim
    (λ (is : first ≡ s). (
      serial,
      is-first (emission stamp object serial s) (emission stamp object serial first) (emissions stamp object (serial + 1) rest) (ap (λ (s : Send). emission stamp object serial s) is),
      ap (λ (s : Send). has_no_step stamp s.delay) (sym is) ∙ parts.0,
    ))
    (λ (later : Contains rest s).
    let found = sent_event stamp object (serial + 1) rest s later parts.1 in
    (found.0, is-later (emission stamp object found.0 s) (emission stamp object serial first) (emissions stamp object (serial + 1) rest) found.1, found.2))
    (first-or-later s first rest there)

module _ (p : ShopParts) (t : Terms) (fine : IsShop p) (i : ℕ) (exists : i < length p.stations) where
  abbrev m : Meaning
  m = shop_meaning p

  abbrev most : ℕ
  most = (station_at p.stations i).most

  abbrev Calls : State → List (Key × Note) → Type 0
  Calls s records = (clock : ℕ) → AllBy clock records → Idles most (counts_of (cells_at s i)) → IsCalled s i clock

  module _ (n : ℕ) (told : Key × Note) (after : State) (is_next : next m t (after_events n m t) ≡ does told after) (before : Calls (after_events n m t) (first_records n m t)) where
    abbrev s : State
    s = after_events n m t

    step : IsShopStep p t s told after
    step = shop_step p t s told after fine (n, refl) is_next

    sent : List Event
    sent = (first_firing s step.event step.effect).events

    -- what is sent, and what was pending beside the step.event, is pending after it
    pending_after : (e : Event) → Contains (sent ++ step.rest) e → Contains after.pending e
    unfolding sent
    pending_after e there =
        subst (λ (s : State). Contains s.pending e) (sym step.leaves)
        (Contains-permutation (sent ++ step.rest) (enqueue_all sent step.rest) e (enqueue_all-permutation sent step.rest) there)

    -- a call that was pending still is, if it isn't the step.event
    still : (clock : ℕ) (called : IsCalled s i clock) → (step.event ≡ called.call → ⊥) → IsCalled after i clock
    still clock called other =
        let there : Contains (step.event ∷ step.rest) called.call = subst (λ (es : List Event). Contains es called.call) step.pending called.pending in
        record {
          call = called.call;
          pending = ⊎_elim
              (λ (is : step.event ≡ called.call). absurd (other is))
              (λ (later : Contains step.rest called.call). pending_after called.call (Contains-append_right sent step.rest called.call later))
              (first-or-later called.call step.event step.rest there);
          kind = called.kind;
          there = called.there;
          now = called.now;
        }

    -- one that is sent
    just_sent : i ≡ step.dest → (clock : ℕ) → time_part step.event.key.stamp ≤ clock → Contains step.effect.sends (to_self (site_of p step.dest step.event) 0 CALL 0 0) → IsCalled after i clock
    unfolding sent
    just_sent is clock early there =
        let call : Send = to_self (site_of p step.dest step.event) 0 CALL 0 0 in
        let found = sent_event step.event.key.stamp step.dest (state_at s.objects step.dest).sent step.effect.sends call there step.no_chain in
        let e : Event = emission step.event.key.stamp step.dest found.0 call in
        let tick : time_part e.key.stamp ≡ time_part step.event.key.stamp = same_tick step.event.key.stamp found.2 in
        record {
          call = e;
          pending = pending_after e (Contains-append_left sent step.rest e found.1);
          kind = refl;
          there = sym is;
          now = omega (arith, tick);
        }

    here : i ≡ step.dest → (clock : ℕ) → AllBy clock (first_records n m t) → time_part step.event.key.stamp ≤ clock → Idles most (counts_of (cells_at after i)) → IsCalled after i clock
    here is clock by_then early idles =
        let exists_here : step.dest < length p.stations = omega (arith, exists) in
        let st = station_step p t s told after fine step (serving p t s fine (n, refl)) exists_here in
        let x : Effect = step.effect in
        let site : Site = site_of p step.dest step.event in
        let station : Station = station_at p.stations step.dest in
        let cells : CellData = cells_at s step.dest in
        let r : Readings = readings_after site (routes_of p) station cells step.event x (readings_of cells) st.does_so in
        let reads = reads_after site (routes_of p) station cells step.event st.at.lawful x st.does_so in
        let counts : counts_of (cells_at after step.dest) ≡ counts_in r = ap (λ (c : CellData). counts_of c) (cells_here p t s told after step) ∙ counts_read (cells_after_all x.changes cells) r reads in
        let there : Idles (station_at p.stations step.dest).most (counts_of (cells_at after step.dest)) = subst (λ k. Idles (station_at p.stations k).most (counts_of (cells_at after k))) is idles in
        let later : Idles station.most (counts_in r) = subst (Idles station.most) counts there in
        ⊎_elim
        (λ (sends : Contains (job_sent site (routes_of p) station cells step.event x st.does_so ++ others_sent site (routes_of p) station cells step.event x st.does_so) (to_self site 0 CALL 0 0)).
        just_sent is clock early (subst (λ (sends : List Send). Contains sends (to_self site 0 CALL 0 0)) (sym (sends_are site (routes_of p) station cells step.event x st.does_so)) sends))
        (λ (was : Idles station.most (counts_of cells) × (step.event.kind ≢ CALL)).
        let called : IsCalled s i clock = before clock by_then (subst (λ k. Idles (station_at p.stations k).most (counts_of (cells_at s k))) (sym is) was.0) in
        still clock called (λ same. was.1 (ap (λ (e : Event). e.kind) same ∙ called.kind)))
        (fate site (routes_of p) station cells step.event (some_free p site cells step.event st.at) x st.does_so later)

    elsewhere : i ≢ step.dest → (clock : ℕ) → AllBy clock (first_records n m t) → Idles most (counts_of (cells_at after i)) → IsCalled after i clock
    elsewhere apart clock by_then idles =
        let was : Idles most (counts_of (cells_at s i)) = subst (λ (c : CellData). Idles most (counts_of c)) (cells_elsewhere p t s told after step i apart) idles in
        let called : IsCalled s i clock = before clock by_then was in
        still clock called (λ same. apart (sym called.there ∙ ap (λ (e : Event). e.key.dest) (sym same)))

    calls_on : (clock : ℕ) → AllBy clock (first_records n m t ++ told ∷ []) → Idles most (counts_of (cells_at after i)) → IsCalled after i clock
    calls_on clock all idles =
        let front : AllBy clock (first_records n m t) = Each-front (λ (r : Key × Note). time_part r.0.stamp ≤ clock) (first_records n m t) (told ∷ []) all in
        let back : AllBy clock (told ∷ []) = Each-back (λ (r : Key × Note). time_part r.0.stamp ≤ clock) (first_records n m t) (told ∷ []) all in
        let time : time_part told.0.stamp ≡ time_part step.event.key.stamp = ap (λ (r : Key × Note). time_part r.0.stamp) step.tells in
        let last : time_part told.0.stamp ≤ clock = back.0 in
        ⊎_elim (λ (is : i ≡ step.dest). here is clock front (omega arith) idles) (λ (apart : i ≢ step.dest). elsewhere apart clock front idles) (cases_eq i step.dest)

  all_called : (n : ℕ) → Calls (after_events n m t) (first_records n m t)
  unfolding after_events gathered
  all_called =
      each_number m t (λ n. Calls (after_events n m t) (first_records n m t))
      (λ clock by_then idles. absurd (
      let nobody : (counts_of (cells_at (initial_state m) i)).waiting ≡ 0 = ap (λ (c : CellData). (counts_of c).waiting) (station_at_start p i exists) ∙ nobody_first (station_at p.stations i) in
      let some = idles.waiting in
      omega arith
      ))
      (λ n stop is_next before.
      let records : first_records (suc n) m t ≡ first_records n m t = gathered-more record_of m t n (stops stop) is_next ∙ append-nil (first_records n m t) in
      subst (λ (s : State). Calls s (first_records (suc n) m t)) (sym (after_events-stops m t n stop is_next))
      (subst (λ (rs : List (Key × Note)). Calls (after_events n m t) rs) (sym records) before))
      (λ n told after is_next before.
      let records : first_records (suc n) m t ≡ first_records n m t ++ told ∷ [] = gathered-more record_of m t n (does told after) is_next in
      subst (λ (s : State). Calls s (first_records (suc n) m t)) (sym (after_events-does m t n told after is_next))
      (subst (λ (rs : List (Key × Note)). Calls after rs) (sym records) (calls_on n told after is_next before)))

pub none_idle : NoneIdle
none_idle p t n i clock fine exists by_then waiting spare =
    all_called p t fine i exists n clock (recursion_from_All (λ (r : Key × Note). time_part r.0.stamp ≤ clock) (first_records n (shop_meaning p) t) by_then)
    (record { waiting = waiting; spare = spare })
