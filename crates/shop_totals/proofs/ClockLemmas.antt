-- A run's clock stands at its last record or later, and not beyond its end.
use Rattle.std.proofs.Common.{◌≡◌, ℕ, ◌<◌, ◌≤◌, Bool, true, false, cond, List, [], ◌∷◌, refl, sym, ap, ◌∙◌, subst, append-nil, arith, eqb, ltb, ltb-true}
use Rattle.std.specs.Prelude.{All}
use Rattle.std.specs.List.{AllByRecursion as Each}
use Rattle.std.proofs.lemmas.List.Elements.{All-nil, All-push, All-weaker, All-head, All-tail}
use Rattle.event_key.specs.declared.key.Key.{Key}
use Rattle.event_key.specs.Keys.{key_lt}
use Rattle.event_key.specs.Stamps.{time_part, end_stamp}
use Rattle.event_key.proofs.Order.{stamp-le}
use Rattle.model_core.specs.declared.event.Event.{Event}
use Rattle.model_core.specs.declared.note.Note.{Note}
use Rattle.model_core.specs.Meaning.{Meaning, MeaningLaws}
use Rattle.run_laws.specs.Reached.{after_events, gathered, record_of, first_records}
use Rattle.run_laws.proofs.Induction.{gathered-more, each_number}
use Rattle.run_laws.proofs.OrderLaw.{records_first}
use Rattle.run_laws.proofs.ReachedLemmas.{run_is_reached}
use Rattle.run_laws.proofs.Steps.{IsStep, is_step}
use Rattle.run_tally.specs.Tallies.{AreOfRun, last_time}
use Rattle.shop_totals.specs.ShopLines.{clock_of}
use Rattle.sim_spec.specs.declared.stop.Stop.{Stop}
use Rattle.sim_spec.specs.declared.stop.Stop.TheVariants.{End, Limit, Fault}
use Rattle.sim_spec.specs.declared.terms.Terms.{Terms}
use Rattle.sim_spec.specs.Firing.{Fired, goes, fails, fire}
use Rattle.sim_spec.specs.Run.{stops, does, next, next_of, next_fired, run}
use Rattle.sim_spec.specs.State.{State, object_at, initial_state}
use Rattle.sim_spec.proofs.RunEndsLemma.{run-ends}

abbrev IsBy : ℕ → Key × Note → Type 0
IsBy time told = time_part told.0.stamp ≤ time

last_time-bound : (time bound : ℕ) (records : List (Key × Note)) → time ≤ bound → All (IsBy bound) records → last_time time records ≤ bound
unfolding last_time
last_time-bound time bound [] le all = le
last_time-bound time bound (told ∷ rest) le all =
    last_time-bound (time_part told.0.stamp) bound rest (All-head (IsBy bound) told rest all) (All-tail (IsBy bound) told rest all)

-- what happens doesn't happen after the end
records-by_end : (m : Meaning) (t : Terms) (n : ℕ) → All (IsBy t.end) (first_records n m t)
unfolding gathered
records-by_end m t =
    each_number m t (λ n. All (IsBy t.end) (first_records n m t)) (All-nil (IsBy t.end))
    (λ n stop is_next before. subst (All (IsBy t.end)) (sym (gathered-more record_of m t n (stops stop) is_next ∙ append-nil (first_records n m t))) before)
    (λ n told after is_next before.
    let step : IsStep m t (after_events n m t) told after = is_step m t (after_events n m t) told after is_next in
    let stamp : told.0.stamp ≡ step.event.key.stamp = ap (λ (r : Key × Note). r.0.stamp) step.tells in
    let due = step.due in
    subst (All (IsBy t.end)) (sym (gathered-more record_of m t n (does told after) is_next))
    (All-push (IsBy t.end) (first_records n m t) told before (omega (arith, stamp, due))))

-- the event that fails is the first pending one, and due
record FaultAt (t : Terms) (s : State) (key : Key) : Type 0 where
  pub event : Event
  pub rest : List Event
  pub pending : s.pending ≡ event ∷ rest
  pub fails_there : event.key ≡ key
  pub due : event.key.stamp < end_stamp t.end

fault_at : (m : Meaning) (t : Terms) (s : State) (key : Key) (code : ℕ) → next m t s ≡ stops (Fault key code) → FaultAt t s key
unfolding next next_of next_fired
fault_at m t s key code is = by s.pending refl is
  where
    by_fired : (e : Event) (rest : List Event) → s.pending ≡ e ∷ rest → e.key.stamp < end_stamp t.end → (fired : Fired)
        → next_fired s e rest fired ≡ stops (Fault key code) → FaultAt t s key
    by_fired e rest pending due (fails met) is = (let same : e.key ≡ key = cc in record { event = e; rest = rest; pending = pending; fails_there = same; due = due })
    by_fired e rest pending due (goes x) is = absurd (cc)

    by_limit : (e : Event) (rest : List Event) → s.pending ≡ e ∷ rest → e.key.stamp < end_stamp t.end → (full : Bool)
        → cond full (stops Limit) (next_fired s e rest (fire m e.key.dest (object_at s.objects e.key.dest) e)) ≡ stops (Fault key code)
        → FaultAt t s key
    by_limit e rest pending due true is = absurd (cc)
    by_limit e rest pending due false is = by_fired e rest pending due (fire m e.key.dest (object_at s.objects e.key.dest) e) is

    by_due : (e : Event) (rest : List Event) → s.pending ≡ e ∷ rest → (due : Bool) → ltb e.key.stamp (end_stamp t.end) ≡ due
        → cond due (cond (eqb s.count t.limit) (stops Limit) (next_fired s e rest (fire m e.key.dest (object_at s.objects e.key.dest) e))) (stops End) ≡ stops (Fault key code) → FaultAt t s key
    by_due e rest pending true due is = by_limit e rest pending (ltb-true e.key.stamp (end_stamp t.end) due) (eqb s.count t.limit) is
    by_due e rest pending false due is = absurd (cc)

    by : (pending : List Event) → s.pending ≡ pending → next_of m t s pending ≡ stops (Fault key code) → FaultAt t s key
    by [] pending is = absurd (cc)
    by (e ∷ rest) pending is = by_due e rest pending (ltb e.key.stamp (end_stamp t.end)) refl is

abbrev StandsWell : Terms → List (Key × Note) → Stop → Type 0
StandsWell t records stop = (last_time 0 records ≤ clock_of t records stop) × (clock_of t records stop ≤ t.end)

stands : (m : Meaning) (t : Terms) → MeaningLaws m → (n : ℕ) (stop : Stop) → next m t (after_events n m t) ≡ stops stop
    → StandsWell t (first_records n m t) stop
stands m t laws n End is = (last_time-bound 0 t.end (first_records n m t) (omega arith) (records-by_end m t n), omega arith)
stands m t laws n Limit is = (omega arith, last_time-bound 0 t.end (first_records n m t) (omega arith) (records-by_end m t n))
stands m t laws n (Fault key code) is =
    let fault : FaultAt t (after_events n m t) key = fault_at m t (after_events n m t) key code is in
    let due = fault.due in
    let stamp : fault.event.key.stamp ≡ key.stamp = ap (λ (k : Key). k.stamp) fault.fails_there in
    let earlier : (r : Key × Note) → Each (λ (e : Event). key_lt r.0 e.key ≡ true) (after_events n m t).pending → IsBy (time_part key.stamp) r =
    λ r all. (let Later : List Event → Type 0 = λ es. Each (λ (e : Event). key_lt r.0 e.key ≡ true) es in
    let le = stamp-le r.0 fault.event.key (subst Later fault.pending all).0 in omega (arith, le, stamp)) in (
      last_time-bound 0 (time_part key.stamp) (first_records n m t) (omega arith)
          (All-weaker (λ (r : Key × Note). Each (λ (e : Event). key_lt r.0 e.key ≡ true) (after_events n m t).pending) (IsBy (time_part key.stamp)) earlier (first_records n m t) (records_first m t laws n)),
      omega (arith, due, stamp),
    )

-- of all records of a run
pub clock-stands : (m : Meaning) (t : Terms) (records : List (Key × Note)) (stop : Stop) → MeaningLaws m → AreOfRun m t records stop
    → (last_time 0 records ≤ clock_of t records stop) × (clock_of t records stop ≤ t.end)
unfolding initial_state
clock-stands m t records stop laws all =
    let reached = run_is_reached m t in
    let whole = run-ends m t (initial_state m) (omega arith) in
    let Stands : List (Key × Note) → Stop → Type 0 = λ records stop. StandsWell t records stop in
    let NextIs : State → Type 0 = λ s. next m t s ≡ stops (run m t (initial_state m)).stop in
    let are : first_records reached.0 m t ≡ records = reached.1.records ∙ sym all.are_all in
    subst (λ records. Stands records stop) are
    (subst (λ stop. Stands (first_records reached.0 m t) stop) (sym all.stops_so)
    (stands m t laws reached.0 (run m t (initial_state m)).stop (subst NextIs (sym reached.1.last) whole.stop)))
