-- A run by its first event, and by the events that lead to a state.
use Rattle.std.proofs.Common.{◌≡◌, suc, ◌+◌, ◌-◌, ◌<◌, ◌≤◌, ◌≢◌, Bool, true, false, cond, List, [], ◌∷◌, refl, ap, ◌∙◌, subst, arith, eqb, ltb, eq-eqb, ne_eqb, lt-ltb, le-ltb, length}
use Rattle.std.specs.Prelude.{slice_set}
use Rattle.event_key.specs.declared.key.Key.{Key}
use Rattle.event_key.specs.Stamps.{end_stamp}
use Rattle.model_core.specs.declared.event.Event.{Event}
use Rattle.model_core.specs.declared.note.Note.{Note}
use Rattle.model_core.specs.Meaning.{Meaning}
use Rattle.sim_spec.specs.declared.terms.Terms.{Terms}
use Rattle.sim_spec.specs.declared.stop.Stop.{Stop}
use Rattle.sim_spec.specs.declared.stop.Stop.TheVariants.{End, Limit}
use Rattle.model_core.specs.declared.effect.Effect.{Effect}
use Rattle.delta_exchange.specs.Changes.{cells_after_all}
use Rattle.key_order.specs.Pending.{enqueue_all}
use Rattle.sim_spec.specs.Firing.{Fired, goes, fails, fire, emissions}
use Rattle.sim_spec.specs.State.{State, object_at, Lawful, IsSound, AllSound}
use Rattle.sim_spec.specs.Run.{Next, stops, does, next, next_of, next_fired, run, run_for, run_on, after_records, Leads}

-- an event raises the count by one, which was not the limit
abbrev Counted : Terms → State → Next → Type 0
Counted t s (stops stop) = Unit {0}
Counted t s (does told after) = (after.count ≡ s.count + 1) × (s.count ≢ t.limit)

counted_done : (t : Terms) (s : State) (e : Event) (rest : List Event) (f : Fired) → s.count ≢ t.limit → Counted t s (next_fired s e rest f)
unfolding next_fired
counted_done t s e rest (fails code) free = tt
counted_done t s e rest (goes x) free = (refl, free)

counted_limit : (t : Terms) (s : State) (e : Event) (rest : List Event) (f : Fired) (b : Bool) → eqb s.count t.limit ≡ b → Counted t s (cond b (stops Limit) (next_fired s e rest f))
counted_limit t s e rest f true is_b = tt
counted_limit t s e rest f false is_b = counted_done t s e rest f (λ same. let q = eq-eqb s.count t.limit same in cc)

counted_due : (t : Terms) (s : State) (n : Next) (b : Bool) → Counted t s n → Counted t s (cond b n (stops End))
counted_due t s n true h = h
counted_due t s n false h = tt

counted_of : (m : Meaning) (t : Terms) (s : State) (pending : List Event) → Counted t s (next_of m t s pending)
unfolding next_of
counted_of m t s [] = tt
counted_of m t s (e ∷ rest) =
    counted_due t s _ (ltb e.key.stamp (end_stamp t.end))
    (counted_limit t s e rest (fire m e.key.dest (object_at s.objects e.key.dest) e) (eqb s.count t.limit) refl)

pub next-count : (m : Meaning) (t : Terms) (s : State) (told : Key × Note) (after : State) → next m t s ≡ does told after → (after.count ≡ s.count + 1) × (s.count ≢ t.limit)
unfolding next
next-count m t s told after is_next = let P : Next → Type 0 = Counted t s in subst P is_next (counted_of m t s s.pending)

-- a run by its first event
pub run-does : (m : Meaning) (t : Terms) (s : State) (told : Key × Note) (after : State) → s.count ≤ t.limit → next m t s ≡ does told after → run m t s ≡ after_records (told ∷ []) (run m t after)
unfolding run run_for run_on
run-does m t s told after room is_next =
    let counts = next-count m t s told after is_next in
    let one : after.count ≡ s.count + 1 = counts.0 in
    let free : s.count ≢ t.limit = counts.1 in
    let fuel : t.limit - s.count ≡ suc (t.limit - after.count) = omega arith in
    ap (run_on s (run_for (t.limit - s.count) m t)) is_next
    ∙ ap (λ n. after_records (told ∷ []) (run_for n m t after)) fuel

-- a run that has stopped
pub run-stops : (m : Meaning) (t : Terms) (s : State) (stop : Stop) → next m t s ≡ stops stop → run m t s ≡ record { records = []; last = s; stop = stop }
unfolding run run_for run_on
run-stops m t s stop is_next = ap (run_on s (run_for (t.limit - s.count) m t)) is_next

-- events that lead to a state come first in the run
pub run-leads : (m : Meaning) (t : Terms) (records : List (Key × Note)) (s end : State) → s.count ≤ t.limit → Leads m t s records end → run m t s ≡ after_records records (run m t end)
unfolding Leads
run-leads m t [] s end room leads = ap (run m t) leads
run-leads m t (told ∷ records) s end room leads =
    let counts = next-count m t s told leads.0 leads.1 in
    let one : leads.0.count ≡ s.count + 1 = counts.0 in
    let free : s.count ≢ t.limit = counts.1 in
    run-does m t s told leads.0 room leads.1
    ∙ ap (after_records (told ∷ [])) (run-leads m t records leads.0 end (omega arith) leads.2)

-- what comes next, by the first pending event
pub next-none : (m : Meaning) (t : Terms) (s : State) → s.pending ≡ [] → next m t s ≡ stops End
unfolding next next_of
next-none m t s is_pending = ap (next_of m t s) is_pending

pub next-late : (m : Meaning) (t : Terms) (s : State) (e : Event) (rest : List Event) → s.pending ≡ e ∷ rest → end_stamp t.end ≤ e.key.stamp → next m t s ≡ stops End
unfolding next next_of
next-late m t s e rest is_pending late =
    let past : ltb e.key.stamp (end_stamp t.end) ≡ false = le-ltb _ _ late in
    ap (next_of m t s) is_pending
    ∙ ap (λ b. cond b (cond (eqb s.count t.limit) (stops Limit) (next_fired s e rest (fire m e.key.dest (object_at s.objects e.key.dest) e))) (stops End)) past

next-due : (m : Meaning) (t : Terms) (s : State) (e : Event) (rest : List Event) (full : Bool) → s.pending ≡ e ∷ rest → e.key.stamp < end_stamp t.end → eqb s.count t.limit ≡ full
    → next m t s ≡ cond full (stops Limit) (next_fired s e rest (fire m e.key.dest (object_at s.objects e.key.dest) e))
unfolding next next_of
next-due m t s e rest full is_pending due is_full =
    let before : ltb e.key.stamp (end_stamp t.end) ≡ true = lt-ltb _ _ due in
    ap (next_of m t s) is_pending
    ∙ ap (λ b. cond b (cond (eqb s.count t.limit) (stops Limit) (next_fired s e rest (fire m e.key.dest (object_at s.objects e.key.dest) e))) (stops End)) before
    ∙ ap (λ b. cond b (stops Limit) (next_fired s e rest (fire m e.key.dest (object_at s.objects e.key.dest) e))) is_full

pub next-full : (m : Meaning) (t : Terms) (s : State) (e : Event) (rest : List Event) → s.pending ≡ e ∷ rest → e.key.stamp < end_stamp t.end → s.count ≡ t.limit → next m t s ≡ stops Limit
next-full m t s e rest is_pending due full = next-due m t s e rest true is_pending due (eq-eqb s.count t.limit full)

pub next-fires : (m : Meaning) (t : Terms) (s : State) (e : Event) (rest : List Event) → s.pending ≡ e ∷ rest → e.key.stamp < end_stamp t.end → s.count ≢ t.limit
    → next m t s ≡ next_fired s e rest (fire m e.key.dest (object_at s.objects e.key.dest) e)
next-fires m t s e rest is_pending due free = next-due m t s e rest false is_pending due (ne_eqb s.count t.limit free)

-- what an event leaves that changes the cells so and sends so
abbrev pub state_after : State → Event → List Event → Effect → State
state_after s e rest x =
    let o = object_at s.objects e.key.dest in
    record {
      objects = slice_set s.objects e.key.dest (record { cells = cells_after_all x.changes o.cells; sent = o.sent + length x.sends });
      pending = enqueue_all (emissions e.key.stamp e.key.dest o.sent x.sends) rest;
      count = s.count + 1;
    }

-- what is known of the first event of a lawful state
pub first_sound : (m : Meaning) (t : Terms) (s : State) (e : Event) (rest : List Event) → Lawful m t s → s.pending ≡ e ∷ rest → IsSound m s.objects e
unfolding AllSound
first_sound m t s e rest lawful is_pending =
    let Q : List Event → Type 0 = AllSound m s.objects in
    let sound : AllSound m s.objects (e ∷ rest) = subst Q is_pending lawful.sound in
    sound.0
