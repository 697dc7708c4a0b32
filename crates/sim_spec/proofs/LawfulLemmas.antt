-- An event leaves a lawful state.
use Rattle.std.proofs.Common.{◌≡◌, ◌≢◌, ℕ, ◌+◌, ◌*◌, ◌^◌, ◌<◌, ◌≤◌, Bool, true, false, cond, List, [], ◌∷◌, length, sym, refl, ap, subst, arith, eqb, ltb, ltb-true, eq-eqb, get_or-set_same, length-set}
use Rattle.std.specs.Prelude.{IsTrue, slice_set}
use Rattle.event_key.specs.declared.key.Key.{Key}
use Rattle.event_key.specs.Stamps.{end_stamp, time_part}
use Rattle.model_core.specs.declared.event.Event.{Event}
use Rattle.model_core.specs.declared.note.Note.{Note}
use Rattle.model_core.specs.declared.effect.Outcome.{Outcome}
use Rattle.model_core.specs.declared.effect.Outcome.TheVariants.{Goes, Fails}
use Rattle.model_core.specs.Meaning.{Meaning, MeaningLaws, OutcomeLaws}
use Rattle.sim_spec.specs.declared.terms.Terms.{Terms}
use Rattle.sim_spec.specs.declared.stop.Stop.TheVariants.{End, Limit, Fault}
use Rattle.sim_spec.specs.Firing.{ObjectState, Firing, Fired, goes, fails, fire, fired_by, firing_of}
use Rattle.key_order.specs.Pending.{enqueue_all}
use Rattle.key_order.specs.Ascending.{IsAscending, Ascends}
use Rattle.sim_spec.specs.State.{State, Lawful, AllSound, object_at, no_object}
use Rattle.sim_spec.specs.Run.{Next, stops, does, next, next_of, next_fired, Leads}
use Rattle.key_order.proofs.EnqueueLemmas.{length-enqueue_all}
use Rattle.key_order.specs.Serials.{SerialsBelow}
use Rattle.sim_spec.proofs.SerialLemmas.{serials_sound, emissions_ascending, length-emissions}
use Rattle.sim_spec.proofs.SoundLemmas.{AllSound-enqueue_all, emissions_sound, AllSound-more, at_object}
use Rattle.sim_spec.proofs.FiringLemmas.{goes-firing}

-- what comes of a lawful object's event
pub record IsLawfulFiring (m : Meaning) (s : State) (e : Event) (x : Firing) : Type 0 where
  pub cells : IsTrue (m.lawful e.key.dest x.state.cells)
  pub few : length x.events ≤ 8
  pub sent : x.state.sent ≡ (object_at s.objects e.key.dest).sent + length x.events
  pub ordered : (xs : List Event) → SerialsBelow e.key.dest (object_at s.objects e.key.dest).sent xs → IsAscending xs → IsAscending (enqueue_all x.events xs)
  pub sound : AllSound m (slice_set s.objects e.key.dest x.state) x.events

lawful_goes : (m : Meaning) (s : State) (e : Event) (x : Firing) (o : Outcome)
    → length s.objects ≡ m.objects → e.key.dest < m.objects → time_part e.key.stamp < 2 ^ 46
    → OutcomeLaws m e.key.dest (object_at s.objects e.key.dest).cells o
    → fired_by e.key.dest (object_at s.objects e.key.dest) e o ≡ goes x
    → IsLawfulFiring m s e x
unfolding fired_by
lawful_goes m s e x (Fails code) long below early laws is_x = absurd (cc)
lawful_goes m s e x (Goes y) long below early laws is_x =
    let state = object_at s.objects e.key.dest in
    let new : Firing = firing_of e.key.dest state e y in
    let same : new ≡ x = goes-firing e.key.dest state e y x is_x in
    let P : Firing → Type 0 = λ x. IsLawfulFiring m s e x in
    let count = length-emissions e.key.stamp e.key.dest state.sent y.sends in
    let kept : (object_at (slice_set s.objects e.key.dest new.state) e.key.dest) ≡ new.state = get_or-set_same s.objects e.key.dest new.state no_object (omega arith) in
    let sent_kept : (object_at (slice_set s.objects e.key.dest new.state) e.key.dest).sent ≡ state.sent + length y.sends = ap (λ (o : ObjectState). o.sent) kept in
    subst P same (record {
      cells = laws.lawful;
      few = omega (arith, laws.few_sends);
      sent = omega arith;
      ordered = λ xs serials up. emissions_ascending e.key.stamp e.key.dest state.sent y.sends xs serials up;
      sound = emissions_sound m (slice_set s.objects e.key.dest new.state) e.key.stamp e.key.dest state.sent y.sends below early laws.sends (omega arith);
    })

lawful_done : (m : Meaning) (t : Terms) (s : State) (e : Event) (rest : List Event) (x : Firing)
    → MeaningLaws m → Lawful m t s → s.pending ≡ e ∷ rest → s.count ≢ t.limit → IsLawfulFiring m s e x
    → Lawful m t (record { objects = slice_set s.objects e.key.dest x.state; pending = enqueue_all x.events rest; count = s.count + 1 })
unfolding Ascends AllSound
lawful_done m t s e rest x laws lawful is_pending free good =
    let long : length s.objects ≡ m.objects = lawful.objects in
    let upto : s.count ≤ t.limit = lawful.count in
    let P : List Event → Type 0 = IsAscending in
    let Q : List Event → Type 0 = AllSound m s.objects in
    let up : IsAscending (e ∷ rest) = subst P is_pending lawful.ordered in
    let sound : AllSound m s.objects (e ∷ rest) = subst Q is_pending lawful.sound in
    let below : e.key.dest < m.objects = sound.0.dest in
    let few : length (e ∷ rest) ≤ 400000 + 8 * s.count = let R : List Event → Type 0 = λ p. length p ≤ 400000 + 8 * s.count in subst R is_pending lawful.few in
    let events_few : length x.events ≤ 8 = good.few in
    let sent : x.state.sent ≡ (object_at s.objects e.key.dest).sent + length x.events = good.sent in
    let new = slice_set s.objects e.key.dest x.state in
    let grows : (i : ℕ) → i < m.objects → (object_at s.objects i).sent ≤ (object_at new i).sent =
    λ i lt. let G : ObjectState → Type 0 = λ o. (object_at s.objects i).sent ≤ o.sent in
    at_object G s.objects e.key.dest i x.state (omega arith) (λ same. let w : (object_at s.objects i).sent ≡ (object_at s.objects e.key.dest).sent = ap (λ j. (object_at s.objects j).sent) same in omega arith) (omega arith) in
    let long_after = length-enqueue_all x.events rest in
    record {
      objects = let w = length-set s.objects e.key.dest x.state in omega arith;
      cells = λ i lt. let G : ObjectState → Type 0 = λ o. IsTrue (m.lawful i o.cells) in
          let H : ℕ → Type 0 = λ j. IsTrue (m.lawful j x.state.cells) in
          at_object G s.objects e.key.dest i x.state (omega arith) (λ same. subst H (sym same) good.cells) (lawful.cells i lt);
      sent = λ i lt. let G : ObjectState → Type 0 = λ o. o.sent ≤ 8 * (s.count + 1) in
          let was : (object_at s.objects i).sent ≤ 8 * s.count = lawful.sent i lt in
          let at : (object_at s.objects e.key.dest).sent ≤ 8 * s.count = lawful.sent e.key.dest below in
          at_object G s.objects e.key.dest i x.state (omega arith) (λ same. omega arith) (omega arith);
      ordered = good.ordered rest (serials_sound m s.objects e.key.dest rest laws.objects below sound.1) up.1;
      sound = AllSound-enqueue_all m new x.events rest good.sound (AllSound-more m s.objects new rest grows sound.1);
      few = omega arith;
      count = omega arith;
    }

-- a stamp below the end bound is of an early tick
pub time_early : (t : Terms) (stamp : ℕ) → stamp < end_stamp t.end → time_part stamp < 2 ^ 46
time_early t stamp due = let e : t.end < 2 ^ 46 = t.end_in_range in omega arith

-- what a firing of a lawful object leaves
pub firing_lawful : (m : Meaning) (t : Terms) (s : State) (e : Event) (rest : List Event) (x : Firing)
    → MeaningLaws m → Lawful m t s → s.pending ≡ e ∷ rest → e.key.stamp < end_stamp t.end → fire m e.key.dest (object_at s.objects e.key.dest) e ≡ goes x
    → IsLawfulFiring m s e x
unfolding fire AllSound
firing_lawful m t s e rest x laws lawful is_pending due is_x =
    let Q : List Event → Type 0 = AllSound m s.objects in
    let sound : AllSound m s.objects (e ∷ rest) = subst Q is_pending lawful.sound in
    let below : e.key.dest < m.objects = sound.0.dest in
    lawful_goes m s e x (m.effect e.key.dest (object_at s.objects e.key.dest).cells e) lawful.objects below (time_early t e.key.stamp due)
    (laws.outcome e.key.dest (object_at s.objects e.key.dest).cells e below (lawful.cells e.key.dest below)) is_x

abbrev LawfulNext : Meaning → Terms → Next → Type 0
LawfulNext m t (stops stop) = Unit {0}
LawfulNext m t (does told after) = Lawful m t after

lawful_next_done : (m : Meaning) (t : Terms) (s : State) (e : Event) (rest : List Event) (f : Fired)
    → MeaningLaws m → Lawful m t s → s.pending ≡ e ∷ rest → e.key.stamp < end_stamp t.end → s.count ≢ t.limit
    → fire m e.key.dest (object_at s.objects e.key.dest) e ≡ f → LawfulNext m t (next_fired s e rest f)
unfolding next_fired
lawful_next_done m t s e rest (fails code) laws lawful is_pending due free is_f = tt
lawful_next_done m t s e rest (goes x) laws lawful is_pending due free is_f =
    lawful_done m t s e rest x laws lawful is_pending free (firing_lawful m t s e rest x laws lawful is_pending due is_f)

lawful_next_of : (m : Meaning) (t : Terms) (s : State) (pending : List Event) → MeaningLaws m → Lawful m t s → s.pending ≡ pending → LawfulNext m t (next_of m t s pending)
unfolding next_of
lawful_next_of m t s [] laws lawful is_pending = tt
lawful_next_of m t s (e ∷ rest) laws lawful is_pending = by_due (ltb e.key.stamp (end_stamp t.end)) refl
  where
    by_limit : e.key.stamp < end_stamp t.end → (b : Bool) → eqb s.count t.limit ≡ b → LawfulNext m t (cond b (stops Limit) (next_fired s e rest (fire m e.key.dest (object_at s.objects e.key.dest) e)))
    by_limit due true h = tt
    by_limit due false h = lawful_next_done m t s e rest _ laws lawful is_pending due (λ same. let q = eq-eqb s.count t.limit same in cc) refl

    by_due : (b : Bool) → ltb e.key.stamp (end_stamp t.end) ≡ b → LawfulNext m t (cond b (cond (eqb s.count t.limit) (stops Limit) (next_fired s e rest (fire m e.key.dest (object_at s.objects e.key.dest) e))) (stops End))
    by_due true h = by_limit (ltb-true _ _ h) (eqb s.count t.limit) refl
    by_due false h = tt

-- an event leaves a lawful state
pub next-lawful : (m : Meaning) (t : Terms) (s : State) (told : Key × Note) (after : State) → MeaningLaws m → Lawful m t s → next m t s ≡ does told after → Lawful m t after
unfolding next
next-lawful m t s told after laws lawful is_next = let P : Next → Type 0 = LawfulNext m t in subst P is_next (lawful_next_of m t s s.pending laws lawful refl)

-- so does a list of events
pub leads-lawful : (m : Meaning) (t : Terms) (records : List (Key × Note)) (s end : State) → MeaningLaws m → Lawful m t s → Leads m t s records end → Lawful m t end
unfolding Leads
leads-lawful m t [] s end laws lawful leads = let P : State → Type 0 = Lawful m t in subst P leads lawful
leads-lawful m t (told ∷ records) s end laws lawful leads = leads-lawful m t records leads.0 end laws (next-lawful m t s told leads.0 laws lawful leads.1) leads.2

-- what comes next is at an object of the model
abbrev pub IsPlaced : Meaning → Next → Type 0
IsPlaced m (stops (Fault key code)) = key.dest < m.objects
IsPlaced m (stops End) = Unit {0}
IsPlaced m (stops Limit) = Unit {0}
IsPlaced m (does told after) = told.0.dest < m.objects

placed_of : (m : Meaning) (t : Terms) (s : State) (pending : List Event) → AllSound m s.objects pending → IsPlaced m (next_of m t s pending)
unfolding next_of next_fired AllSound
placed_of m t s [] sound = tt
placed_of m t s (e ∷ rest) sound =
    elim (ltb e.key.stamp (end_stamp t.end)) as (λ b. IsPlaced m (cond b (cond (eqb s.count t.limit) (stops Limit) (next_fired s e rest (fire m e.key.dest (object_at s.objects e.key.dest) e))) (stops End))) [
      | true ↦ elim (eqb s.count t.limit) as (λ b. IsPlaced m (cond b (stops Limit) (next_fired s e rest (fire m e.key.dest (object_at s.objects e.key.dest) e)))) [
        | true ↦ tt
        | false ↦ elim (fire m e.key.dest (object_at s.objects e.key.dest) e) as (λ f. IsPlaced m (next_fired s e rest f)) [ goes x ↦ sound.0.dest | fails code ↦ sound.0.dest ]
      ]
      | false ↦ tt
    ]

pub next-placed : (m : Meaning) (t : Terms) (s : State) (n : Next) → Lawful m t s → next m t s ≡ n → IsPlaced m n
unfolding next
next-placed m t s n lawful is_next = let P : Next → Type 0 = IsPlaced m in subst P is_next (placed_of m t s s.pending lawful.sound)
