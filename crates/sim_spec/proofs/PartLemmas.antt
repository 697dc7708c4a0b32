-- One object's part of a list of events, or of what was done.
use Rattle.key_order.proofs.OrderLemmas.{differ-by-parts}
use Rattle.key_order.specs.Keys.{KeysDiffer}
use Rattle.std.proofs.Common.{◌≡◌, ◌≢◌, ℕ, ◌<◌, Bool, true, false, cond, List, [], ◌∷◌, ◌++◌, length, append_assoc, refl, sym, ap, ◌∙◌, subst, eqb, eqb-true, eq-eqb}
use Rattle.std.proofs.lemmas.List.Elements.{filter-append}
use Rattle.std.proofs.lemmas.List.{append-nil, length-map, map-append}
use Rattle.std.specs.List.{AllByRecursion as Each}
use Rattle.model_core.specs.declared.event.Event.{Event}
use Rattle.model_core.specs.Meaning.{Meaning}
use Rattle.sim_spec.specs.Firing.{ObjectState, Firing}
use Rattle.key_order.specs.Pending.{enqueue_all}
use Rattle.key_order.specs.Ascending.{IsAscending, Ascends, key_of}
use Rattle.sim_spec.specs.State.{AllSound}
use Rattle.sim_spec.specs.Cut.{emissions_of, events_of, records_of}
use Rattle.sim_spec.specs.Replay.{events_at, done_at}
use Rattle.key_order.proofs.AscendingLemmas.{Ascends-filter, Ascends-mapped}
use Rattle.key_order.proofs.EachLemmas.{Each-filter, Each-map}
use Rattle.key_order.proofs.FilterLemmas.{filter-all}
use Rattle.key_order.proofs.ShareLemmas.{filter-enqueue_all}

pub Each-events_at : (P : Event → Type 0) (object : ℕ) (es : List Event) → Each P es → Each P (events_at object es)
unfolding events_at
Each-events_at P object es all = Each-filter P (λ e. eqb e.key.dest object) es all

pub IsAscending-events_at : (object : ℕ) (es : List Event) → IsAscending es → IsAscending (events_at object es)
unfolding events_at
IsAscending-events_at object es up = Ascends-filter key_of (λ e. eqb e.key.dest object) es up

pub events_at-append : (object : ℕ) (xs ys : List Event) → events_at object (xs ++ ys) ≡ events_at object xs ++ events_at object ys
unfolding events_at
events_at-append object xs ys = filter-append (λ (e : Event). eqb e.key.dest object) xs ys

pub done_at-append : (object : ℕ) (xs ys : List (Event × Firing)) → done_at object (xs ++ ys) ≡ done_at object xs ++ done_at object ys
unfolding done_at
done_at-append object xs ys = filter-append (λ (d : Event × Firing). eqb d.0.key.dest object) xs ys

pub events_at-enqueue_all : (object : ℕ) (es xs : List Event) → IsAscending (enqueue_all es xs) → events_at object (enqueue_all es xs) ≡ enqueue_all (events_at object es) (events_at object xs)
unfolding events_at
events_at-enqueue_all object es xs up = filter-enqueue_all (λ e. eqb e.key.dest object) es xs up

-- keys differ where those of each object do
pub KeysDiffer-objects : (es : List Event) → ((object : ℕ) → KeysDiffer (events_at object es)) → KeysDiffer es
unfolding events_at
KeysDiffer-objects es parts = differ-by-parts key_of es parts

-- each event of the part is at the object
pub events_at-dest : (object : ℕ) (es : List Event) → Each (λ (e : Event). e.key.dest ≡ object) (events_at object es)
unfolding events_at
events_at-dest object [] = tt
events_at-dest object (e ∷ es) = by_dest (events_at-dest object es) (eqb e.key.dest object) refl
  where
    by_dest : Each (λ (e : Event). e.key.dest ≡ object) (events_at object es) → (b : Bool) → eqb e.key.dest object ≡ b → Each (λ (e : Event). e.key.dest ≡ object) (cond b (e ∷ events_at object es) (events_at object es))
    by_dest more true here = (eqb-true e.key.dest object here, more)
    by_dest more false there = more

-- an event is the first one of its object
pub events_at-first : (e : Event) (es : List Event) → events_at e.key.dest (e ∷ es) ≡ e ∷ events_at e.key.dest es
unfolding events_at
events_at-first e es = ap (λ b. cond b (e ∷ events_at e.key.dest es) (events_at e.key.dest es)) (eq-eqb e.key.dest e.key.dest refl)

-- an event of another object is none of the part
pub events_at-other : (object : ℕ) (e : Event) (es : List Event) → object ≢ e.key.dest → events_at object (e ∷ es) ≡ events_at object es
unfolding events_at
events_at-other object e es apart = by_dest (eqb e.key.dest object) refl
  where
    by_dest : (b : Bool) → eqb e.key.dest object ≡ b → cond b (e ∷ events_at object es) (events_at object es) ≡ events_at object es
    by_dest false there = refl
    by_dest true here = absurd (apart (sym (eqb-true e.key.dest object here)))

-- where all events are at the object, the part is the whole
pub events_at-all : (object : ℕ) (es : List Event) → Each (λ (e : Event). e.key.dest ≡ object) es → events_at object es ≡ es
unfolding events_at
events_at-all object es own =
    filter-all (λ (e : Event). eqb e.key.dest object) es
    (Each-map (λ (e : Event). e.key.dest ≡ object) (λ (e : Event). eqb e.key.dest object ≡ true) es (λ e is. eq-eqb e.key.dest object is) own)

-- the events of the part are the part of the events
pub events_at-events_of : (object : ℕ) (ds : List (Event × Firing)) → events_at object (events_of ds) ≡ events_of (done_at object ds)
unfolding events_at done_at
events_at-events_of object [] = refl
events_at-events_of object (d ∷ ds) =
    elim (eqb d.0.key.dest object) as (λ b. cond b (d.0 ∷ events_at object (events_of ds)) (events_at object (events_of ds)) ≡ events_of (cond b (d ∷ done_at object ds) (done_at object ds)))
    [ true ↦ ap (λ zs. d.0 ∷ zs) (events_at-events_of object ds) | false ↦ events_at-events_of object ds ]

-- one list after another
pub events_of-append : (xs ys : List (Event × Firing)) → events_of (xs ++ ys) ≡ events_of xs ++ events_of ys
events_of-append xs ys = map-append (λ (d : Event × Firing). d.0) xs ys

pub records_of-append : (xs ys : List (Event × Firing)) → records_of (xs ++ ys) ≡ records_of xs ++ records_of ys
records_of-append xs ys = map-append (λ (d : Event × Firing). (d.0.key, d.1.note)) xs ys

pub emissions_of-append : (xs ys : List (Event × Firing)) → emissions_of (xs ++ ys) ≡ emissions_of xs ++ emissions_of ys
unfolding emissions_of
emissions_of-append [] ys = refl
emissions_of-append (d ∷ ds) ys = ap (λ es. d.1.events ++ es) (emissions_of-append ds ys) ∙ sym (append_assoc d.1.events (emissions_of ds) (emissions_of ys))

-- one event more
pub emissions_of-more : (ds : List (Event × Firing)) (d : Event × Firing) → emissions_of (ds ++ d ∷ []) ≡ emissions_of ds ++ d.1.events
unfolding emissions_of
emissions_of-more ds d = emissions_of-append ds (d ∷ []) ∙ ap (λ es. emissions_of ds ++ es) (append-nil d.1.events)

pub length-events_of : (ds : List (Event × Firing)) → length (events_of ds) ≡ length ds
length-events_of ds = length-map ds (λ (d : Event × Firing). d.0)

-- each pending event of a lawful state is at an object of the model
pub AllSound-dest : (m : Meaning) (objects : List ObjectState) (es : List Event) → AllSound m objects es → Each (λ (e : Event). e.key.dest < m.objects) es
unfolding AllSound
AllSound-dest m objects [] sound = tt
AllSound-dest m objects (e ∷ es) sound = (sound.0.dest, AllSound-dest m objects es sound.1)

-- what holds of each part holds of the whole
other_part : (P : Event × Firing → Type 0) (object : ℕ) (d : Event × Firing) (ds : List (Event × Firing)) → Each P (done_at object (d ∷ ds)) → Each P (done_at object ds)
unfolding done_at
other_part P object d ds part = by_dest (eqb d.0.key.dest object) part
  where
    by_dest : (b : Bool) → Each P (cond b (d ∷ done_at object ds) (done_at object ds)) → Each P (done_at object ds)
    by_dest true part = part.1
    by_dest false part = part

pub Each-parts : (P : Event × Firing → Type 0) (n : ℕ) (ds : List (Event × Firing)) → Each (λ (e : Event). e.key.dest < n) (events_of ds)
    → ((object : ℕ) → object < n → Each P (done_at object ds)) → Each P ds
unfolding done_at
Each-parts P n [] inside parts = tt
Each-parts P n (d ∷ ds) inside parts =
    let here : eqb d.0.key.dest d.0.key.dest ≡ true = eq-eqb _ _ refl in
    let Q : Bool → Type 0 = λ b. Each P (cond b (d ∷ done_at d.0.key.dest ds) (done_at d.0.key.dest ds)) in
    let one : Q true = subst Q here (parts d.0.key.dest inside.0) in
    (one.0, Each-parts P n ds inside.1 (λ object below. other_part P object d ds (parts object below)))

pub Ascends-done : (ds : List (Event × Firing)) → IsAscending (events_of ds) → Ascends (λ (d : Event × Firing). d.0.key) ds
Ascends-done ds up = Ascends-mapped (λ (e : Event). e.key) (λ (d : Event × Firing). d.0) ds up
