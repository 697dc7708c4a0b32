-- Induction over a bucket, and over a replay: what each first event makes of it.
use Rattle.std.proofs.Common.{◌≡◌, ℕ, ◌<◌, ◌≤◌, Bool, true, false, cond, List, [], ◌∷◌, refl, ltb, ltb-true, ltb-false, lt-ltb, le-ltb}
use Rattle.std.specs.Prelude.{slice_set, Some, None}
use Rattle.model_core.specs.declared.event.Event.{Event}
use Rattle.model_core.specs.Meaning.{Meaning}
use Rattle.sim_spec.specs.Firing.{ObjectState, Firing, Fired, goes, fails, fire}
use Rattle.sim_spec.specs.State.{object_at}
use Rattle.sim_spec.specs.Horizon.{HorizonBucket, empty_bucket, bucket_with, bucket_fired, bucket_below}
use Rattle.key_order.specs.Stamps.{least_stamp}
use Rattle.sim_spec.specs.Replay.{Replay, replay_with, replay_fired, replay}

-- an event at its object
abbrev pub fire_at : Meaning → List ObjectState → Event → Fired
fire_at m objects e = fire m e.key.dest (object_at objects e.key.dest) e

-- the objects after an event
abbrev pub objects_with : List ObjectState → Event → Firing → List ObjectState
objects_with objects e x = slice_set objects e.key.dest x.state

-- P of each bucket, by its horizon at the start, its objects and its pending events
pub record BucketCases (m : Meaning) (P : ℕ → List ObjectState → List Event → HorizonBucket → Type 0) : Type 0 where
  pub none : (h : ℕ) (objects : List ObjectState) → P h objects [] (empty_bucket h)
  pub past : (h : ℕ) (objects : List ObjectState) (e : Event) (rest : List Event) → h ≤ e.key.stamp → P h objects (e ∷ rest) (empty_bucket h)
  pub faults : (h : ℕ) (objects : List ObjectState) (e : Event) (rest : List Event) (code : ℕ) → e.key.stamp < h → fire_at m objects e ≡ fails code
      → P h objects (e ∷ rest) (record { done = []; horizon = h; fault = Some (e.key, code) })
  pub goes : (h : ℕ) (objects : List ObjectState) (e : Event) (rest : List Event) (x : Firing) → e.key.stamp < h → fire_at m objects e ≡ goes x
      → P (least_stamp h x.events) (objects_with objects e x) rest (bucket_below m (least_stamp h x.events) (objects_with objects e x) rest)
      → P h objects (e ∷ rest) (bucket_with (e, x) (bucket_below m (least_stamp h x.events) (objects_with objects e x) rest))

fired_case : (m : Meaning) (P : ℕ → List ObjectState → List Event → HorizonBucket → Type 0) → BucketCases m P
    → (h : ℕ) (objects : List ObjectState) (e : Event) (rest : List Event)
    → ((g : ℕ) (os : List ObjectState) → P g os rest (bucket_below m g os rest))
    → (below : Bool) → ltb e.key.stamp h ≡ below → (f : Fired) → fire_at m objects e ≡ f
    → P h objects (e ∷ rest) (cond below (bucket_fired h e (λ x. bucket_below m (least_stamp h x.events) (objects_with objects e x) rest) f) (empty_bucket h))
unfolding bucket_fired
fired_case m P cases h objects e rest more false is_past f is_f = cases.past h objects e rest (ltb-false e.key.stamp h is_past)
fired_case m P cases h objects e rest more true is_below (fails code) is_f = cases.faults h objects e rest code (ltb-true e.key.stamp h is_below) is_f
fired_case m P cases h objects e rest more true is_below (goes x) is_f =
    cases.goes h objects e rest x (ltb-true e.key.stamp h is_below) is_f (more (least_stamp h x.events) (objects_with objects e x))

pub bucket-induction : (m : Meaning) (P : ℕ → List ObjectState → List Event → HorizonBucket → Type 0) → BucketCases m P
    → (h : ℕ) (objects : List ObjectState) (pending : List Event) → P h objects pending (bucket_below m h objects pending)
unfolding bucket_below
bucket-induction m P cases h objects [] = cases.none h objects
bucket-induction m P cases h objects (e ∷ rest) =
    fired_case m P cases h objects e rest (λ g os. bucket-induction m P cases g os rest) (ltb e.key.stamp h) refl (fire_at m objects e) refl

-- the bucket of a first event that is past the horizon, that fails, or that goes
pub bucket-late : (m : Meaning) (h : ℕ) (objects : List ObjectState) (e : Event) (rest : List Event) → h ≤ e.key.stamp
    → bucket_below m h objects (e ∷ rest) ≡ empty_bucket h
unfolding bucket_below
bucket-late m h objects e rest late =
    let past : ltb e.key.stamp h ≡ false = le-ltb _ _ late in
    λ i. cond (past i) (bucket_fired h e (λ x. bucket_below m (least_stamp h x.events) (objects_with objects e x) rest) (fire_at m objects e)) (empty_bucket h)

bucket_first : (m : Meaning) (h : ℕ) (objects : List ObjectState) (e : Event) (rest : List Event) (f : Fired) → e.key.stamp < h → fire_at m objects e ≡ f
    → bucket_below m h objects (e ∷ rest) ≡ bucket_fired h e (λ x. bucket_below m (least_stamp h x.events) (objects_with objects e x) rest) f
unfolding bucket_below
bucket_first m h objects e rest f early is_f =
    let below : ltb e.key.stamp h ≡ true = lt-ltb _ _ early in
    λ i. cond (below i) (bucket_fired h e (λ x. bucket_below m (least_stamp h x.events) (objects_with objects e x) rest) (is_f i)) (empty_bucket h)

pub bucket-fails : (m : Meaning) (h : ℕ) (objects : List ObjectState) (e : Event) (rest : List Event) (code : ℕ) → e.key.stamp < h → fire_at m objects e ≡ fails code
    → bucket_below m h objects (e ∷ rest) ≡ record { done = []; horizon = h; fault = Some (e.key, code) }
unfolding bucket_fired
bucket-fails m h objects e rest code early is_f = bucket_first m h objects e rest (fails code) early is_f

pub bucket-goes : (m : Meaning) (h : ℕ) (objects : List ObjectState) (e : Event) (rest : List Event) (x : Firing) → e.key.stamp < h → fire_at m objects e ≡ goes x
    → bucket_below m h objects (e ∷ rest) ≡ bucket_with (e, x) (bucket_below m (least_stamp h x.events) (objects_with objects e x) rest)
unfolding bucket_fired
bucket-goes m h objects e rest x early is_x = bucket_first m h objects e rest (goes x) early is_x

-- P of each replay, by its object's state at the start and its events
pub record ReplayCases (m : Meaning) (object : ℕ) (P : ObjectState → List Event → Replay → Type 0) : Type 0 where
  pub none : (state : ObjectState) → P state [] (record { done = []; fault = None; state = state })
  pub faults : (state : ObjectState) (e : Event) (es : List Event) (code : ℕ) → fire m object state e ≡ fails code
      → P state (e ∷ es) (record { done = []; fault = Some (e.key, code); state = state })
  pub goes : (state : ObjectState) (e : Event) (es : List Event) (x : Firing) → fire m object state e ≡ goes x
      → P x.state es (replay m object x.state es) → P state (e ∷ es) (replay_with (e, x) (replay m object x.state es))

replayed_case : (m : Meaning) (object : ℕ) (P : ObjectState → List Event → Replay → Type 0) → ReplayCases m object P
    → (state : ObjectState) (e : Event) (es : List Event) → ((s : ObjectState) → P s es (replay m object s es))
    → (f : Fired) → fire m object state e ≡ f → P state (e ∷ es) (replay_fired state e (λ x. replay m object x.state es) f)
unfolding replay_fired
replayed_case m object P cases state e es more (fails code) is_f = cases.faults state e es code is_f
replayed_case m object P cases state e es more (goes x) is_f = cases.goes state e es x is_f (more x.state)

pub replay-induction : (m : Meaning) (object : ℕ) (P : ObjectState → List Event → Replay → Type 0) → ReplayCases m object P
    → (state : ObjectState) (es : List Event) → P state es (replay m object state es)
unfolding replay
replay-induction m object P cases state [] = cases.none state
replay-induction m object P cases state (e ∷ es) =
    replayed_case m object P cases state e es (λ s. replay-induction m object P cases s es) (fire m object state e) refl

-- the replay of a first event that goes, or fails
pub replay-goes : (m : Meaning) (object : ℕ) (state : ObjectState) (e : Event) (es : List Event) (x : Firing) → fire m object state e ≡ goes x
    → replay m object state (e ∷ es) ≡ replay_with (e, x) (replay m object x.state es)
unfolding replay replay_fired
replay-goes m object state e es x is_x i = replay_fired state e (λ x. replay m object x.state es) (is_x i)

pub replay-fails : (m : Meaning) (object : ℕ) (state : ObjectState) (e : Event) (es : List Event) (code : ℕ) → fire m object state e ≡ fails code
    → replay m object state (e ∷ es) ≡ record { done = []; fault = Some (e.key, code); state = state }
unfolding replay replay_fired
replay-fails m object state e es code is_f i = replay_fired state e (λ x. replay m object x.state es) (is_f i)
