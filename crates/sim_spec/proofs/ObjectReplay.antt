-- What events that go in turn do at one object is the object's own replay.
use Rattle.std.proofs.Common.{◌≡◌, ◌≢◌, ℕ, zero, suc, ◌-◌, ◌<◌, ◌≤◌, Bool, true, false, cond, List, [], ◌∷◌, ◌++◌, length, take, sym, refl, ap, ◌∙◌, subst, arith, eqb, eqb-true, get_or-set_other, get_or-set_same, length-set}
use Rattle.std.proofs.lemmas.Bool.{eqb-false}
use Rattle.std.proofs.lemmas.List.{take_all}
use Rattle.std.specs.Prelude.{slice_set, None}
use Rattle.model_core.specs.declared.event.Event.{Event}
use Rattle.model_core.specs.Meaning.{Meaning}
use Rattle.sim_spec.specs.Firing.{ObjectState, Firing, goes, fire}
use Rattle.sim_spec.specs.State.{State, object_at, no_object}
use Rattle.sim_spec.specs.Cut.{events_of, objects_after}
use Rattle.sim_spec.specs.Replay.{Replay, replay_with, replay, events_at, done_at, early_replay, replay_after}
use Rattle.sim_spec.proofs.PartLemmas.{events_at-append, events_at-events_of, length-events_of}
use Rattle.sim_spec.proofs.BucketInduction.{fire_at, objects_with, replay-goes}
use Rattle.sim_spec.proofs.BucketFacts.{GoInTurn}
use Rattle.sim_spec.proofs.ReplayLemmas.{replay-append, replay-take}

-- the replay of events that all go
abbrev pub whole_replay : List (Event × Firing) → ObjectState → Replay
whole_replay ds state = record { done = ds; fault = None; state = state }

-- one event more, at this object or at another one
replay_on : (m : Meaning) (object : ℕ) (objects : List ObjectState) (d : Event × Firing) (ds : List (Event × Firing)) (end : ObjectState) → object < length objects
    → fire_at m objects d.0 ≡ goes d.1
    → replay m object (object_at (objects_with objects d.0 d.1) object) (events_at object (events_of ds)) ≡ whole_replay (done_at object ds) end
    → (here : Bool) → eqb d.0.key.dest object ≡ here
    → replay m object (object_at objects object) (cond here (d.0 ∷ events_at object (events_of ds)) (events_at object (events_of ds)))
    ≡ whole_replay (cond here (d ∷ done_at object ds) (done_at object ds)) end
replay_on m object objects d ds end inside is_fired rest true here =
    let same : d.0.key.dest ≡ object = eqb-true d.0.key.dest object here in
    let P : ℕ → Type 0 = λ i. fire m i (object_at objects i) d.0 ≡ goes d.1 in
    let Q : ℕ → Type 0 = λ i. object_at (slice_set objects i d.1.state) object ≡ d.1.state in
    let state : object_at (objects_with objects d.0 d.1) object ≡ d.1.state = subst Q (sym same) (get_or-set_same objects object d.1.state no_object inside) in
    replay-goes m object (object_at objects object) d.0 (events_at object (events_of ds)) d.1 (subst P same is_fired)
    ∙ ap (replay_with d) (ap (λ s. replay m object s (events_at object (events_of ds))) (sym state) ∙ rest)
replay_on m object objects d ds end inside is_fired rest false there =
    let apart : object ≢ d.0.key.dest = λ same. eqb-false d.0.key.dest object there (sym same) in
    let state : object_at (objects_with objects d.0 d.1) object ≡ object_at objects object = get_or-set_other objects d.0.key.dest object d.1.state no_object apart in
    ap (λ s. replay m object s (events_at object (events_of ds))) (sym state) ∙ rest

pub in-turn-replay : (m : Meaning) (object : ℕ) (objects : List ObjectState) (ds : List (Event × Firing)) → object < length objects → GoInTurn m objects ds
    → replay m object (object_at objects object) (events_at object (events_of ds)) ≡ whole_replay (done_at object ds) (object_at (objects_after objects ds) object)
unfolding replay events_at done_at GoInTurn objects_after
in-turn-replay m object objects [] inside turn = refl
in-turn-replay m object objects (d ∷ ds) inside turn =
    let behind = objects_with objects d.0 d.1 in
    let long : length behind ≡ length objects = length-set objects d.0.key.dest d.1.state in
    replay_on m object objects d ds (object_at (objects_after behind ds) object) inside turn.0 (in-turn-replay m object behind ds (omega arith) turn.1) (eqb d.0.key.dest object) refl

-- the first elements of two lists one behind the other
take-append : {A : Type 0} (n : ℕ) (xs ys : List A) → take n (xs ++ ys) ≡ take n xs ++ take (n - length xs) ys
take-append zero xs ys = let none : 0 - length xs ≡ 0 = omega arith in ap (λ k. take k ys) (sym none)
take-append (suc n) [] ys = let all : suc n - 0 ≡ suc n = omega arith in ap (λ k. take k ys) (sym all)
take-append (suc n) (x ∷ xs) ys =
    let less : n - length xs ≡ suc n - suc (length xs) = omega arith in
    ap (λ zs. x ∷ zs) (take-append n xs ys ∙ ap (λ k. take n xs ++ take k ys) less)

-- the first pending events of a state go in turn
pub record GoFirst (m : Meaning) (s : State) (ds : List (Event × Firing)) (rest : List Event) : Type 0 where
  pub pending : s.pending ≡ events_of ds ++ rest
  pub turn : GoInTurn m s.objects ds

module _ (m : Meaning) (s : State) (ds : List (Event × Firing)) (rest : List Event) (goes_first : GoFirst m s ds rest) (object : ℕ) (inside : object < length s.objects) (n : ℕ) where
  -- the events of the object that are among these, and how many of its first n events are behind them
  abbrev own : List Event
  own = events_at object (events_of ds)

  abbrev pub events_behind : List Event
  events_behind = take (n - length (done_at object ds)) (events_at object rest)

  own_replay : replay m object (object_at s.objects object) own ≡ whole_replay (done_at object ds) (object_at (objects_after s.objects ds) object)
  own_replay = in-turn-replay m object s.objects ds inside goes_first.turn

  pub early-events : take n (events_at object s.pending) ≡ take n own ++ events_behind
  early-events =
      let long : length own ≡ length (done_at object ds) = ap length (events_at-events_of object ds) ∙ length-events_of (done_at object ds) in
      ap (λ es. take n (events_at object es)) goes_first.pending
      ∙ ap (take n) (events_at-append object (events_of ds) rest)
      ∙ take-append n own (events_at object rest)
      ∙ ap (λ k. take n own ++ take (n - k) (events_at object rest)) long

  -- what an object does early is a front of what it does in turn, and then what is behind
  pub early-parts : (state : ObjectState) × (early_replay m s object n ≡ replay_after (take n (done_at object ds)) (replay m object state events_behind))
  unfolding early_replay
  early-parts =
      let r = replay m object (object_at s.objects object) (take n own) in
      let front = replay-take m object (object_at s.objects object) own (ap (λ (r : Replay). r.fault) own_replay) n in
      let done : r.done ≡ take n (done_at object ds) = front.done ∙ ap (λ (r : Replay). take n r.done) own_replay in (
        r.state,
        ap (replay m object (object_at s.objects object)) early-events
            ∙ replay-append m object (object_at s.objects object) (take n own) events_behind front.fault
            ∙ ap (λ ds. replay_after ds (replay m object r.state events_behind)) done,
      )

  -- once it has done all of that, it goes on from the state that is left
  pub early-split : length (done_at object ds) ≤ n → early_replay m s object n ≡ replay_after (done_at object ds) (replay m object (object_at (objects_after s.objects ds) object) events_behind)
  unfolding early_replay
  early-split upto =
      let long : length own ≡ length (done_at object ds) = ap length (events_at-events_of object ds) ∙ length-events_of (done_at object ds) in
      let all : take n own ≡ own = take_all n own (omega arith) in
      ap (replay m object (object_at s.objects object)) (early-events ∙ ap (λ es. es ++ events_behind) all)
      ∙ replay-append m object (object_at s.objects object) own events_behind (ap (λ (r : Replay). r.fault) own_replay)
      ∙ ap (λ (r : Replay). replay_after r.done (replay m object r.state events_behind)) own_replay
