-- What a bound at which a cycle is closed says of the bucket.
use Rattle.std.proofs.Common.{Bool, List, [], ap, arith, drop, eqb, false, le-ltb, length, lt-ltb, ltb, refl, suc, true, zero, ℕ, ◌&&◌, ◌++◌, ◌-◌, ◌<◌, ◌∙◌, ◌∷◌, ◌≡◌, ◌≤◌}
use Rattle.std.proofs.lemmas.Bool.{and_right}
use Rattle.std.specs.List.{AllByRecursion as Each}
use Rattle.std.specs.Prelude.{None, Option, Some, filter}
use Rattle.event_key.proofs.Order.{key_lt-trans, stamp-le}
use Rattle.event_key.specs.Keys.{key_lt}
use Rattle.event_key.specs.declared.key.Key.{Key}
use Rattle.model_core.specs.Meaning.{Meaning}
use Rattle.model_core.specs.declared.event.Event.{Event}
use Rattle.sim_spec.specs.Cut.{events_of, objects_after}
use Rattle.sim_spec.specs.Firing.{Firing}
use Rattle.sim_spec.specs.Horizon.{horizon_bucket, reach, reach_with}
use Rattle.sim_spec.specs.HorizonLaws.{IsBefore, IsPast}
use Rattle.sim_spec.specs.Replay.{Replay, done_at, early_replay, events_at, replay}
use Rattle.sim_spec.specs.State.{State, object_at}
use Rattle.sim_spec.specs.declared.terms.Terms.{Terms}
use Rattle.key_order.proofs.EachLemmas.{Each-filter, Each-take}
use Rattle.sim_spec.proofs.PartLemmas.{Each-events_at}
use Rattle.sim_spec.proofs.ReplayLemmas.{replay-each}
use Rattle.world_spec.specs.Closed.{fault_key}
use Rattle.key_order.specs.Due.{is_due}
use Rattle.key_order.proofs.FilterLemmas.{filter-front}
use Rattle.world_spec.proofs.ProcessedLemmas.{IsProcessed, further_events, replay-split}

-- where none of the first events waits, and each event from place n on does, the first ones stand before place n
pub none-waits : (P : Event → Type 0) (n : ℕ) (xs ys : List Event) → Each (λ (e : Event). P e → ⊥) xs → Each P (drop n (xs ++ ys)) → length xs ≤ n
none-waits P n [] ys never waits = omega arith
none-waits P zero (x ∷ xs) ys never waits = absurd (never.0 waits.0)
none-waits P (suc n) (x ∷ xs) ys never waits = let le = none-waits P n xs ys never.1 waits in omega arith

-- what is due of an object's events is what was done there
pub due-is : (p : Key → Bool) (m : Meaning) (t : Terms) (s : State) (done : List (Event × Firing)) (rest : List Event) (object n : ℕ) → IsProcessed m t s done rest object n
    → Each (λ (e : Event). p e.key ≡ true) (events_of done) → Each (λ (e : Event). p e.key ≡ false) rest
    → filter (λ d. p d.0.key) (early_replay m s object n).done ≡ done_at object done
unfolding done_at
due-is p m t s done rest object n processed pass stay =
    let further = further_events m t s done rest object n in
    let R = replay m object (object_at (objects_after s.objects done) object) further in
    let stay_here : Each (λ (e : Event). p e.key ≡ false) (events_of R.done) =
    replay-each (λ (e : Event). p e.key ≡ false) m object _ further
    (Each-take (λ (e : Event). p e.key ≡ false) (n - length (done_at object done)) (events_at object rest) (Each-events_at (λ (e : Event). p e.key ≡ false) object rest stay)) in
    ap (λ (r : Replay). filter (λ d. p d.0.key) r.done) (replay-split m t s done rest object n processed)
    ∙ filter-front (λ (d : Event × Firing). p d.0.key) (done_at object done) R.done
    (Each-filter (λ (d : Event × Firing). p d.0.key ≡ true) (λ d. eqb d.0.key.dest object) done (each_done (λ e. p e.key ≡ true) done pass))
    (each_done (λ e. p e.key ≡ false) R.done stay_here)
  where
    each_done : (P : Event → Type 0) (ds : List (Event × Firing)) → Each P (events_of ds) → Each (λ (d : Event × Firing). P d.0) ds
    each_done P [] all = tt
    each_done P (d ∷ ds) all = (all.0, each_done P ds all.1)

-- a fault past the end of a bucket has no smaller key than what comes before that end
pub past_before : (h : ℕ) (fault : Option (Key × ℕ)) (met key : Key) → IsPast h fault met → key_lt met key ≡ true → IsBefore h fault key → ⊥
past_before h None met key past lt before = let le = stamp-le met key lt in omega arith
past_before h (Some fault) met key past lt before = let yes = key_lt-trans met key fault.0 lt before in cc

pub before_reach : (bound h : ℕ) (fault : Option (Key × ℕ)) (key : Key) → reach_with h fault ≤ bound → IsBefore h fault key → key.stamp < bound
before_reach bound h None key reach before = omega arith
before_reach bound h (Some fault) key reach before = let le = stamp-le key fault.0 before in omega arith

pub due_before : (bound h : ℕ) (fault : Option (Key × ℕ)) (key : Key) → reach_with h fault ≤ bound → IsBefore h fault key → is_due bound (fault_key fault) key ≡ true
unfolding is_due
due_before bound h None key reach before = ap (λ b. b && true) (lt-ltb key.stamp bound (before_reach bound h None key reach before))
due_before bound h (Some fault) key reach before = ap (λ b. b && key_lt key fault.0) (lt-ltb key.stamp bound (before_reach bound h (Some fault) key reach before)) ∙ before

pub past_stays : (bound h : ℕ) (fault : Option (Key × ℕ)) (key : Key) → (fault ≡ None → bound ≡ h) → IsPast h fault key → is_due bound (fault_key fault) key ≡ false
unfolding is_due
past_stays bound h None key same past = let is = same refl in ap (λ b. b && true) (le-ltb key.stamp bound (omega arith))
past_stays bound h (Some fault) key same past = ap (λ b. ltb key.stamp bound && b) past ∙ and_right (ltb key.stamp bound) false refl

-- the pending events behind the bucket, and those behind what is committed
abbrev pub behind_bucket : Meaning → Terms → State → List Event
behind_bucket m t s = drop (length (horizon_bucket m t s).done) s.pending

abbrev pub left_of : Meaning → Terms → State → List Event
left_of m t s = events_of (drop (t.limit - s.count) (horizon_bucket m t s).done) ++ behind_bucket m t s
