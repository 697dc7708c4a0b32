-- A replay by its parts, and what is known of its events, of what they send, and of its fault.
use Rattle.std.proofs.Common.{◌≡◌, ℕ, zero, suc, ◌≤◌, List, [], ◌∷◌, ◌++◌, take, sym, refl, ap, ◌∙◌, subst, arith}
use Rattle.std.specs.Prelude.{Some, None}
use Rattle.std.specs.List.{AllByRecursion as Each}
use Rattle.event_key.specs.declared.key.Key.{Key}
use Rattle.model_core.specs.declared.event.Event.{Event}
use Rattle.model_core.specs.Meaning.{Meaning}
use Rattle.sim_spec.specs.Firing.{ObjectState, Firing, goes, fire}
use Rattle.sim_spec.specs.Cut.{events_of}
use Rattle.sim_spec.specs.Replay.{Replay, replay_after, replay_with, replay, EmitsFrom}
use Rattle.key_order.specs.Stamps.{NoneBelow}
use Rattle.key_order.proofs.StampLemmas.{NoneBelow-le}
use Rattle.sim_spec.proofs.StampLemmas.{fire-later}
use Rattle.sim_spec.proofs.BucketInduction.{replay-induction, replay-goes, replay-fails}

-- where the first part doesn't fail, the second is replayed from its state
pub replay-append : (m : Meaning) (object : ℕ) (state : ObjectState) (xs ys : List Event) → (replay m object state xs).fault ≡ None
    → replay m object state (xs ++ ys) ≡ replay_after (replay m object state xs).done (replay m object (replay m object state xs).state ys)
replay-append m object state xs ys = replay-induction m object (λ state xs r. r.fault ≡ None → replay m object state (xs ++ ys) ≡ replay_after r.done (replay m object r.state ys)) (record {
  none = λ state whole. refl;
  faults = λ state e es code is_f whole. absurd (cc);
  goes = λ state e es x is_x more whole. replay-goes m object state e (es ++ ys) x is_x ∙ ap (replay_with (e, x)) (more whole);
}) state xs

-- nothing is replayed behind a fault
pub replay-faulted : (m : Meaning) (object : ℕ) (state : ObjectState) (xs ys : List Event) (fault : Key × ℕ) → (replay m object state xs).fault ≡ Some fault
    → replay m object state (xs ++ ys) ≡ replay m object state xs
replay-faulted m object state xs ys fault = replay-induction m object (λ state xs r. r.fault ≡ Some fault → replay m object state (xs ++ ys) ≡ r) (record {
  none = λ state is_fault. absurd (cc);
  faults = λ state e es code is_f is_fault. replay-fails m object state e (es ++ ys) code is_f;
  goes = λ state e es x is_x more is_fault. replay-goes m object state e (es ++ ys) x is_x ∙ ap (replay_with (e, x)) (more is_fault);
}) state xs

-- the first events of a replay that doesn't fail
pub record IsFront (n : ℕ) (whole r : Replay) : Type 0 where
  pub fault : r.fault ≡ None
  pub done : r.done ≡ take n whole.done

no_front : (m : Meaning) (object n : ℕ) (state : ObjectState) (whole : Replay) → whole.done ≡ [] → IsFront n whole (replay m object state (take n []))
unfolding replay
no_front m object zero state whole none = record { fault = refl; done = refl }
no_front m object (suc n) state whole none = record { fault = refl; done = sym (ap (take (suc n)) none) }

more_front : (m : Meaning) (object n : ℕ) (state : ObjectState) (e : Event) (es : List Event) (x : Firing) → fire m object state e ≡ goes x
    → ((k : ℕ) → IsFront k (replay m object x.state es) (replay m object x.state (take k es)))
    → IsFront n (replay_with (e, x) (replay m object x.state es)) (replay m object state (take n (e ∷ es)))
unfolding replay
more_front m object zero state e es x is_x more = record { fault = refl; done = refl }
more_front m object (suc n) state e es x is_x more =
    let first = replay-goes m object state e (take n es) x is_x in
    record {
      fault = ap (λ (r : Replay). r.fault) first ∙ (more n).fault;
      done = ap (λ (r : Replay). r.done) first ∙ ap (λ ds. (e, x) ∷ ds) (more n).done;
    }

pub replay-take : (m : Meaning) (object : ℕ) (state : ObjectState) (es : List Event) → (replay m object state es).fault ≡ None
    → (n : ℕ) → IsFront n (replay m object state es) (replay m object state (take n es))
replay-take m object = replay-induction m object (λ state es r. r.fault ≡ None → (n : ℕ) → IsFront n r (replay m object state (take n es))) (record {
  none = λ state whole n. no_front m object n state _ refl;
  faults = λ state e es code is_f whole. absurd (cc);
  goes = λ state e es x is_x more whole n. more_front m object n state e es x is_x (more whole);
})

-- what holds of each event holds of each that goes
pub replay-each : (P : Event → Type 0) (m : Meaning) (object : ℕ) (state : ObjectState) (es : List Event) → Each P es → Each P (events_of (replay m object state es).done)
replay-each P m object = replay-induction m object (λ state es r. Each P es → Each P (events_of r.done)) (record {
  none = λ state all. tt;
  faults = λ state e es code is_f all. tt;
  goes = λ state e es x is_x more all. (all.0, more all.1);
})

-- and what holds of each key holds of that of the fault
pub replay-fault : (P : Key → Type 0) (m : Meaning) (object : ℕ) (state : ObjectState) (es : List Event) → Each (λ (e : Event). P e.key) es
    → (met : Key × ℕ) → (replay m object state es).fault ≡ Some met → P met.0
replay-fault P m object = replay-induction m object (λ state es r. Each (λ (e : Event). P e.key) es → (met : Key × ℕ) → r.fault ≡ Some met → P met.0) (record {
  none = λ state all met is_met. absurd (cc);
  faults = λ state e es code is_f all met is_met. let same : (e.key, code) ≡ met = some_is (e.key, code) met is_met in let Q : Key × ℕ → Type 0 = λ f. P f.0 in subst Q same all.0;
  goes = λ state e es x is_x more all met is_met. more all.1 met is_met;
})
  where
    some_is : (a b : Key × ℕ) → Some a ≡ Some b → a ≡ b
    some_is a b is = cc

-- events from a stamp on send later than that
pub replay-emits : (m : Meaning) (object g : ℕ) (state : ObjectState) (es : List Event) → NoneBelow g es → EmitsFrom (suc g) (replay m object state es).done
replay-emits m object g = replay-induction m object (λ state es r. NoneBelow g es → EmitsFrom (suc g) r.done) (record {
  none = λ state from. tt;
  faults = λ state e es code is_f from. tt;
  goes = λ state e es x is_x more from.
      let late : g ≤ e.key.stamp = from.0 in
      (NoneBelow-le (suc g) (suc e.key.stamp) x.events (omega arith) (fire-later m object state e x is_x), more from.1);
})
