-- How many events a replay takes.
use Rattle.std.proofs.Common.{List, [], ap, arith, length, length-take, refl, suc, take, zero, ℕ, ◌++◌, ◌+◌, ◌∷◌, ◌≡◌, ◌≤◌}
use Rattle.std.proofs.lemmas.List.{length-append}
use Rattle.std.specs.Prelude.{None}
use Rattle.model_core.specs.Meaning.{Meaning}
use Rattle.model_core.specs.declared.event.Event.{Event}
use Rattle.sim_spec.specs.Firing.{Fired, ObjectState, fails, fire, goes}
use Rattle.sim_spec.specs.Replay.{Replay, replay, replay_fired, fault_count, taken, replay_after}
use Rattle.sim_spec.proofs.ReplayLemmas.{replay-append}

taken_on : (m : Meaning) (object : ℕ) (state : ObjectState) (e : Event) (es : List Event) (f : Fired)
    → ((s : ObjectState) → taken (replay m object s es) ≤ length es) → taken (replay_fired state e (λ x. replay m object x.state es) f) ≤ suc (length es)
unfolding replay_fired
taken_on m object state e es (fails code) more = omega arith
taken_on m object state e es (goes x) more = let le = more x.state in omega arith

pub taken-le : (m : Meaning) (object : ℕ) (state : ObjectState) (es : List Event) → taken (replay m object state es) ≤ length es
unfolding replay
taken-le m object state [] = omega arith
taken-le m object state (e ∷ es) = taken_on m object state e es (fire m object state e) (λ s. taken-le m object s es)

take_on : (m : Meaning) (object k : ℕ) (state : ObjectState) (e : Event) (es : List Event) (f : Fired)
    → ((s : ObjectState) → taken (replay m object s es) ≡ length es → taken (replay m object s (take k es)) ≡ length (take k es))
    → taken (replay_fired state e (λ x. replay m object x.state es) f) ≡ suc (length es)
    → taken (replay_fired state e (λ x. replay m object x.state (take k es)) f) ≡ suc (length (take k es))
unfolding replay_fired
take_on m object k state e es (fails code) more whole = let long = length-take k es in omega arith
take_on m object k state e es (goes x) more whole = let same = more x.state (omega arith) in omega arith

-- a shorter part of what was taken to its end is taken to its end
pub taken-take : (m : Meaning) (object k : ℕ) (state : ObjectState) (es : List Event) → taken (replay m object state es) ≡ length es
    → taken (replay m object state (take k es)) ≡ length (take k es)
unfolding replay
taken-take m object zero state es whole = refl
taken-take m object (suc k) state [] whole = refl
taken-take m object (suc k) state (e ∷ es) whole = take_on m object k state e es (fire m object state e) (λ s. taken-take m object k s es) whole

-- where nothing faults, each event is done
pub taken-whole : (r : Replay) → r.fault ≡ None → taken r ≡ length r.done
taken-whole r whole = let none : fault_count r.fault ≡ 0 = ap fault_count whole in omega arith

-- the part behind what went is taken to its end too
pub taken-rest : (m : Meaning) (object : ℕ) (state : ObjectState) (xs ys : List Event) → (replay m object state xs).fault ≡ None → taken (replay m object state (xs ++ ys)) ≡ length (xs ++ ys)
    → taken (replay m object (replay m object state xs).state ys) ≡ length ys
taken-rest m object state xs ys whole all =
    let r = replay m object state xs in
    let s = replay m object r.state ys in
    let same : taken (replay m object state (xs ++ ys)) ≡ taken (replay_after r.done s) = ap taken (replay-append m object state xs ys whole) in
    let long : length (r.done ++ s.done) ≡ length r.done + length s.done = length-append r.done s.done in
    let sum : length (xs ++ ys) ≡ length xs + length ys = length-append xs ys in
    let first : taken r ≤ length xs = taken-le m object state xs in
    let second : taken s ≤ length ys = taken-le m object r.state ys in
    let state_after : taken r ≡ length r.done = taken-whole r whole in
    omega arith
