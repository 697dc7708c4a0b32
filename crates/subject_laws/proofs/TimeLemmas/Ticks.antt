-- Sums of times, and when what is sent happens.
use Rattle.std.proofs.Common.{◌≡◌, ◌≢◌, ℕ, suc, ◌+◌, ◌-◌, ◌*◌, ◌≤◌, Bool, true, false, cond, List, [], ◌∷◌, length, map, refl, ap, ◌∙◌, arith, eqb, eqb-true}
use Rattle.std.specs.Prelude.{filter, sum, sum_by, count_by, ◌==◌, ◌&&◌}
use Rattle.std.specs.List.{AllByRecursion as Each}
use Rattle.std.proofs.lemmas.Bool.{eqb-false, or_parts}
use Rattle.std.proofs.lemmas.List.Sums.{sum_by-cons, sum_by-append}
use Rattle.event_key.specs.Stamps.{time_part, next_stamp}
use Rattle.model_core.specs.declared.event.Event.{Event}
use Rattle.model_core.specs.declared.event.Send.{Send}
use Rattle.model_core.specs.Meaning.{Meaning}
use Rattle.sim_spec.specs.declared.terms.Terms.{Terms}
use Rattle.sim_spec.specs.Firing.{has_endless_chain, emission, emissions}
use Rattle.sim_spec.specs.State.{State}
use Rattle.sim_spec.specs.Run.{Next, next}
use Rattle.run_laws.specs.Reached.{after_events, gathered}
use Rattle.run_laws.proofs.Induction.{gathered-more}
use Rattle.subject_laws.specs.Draws.{delays_of}
use Rattle.subject_laws.specs.Stations.{ends_service_at}
use Rattle.event_key.proofs.StampLemmas.{next_time}

-- a sum of what a run gathers, with one event more
pub gathered-sum : (gives : State → Next → List ℕ) (m : Meaning) (t : Terms) (n : ℕ) (x : Next) → next m t (after_events n m t) ≡ x
    → sum (gathered gives (suc n) m t) ≡ sum (gathered gives n m t) + sum (gives (after_events n m t) x)
gathered-sum gives m t n x is_next =
    ap (λ (xs : List ℕ). sum xs) (gathered-more gives m t n x is_next) ∙ sum_by-append (λ (k : ℕ). k) (gathered gives n m t) (gives (after_events n m t) x)

-- one time, so many times over
pub sum-same : (time : ℕ) (jobs : List ℕ) → sum (map (λ (job : ℕ). time) jobs) ≡ length jobs * time
sum-same time [] = omega arith
sum-same time (job ∷ jobs) = omega (arith, sum_by-cons (λ (k : ℕ). k) time (map (λ (job : ℕ). time) jobs), sum-same time jobs)

-- so many are there since the last word; then some come and others go, all at one time
pub ticks_more : (ticks came gone there coming going after last time : ℕ) → last ≤ time → ticks + came ≡ gone + there * last → there + coming ≡ going + after
    → (ticks + (time - last) * there) + (came + coming * time) ≡ (gone + going * time) + after * time
ticks_more ticks came gone there coming going after last time later so_far moves =
    let now : there * time ≡ there * last + (time - last) * there =
    ap (λ n. there * n) (let split : time ≡ last + (time - last) = omega arith in split) ∙ omega arith in
    let both : (there + coming) * time ≡ (going + after) * time = ap (λ n. n * time) moves in
    omega (arith, now, both)

-- what none has sums to nothing
pub sum_by-none : {X : Type 0} (p : X → Bool) (f : X → ℕ) (xs : List X) → count_by p xs ≡ 0 → sum_by (λ x. cond (p x) (f x) 0) xs ≡ 0
sum_by-none p f [] none = refl
sum_by-none p f (x ∷ xs) none =
    by (p x) (sum_by-cons (λ x. cond (p x) 1 0) x xs) (sum_by-cons (λ x. cond (p x) (f x) 0) x xs) (sum_by-none p f xs)
  where
    by : (b : Bool) → count_by p (x ∷ xs) ≡ cond b 1 0 + count_by p xs
        → sum_by (λ x. cond (p x) (f x) 0) (x ∷ xs) ≡ cond b (f x) 0 + sum_by (λ x. cond (p x) (f x) 0) xs
        → (count_by p xs ≡ 0 → sum_by (λ x. cond (p x) (f x) 0) xs ≡ 0) → sum_by (λ x. cond (p x) (f x) 0) (x ∷ xs) ≡ 0
    by true count total more = absurd (omega arith)
    by false count total more = let rest = more (omega arith) in omega arith

-- differences to a lesser number
pub sum_by-less : {X : Type 0} (f : X → ℕ) (least : ℕ) (xs : List X) → Each (λ (x : X). least ≤ f x) xs
    → sum_by (λ x. f x - least) xs + length xs * least ≡ sum_by f xs
sum_by-less f least [] all = omega arith
sum_by-less f least (x ∷ xs) all =
    omega (arith, all.0, sum_by-cons (λ x. f x - least) x xs, sum_by-cons f x xs, sum_by-less f least xs all.1)

-- when a service at a station ends; 0 for other events
unfoldable pub end_time : ℕ → Event → ℕ
end_time i e = cond (ends_service_at i e) (time_part e.key.stamp) 0

pub end_time-none : (i : ℕ) (es : List Event) → count_by (ends_service_at i) es ≡ 0 → sum_by (end_time i) es ≡ 0
unfolding end_time
end_time-none i es none = sum_by-none (ends_service_at i) (λ (e : Event). time_part e.key.stamp) es none

-- services that begin now end when they were drawn to
pub ends_sent : (i stamp object serial : ℕ) (sends : List Send) → has_endless_chain stamp sends ≡ false → Each (λ (s : Send). s.kind ≡ 2 → s.dest ≡ i) sends
    → sum_by (end_time i) (emissions stamp object serial sends)
    ≡ length (filter (ends_service_at i) (emissions stamp object serial sends)) * time_part stamp + sum (delays_of 2 sends)
unfolding has_endless_chain emissions end_time
ends_sent i stamp object serial [] free own = omega arith
ends_sent i stamp object serial (s ∷ sends) free own =
    let parts = or_parts _ _ free in
    by (eqb s.kind 2) refl (eqb s.dest i) refl (next_time stamp s.delay parts.0) (ends_sent i stamp object (serial + 1) sends parts.1 own.1)
  where
    one : Event
    one = emission stamp object serial s

    more : List Event
    more = emissions stamp object (serial + 1) sends

    by : (ends : Bool) → eqb s.kind 2 ≡ ends → (here : Bool) → eqb s.dest i ≡ here → time_part (next_stamp stamp s.delay) ≡ time_part stamp + s.delay
        → sum_by (λ (e : Event). cond (ends_service_at i e) (time_part e.key.stamp) 0) (emissions stamp object (serial + 1) sends)
        ≡ length (filter (ends_service_at i) (emissions stamp object (serial + 1) sends)) * time_part stamp + sum (delays_of 2 sends)
        → sum_by (λ (e : Event). cond (ends_service_at i e) (time_part e.key.stamp) 0) (emission stamp object serial s ∷ emissions stamp object (serial + 1) sends)
        ≡ length (filter (ends_service_at i) (emission stamp object serial s ∷ emissions stamp object (serial + 1) sends)) * time_part stamp + sum (delays_of 2 (s ∷ sends))
    by false other here at later rest =
        let none : ends_service_at i (emission stamp object serial s) ≡ false = ap (λ b. b && (s.dest == i)) other in
        omega (
          arith,
          sum_by-cons (λ (e : Event). cond (ends_service_at i e) (time_part e.key.stamp) 0) (emission stamp object serial s) (emissions stamp object (serial + 1) sends),
          ap (λ b. cond b (time_part (next_stamp stamp s.delay)) 0) none,
          ap (λ b. length (cond b (emission stamp object serial s ∷ filter (ends_service_at i) (emissions stamp object (serial + 1) sends)) (filter (ends_service_at i) (emissions stamp object (serial + 1) sends))) * time_part stamp) none,
          ap (λ b. sum (map (λ (s : Send). s.delay) (cond b (s ∷ filter (λ (s : Send). s.kind == 2) sends) (filter (λ (s : Send). s.kind == 2) sends)))) other,
          rest,
        )
    by true ends false apart later rest =
        absurd (let same : s.dest ≡ i = own.0 (eqb-true s.kind 2 ends) in let other : s.dest ≢ i = eqb-false s.dest i apart in other same)
    by true ends true at later rest =
        let yes : ends_service_at i (emission stamp object serial s) ≡ true = ap (λ b. b && (s.dest == i)) ends ∙ at in
        omega (
          arith,
          sum_by-cons (λ (e : Event). cond (ends_service_at i e) (time_part e.key.stamp) 0) (emission stamp object serial s) (emissions stamp object (serial + 1) sends),
          ap (λ b. cond b (time_part (next_stamp stamp s.delay)) 0) yes,
          ap (λ b. length (cond b (emission stamp object serial s ∷ filter (ends_service_at i) (emissions stamp object (serial + 1) sends)) (filter (ends_service_at i) (emissions stamp object (serial + 1) sends))) * time_part stamp) yes,
          ap (λ b. sum (map (λ (s : Send). s.delay) (cond b (s ∷ filter (λ (s : Send). s.kind == 2) sends) (filter (λ (s : Send). s.kind == 2) sends)))) ends,
          sum_by-cons (λ (k : ℕ). k) s.delay (delays_of 2 sends),
          later,
          rest,
        )
