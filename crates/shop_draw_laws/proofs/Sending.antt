-- What holds of what is sent, at its time, and of what stays pending.
use Rattle.std.proofs.Common.{◌≡◌, ℕ, ◌+◌, ◌≤◌, Bool, true, false, List, [], ◌∷◌, sym, ap, ◌∙◌, subst, ⊎_elim, arith, cond}
use Rattle.std.specs.Prelude.{Contains, count_by}
use Rattle.std.specs.List.{AllByRecursion as Each}
use Rattle.std.proofs.lemmas.Bool.{or_parts}
use Rattle.std.proofs.lemmas.List.Sums.{sum_by-cons}
use Rattle.event_key.specs.Stamps.{time_part}
use Rattle.key_order.proofs.MemberLemmas.{first-or-later, none-in}
use Rattle.model_core.specs.declared.event.Event.{Event}
use Rattle.model_core.specs.declared.event.Send.{Send}
use Rattle.sim_spec.specs.Firing.{has_endless_chain, emissions}
use Rattle.event_key.proofs.StampLemmas.{next_time}

-- what holds of an event that is sent by this, at its time
abbrev pub AsSent : (ℕ → ℕ → ℕ → ℕ → ℕ → Type 0) → ℕ → Send → Type 0
AsSent P stamp s = P (time_part stamp + s.delay) s.dest s.kind s.a s.b

abbrev pub AsEvent : (ℕ → ℕ → ℕ → ℕ → ℕ → Type 0) → Event → Type 0
AsEvent P e = P (time_part e.key.stamp) e.key.dest e.kind e.a e.b

pub each_sent : (P : ℕ → ℕ → ℕ → ℕ → ℕ → Type 0) (stamp object serial : ℕ) (sends : List Send) → has_endless_chain stamp sends ≡ false
    → Each (AsSent P stamp) sends → Each (AsEvent P) (emissions stamp object serial sends)
unfolding emissions has_endless_chain
each_sent P stamp object serial [] free all = tt
each_sent P stamp object serial (s ∷ rest) free all =
    let parts = or_parts _ _ free in
    (subst (λ time. P time s.dest s.kind s.a s.b) (sym (next_time stamp s.delay parts.0)) all.0, each_sent P stamp object (serial + 1) rest parts.1 all.1)

-- where one passes some do
pub some_pass : {X : Type 0} (p : X → Bool) (x : X) (xs : List X) → Contains xs x → p x ≡ true → 1 ≤ count_by p xs
some_pass p x [] there passes = none-in x there
some_pass p x (y ∷ ys) there passes =
    let sum = sum_by-cons (λ y. cond (p y) 1 0) y ys in
    ⊎_elim
    (λ (is : y ≡ x). let one : ◌≡◌ {A = ℕ} (cond (p y) 1 0) 1 = ap (λ b. cond b 1 0) (ap p is ∙ passes) in omega (arith, sum, one))
    (λ (later : Contains ys x). omega (arith, sum, some_pass p x ys later passes))
    (first-or-later x y ys there)
