-- Bounds on the stamps of events, and of what they send.
use Rattle.std.proofs.Common.{◌≡◌, ℕ, suc, ◌+◌, ◌*◌, ◌<◌, ◌≤◌, Bool, true, false, cond, List, [], ◌∷◌, refl, subst, arith, eqb}
use Rattle.std.proofs.lemmas.Bool.{eqb-false}
use Rattle.event_key.specs.Stamps.{next_stamp, time_part}
use Rattle.model_core.specs.declared.event.Event.{Event}
use Rattle.model_core.specs.declared.event.Send.{Send}
use Rattle.model_core.specs.declared.effect.Outcome.{Outcome}
use Rattle.model_core.specs.declared.effect.Outcome.TheVariants.{Goes, Fails}
use Rattle.model_core.specs.Meaning.{Meaning}
use Rattle.sim_spec.specs.Firing.{ObjectState, Firing, goes, fire, fired_by, emissions}
use Rattle.key_order.specs.Stamps.{NoneBelow}
use Rattle.sim_spec.specs.Cut.{emissions_of}
use Rattle.sim_spec.specs.Replay.{EmitsFrom}
use Rattle.key_order.proofs.EachLemmas.{Each-map, Each-append}
use Rattle.key_order.proofs.StampLemmas.{NoneBelow-le}
use Rattle.sim_spec.proofs.FiringLemmas.{goes-firing}

-- what events send, bounded one by one or all together
pub EmitsFrom-le : (g h : ℕ) (ds : List (Event × Firing)) → g ≤ h → EmitsFrom h ds → EmitsFrom g ds
EmitsFrom-le g h ds le from = Each-map (λ (d : Event × Firing). NoneBelow h d.1.events) (λ (d : Event × Firing). NoneBelow g d.1.events) ds (λ d. NoneBelow-le g h d.1.events le) from

pub NoneBelow-emissions_of : (h : ℕ) (ds : List (Event × Firing)) → EmitsFrom h ds → NoneBelow h (emissions_of ds)
unfolding emissions_of
NoneBelow-emissions_of h [] from = tt
NoneBelow-emissions_of h (d ∷ ds) from = Each-append (λ (e : Event). h ≤ e.key.stamp) d.1.events (emissions_of ds) from.0 (NoneBelow-emissions_of h ds from.1)

-- what is sent has a later stamp than its cause
next_stamp-later : (stamp delay : ℕ) → stamp < next_stamp stamp delay
unfolding next_stamp
next_stamp-later stamp delay = by_delay (eqb delay 0) refl
  where
    by_delay : (b : Bool) → eqb delay 0 ≡ b → stamp < cond b (stamp + 1) ((time_part stamp + delay) * 65536)
    by_delay true none = omega arith
    by_delay false some = let positive = eqb-false delay 0 some in omega arith

emissions_later : (stamp object serial : ℕ) (ss : List Send) → NoneBelow (suc stamp) (emissions stamp object serial ss)
unfolding emissions
emissions_later stamp object serial [] = tt
emissions_later stamp object serial (s ∷ ss) = (next_stamp-later stamp s.delay, emissions_later stamp object (serial + 1) ss)

outcome_later : (object : ℕ) (state : ObjectState) (e : Event) (o : Outcome) (x : Firing) → fired_by object state e o ≡ goes x → NoneBelow (suc e.key.stamp) x.events
unfolding fired_by
outcome_later object state e (Fails code) x is_x = absurd (cc)
outcome_later object state e (Goes y) x is_x =
    let P : Firing → Type 0 = λ x. NoneBelow (suc e.key.stamp) x.events in subst P (goes-firing object state e y x is_x) (emissions_later e.key.stamp object state.sent y.sends)

pub fire-later : (m : Meaning) (object : ℕ) (state : ObjectState) (e : Event) (x : Firing) → fire m object state e ≡ goes x → NoneBelow (suc e.key.stamp) x.events
unfolding fire
fire-later m object state e x is_x = outcome_later object state e (m.effect object state.cells e) x is_x
