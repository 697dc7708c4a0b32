-- A replay leaves lawful cells.
use Rattle.std.proofs.Common.{List, [], refl, subst, ℕ, ◌<◌, ◌∷◌, ◌≡◌}
use Rattle.std.specs.Prelude.{IsTrue}
use Rattle.model_core.specs.Meaning.{Meaning, MeaningLaws, OutcomeLaws}
use Rattle.model_core.specs.declared.effect.Outcome.{Outcome}
use Rattle.model_core.specs.declared.effect.Outcome.TheVariants.{Fails, Goes}
use Rattle.model_core.specs.declared.event.Event.{Event}
use Rattle.sim_spec.specs.Firing.{Fired, Firing, ObjectState, fails, fire, fired_by, goes}
use Rattle.sim_spec.specs.Replay.{replay, replay_fired}
use Rattle.sim_spec.proofs.FiringLemmas.{goes-firing}

-- what fires leaves lawful cells
fired_lawful : (m : Meaning) (object : ℕ) (state : ObjectState) (e : Event) (o : Outcome) (x : Firing) → OutcomeLaws m object state.cells o → fired_by object state e o ≡ goes x → IsTrue (m.lawful object x.state.cells)
unfolding fired_by
fired_lawful m object state e (Fails code) x laws is_x = absurd (cc)
fired_lawful m object state e (Goes y) x laws is_x =
    let P : Firing → Type 0 = λ x. IsTrue (m.lawful object x.state.cells) in subst P (goes-firing object state e y x is_x) laws.lawful

lawful_on : (m : Meaning) (object : ℕ) (state : ObjectState) (e : Event) (es : List Event) (f : Fired) → IsTrue (m.lawful object state.cells) → ((x : Firing) → f ≡ goes x → IsTrue (m.lawful object x.state.cells))
    → ((s : ObjectState) → IsTrue (m.lawful object s.cells) → IsTrue (m.lawful object (replay m object s es).state.cells))
    → IsTrue (m.lawful object (replay_fired state e (λ x. replay m object x.state es) f).state.cells)
unfolding replay_fired
lawful_on m object state e es (fails code) lawful gives more = lawful
lawful_on m object state e es (goes x) lawful gives more = more x.state (gives x refl)

pub replay-lawful : (m : Meaning) (object : ℕ) (state : ObjectState) (es : List Event) → MeaningLaws m → object < m.objects → IsTrue (m.lawful object state.cells) → IsTrue (m.lawful object (replay m object state es).state.cells)
unfolding replay fire
replay-lawful m object state [] laws below lawful = lawful
replay-lawful m object state (e ∷ es) laws below lawful =
    lawful_on m object state e es (fired_by object state e (m.effect object state.cells e)) lawful
    (λ x is_x. fired_lawful m object state e (m.effect object state.cells e) x (laws.outcome object state.cells e below lawful) is_x)
    (λ s h. replay-lawful m object s es laws below h)
