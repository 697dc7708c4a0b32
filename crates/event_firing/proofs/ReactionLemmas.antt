-- What an event that is settled says of its firing.
use Rattle.sim_spec.proofs.FiringLemmas.{goes-effect}
use Rattle.std.proofs.Common.{◌≡◌, ℕ, Bool, true, false, cond, refl, sym, ap, ◌∙◌, subst}
use Rattle.std.specs.Prelude.{IsTrue, ◌<◌}
use Rattle.delta_exchange.specs.Changes.{CellData}
use Rattle.model_core.specs.declared.effect.Effect.{Effect}
use Rattle.model_core.specs.declared.effect.Outcome.{Outcome}
use Rattle.model_core.specs.declared.effect.Outcome.TheVariants.{Goes, Fails}
use Rattle.model_core.specs.declared.event.Event.{Event}
use Rattle.model_core.specs.Meaning.{Meaning, MeaningLaws, EffectLaws, OutcomeLaws}
use Rattle.sim_spec.specs.Firing.{ObjectState, Fired, goes, fails, fired_by, fire, firing_of, has_endless_chain}
use Rattle.event_firing.specs.Settling.{settled}

no_effect : (x : Effect) (code : ℕ) → Goes x ≡ Fails code → ⊥
no_effect x code is = cc

-- a settled effect is the model's, and chains nothing
pub settled-goes : (stamp : ℕ) (o : Outcome) (x : Effect) → Goes x ≡ settled stamp o → (o ≡ Goes x) × (has_endless_chain stamp x.sends ≡ false)
settled-goes stamp (Fails code) x is = absurd (no_effect x code is)
settled-goes stamp (Goes y) x is = by_test (has_endless_chain stamp y.sends) refl is
  where
    by_test : (b : Bool) → has_endless_chain stamp y.sends ≡ b → Goes x ≡ cond b (Fails 1) (Goes y) → (Goes y ≡ Goes x) × (has_endless_chain stamp x.sends ≡ false)
    by_test true chained is = absurd (no_effect x 1 is)
    by_test false chained is = (sym is, ap (λ (z : Effect). has_endless_chain stamp z.sends) (goes-effect x y is) ∙ chained)

-- a settled fault is that of firing
fails_by : (object : ℕ) (s : ObjectState) (e : Event) (o : Outcome) (code : ℕ) → Fails code ≡ settled e.key.stamp o → fired_by object s e o ≡ fails code
unfolding fired_by
fails_by object s e (Fails word) code is = ap fails (inside word code (sym is))
  where
    inside : (a b : ℕ) → ◌≡◌ {A = Outcome} (Fails a) (Fails b) → a ≡ b
    inside a b is = cc
fails_by object s e (Goes x) code is = by_test (has_endless_chain e.key.stamp x.sends) _ is
  where
    by_test : (b : Bool) (f : Fired) → Fails code ≡ cond b (Fails 1) (Goes x) → cond b (fails 1) f ≡ fails code
    by_test true f is = ap fails (one (sym is))
      where
        one : ◌≡◌ {A = Outcome} (Fails 1) (Fails code) → 1 ≡ code
        one is = cc
    by_test false f is = absurd (let no : Goes x ≡ Fails code = sym is in cc)

pub settled-fails : (m : Meaning) (object : ℕ) (s : ObjectState) (e : Event) (code : ℕ) → Fails code ≡ settled e.key.stamp (m.effect object s.cells e) → fire m object s e ≡ fails code
unfolding fire
settled-fails m object s e code is = fails_by object s e (m.effect object s.cells e) code is

pub fire-goes : (m : Meaning) (object : ℕ) (s : ObjectState) (e : Event) (x : Effect) → Goes x ≡ settled e.key.stamp (m.effect object s.cells e) → fire m object s e ≡ goes (firing_of object s e x)
unfolding fire fired_by
fire-goes m object s e x is =
    let known = settled-goes e.key.stamp (m.effect object s.cells e) x is in
    ap (fired_by object s e) known.0
    ∙ ap (λ b. cond b (fails 1) (goes (firing_of object s e x))) known.1

-- the laws of a settled effect
pub settled-laws : (m : Meaning) (object : ℕ) (cells : CellData) (e : Event) (x : Effect) → MeaningLaws m → object < m.objects → IsTrue (m.lawful object cells)
    → Goes x ≡ settled e.key.stamp (m.effect object cells e) → EffectLaws m object cells x
settled-laws m object cells e x laws below lawful is =
    let P : Outcome → Type 0 = OutcomeLaws m object cells in
    subst P (settled-goes e.key.stamp (m.effect object cells e) x is).0 (laws.outcome object cells e below lawful)
