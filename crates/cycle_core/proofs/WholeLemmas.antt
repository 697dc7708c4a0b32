-- Waiting events at home, in order and the same at each object are one list.
use Rattle.std.proofs.Common.{◌≡◌, ℕ, Bool, true, false, cond, List, [], ◌∷◌, refl, subst, eqb, eqb-true}
use Rattle.std.specs.List.{AllByRecursion as Each}
use Rattle.model_core.specs.Meaning.{Meaning}
use Rattle.model_core.specs.declared.event.Event.{Event}
use Rattle.sim_spec.specs.Replay.{events_at}
use Rattle.world_spec.specs.Share.{IsHome, IsAtHome}

module _ (m : Meaning) (home : ℕ → ℕ) (node : ℕ) where
  -- nothing waits at an object that lives elsewhere
  pub none-elsewhere : (object : ℕ) → (IsHome m home node object → ⊥) → (es : List Event) → Each (IsAtHome m home node) es → events_at object es ≡ []
  unfolding events_at
  none-elsewhere object far [] homed = refl
  none-elsewhere object far (e ∷ es) homed = by_test (eqb e.key.dest object) refl (none-elsewhere object far es homed.1)
    where
      by_test : (b : Bool) → eqb e.key.dest object ≡ b → events_at object es ≡ [] → cond b (e ∷ events_at object es) (events_at object es) ≡ []
      by_test true here rest = absurd (far (subst (IsHome m home node) (eqb-true e.key.dest object here) homed.0))
      by_test false there rest = rest
