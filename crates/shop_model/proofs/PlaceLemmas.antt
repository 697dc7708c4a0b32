-- The random place where no word was drawn.
use Rattle.std.proofs.Common.{◌≡◌, ℕ, Bool, true, false, ◌==◌, [], ◌∷◌, refl, eq-eqb}
use Rattle.std.specs.Prelude.{if◌then◌else◌}
use Rattle.delta_exchange.specs.declared.change.Change.TheVariants.{Set}
use Rattle.model_core.specs.Places.{place_changes}

pub place_changes-same : (place : ℕ) → place_changes place place ≡ []
unfolding place_changes
place_changes-same place = by (place == place) refl
  where
    by : (same : Bool) → (place == place) ≡ same → (if same then [] else Set 0 place ∷ []) ≡ []
    by true is = refl
    by false is = let yes : (place == place) ≡ true = eq-eqb place place refl in cc
