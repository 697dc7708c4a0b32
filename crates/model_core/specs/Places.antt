-- The random place of an object: where its next random word stands.
use Rattle.std.specs.Prelude.{ℕ, Bool, true, false, ◌==◌, if◌then◌else◌, List, [], ◌∷◌}
use Rattle.delta_exchange.specs.declared.change.Change.{Change}
use Rattle.delta_exchange.specs.declared.change.Change.TheVariants.{Set}

-- where words were drawn, word 0 takes the place after them; an event draws fewer than 2 ^ 64, so that it is another place then
unfoldable pub place_changes : ℕ → ℕ → List Change
place_changes place next = if next == place then [] else Set 0 next ∷ []

-- what holds of no change and of the new place holds of either
pub place_cases : (P : List Change → Type 0) (place next : ℕ) → P [] → P (Set 0 next ∷ []) → P (place_changes place next)
unfolding place_changes
place_cases P place next stays moves = by (next == place)
  where
    by : (same : Bool) → P (if same then [] else Set 0 next ∷ [])
    by true = stays
    by false = moves
