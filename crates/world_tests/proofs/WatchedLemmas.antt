-- What is said of values, of those in which they are.
use Rattle.std.proofs.Common.{◌≡◌, ℕ, List, map, sym, ap, subst, ◌∙◌}
use Rattle.std.specs.Prelude.{All, option_map, slice_get, Some}
use Rattle.std.proofs.lemmas.List.{get_or-map, length-map}
use Rattle.std.proofs.lemmas.Option.{slice_get-map}

module _ {W E : Type 0} (inner : W → E) where
  pub all-inner : (P : E → Type 0) (all : List W) (values : List E) → map inner all ≡ values → All P values → All (λ w. P (inner w)) all
  all-inner P all values are each k d below =
      let there : All P (map inner all) = subst (λ vs. All P vs) (sym are) each in
      subst P (get_or-map inner all k d (inner d) below) (there k (inner d) (rw (length-map all inner) below))

  pub inner-at : (all : List W) (values : List E) → map inner all ≡ values → (place : ℕ) (w : W) → slice_get all place ≡ Some w → slice_get values place ≡ Some (inner w)
  inner-at all values are place w at = ap (λ vs. slice_get vs place) (sym are) ∙ slice_get-map inner all place ∙ ap (option_map inner) at
