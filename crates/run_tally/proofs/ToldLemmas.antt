-- What records tell of an object, with a record more.
use Rattle.std.proofs.Common.{◌≡◌, ◌≢◌, ◌<◌, ◌+◌, ℕ, Bool, List, [], ◌∷◌, ◌++◌, map, take, length, get_or, refl, sym, ap, ◌∙◌, eq-eqb, ne_eqb, cond, append-nil, append_assoc}
use Rattle.std.specs.Prelude.{◌==◌}
use Rattle.std.specs.List.{filter, flat_map}
use Rattle.std.proofs.lemmas.Grind.{flat_map-append}
use Rattle.std.proofs.lemmas.List.{map_more}
use Rattle.std.proofs.lemmas.List.Elements.{filter-append}
use Rattle.event_key.specs.declared.key.Key.{Key}
use Rattle.model_core.specs.declared.note.Note.{Note}
use Rattle.run_tally.specs.Told.{told_of_object}

module _ {X : Type 0} (tells : Key × Note → List X) where
  told-more : (object : ℕ) (records : List (Key × Note)) (told : Key × Note)
      → told_of_object tells object (records ++ told ∷ []) ≡ told_of_object tells object records ++ told_of_object tells object (told ∷ [])
  told-more object records told =
      let here : Key × Note → Bool = λ told. told.0.dest == object in
      ap (λ (xs : List (Key × Note)). flat_map tells xs) (filter-append here records (told ∷ []))
      ∙ flat_map-append tells (filter here records) (filter here (told ∷ []))

  -- of its own object
  pub told-here : (records : List (Key × Note)) (told : Key × Note)
      → told_of_object tells told.0.dest (records ++ told ∷ []) ≡ told_of_object tells told.0.dest records ++ tells told
  told-here records told =
      let its_own : told_of_object tells told.0.dest (told ∷ []) ≡ tells told =
      ap (λ b. flat_map tells (cond b (told ∷ []) [])) (eq-eqb told.0.dest told.0.dest refl) ∙ append-nil (tells told) in
      told-more told.0.dest records told ∙ ap (λ (more : List X). told_of_object tells told.0.dest records ++ more) its_own

  -- and of another one
  pub told-elsewhere : (object : ℕ) (records : List (Key × Note)) (told : Key × Note) → object ≢ told.0.dest
      → told_of_object tells object (records ++ told ∷ []) ≡ told_of_object tells object records
  told-elsewhere object records told apart =
      let none : told_of_object tells object (told ∷ []) ≡ [] =
      ap (λ b. flat_map tells (cond b (told ∷ []) [])) (ne_eqb told.0.dest object (λ same. apart (sym same))) in
      told-more object records told ∙ ap (λ (more : List X). told_of_object tells object records ++ more) none
      ∙ append-nil (told_of_object tells object records)

-- what a list tells, with an element more
pub told-further : {A X : Type 0} (tells : A → X) (told : List X) (xs : List A) (i : ℕ) (d : A) → i < length xs
    → (told ++ map tells (take i xs)) ++ tells (get_or xs i d) ∷ [] ≡ told ++ map tells (take (i + 1) xs)
told-further tells told xs i d within =
    append_assoc told (map tells (take i xs)) (tells (get_or xs i d) ∷ []) ∙ ap (λ ys. told ++ ys) (sym (map_more tells xs i d within))
