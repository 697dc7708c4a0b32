-- Parts of a list that pass a test.
use Rattle.std.proofs.Common.{Bool, List, [], ap, arith, cond, drop, false, length, map, refl, suc, sym, take, take-append-drop, true, ℕ, ◌&&◌, ◌++◌, ◌+◌, ◌∙◌, ◌∷◌, ◌≡◌, ◌≤◌}
use Rattle.std.proofs.lemmas.List.{append-nil, length-append}
use Rattle.std.proofs.lemmas.List.Elements.{filter-append}
use Rattle.std.specs.List.{AllByRecursion as Each}
use Rattle.std.specs.Prelude.{filter}

-- where none passes, where all do, and where a front does
pub filter-none : {X : Type 0} (p : X → Bool) (xs : List X) → Each (λ x. p x ≡ false) xs → filter p xs ≡ []
filter-none p [] all = refl
filter-none p (x ∷ xs) all = ap (λ b. cond b (x ∷ filter p xs) (filter p xs)) all.0 ∙ filter-none p xs all.1

pub filter-all : {X : Type 0} (p : X → Bool) (xs : List X) → Each (λ x. p x ≡ true) xs → filter p xs ≡ xs
filter-all p [] all = refl
filter-all p (x ∷ xs) all = ap (λ b. cond b (x ∷ filter p xs) (filter p xs)) all.0 ∙ ap (λ ys. x ∷ ys) (filter-all p xs all.1)

pub filter-front : {X : Type 0} (p : X → Bool) (xs ys : List X) → Each (λ x. p x ≡ true) xs → Each (λ x. p x ≡ false) ys → filter p (xs ++ ys) ≡ xs
filter-front p xs ys pass stay =
    filter-append p xs ys
    ∙ ap (λ zs. filter p xs ++ zs) (filter-none p ys stay)
    ∙ append-nil (filter p xs)
    ∙ filter-all p xs pass

pub filter-passes : {X : Type 0} (p : X → Bool) (xs : List X) → Each (λ x. p x ≡ true) (filter p xs)
filter-passes p [] = tt
filter-passes p (x ∷ xs) = by_test (p x) refl (filter-passes p xs)
  where
    by_test : (b : Bool) → p x ≡ b → Each (λ x. p x ≡ true) (filter p xs) → Each (λ x. p x ≡ true) (cond b (x ∷ filter p xs) (filter p xs))
    by_test true pass more = (pass, more)
    by_test false stay more = more

pub length-filter_le : {X : Type 0} (p : X → Bool) (xs : List X) → length (filter p xs) ≤ length xs
length-filter_le p [] = omega arith
length-filter_le p (x ∷ xs) =
    let le = length-filter_le p xs in
    elim (p x) as (λ b. length (cond b (x ∷ filter p xs) (filter p xs)) ≤ suc (length xs)) [ true ↦ omega arith | false ↦ omega arith ]

-- of the first k no more pass than of all
pub length-filter_take : {X : Type 0} (p : X → Bool) (k : ℕ) (xs : List X) → length (filter p (take k xs)) ≤ length (filter p xs)
length-filter_take p k xs =
    let parts : filter p xs ≡ filter p (take k xs) ++ filter p (drop k xs) = ap (filter p) (sym (take-append-drop k xs)) ∙ filter-append p (take k xs) (drop k xs) in
    let sum : length (filter p xs) ≡ length (filter p (take k xs)) + length (filter p (drop k xs)) = ap length parts ∙ length-append _ _ in
    omega arith

pub filter-swap : {X : Type 0} (p q : X → Bool) (xs : List X) → filter p (filter q xs) ≡ filter q (filter p xs)
filter-swap p q [] = refl
filter-swap p q (x ∷ xs) = by_tests (p x) (q x) refl refl (filter-swap p q xs)
  where
    by_tests : (a b : Bool) → p x ≡ a → q x ≡ b → filter p (filter q xs) ≡ filter q (filter p xs) → filter p (cond b (x ∷ filter q xs) (filter q xs)) ≡ filter q (cond a (x ∷ filter p xs) (filter p xs))
    by_tests true true h k more = ap (λ c. cond c (x ∷ filter p (filter q xs)) (filter p (filter q xs))) h ∙ ap (λ ys. x ∷ ys) more ∙ sym (ap (λ c. cond c (x ∷ filter q (filter p xs)) (filter q (filter p xs))) k)
    by_tests true false h k more = more ∙ sym (ap (λ c. cond c (x ∷ filter q (filter p xs)) (filter q (filter p xs))) k)
    by_tests false true h k more = ap (λ c. cond c (x ∷ filter p (filter q xs)) (filter p (filter q xs))) h ∙ more
    by_tests false false h k more = more

-- a test after a function, and a test after a test
pub filter-map : {X Y : Type 0} (f : X → Y) (p : Y → Bool) (xs : List X) → filter p (map f xs) ≡ map f (filter (λ x. p (f x)) xs)
filter-map f p [] = refl
filter-map f p (x ∷ xs) =
    elim (p (f x)) as (λ b. cond b (f x ∷ filter p (map f xs)) (filter p (map f xs)) ≡ map f (cond b (x ∷ filter (λ x. p (f x)) xs) (filter (λ x. p (f x)) xs)))
    [ true ↦ ap (λ ys. f x ∷ ys) (filter-map f p xs) | false ↦ filter-map f p xs ]

pub filter-both : {X : Type 0} (p q : X → Bool) (xs : List X) → filter p (filter q xs) ≡ filter (λ x. q x && p x) xs
filter-both p q [] = refl
filter-both p q (x ∷ xs) = by_test (q x) (filter-both p q xs)
  where
    by_test : (b : Bool) → filter p (filter q xs) ≡ filter (λ x. q x && p x) xs
        → filter p (cond b (x ∷ filter q xs) (filter q xs)) ≡ cond (b && p x) (x ∷ filter (λ x. q x && p x) xs) (filter (λ x. q x && p x) xs)
    by_test true more = ap (λ ys. cond (p x) (x ∷ ys) ys) more
    by_test false more = more
