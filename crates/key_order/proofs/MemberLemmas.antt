-- Members of lists, and parts of them.
use Rattle.std.proofs.Common.{Bool, List, [], ap, arith, cond, false, inl, inr, length, refl, subst, suc, true, zero, ℕ, ◌<◌, ◌∙◌, ◌∷◌, ◌≡◌, ◌⊎◌}
use Rattle.std.specs.List.{AllByRecursion as Each}
use Rattle.std.specs.Prelude.{Contains, IsPermutation, filter, slice_index_or}
use Rattle.std.proofs.lemmas.List.Sorted.{Contains-permutation, IsPermutation-sym}

-- an element is the first one, or one behind it
pub first-or-later : {X : Type 0} (x y : X) (ys : List X) → Contains (y ∷ ys) x → (y ≡ x) ⊎ Contains ys x
first-or-later x y ys is_in = at_place is_in.0 is_in.1 is_in.2
  where
    at_place : (k : ℕ) → k < length (y ∷ ys) → slice_index_or (y ∷ ys) k x ≡ x → (y ≡ x) ⊎ Contains ys x
    at_place zero below is = inl is
    at_place (suc k) below is = inr (k, (omega arith), is)

pub is-first : {X : Type 0} (x y : X) (ys : List X) → y ≡ x → Contains (y ∷ ys) x
is-first x y ys same = (0, (omega arith), same)

pub is-later : {X : Type 0} (x y : X) (ys : List X) → Contains ys x → Contains (y ∷ ys) x
is-later x y ys is_in = (suc is_in.0, (let lt : is_in.0 < length ys = is_in.1 in omega arith), is_in.2)

pub none-in : {X : Type 0} {A : Type 0} (x : X) → Contains [] x → A
none-in x is_in = absurd (let lt : is_in.0 < 0 = is_in.1 in omega arith)

-- what holds of each holds of a member
pub each-contains : {X : Type 0} (P : X → Type 0) (x : X) (xs : List X) → Each P xs → Contains xs x → P x
each-contains P x [] all is_in = none-in x is_in
each-contains P x (y ∷ ys) all is_in =
    elim (first-or-later x y ys is_in) [ inl same ↦ subst P same all.0 | inr more ↦ each-contains P x ys all.1 more ]

-- a member of a part is one of the whole
pub filter-contains : {X : Type 0} (p : X → Bool) (x : X) (xs : List X) → Contains (filter p xs) x → Contains xs x
filter-contains p x [] is_in = is_in
filter-contains p x (y ∷ ys) is_in = by_test (p y) (filter-contains p x ys) is_in
  where
    by_test : (b : Bool) → (Contains (filter p ys) x → Contains ys x) → Contains (cond b (y ∷ filter p ys) (filter p ys)) x → Contains (y ∷ ys) x
    by_test true more is_in =
        elim (first-or-later x y (filter p ys) is_in) [
          | inl same ↦ is-first x y ys same
          | inr there ↦ is-later x y ys (more there)
        ]
    by_test false more is_in = is-later x y ys (more is_in)

-- a member that passes the test is one of the part
pub contains-filter : {X : Type 0} (p : X → Bool) (x : X) (xs : List X) → p x ≡ true → Contains xs x → Contains (filter p xs) x
contains-filter p x [] passes is_in = is_in
contains-filter p x (y ∷ ys) passes is_in = by_test (p y) refl (contains-filter p x ys passes)
  where
    by_test : (b : Bool) → p y ≡ b → (Contains ys x → Contains (filter p ys) x) → Contains (cond b (y ∷ filter p ys) (filter p ys)) x
    by_test true here more = elim (first-or-later x y ys is_in) [ inl same ↦ is-first x y (filter p ys) same | inr later ↦ is-later x y (filter p ys) (more later) ]
    by_test false here more = elim (first-or-later x y ys is_in) [ inl same ↦ (let good : p y ≡ true = ap p same ∙ passes in absurd (cc)) | inr later ↦ more later ]

-- what holds of each member holds of each
pub each-member : {X : Type 0} (P : X → Type 0) (xs : List X) → ((x : X) → Contains xs x → P x) → Each P xs
each-member P [] all = tt
each-member P (x ∷ xs) all = (all x (is-first x x xs refl), each-member P xs (λ y is_in. all y (is-later y x xs is_in)))

pub Each-permutation : {X : Type 0} (P : X → Type 0) (xs ys : List X) → IsPermutation xs ys → Each P xs → Each P ys
Each-permutation P xs ys moves all = each-member P ys (λ x is_in. each-contains P x xs all (Contains-permutation ys xs x (IsPermutation-sym xs ys moves) is_in))
