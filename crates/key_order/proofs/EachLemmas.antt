-- What holds of each element of a list.
use Rattle.std.proofs.Common.{ℕ, zero, suc, Bool, true, false, cond, List, [], ◌∷◌, ◌++◌, take, drop}
use Rattle.std.specs.Prelude.{filter}
use Rattle.std.specs.List.{AllByRecursion as Each}

pub Each-map : {A : Type 0} (P Q : A → Type 0) (xs : List A) → ((x : A) → P x → Q x) → Each P xs → Each Q xs
Each-map P Q [] gives all = tt
Each-map P Q (x ∷ xs) gives all = (gives x all.0, Each-map P Q xs gives all.1)

pub Each-both : {A : Type 0} (P Q R : A → Type 0) (xs : List A) → ((x : A) → P x → Q x → R x) → Each P xs → Each Q xs → Each R xs
Each-both P Q R [] gives all more = tt
Each-both P Q R (x ∷ xs) gives all more = (gives x all.0 more.0, Each-both P Q R xs gives all.1 more.1)

pub Each-append : {A : Type 0} (P : A → Type 0) (xs ys : List A) → Each P xs → Each P ys → Each P (xs ++ ys)
Each-append P [] ys all more = more
Each-append P (x ∷ xs) ys all more = (all.0, Each-append P xs ys all.1 more)

pub Each-front : {A : Type 0} (P : A → Type 0) (xs ys : List A) → Each P (xs ++ ys) → Each P xs
Each-front P [] ys all = tt
Each-front P (x ∷ xs) ys all = (all.0, Each-front P xs ys all.1)

pub Each-back : {A : Type 0} (P : A → Type 0) (xs ys : List A) → Each P (xs ++ ys) → Each P ys
Each-back P [] ys all = all
Each-back P (x ∷ xs) ys all = Each-back P xs ys all.1

pub Each-take : {A : Type 0} (P : A → Type 0) (k : ℕ) (xs : List A) → Each P xs → Each P (take k xs)
Each-take P zero xs all = tt
Each-take P (suc k) [] all = tt
Each-take P (suc k) (x ∷ xs) all = (all.0, Each-take P k xs all.1)

pub Each-drop : {A : Type 0} (P : A → Type 0) (k : ℕ) (xs : List A) → Each P xs → Each P (drop k xs)
Each-drop P zero xs all = all
Each-drop P (suc k) [] all = tt
Each-drop P (suc k) (x ∷ xs) all = Each-drop P k xs all.1

pub Each-filter : {A : Type 0} (P : A → Type 0) (p : A → Bool) (xs : List A) → Each P xs → Each P (filter p xs)
Each-filter P p [] all = tt
Each-filter P p (x ∷ xs) all =
    elim (p x) as (λ b. Each P (cond b (x ∷ filter p xs) (filter p xs))) [ true ↦ (all.0, Each-filter P p xs all.1) | false ↦ Each-filter P p xs all.1 ]
