-- A list is as long as its parts together, object by object.
use Rattle.std.proofs.Common.{◌≡◌, ℕ, zero, suc, ◌+◌, ◌<◌, ◌≤◌, Bool, true, false, cond, List, [], ◌∷◌, length, eqb, eq-eqb, eqb-true, ltb, ltb-true, ltb-false, refl, sym, ap, arith}
use Rattle.std.specs.Prelude.{filter}
use Rattle.std.specs.List.{AllByRecursion as Each}
use Rattle.node_core.specs.Shares.{total_upto}

pub total-same : (f g : ℕ → ℕ) (n : ℕ) → ((k : ℕ) → f k ≡ g k) → total_upto f n ≡ total_upto g n
unfolding total_upto
total-same f g zero same = refl
total-same f g (suc n) same = let more = total-same f g n same in let here = same n in omega arith

total-add : (f g : ℕ → ℕ) (n : ℕ) → total_upto (λ k. f k + g k) n ≡ total_upto f n + total_upto g n
unfolding total_upto
total-add f g zero = omega arith
total-add f g (suc n) = let more = total-add f g n in omega arith

total-zero : (n : ℕ) → total_upto (λ (k : ℕ). 0) n ≡ 0
unfolding total_upto
total-zero zero = refl
total-zero (suc n) = let more = total-zero n in omega arith

abbrev one_if : Bool → ℕ
one_if b = cond b 1 0

pub eqb-apart : (a b : ℕ) → (a ≡ b → ⊥) → eqb a b ≡ false
eqb-apart a b apart = by_test (eqb a b) refl
  where
    by_test : (t : Bool) → eqb a b ≡ t → t ≡ false
    by_test true h = absurd (apart (eqb-true a b h))
    by_test false h = refl

total-none : (d n : ℕ) → n ≤ d → total_upto (λ k. one_if (eqb d k)) n ≡ 0
unfolding total_upto
total-none d zero le = refl
total-none d (suc n) le =
    let more = total-none d n (omega arith) in
    let here : one_if (eqb d n) ≡ 0 = ap one_if (eqb-apart d n (λ is. omega arith)) in
    omega arith

total-one : (d n : ℕ) → d < n → total_upto (λ k. one_if (eqb d k)) n ≡ 1
unfolding total_upto
total-one d zero lt = absurd (omega arith)
total-one d (suc n) lt = by_test (ltb d n) refl (λ below. total-one d n below)
  where
    by_test : (b : Bool) → ltb d n ≡ b → (d < n → total_upto (λ k. one_if (eqb d k)) n ≡ 1) → total_upto (λ k. one_if (eqb d k)) n + one_if (eqb d n) ≡ 1
    by_test true h smaller =
        let below = ltb-true d n h in
        let more = smaller below in
        let here : one_if (eqb d n) ≡ 0 = ap one_if (eqb-apart d n (λ is. omega arith)) in
        omega arith
    by_test false h smaller =
        let above = ltb-false d n h in
        let is : d ≡ n = omega arith in
        let none = total-none d n (omega arith) in
        let here : one_if (eqb d n) ≡ 1 = ap one_if (eq-eqb d n is) in
        omega arith

module _ {A : Type 0} (place : A → ℕ) where
  length-more : (x : A) (xs : List A) (k : ℕ) → length (filter (λ x. eqb (place x) k) (x ∷ xs)) ≡ one_if (eqb (place x) k) + length (filter (λ x. eqb (place x) k) xs)
  length-more x xs k =
      let rest = filter (λ x. eqb (place x) k) xs in
      elim (eqb (place x) k) as (λ b. length (cond b (x ∷ rest) rest) ≡ one_if b + length rest) [ true ↦ omega arith | false ↦ omega arith ]

  -- all its elements have places below n
  pub length-parts : (n : ℕ) (xs : List A) → Each (λ x. place x < n) xs → length xs ≡ total_upto (λ k. length (filter (λ x. eqb (place x) k) xs)) n
  length-parts n [] below = sym (total-zero n)
  length-parts n (x ∷ xs) below =
      let more = length-parts n xs below.1 in
      let one = total-one (place x) n below.0 in
      let sum = total-add (λ k. one_if (eqb (place x) k)) (λ k. length (filter (λ x. eqb (place x) k) xs)) n in
      let same = total-same (λ k. length (filter (λ x. eqb (place x) k) (x ∷ xs))) (λ k. one_if (eqb (place x) k) + length (filter (λ x. eqb (place x) k) xs)) n (length-more x xs) in
      omega arith
