-- Lists in which each element stands equally often are permutations of one another.
use Rattle.std.proofs.Common.{◌≡◌, ℕ, ◌+◌, ◌<◌, Bool, true, false, cond, List, [], ◌∷◌, ◌++◌, refl, sym, ap, subst, arith}
use Rattle.std.specs.Prelude.{sum_by, count_by, IsPermutation}
use Rattle.std.proofs.lemmas.List.Sums.{sum_by-cons, sum_by-append}
use Rattle.std.proofs.lemmas.List.Sorted.{IsPermutation-refl, IsPermutation-sym, IsPermutation-trans, IsPermutation-cons, IsPermutation-middle}

-- a list is what stands before an element that is found, that element, and what stands behind it
found : {X : Type 0} (same : X → X → Bool) (x : X) (ys : List X) → ((y : X) → same x y ≡ true → x ≡ y) → 0 < count_by (same x) ys
    → (front : List X) × (back : List X) × (ys ≡ front ++ x ∷ back)
found {X = X} same x [] is some = absurd (omega arith)
found {X = X} same x (y ∷ ys) is some = by (same x y) refl (found same x ys is) some
  where
    by : (here : Bool) → same x y ≡ here → (0 < count_by (same x) ys → (front : List X) × (back : List X) × (ys ≡ front ++ x ∷ back)) → 0 < count_by (same x) (y ∷ ys)
        → (front : List X) × (back : List X) × (y ∷ ys ≡ front ++ x ∷ back)
    by true here more some = ([], ys, ap (λ z. z ∷ ys) (sym (is y here)))
    by false apart more some =
        let one : count_by (same x) (y ∷ ys) ≡ cond (same x y) 1 0 + count_by (same x) ys = sum_by-cons (λ z. cond (same x z) 1 0) y ys in
        let none : ◌≡◌ {A = ℕ} (cond (same x y) 1 0) 0 = ap (λ (b : Bool). cond b 1 0) apart in
        let rest = more (omega arith) in
        (y ∷ rest.0, rest.1, ap (λ zs. y ∷ zs) rest.2)

none_at_all : {X : Type 0} (same : X → X → Bool) → ((x : X) → same x x ≡ true) → (ys : List X) → ((x : X) → 0 ≡ count_by (same x) ys) → [] ≡ ys
none_at_all same own [] counts = refl
none_at_all same own (y ∷ ys) counts =
    let none : 0 ≡ count_by (same y) (y ∷ ys) = counts y in
    let one : count_by (same y) (y ∷ ys) ≡ cond (same y y) 1 0 + count_by (same y) ys = sum_by-cons (λ z. cond (same y z) 1 0) y ys in
    let here : ◌≡◌ {A = ℕ} (cond (same y y) 1 0) 1 = ap (λ (b : Bool). cond b 1 0) (own y) in
    absurd (omega arith)

pub same_counts : {X : Type 0} (same : X → X → Bool) → ((x y : X) → same x y ≡ true → x ≡ y) → ((x : X) → same x x ≡ true)
    → (xs ys : List X) → ((x : X) → count_by (same x) xs ≡ count_by (same x) ys) → IsPermutation xs ys
same_counts {X = X} same is own [] ys counts = let P : List X → Type 0 = λ zs. IsPermutation [] zs in subst P (none_at_all same own ys counts) (IsPermutation-refl [])
same_counts {X = X} same is own (x ∷ xs) ys counts =
    let here : count_by (same x) (x ∷ xs) ≡ cond (same x x) 1 0 + count_by (same x) xs = sum_by-cons (λ z. cond (same x z) 1 0) x xs in
    let one : ◌≡◌ {A = ℕ} (cond (same x x) 1 0) 1 = ap (λ (b : Bool). cond b 1 0) (own x) in
    let there : count_by (same x) (x ∷ xs) ≡ count_by (same x) ys = counts x in
    let at = found same x ys (is x) (omega arith) in
    let front : List X = at.0 in
    let back : List X = at.1 in
    let split : ys ≡ front ++ x ∷ back = at.2 in
    let fewer : (z : X) → count_by (same z) xs ≡ count_by (same z) (front ++ back) =
    λ z. let w : X → ℕ = λ v. cond (same z v) 1 0 in
    let all : sum_by w (x ∷ xs) ≡ sum_by w ys = counts z in
    let parts : sum_by w ys ≡ sum_by w (front ++ x ∷ back) = ap (sum_by w) split in
    omega (arith, sum_by-cons w x xs, sum_by-append w front (x ∷ back), sum_by-cons w x back, sum_by-append w front back) in
    let P : List X → Type 0 = λ zs. IsPermutation (x ∷ xs) zs in
    subst P (sym split)
    (IsPermutation-trans (x ∷ xs) (x ∷ (front ++ back)) (front ++ x ∷ back)
    (IsPermutation-cons x xs (front ++ back) (same_counts same is own xs (front ++ back) fewer))
    (IsPermutation-sym (front ++ x ∷ back) (x ∷ (front ++ back)) (IsPermutation-middle front x back)))
