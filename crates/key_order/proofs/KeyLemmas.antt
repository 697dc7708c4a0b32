-- Keys that differ, by counting: a count doesn't see the order.
use Rattle.std.proofs.Common.{◌≡◌, ◌≢◌, ◌⊎◌, ◌+◌, ◌≤◌, Bool, true, false, List, [], ◌∷◌, ◌++◌, inl, inr, sym, refl, ap, ◌∙◌, subst, arith}
use Rattle.std.specs.Prelude.{IsPermutation}
use Rattle.std.specs.List.{AllByRecursion as Each}
use Rattle.std.proofs.lemmas.List.Sorted.{sum_by-IsPermutation}
use Rattle.std.proofs.lemmas.List.Sums.{sum_by-cons, sum_by-append}
use Rattle.event_key.specs.declared.key.Key.{Key}
use Rattle.event_key.specs.Keys.{key_lt}
use Rattle.event_key.proofs.Order.{key_lt-irrefl, key_lt-apart, key_lt-trans}
use Rattle.key_order.specs.Ascending.{After, Ascends}
use Rattle.key_order.specs.Keys.{unless, at_key, times, Differ}

-- of two keys that differ, one comes first
pub key_lt-other : (j k : Key) → j ≢ k → key_lt j k ≡ false → key_lt k j ≡ true
key_lt-other j k apart not_lt = by_test (key_lt k j) refl
  where
    by_test : (b : Bool) → key_lt k j ≡ b → b ≡ true
    by_test true h = refl
    by_test false h = absurd (apart (key_lt-apart j k not_lt h))

-- a key that comes before another isn't that one
pub key_lt-differs : (j k : Key) → key_lt j k ≡ true → j ≢ k
key_lt-differs j k lt same = let no = key_lt-irrefl j in let yes : key_lt j j ≡ true = ap (key_lt j) same ∙ lt in cc

pub same_or_other : (j k : Key) → (j ≡ k) ⊎ (j ≢ k)
same_or_other j k = by_tests (key_lt j k) (key_lt k j) refl refl
  where
    by_tests : (a b : Bool) → key_lt j k ≡ a → key_lt k j ≡ b → (j ≡ k) ⊎ (j ≢ k)
    by_tests true b h g = inr (key_lt-differs j k h)
    by_tests false true h g = inr (λ same. key_lt-differs k j g (sym same))
    by_tests false false h g = inl (key_lt-apart j k h g)

-- of keys none of which comes before the next, the first doesn't come before the last
pub key_lt-none-trans : (i j k : Key) → key_lt i j ≡ false → key_lt j k ≡ false → key_lt i k ≡ false
key_lt-none-trans i j k h g = by_test (key_lt i k) refl
  where
    by_test : (t : Bool) → key_lt i k ≡ t → t ≡ false
    by_test false is = refl
    by_test true is =
        elim (same_or_other i j) [
          | inl same ↦ (let yes : key_lt j k ≡ true = ap (λ v. key_lt v k) (sym same) ∙ is in absurd (cc))
          | inr apart ↦ (let yes : key_lt j k ≡ true = key_lt-trans j i k (key_lt-other i j apart h) is in absurd (cc))
        ]

module _ {X : Type 0} (key : X → Key) where
  pub at_key-same : (k : Key) (x : X) → k ≡ key x → at_key key k x ≡ 1
  at_key-same k x same =
      let P : Key → Type 0 = λ j. unless (key_lt k j) (key_lt j k) ≡ 1 in
      subst P same (ap (λ b. unless b b) (key_lt-irrefl k))

  pub at_key-other : (k : Key) (x : X) → k ≢ key x → at_key key k x ≡ 0
  at_key-other k x apart = by_tests (key_lt k (key x)) (key_lt (key x) k) refl refl
    where
      by_tests : (a b : Bool) → key_lt k (key x) ≡ a → key_lt (key x) k ≡ b → unless a b ≡ 0
      by_tests true b h g = refl
      by_tests false true h g = refl
      by_tests false false h g = absurd (apart (key_lt-apart k (key x) h g))

  -- a key that no element has
  pub new-head : (k : Key) (x : X) (xs : List X) → times key k (x ∷ xs) ≡ 0 → k ≢ key x
  new-head k x xs new same =
      let sum : times key k (x ∷ xs) ≡ at_key key k x + times key k xs = sum_by-cons (at_key key k) x xs in
      let one : at_key key k x ≡ 1 = at_key-same k x same in
      omega arith

  pub new-tail : (k : Key) (x : X) (xs : List X) → times key k (x ∷ xs) ≡ 0 → times key k xs ≡ 0
  new-tail k x xs new =
      let sum : times key k (x ∷ xs) ≡ at_key key k x + times key k xs = sum_by-cons (at_key key k) x xs in
      omega arith

  pub new-cons : (k : Key) (x : X) (xs : List X) → k ≢ key x → times key k xs ≡ 0 → times key k (x ∷ xs) ≡ 0
  new-cons k x xs apart new =
      let sum : times key k (x ∷ xs) ≡ at_key key k x + times key k xs = sum_by-cons (at_key key k) x xs in
      let none : at_key key k x ≡ 0 = at_key-other k x apart in
      omega arith

  pub new-append : (k : Key) (xs ys : List X) → times key k xs ≡ 0 → times key k ys ≡ 0 → times key k (xs ++ ys) ≡ 0
  new-append k xs ys new more =
      let sum : times key k (xs ++ ys) ≡ times key k xs + times key k ys = sum_by-append (at_key key k) xs ys in
      omega arith

  pub After-new : (k : Key) (xs : List X) → After key k xs → times key k xs ≡ 0
  After-new k [] all = refl
  After-new k (x ∷ xs) all = new-cons k x xs (key_lt-differs k (key x) all.0) (After-new k xs all.1)

  -- where no key is this one and none comes before it, each comes after
  pub new-later : (k : Key) (xs : List X) → times key k xs ≡ 0 → Each (λ (x : X). key_lt (key x) k ≡ false) xs → After key k xs
  new-later k [] new none = tt
  new-later k (x ∷ xs) new none = (key_lt-other (key x) k (λ same. new-head k x xs new (sym same)) none.0, new-later k xs (new-tail k x xs new) none.1)

  -- keys that differ
  pub Differ-none : Differ key []
  Differ-none k = omega arith

  pub Differ-first : (x : X) (xs : List X) → Differ key (x ∷ xs) → times key (key x) xs ≡ 0
  Differ-first x xs differ =
      let le : times key (key x) (x ∷ xs) ≤ 1 = differ (key x) in
      let sum : times key (key x) (x ∷ xs) ≡ at_key key (key x) x + times key (key x) xs = sum_by-cons (at_key key (key x)) x xs in
      let one : at_key key (key x) x ≡ 1 = at_key-same (key x) x refl in
      omega arith

  pub Differ-cons : (x : X) (xs : List X) → times key (key x) xs ≡ 0 → Differ key xs → Differ key (x ∷ xs)
  Differ-cons x xs new differ k =
      let sum : times key k (x ∷ xs) ≡ at_key key k x + times key k xs = sum_by-cons (at_key key k) x xs in
      let le : times key k xs ≤ 1 = differ k in
      elim (same_or_other k (key x)) [
        | inl same ↦ (
            let P : Key → Type 0 = λ j. times key j xs ≡ 0 in
            let none : times key k xs ≡ 0 = subst P (sym same) new in
            let one : at_key key k x ≡ 1 = at_key-same k x same in
            omega arith)
        | inr apart ↦ (let none : at_key key k x ≡ 0 = at_key-other k x apart in omega arith)
      ]

  pub Differ-permutation : (xs ys : List X) → IsPermutation xs ys → Differ key xs → Differ key ys
  Differ-permutation xs ys moves differ k = let same = sum_by-IsPermutation (at_key key k) xs ys moves in let le = differ k in omega arith

  pub Differ-prefix : (xs ys : List X) → Differ key (xs ++ ys) → Differ key xs
  Differ-prefix xs ys differ k = let sum = sum_by-append (at_key key k) xs ys in let le = differ k in omega arith

  pub Differ-back : (xs ys : List X) → Differ key (xs ++ ys) → Differ key ys
  Differ-back xs ys differ k = let sum = sum_by-append (at_key key k) xs ys in let le = differ k in omega arith

  pub Ascends-differ : (xs : List X) → Ascends key xs → Differ key xs
  unfolding Ascends
  Ascends-differ [] up = Differ-none
  Ascends-differ (x ∷ xs) up = Differ-cons x xs (After-new (key x) xs up.0) (Ascends-differ xs up.1)
