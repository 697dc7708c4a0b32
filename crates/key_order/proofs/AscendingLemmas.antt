-- Parts of a list in the order of its keys, and its images.
use Rattle.std.proofs.Common.{◌≡◌, ℕ, zero, suc, Bool, true, false, cond, List, [], ◌∷◌, ◌++◌, map, take, subst, sym}
use Rattle.std.specs.Prelude.{filter}
use Rattle.std.specs.List.{AllByRecursion as Each}
use Rattle.event_key.specs.declared.key.Key.{Key}
use Rattle.event_key.specs.Keys.{key_lt}
use Rattle.event_key.proofs.Order.{key_lt-irrefl, key_lt-trans, key_lt-turned}
use Rattle.key_order.specs.Ascending.{After, Ascends}
use Rattle.key_order.proofs.EachLemmas.{Each-map, Each-back, Each-filter, Each-front, Each-take}

-- no key comes before itself
pub key_lt-never : (k : Key) → key_lt k k ≡ true → ⊥
key_lt-never k lt = let no = key_lt-irrefl k in cc

module _ {X : Type 0} (key : X → Key) where
  -- what comes after a later key comes after this one
  pub After-trans : (j k : Key) (xs : List X) → key_lt j k ≡ true → After key k xs → After key j xs
  After-trans j k xs lt all = Each-map (λ (x : X). key_lt k (key x) ≡ true) (λ (x : X). key_lt j (key x) ≡ true) xs (λ x after. key_lt-trans j k (key x) lt after) all

  -- what comes before the first of a list in order comes before all of it
  pub After-head : (k : Key) (x : X) (xs : List X) → key_lt k (key x) ≡ true → Ascends key (x ∷ xs) → After key k (x ∷ xs)
  unfolding Ascends
  After-head k x xs lt up = (lt, After-trans k (key x) xs lt up.0)

  -- a single element is in order
  pub Ascends-one : (xs : List X) (x : X) → xs ≡ x ∷ [] → Ascends key xs
  unfolding Ascends
  Ascends-one xs x is = let P : List X → Type 0 = Ascends key in subst P (sym is) (tt, tt)

  pub Ascends-filter : (p : X → Bool) (xs : List X) → Ascends key xs → Ascends key (filter p xs)
  unfolding Ascends
  Ascends-filter p [] up = tt
  Ascends-filter p (x ∷ xs) up =
      elim (p x) as (λ b. Ascends key (cond b (x ∷ filter p xs) (filter p xs))) [
        | true ↦ (Each-filter (λ (y : X). key_lt (key x) (key y) ≡ true) p xs up.0, Ascends-filter p xs up.1)
        | false ↦ Ascends-filter p xs up.1
      ]

  pub Ascends-take : (k : ℕ) (xs : List X) → Ascends key xs → Ascends key (take k xs)
  unfolding Ascends
  Ascends-take zero xs up = tt
  Ascends-take (suc k) [] up = tt
  Ascends-take (suc k) (x ∷ xs) up = (Each-take (λ (y : X). key_lt (key x) (key y) ≡ true) k xs up.0, Ascends-take k xs up.1)

  pub Ascends-prefix : (xs ys : List X) → Ascends key (xs ++ ys) → Ascends key xs
  unfolding Ascends
  Ascends-prefix [] ys up = tt
  Ascends-prefix (x ∷ xs) ys up = (Each-front (λ (y : X). key_lt (key x) (key y) ≡ true) xs ys up.0, Ascends-prefix xs ys up.1)

  pub Ascends-back : (xs ys : List X) → Ascends key (xs ++ ys) → Ascends key ys
  unfolding Ascends
  Ascends-back [] ys up = up
  Ascends-back (x ∷ xs) ys up = Ascends-back xs ys up.1

  -- the elements before one of the list have smaller keys, and it and those behind it don't
  pub Ascends-before : (xs : List X) (y : X) (ys : List X) → Ascends key (xs ++ (y ∷ ys)) → Each (λ (x : X). key_lt (key x) (key y) ≡ true) xs
  unfolding Ascends
  Ascends-before [] y ys up = tt
  Ascends-before (x ∷ xs) y ys up =
      let later : Each (λ (z : X). key_lt (key x) (key z) ≡ true) (y ∷ ys) = Each-back (λ (z : X). key_lt (key x) (key z) ≡ true) xs (y ∷ ys) up.0 in
      (later.0, Ascends-before xs y ys up.1)

  pub Ascends-from : (xs : List X) (y : X) (ys : List X) → Ascends key (xs ++ (y ∷ ys)) → Each (λ (x : X). key_lt (key x) (key y) ≡ false) (y ∷ ys)
  unfolding Ascends
  Ascends-from xs y ys up =
      let own = Ascends-back xs (y ∷ ys) up in (
        key_lt-irrefl (key y),
        Each-map (λ (x : X). key_lt (key y) (key x) ≡ true) (λ (x : X). key_lt (key x) (key y) ≡ false) ys (λ x lt. key_lt-turned (key y) (key x) lt) own.0,
      )

-- the order of images, and of what they are made of
module _ {X Y : Type 0} (key : Y → Key) (f : X → Y) where
  After-map : (k : Key) (xs : List X) → After (λ x. key (f x)) k xs → After key k (map f xs)
  After-map k [] all = tt
  After-map k (x ∷ xs) all = (all.0, After-map k xs all.1)

  pub Ascends-map : (xs : List X) → Ascends (λ x. key (f x)) xs → Ascends key (map f xs)
  unfolding Ascends
  Ascends-map [] up = tt
  Ascends-map (x ∷ xs) up = (After-map (key (f x)) xs up.0, Ascends-map xs up.1)

  After-mapped : (k : Key) (xs : List X) → After key k (map f xs) → After (λ x. key (f x)) k xs
  After-mapped k [] all = tt
  After-mapped k (x ∷ xs) all = (all.0, After-mapped k xs all.1)

  pub Ascends-mapped : (xs : List X) → Ascends key (map f xs) → Ascends (λ x. key (f x)) xs
  unfolding Ascends
  Ascends-mapped [] up = tt
  Ascends-mapped (x ∷ xs) up = (After-mapped (key (f x)) xs up.0, Ascends-mapped xs up.1)
