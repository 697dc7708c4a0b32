-- Elements in order by their places.
use Rattle.std.proofs.Common.{◌≡◌, ℕ, zero, suc, ◌+◌, ◌<◌, ◌≤◌, Bool, true, false, cond, Some, List, [], ◌∷◌, ◌++◌, length, map, take, drop, get_or, refl, sym, ap, ◌∙◌, arith}
use Rattle.std.proofs.lemmas.List.{get_or_read}
use Rattle.std.proofs.lemmas.List.Sums.{sum_by-cons}
use Rattle.std.specs.Prelude.{slice_get}
use Rattle.std.specs.List.{remove}
use Rattle.event_key.specs.declared.key.Key.{Key}
use Rattle.event_key.specs.Keys.{key_lt}
use Rattle.event_key.proofs.Order.{key_lt-trans, key_lt-turned}
use Rattle.key_order.proofs.KeyLemmas.{key_lt-other, new-head, new-tail}
use Rattle.key_order.specs.Ascending.{After, Ascends}
use Rattle.key_order.specs.Keys.{at_key, times}
use Rattle.object_log.specs.Carrying.{place_of}
use Rattle.object_log.specs.Weave.{insert}

module _ {X : Type 0} (key : X → Key) where
  -- what comes before a key
  pub place-above : (k : Key) (xs : List X) (i : ℕ) (x : X) → Ascends key xs → i < length xs → x ≡ get_or xs i x → key_lt (key x) k ≡ true → i < place_of key k xs
  unfolding place_of Ascends
  place-above k [] i x up some at lt = absurd (omega arith)
  place-above k (y ∷ ys) zero x up some at lt =
      let yes : key_lt (key y) k ≡ true = ap (λ (z : X). key_lt (key z) k) (sym at) ∙ lt in
      let is = ap (λ b. cond b (suc (place_of key k ys)) 0) yes in omega arith
  place-above k (y ∷ []) (suc i) x up some at lt = absurd (omega arith)
  place-above k (y ∷ z ∷ ys) (suc i) x up some at lt =
      let more = place-above k (z ∷ ys) i x up.1 (omega arith) at lt in
      by_test (key_lt (key z) k) refl more
    where
      by_test : (b : Bool) → key_lt (key z) k ≡ b → i < place_of key k (z ∷ ys) → suc i < cond (key_lt (key y) k) (suc (place_of key k (z ∷ ys))) 0
      by_test true h more =
          let yes = key_lt-trans (key y) (key z) k up.0.0 h in
          let is = ap (λ b. cond b (suc (place_of key k (z ∷ ys))) 0) yes in omega arith
      by_test false h more =
          let is = ap (λ b. cond b (suc (place_of key k ys)) 0) h in absurd (omega arith)

  pub place-below : (k : Key) (xs : List X) (i : ℕ) (x : X) → i < length xs → x ≡ get_or xs i x → key_lt (key x) k ≡ false → place_of key k xs ≤ i
  unfolding place_of
  place-below k [] i x some at ge = absurd (omega arith)
  place-below k (y ∷ ys) zero x some at ge =
      let no : key_lt (key y) k ≡ false = ap (λ (z : X). key_lt (key z) k) (sym at) ∙ ge in
      let is = ap (λ b. cond b (suc (place_of key k ys)) 0) no in omega arith
  place-below k (y ∷ ys) (suc i) x some at ge = by_test (key_lt (key y) k) (place-below k ys i x (omega arith) at ge)
    where
      by_test : (b : Bool) → place_of key k ys ≤ i → cond b (suc (place_of key k ys)) 0 ≤ suc i
      by_test true more = omega arith
      by_test false more = omega arith

  pub place-most : (k : Key) (xs : List X) → place_of key k xs ≤ length xs
  unfolding place_of
  place-most k [] = omega arith
  place-most k (y ∷ ys) = by_test (key_lt (key y) k) (place-most k ys)
    where
      by_test : (b : Bool) → place_of key k ys ≤ length ys → cond b (suc (place_of key k ys)) 0 ≤ length (y ∷ ys)
      by_test true more = omega arith
      by_test false more = omega arith

  -- an element comes to its place
  pub place-put : (x : X) (xs : List X) → times key (key x) xs ≡ 0 → take (place_of key (key x) xs) xs ++ x ∷ drop (place_of key (key x) xs) xs ≡ insert key x xs
  unfolding place_of insert
  place-put x [] new = refl
  place-put x (y ∷ ys) new = by_test (key_lt (key y) (key x)) refl (place-put x ys (new-tail key (key x) y ys new))
    where
      by_test : (b : Bool) → key_lt (key y) (key x) ≡ b → take (place_of key (key x) ys) ys ++ x ∷ drop (place_of key (key x) ys) ys ≡ insert key x ys
          → take (cond b (suc (place_of key (key x) ys)) 0) (y ∷ ys) ++ x ∷ drop (cond b (suc (place_of key (key x) ys)) 0) (y ∷ ys) ≡ cond (key_lt (key x) (key y)) (x ∷ y ∷ ys) (y ∷ insert key x ys)
      by_test true lt more = ap (λ zs. y ∷ zs) more ∙ ap (λ b. cond b (x ∷ y ∷ ys) (y ∷ insert key x ys)) (sym (key_lt-turned (key y) (key x) lt))
      by_test false lt more = ap (λ b. cond b (x ∷ y ∷ ys) (y ∷ insert key x ys)) (sym (key_lt-other (key y) (key x) (λ same. new-head key (key x) y ys new (sym same)) lt))

  after-removed : (k : Key) (xs : List X) (n : ℕ) → After key k xs → After key k (remove xs n)
  after-removed k [] zero all = tt
  after-removed k [] (suc n) all = tt
  after-removed k (x ∷ xs) zero all = all.1
  after-removed k (x ∷ xs) (suc n) all = (all.0, after-removed k xs n all.1)

  pub ascends-removed : (xs : List X) (n : ℕ) → Ascends key xs → Ascends key (remove xs n)
  unfolding Ascends
  ascends-removed [] zero up = tt
  ascends-removed [] (suc n) up = tt
  ascends-removed (x ∷ xs) zero up = up.1
  ascends-removed (x ∷ xs) (suc n) up = (after-removed (key x) xs n up.0, ascends-removed xs n up.1)

module _ {X Y : Type 0} (f : X → Y) where
  pub map-insert : (key : Y → Key) (x : X) (xs : List X) → map f (insert (λ x. key (f x)) x xs) ≡ insert key (f x) (map f xs)
  unfolding insert
  map-insert key x [] = refl
  map-insert key x (y ∷ ys) = by_test (key_lt (key (f x)) (key (f y))) (map-insert key x ys)
    where
      by_test : (b : Bool) → map f (insert (λ x. key (f x)) x ys) ≡ insert key (f x) (map f ys)
          → map f (cond b (x ∷ y ∷ ys) (y ∷ insert (λ x. key (f x)) x ys)) ≡ cond b (f x ∷ f y ∷ map f ys) (f y ∷ insert key (f x) (map f ys))
      by_test true more = refl
      by_test false more = ap (λ zs. f y ∷ zs) more

  pub times-map : (key : Y → Key) (k : Key) (xs : List X) → times (λ x. key (f x)) k xs ≡ times key k (map f xs)
  times-map key k [] = refl
  times-map key k (x ∷ xs) =
      sum_by-cons (at_key (λ x. key (f x)) k) x xs
      ∙ ap (λ n. at_key key k (f x) + n) (times-map key k xs)
      ∙ sym (sum_by-cons (at_key key k) (f x) (map f xs))

  pub map-removed : (xs : List X) (n : ℕ) → map f (remove xs n) ≡ remove (map f xs) n
  map-removed [] zero = refl
  map-removed [] (suc n) = refl
  map-removed (x ∷ xs) zero = refl
  map-removed (x ∷ xs) (suc n) = ap (λ zs. f x ∷ zs) (map-removed xs n)

-- what stands at a place of a list
pub read-map : {X Y : Type 0} (f : X → Y) (xs : List X) (i : ℕ) (x : X) → i < length xs → x ≡ get_or xs i x → slice_get (map f xs) i ≡ Some (f x)
read-map f [] i x within at = absurd (omega arith)
read-map f (y ∷ ys) zero x within at = ap (λ z. Some (f z)) (sym at)
read-map f (y ∷ ys) (suc i) x within at = read-map f ys i x (omega arith) at

pub same-read : {X : Type 0} (xs : List X) (i : ℕ) (x y : X) → i < length xs → x ≡ get_or xs i x → y ≡ get_or xs i y → x ≡ y
same-read xs i x y within one other = get_or_read xs i x within one y ∙ sym other
