-- Two lists in order, as one.
use Rattle.std.proofs.Common.{◌≡◌, Bool, true, false, cond, List, [], ◌∷◌, ◌++◌, refl, sym, ap, ◌∙◌}
use Rattle.std.proofs.lemmas.List.Sorted.{IsPermutation-append_left, IsPermutation-append_right, IsPermutation-cons, IsPermutation-middle, IsPermutation-refl, IsPermutation-sym, IsPermutation-trans, IsPermutation-to_front}
use Rattle.std.specs.List.{AllByRecursion as Each}
use Rattle.std.specs.Prelude.{IsPermutation, filter}
use Rattle.event_key.specs.declared.key.Key.{Key}
use Rattle.event_key.specs.Keys.{key_lt}
use Rattle.key_order.specs.Ascending.{After, Ascends}
use Rattle.key_order.specs.Keys.{Differ, times}
use Rattle.key_order.proofs.AscendingLemmas.{After-head}
use Rattle.event_key.proofs.Order.{key_lt-turned}
use Rattle.key_order.proofs.EachLemmas.{Each-filter}
use Rattle.key_order.proofs.KeyLemmas.{Ascends-differ, Differ-back, Differ-first, Differ-permutation, key_lt-other, new-head, new-tail}
use Rattle.key_order.proofs.OrderLemmas.{by-permutation}
use Rattle.object_log.specs.Weave.{insert, weave}

module _ {X : Type 0} (key : X → Key) where
  pub insert-permutation : (x : X) (ys : List X) → IsPermutation (x ∷ ys) (insert key x ys)
  unfolding insert
  insert-permutation x [] = IsPermutation-refl (x ∷ [])
  insert-permutation x (y ∷ ys) =
      elim (key_lt (key x) (key y)) as (λ b. IsPermutation (x ∷ y ∷ ys) (cond b (x ∷ y ∷ ys) (y ∷ insert key x ys))) [
        | true ↦ IsPermutation-refl (x ∷ y ∷ ys)
        | false ↦ IsPermutation-trans (x ∷ y ∷ ys) (y ∷ x ∷ ys) (y ∷ insert key x ys) (IsPermutation-middle (x ∷ []) y ys) (IsPermutation-cons y (x ∷ ys) (insert key x ys) (insert-permutation x ys))
      ]

  pub weave-permutation : (xs ys : List X) → IsPermutation (xs ++ ys) (weave key xs ys)
  unfolding weave
  weave-permutation [] ys = IsPermutation-refl ys
  weave-permutation (x ∷ xs) ys =
      IsPermutation-trans (x ∷ (xs ++ ys)) (x ∷ weave key xs ys) (insert key x (weave key xs ys)) (IsPermutation-cons x (xs ++ ys) (weave key xs ys) (weave-permutation xs ys)) (insert-permutation x (weave key xs ys))

  pub Each-insert : (P : X → Type 0) (x : X) (ys : List X) → P x → Each P ys → Each P (insert key x ys)
  unfolding insert
  Each-insert P x [] one all = (one, tt)
  Each-insert P x (y ∷ ys) one all =
      let more = Each-insert P x ys one all.1 in
      elim (key_lt (key x) (key y)) as (λ b. Each P (cond b (x ∷ y ∷ ys) (y ∷ insert key x ys))) [ true ↦ (one, all) | false ↦ (all.0, more) ]

  Each-inserted : (P : X → Type 0) (x : X) (ys : List X) → Each P (insert key x ys) → Each P ys
  unfolding insert
  Each-inserted P x [] all = tt
  Each-inserted P x (y ∷ ys) all = by_test (key_lt (key x) (key y)) (Each-inserted P x ys) all
    where
      by_test : (b : Bool) → (Each P (insert key x ys) → Each P ys) → Each P (cond b (x ∷ y ∷ ys) (y ∷ insert key x ys)) → Each P (y ∷ ys)
      by_test true more all = all.1
      by_test false more all = (all.0, more all.1)

  pub insert-ascends : (x : X) (ys : List X) → times key (key x) ys ≡ 0 → Ascends key ys → Ascends key (insert key x ys)
  unfolding Ascends insert
  insert-ascends x [] new up = (tt, tt)
  insert-ascends x (y ∷ ys) new up = by_place (key_lt (key x) (key y)) refl (insert-ascends x ys (new-tail key (key x) y ys new) up.1)
    where
      by_place : (b : Bool) → key_lt (key x) (key y) ≡ b → Ascends key (insert key x ys) → Ascends key (cond b (x ∷ y ∷ ys) (y ∷ insert key x ys))
      by_place true is more = (After-head key (key x) y ys is up, up)
      by_place false is more = (Each-insert (λ (z : X). key_lt (key y) (key z) ≡ true) x ys (key_lt-other (key x) (key y) (new-head key (key x) y ys new) is) up.0, more)

  pub insert-without : (x : X) (ys : List X) → Ascends key (insert key x ys) → Ascends key ys
  unfolding Ascends insert
  insert-without x [] up = tt
  insert-without x (y ∷ ys) up = by_place (insert-without x ys) (key_lt (key x) (key y)) up
    where
      by_place : (Ascends key (insert key x ys) → Ascends key ys) → (b : Bool) → Ascends key (cond b (x ∷ y ∷ ys) (y ∷ insert key x ys)) → Ascends key (y ∷ ys)
      by_place more true up = up.1
      by_place more false up = (Each-inserted (λ (z : X). key_lt (key y) (key z) ≡ true) x ys up.0, more up.1)

  -- where the keys differ, the list is in order
  pub weave-ascends : (xs ys : List X) → Differ key (xs ++ ys) → Ascends key ys → Ascends key (weave key xs ys)
  unfolding weave
  weave-ascends [] ys differ up = up
  weave-ascends (x ∷ xs) ys differ up =
      let woven : Differ key (x ∷ weave key xs ys) = Differ-permutation key (x ∷ (xs ++ ys)) (x ∷ weave key xs ys) (IsPermutation-cons x (xs ++ ys) (weave key xs ys) (weave-permutation xs ys)) differ in
      insert-ascends x (weave key xs ys) (Differ-first key x (weave key xs ys) woven) (weave-ascends xs ys (Differ-back key (x ∷ []) (xs ++ ys) differ) up)

  -- there is one list in order
  pub weave-is : (xs ys zs : List X) → IsPermutation (xs ++ ys) zs → Ascends key zs → Ascends key (weave key xs ys) → weave key xs ys ≡ zs
  weave-is xs ys zs moves up woven =
      by-permutation key (weave key xs ys) zs woven up (IsPermutation-trans (weave key xs ys) (xs ++ ys) zs (IsPermutation-sym (xs ++ ys) (weave key xs ys) (weave-permutation xs ys)) moves)

  -- what moves from one list to the other leaves it as it is
  pub weave-moved : (xs ys us vs : List X) → IsPermutation (xs ++ ys) (us ++ vs) → Ascends key (weave key xs ys) → Ascends key vs → weave key us vs ≡ weave key xs ys
  weave-moved xs ys us vs moves up low =
      let woven = weave-permutation xs ys in
      let back : IsPermutation (us ++ vs) (weave key xs ys) = IsPermutation-trans (us ++ vs) (xs ++ ys) (weave key xs ys) (IsPermutation-sym (xs ++ ys) (us ++ vs) moves) woven in
      let differ : Differ key (us ++ vs) = Differ-permutation key (weave key xs ys) (us ++ vs) (IsPermutation-sym (us ++ vs) (weave key xs ys) back) (Ascends-differ key (weave key xs ys) up) in
      weave-is us vs (weave key xs ys) back up (weave-ascends us vs differ low)

  -- an element at the front, and at the end
  pub insert-first : (x : X) (ys : List X) → After key (key x) ys → insert key x ys ≡ x ∷ ys
  unfolding insert
  insert-first x [] all = refl
  insert-first x (y ∷ ys) all = ap (λ b. cond b (x ∷ y ∷ ys) (y ∷ insert key x ys)) all.0

  pub insert-last : (x : X) (ys : List X) → Each (λ (y : X). key_lt (key y) (key x) ≡ true) ys → insert key x ys ≡ ys ++ x ∷ []
  unfolding insert
  insert-last x [] all = refl
  insert-last x (y ∷ ys) all = ap (λ b. cond b (x ∷ y ∷ ys) (y ∷ insert key x ys)) (key_lt-turned (key y) (key x) all.0) ∙ ap (λ zs. y ∷ zs) (insert-last x ys all.1)

  -- what comes one after the other
  pub weave-apart : (xs ys : List X) → Ascends key (xs ++ ys) → weave key xs ys ≡ xs ++ ys
  unfolding weave Ascends
  weave-apart [] ys up = refl
  weave-apart (x ∷ xs) ys up = ap (insert key x) (weave-apart xs ys up.1) ∙ insert-first x (xs ++ ys) up.0

  -- what passes a test
  pub insert-filter : (p : X → Bool) (x : X) (ys : List X) → Ascends key ys → filter p (insert key x ys) ≡ cond (p x) (insert key x (filter p ys)) (filter p ys)
  unfolding insert Ascends
  insert-filter p x [] up = refl
  insert-filter p x (y ∷ ys) up = by_tests (p x) (p y) (key_lt (key x) (key y)) refl refl refl (insert-filter p x ys up.1)
    where
      by_tests : (a b c : Bool) → p x ≡ a → p y ≡ b → key_lt (key x) (key y) ≡ c → filter p (insert key x ys) ≡ cond (p x) (insert key x (filter p ys)) (filter p ys)
          → filter p (cond c (x ∷ y ∷ ys) (y ∷ insert key x ys)) ≡ cond a (insert key x (cond b (y ∷ filter p ys) (filter p ys))) (cond b (y ∷ filter p ys) (filter p ys))
      by_tests true b true px py lt more =
          let rest : cond (p y) (y ∷ filter p ys) (filter p ys) ≡ cond b (y ∷ filter p ys) (filter p ys) = ap (λ t. cond t (y ∷ filter p ys) (filter p ys)) py in
          let first : insert key x (filter p (y ∷ ys)) ≡ x ∷ filter p (y ∷ ys) = insert-first x (filter p (y ∷ ys)) (Each-filter (λ (z : X). key_lt (key x) (key z) ≡ true) p (y ∷ ys) (After-head key (key x) y ys lt up)) in
          ap (λ t. cond t (x ∷ filter p (y ∷ ys)) (filter p (y ∷ ys))) px ∙ sym first ∙ ap (insert key x) rest
      by_tests false b true px py lt more = ap (λ t. cond t (x ∷ filter p (y ∷ ys)) (filter p (y ∷ ys))) px ∙ ap (λ t. cond t (y ∷ filter p ys) (filter p ys)) py
      by_tests true true false px py lt more =
          ap (λ t. cond t (y ∷ filter p (insert key x ys)) (filter p (insert key x ys))) py
          ∙ ap (λ zs. y ∷ zs) (more ∙ ap (λ t. cond t (insert key x (filter p ys)) (filter p ys)) px)
          ∙ sym (ap (λ t. cond t (x ∷ y ∷ filter p ys) (y ∷ insert key x (filter p ys))) lt)
      by_tests true false false px py lt more =
          ap (λ t. cond t (y ∷ filter p (insert key x ys)) (filter p (insert key x ys))) py
          ∙ more ∙ ap (λ t. cond t (insert key x (filter p ys)) (filter p ys)) px
      by_tests false true false px py lt more =
          ap (λ t. cond t (y ∷ filter p (insert key x ys)) (filter p (insert key x ys))) py
          ∙ ap (λ zs. y ∷ zs) (more ∙ ap (λ t. cond t (insert key x (filter p ys)) (filter p ys)) px)
      by_tests false false false px py lt more =
          ap (λ t. cond t (y ∷ filter p (insert key x ys)) (filter p (insert key x ys))) py
          ∙ more ∙ ap (λ t. cond t (insert key x (filter p ys)) (filter p ys)) px

  pub weave-filter : (p : X → Bool) (xs ys : List X) → Ascends key (weave key xs ys) → filter p (weave key xs ys) ≡ weave key (filter p xs) (filter p ys)
  unfolding weave
  weave-filter p [] ys up = refl
  weave-filter p (x ∷ xs) ys up =
      let low = insert-without x (weave key xs ys) up in
      let more = weave-filter p xs ys low in
      insert-filter p x (weave key xs ys) low ∙ by_test (p x) more
    where
      by_test : (b : Bool) → filter p (weave key xs ys) ≡ weave key (filter p xs) (filter p ys)
          → cond b (insert key x (filter p (weave key xs ys))) (filter p (weave key xs ys)) ≡ weave key (cond b (x ∷ filter p xs) (filter p xs)) (filter p ys)
      by_test true more = ap (insert key x) more
      by_test false more = more

  -- an event behind all of the second list
  pub weave-push : (xs ys : List X) (y : X) → Ascends key (weave key xs ys) → times key (key y) (weave key xs ys) ≡ 0 → Ascends key (ys ++ y ∷ []) → weave key xs (ys ++ y ∷ []) ≡ insert key y (weave key xs ys)
  weave-push xs ys y up new low =
      let whole = weave key xs ys in
      let put : IsPermutation (y ∷ whole) (insert key y whole) = insert-permutation y whole in
      let front : IsPermutation (y ∷ (xs ++ ys)) (insert key y whole) = IsPermutation-trans (y ∷ (xs ++ ys)) (y ∷ whole) (insert key y whole) (IsPermutation-cons y (xs ++ ys) whole (weave-permutation xs ys)) put in
      let moved : IsPermutation (xs ++ (ys ++ y ∷ [])) (y ∷ (xs ++ ys)) = IsPermutation-trans (xs ++ (ys ++ y ∷ [])) (xs ++ (y ∷ ys)) (y ∷ (xs ++ ys)) (IsPermutation-append_right xs (ys ++ y ∷ []) (y ∷ ys) (IsPermutation-to_front ys y)) (IsPermutation-middle xs y ys) in
      let moves : IsPermutation (xs ++ (ys ++ y ∷ [])) (insert key y whole) = IsPermutation-trans (xs ++ (ys ++ y ∷ [])) (y ∷ (xs ++ ys)) (insert key y whole) moved front in
      let order : Ascends key (insert key y whole) = insert-ascends y whole new up in
      let differ : Differ key (xs ++ (ys ++ y ∷ [])) = Differ-permutation key (insert key y whole) (xs ++ (ys ++ y ∷ [])) (IsPermutation-sym (xs ++ (ys ++ y ∷ [])) (insert key y whole) moves) (Ascends-differ key (insert key y whole) order) in
      weave-is xs (ys ++ y ∷ []) (insert key y whole) moves order (weave-ascends xs (ys ++ y ∷ []) differ low)

  -- an element that goes over from the end of the second list to the first
  pub carry-same : (cs ns : List X) (d : X) → Ascends key (weave key cs (ns ++ d ∷ [])) → Ascends key ns → weave key (insert key d cs) ns ≡ weave key cs (ns ++ d ∷ [])
  carry-same cs ns d up low =
      let moved : IsPermutation (cs ++ (ns ++ d ∷ [])) (d ∷ (cs ++ ns)) = IsPermutation-trans (cs ++ (ns ++ d ∷ [])) (cs ++ (d ∷ ns)) (d ∷ (cs ++ ns)) (IsPermutation-append_right cs (ns ++ d ∷ []) (d ∷ ns) (IsPermutation-to_front ns d)) (IsPermutation-middle cs d ns) in
      let put : IsPermutation ((d ∷ cs) ++ ns) (insert key d cs ++ ns) = IsPermutation-append_left ns (d ∷ cs) (insert key d cs) (insert-permutation d cs) in
      weave-moved cs (ns ++ d ∷ []) (insert key d cs) ns (IsPermutation-trans (cs ++ (ns ++ d ∷ [])) (d ∷ (cs ++ ns)) (insert key d cs ++ ns) moved put) up low

  -- where all of the first list comes before all of the second, at each object, its log is one behind the other
  pub weave-own : (p : X → Bool) (cs ns : List X) → Ascends key (weave key cs ns) → Ascends key (filter p cs ++ filter p ns) → filter p (weave key cs ns) ≡ filter p cs ++ filter p ns
  weave-own p cs ns up apart = weave-filter p cs ns up ∙ weave-apart (filter p cs) (filter p ns) apart

  -- the last of the first list is put in first
  pub weave-last : (xs ys : List X) (x : X) → weave key (xs ++ x ∷ []) ys ≡ weave key xs (insert key x ys)
  unfolding weave
  weave-last [] ys x = refl
  weave-last (z ∷ xs) ys x = ap (insert key z) (weave-last xs ys x)

  -- the second list is in order where the whole is
  pub weave-below : (xs ys : List X) → Ascends key (weave key xs ys) → Ascends key ys
  unfolding weave
  weave-below [] ys up = up
  weave-below (x ∷ xs) ys up = weave-below xs ys (insert-without x (weave key xs ys) up)

  -- no other element of a list in order has the key
  pub insert-fresh : (x : X) (ys : List X) → Ascends key (insert key x ys) → times key (key x) ys ≡ 0
  insert-fresh x ys up =
      Differ-first key x ys (Differ-permutation key (insert key x ys) (x ∷ ys) (IsPermutation-sym (x ∷ ys) (insert key x ys) (insert-permutation x ys)) (Ascends-differ key (insert key x ys) up))

  -- an element behind the first list comes to its place in the whole
  pub weave-come : (xs ys : List X) (x : X) → times key (key x) (weave key xs ys) ≡ 0 → Ascends key (weave key xs ys) → weave key (xs ++ x ∷ []) ys ≡ insert key x (weave key xs ys)
  unfolding weave
  weave-come xs ys x new up =
      weave-moved (x ∷ xs) ys (xs ++ x ∷ []) ys
      (IsPermutation-append_left ys (x ∷ xs) (xs ++ x ∷ []) (IsPermutation-sym (xs ++ x ∷ []) (x ∷ xs) (IsPermutation-to_front xs x)))
      (insert-ascends x (weave key xs ys) new up) (weave-below xs ys up)
