-- A list in the order of its keys is known by its members, and object by object.
use Rattle.std.proofs.Common.{Bool, List, [], ap, arith, cond, eq-eqb, eqb, false, inl, inr, refl, subst, sym, true, ℕ, ◌+◌, ◌∙◌, ◌∷◌, ◌≡◌}
use Rattle.std.specs.Prelude.{Contains, IsPermutation, filter}
use Rattle.std.proofs.lemmas.Bool.{eqb-false}
use Rattle.std.proofs.lemmas.List.Sorted.{Contains-permutation, IsPermutation-sym}
use Rattle.std.proofs.lemmas.List.Sums.{sum_by-cons}
use Rattle.event_key.proofs.Order.{key_lt-trans}
use Rattle.event_key.specs.Keys.{key_lt}
use Rattle.event_key.specs.declared.key.Key.{Key}
use Rattle.key_order.specs.Ascending.{After, Ascends}
use Rattle.key_order.specs.Keys.{Differ, at_key, times}
use Rattle.key_order.proofs.AscendingLemmas.{key_lt-never}
use Rattle.key_order.proofs.KeyLemmas.{at_key-other}
use Rattle.key_order.proofs.MemberLemmas.{each-contains, filter-contains, first-or-later, is-first, is-later, none-in}

module _ {X : Type 0} (key : X → Key) where
  after_member : (k : Key) (x : X) (xs : List X) → After key k xs → Contains xs x → key_lt k (key x) ≡ true
  after_member k x xs all is_in = each-contains (λ (y : X). key_lt k (key y) ≡ true) x xs all is_in

  same_first : (x y : X) (xs ys : List X) → Ascends key (x ∷ xs) → Ascends key (y ∷ ys) → Contains (y ∷ ys) x → Contains (x ∷ xs) y → x ≡ y
  unfolding Ascends
  same_first x y xs ys up down x_in y_in =
      elim (first-or-later x y ys x_in) [
        | inl same ↦ sym same
        | inr x_later ↦ elim (first-or-later y x xs y_in) [
          | inl same ↦ same
          | inr y_later ↦ absurd (key_lt-never (key y) (key_lt-trans (key y) (key x) (key y) (after_member (key y) x ys down.0 x_later) (after_member (key x) y xs up.0 y_later)))
        ]
      ]

  only_later : (x z : X) (xs ys : List X) → Ascends key (x ∷ xs) → Contains xs z → Contains (x ∷ ys) z → Contains ys z
  unfolding Ascends
  only_later x z xs ys up z_in is_in =
      elim (first-or-later z x ys is_in) [
        | inl same ↦ (let P : X → Type 0 = λ e. key_lt (key x) (key e) ≡ true in absurd (key_lt-never (key x) (subst P (sym same) (after_member (key x) z xs up.0 z_in))))
        | inr more ↦ more
      ]

  -- lists in order with the same members are one list
  pub by-members : (xs ys : List X) → Ascends key xs → Ascends key ys → ((x : X) → Contains xs x → Contains ys x) → ((x : X) → Contains ys x → Contains xs x) → xs ≡ ys
  unfolding Ascends
  by-members [] [] up down there back = refl
  by-members [] (y ∷ ys) up down there back = none-in y (back y (is-first y y ys refl))
  by-members (x ∷ xs) [] up down there back = none-in x (there x (is-first x x xs refl))
  by-members (x ∷ xs) (y ∷ ys) up down there back =
      let first : x ≡ y = same_first x y xs ys up down (there x (is-first x x xs refl)) (back y (is-first y y ys refl)) in
      let P : X → Type 0 = λ e. (z : X) → Contains xs z → Contains (e ∷ ys) z in
      let Q : X → Type 0 = λ e. (z : X) → Contains ys z → Contains (e ∷ xs) z in
      let more : xs ≡ ys = by-members xs ys up.1 down.1
      (λ z z_in. only_later x z xs ys up z_in (subst P (sym first) (λ z z_in. there z (is-later z x xs z_in)) z z_in))
      (λ z z_in. only_later y z ys xs down z_in (subst Q first (λ z z_in. back z (is-later z y ys z_in)) z z_in)) in
      λ i. first i ∷ more i

  pub by-permutation : (xs ys : List X) → Ascends key xs → Ascends key ys → IsPermutation xs ys → xs ≡ ys
  by-permutation xs ys up down moves =
      by-members xs ys up down (λ x. Contains-permutation xs ys x moves) (λ x. Contains-permutation ys xs x (IsPermutation-sym xs ys moves))

  abbrev pub part : ℕ → List X → List X
  part object xs = filter (λ x. eqb (key x).dest object) xs

  -- a member is one of its object's part
  in_part : (x : X) (xs : List X) → Contains xs x → Contains (part (key x).dest xs) x
  in_part x [] is_in = is_in
  in_part x (y ∷ ys) is_in = by_test (eqb (key y).dest (key x).dest) refl (in_part x ys)
    where
      by_test : (b : Bool) → eqb (key y).dest (key x).dest ≡ b → (Contains ys x → Contains (part (key x).dest ys) x) → Contains (cond b (y ∷ part (key x).dest ys) (part (key x).dest ys)) x
      by_test true here more =
          elim (first-or-later x y ys is_in) [
            | inl same ↦ is-first x y (part (key x).dest ys) same
            | inr later ↦ is-later x y (part (key x).dest ys) (more later)
          ]
      by_test false there more =
          elim (first-or-later x y ys is_in) [
            | inl same ↦ (let yes = eq-eqb (key y).dest (key x).dest (ap (λ (z : X). (key z).dest) same) in absurd (cc))
            | inr later ↦ more later
          ]

  -- lists in order with the same parts are one list
  pub by-objects : (xs ys : List X) → Ascends key xs → Ascends key ys → ((object : ℕ) → part object xs ≡ part object ys) → xs ≡ ys
  by-objects xs ys up down same =
      let P : X → List X → Type 0 = λ x zs. Contains zs x in
      by-members xs ys up down
      (λ x is_in. filter-contains (λ z. eqb (key z).dest (key x).dest) x ys (subst (P x) (same (key x).dest) (in_part x xs is_in)))
      (λ x is_in. filter-contains (λ z. eqb (key z).dest (key x).dest) x xs (subst (P x) (sym (same (key x).dest)) (in_part x ys is_in)))

  -- a key is as often in a list as in the part of its object
  times-part : (k : Key) (xs : List X) → times key k xs ≡ times key k (part k.dest xs)
  times-part k [] = refl
  times-part k (x ∷ xs) = by_test (times-part k xs) (eqb (key x).dest k.dest) refl
    where
      by_test : times key k xs ≡ times key k (part k.dest xs) → (b : Bool) → eqb (key x).dest k.dest ≡ b → times key k (x ∷ xs) ≡ times key k (cond b (x ∷ part k.dest xs) (part k.dest xs))
      by_test more true here = sum_by-cons (at_key key k) x xs ∙ ap (λ n. at_key key k x + n) more ∙ sym (sum_by-cons (at_key key k) x (part k.dest xs))
      by_test more false there =
          let apart = eqb-false (key x).dest k.dest there in
          let none : at_key key k x ≡ 0 = at_key-other key k x (λ same. apart (sym (ap (λ (j : Key). j.dest) same))) in
          let sum : times key k (x ∷ xs) ≡ at_key key k x + times key k xs = sum_by-cons (at_key key k) x xs in
          omega arith

  -- keys differ where those of each object do
  pub differ-by-parts : (xs : List X) → ((object : ℕ) → Differ key (part object xs)) → Differ key xs
  differ-by-parts xs parts k = let one = parts k.dest k in let same = times-part k xs in omega arith
