-- Two sorted lists, merged.
use Rattle.std.proofs.Common.{◌≡◌, ◌≢◌, ℕ, suc, ◌+◌, ◌<◌, ◌≤◌, ◌^◌, Bool, true, false, List, [], ◌∷◌, ◌++◌, length, map, drop, get_or, append_assoc, append-nil, refl, sym, ap, ◌∙◌, subst, arith, ltb}
use Rattle.std.proofs.Math.Seq.{drop-cons}
use Rattle.std.proofs.lemmas.Bool.{false_from_ne_true, ltb-false, ltb-true}
use Rattle.std.proofs.lemmas.Bool.Decides.{nat_tests}
use Rattle.std.proofs.lemmas.List.{drop-map, drop_all, get_or-map, length-map}
use Rattle.std.proofs.lemmas.List.Sorted.{IsPermutation-refl, IsPermutation-trans, IsPermutation-middle, IsPermutation-append_right}
use Rattle.std.specs.Prelude.{IsPermutation, nat_lt, not, if◌then◌else◌}
use Rattle.std.specs.Int.{from_bool}
use Rattle.event_key.specs.declared.key.Key.{Key}
use Rattle.event_key.specs.Keys.{key_lt}
use Rattle.event_key.proofs.Order.{key_lt-tests, key_lt-turned}
use Rattle.model_core.specs.Records.{head_key, place, shifted}
use Rattle.model_core.specs.declared.record_head.RecordHead.{RecordHead}
use Rattle.model_core.specs.Sorted.{AreSorted, IsMerging}

-- elements are sorted as their images are
module _ {X Y : Type 0} (f : X → Y) (key : Y → Key) where
  pub sorted-map : (xs : List X) → AreSorted (λ x. key (f x)) xs → AreSorted key (map f xs)
  unfolding AreSorted
  sorted-map [] sorted = tt
  sorted-map (x ∷ []) sorted = (tt, tt)
  sorted-map (x ∷ y ∷ xs) sorted = (sorted.0, sorted-map (y ∷ xs) sorted.1)

  pub sorted-unmap : (xs : List X) → AreSorted key (map f xs) → AreSorted (λ x. key (f x)) xs
  unfolding AreSorted
  sorted-unmap [] sorted = tt
  sorted-unmap (x ∷ []) sorted = (tt, tt)
  sorted-unmap (x ∷ y ∷ xs) sorted = (sorted.0, sorted-unmap (y ∷ xs) sorted.1)

module _ {X : Type 0} (key : X → Key) where
  -- one element more between a list and another one that it comes before
  put-between : (us : List X) (x y : X) (xs ys : List X) → AreSorted key (us ++ (x ∷ xs)) → AreSorted key (us ++ (y ∷ ys)) → key_lt (key y) (key x) ≡ false → AreSorted key (us ++ (x ∷ y ∷ ys))
  unfolding AreSorted
  put-between [] x y xs ys up down not = (not, down)
  put-between (a ∷ []) x y xs ys up down not = (up.0, (not, down.1))
  put-between (a ∷ b ∷ us) x y xs ys up down not = (up.0, put-between (b ∷ us) x y xs ys up.1 down.1 not)

  pub merging-none : (left right : List X) → AreSorted key left → AreSorted key right → IsMerging key left right 0 0 []
  merging-none left right up down = record {
    left_in = omega arith;
    right_in = omega arith;
    left_later = up;
    right_later = down;
    moves = IsPermutation-refl (left ++ right);
  }

  module _ (left right : List X) (i j : ℕ) (merged : List X) (so_far : IsMerging key left right i j merged) where
    module _ (x y : X) (here : drop i left ≡ x ∷ drop (suc i) left) (there : drop j right ≡ y ∷ drop (suc j) right) where
      up : AreSorted key (merged ++ (x ∷ drop (suc i) left))
      up = subst (λ vs. AreSorted key (merged ++ vs)) here so_far.left_later

      down : AreSorted key (merged ++ (y ∷ drop (suc j) right))
      down = subst (λ vs. AreSorted key (merged ++ vs)) there so_far.right_later

      with_left : key_lt (key x) (key y) ≡ true → suc i ≤ length left → IsMerging key left right (suc i) j (merged ++ x ∷ [])
      with_left lt i_in =
          let P : List X → Type 0 = λ vs. AreSorted key (merged ++ (x ∷ vs)) in
          let M : List X → Type 0 = λ vs. IsPermutation (left ++ right) (merged ++ (vs ++ drop j right)) in
          let later : P (drop j right) = subst P (sym there) (put-between merged x y (drop (suc i) left) (drop (suc j) right) up down (key_lt-turned (key x) (key y) lt)) in
          record {
            left_in = i_in;
            right_in = so_far.right_in;
            left_later = subst (AreSorted key) (sym (append_assoc merged (x ∷ []) (drop (suc i) left))) up;
            right_later = subst (AreSorted key) (sym (append_assoc merged (x ∷ []) (drop j right))) later;
            moves = subst (IsPermutation (left ++ right)) (sym (append_assoc merged (x ∷ []) (drop (suc i) left ++ drop j right))) (subst M here so_far.moves);
          }

      with_right : key_lt (key x) (key y) ≡ false → suc j ≤ length right → IsMerging key left right i (suc j) (merged ++ y ∷ [])
      with_right not_lt j_in =
          let P : List X → Type 0 = λ vs. AreSorted key (merged ++ (y ∷ vs)) in
          let M : List X → Type 0 = λ vs. IsPermutation (left ++ right) (merged ++ (drop i left ++ vs)) in
          let later : P (drop i left) = subst P (sym here) (put-between merged y x (drop (suc j) right) (drop (suc i) left) down up not_lt) in
          let back : IsPermutation (merged ++ (drop i left ++ (y ∷ drop (suc j) right))) (merged ++ (y ∷ (drop i left ++ drop (suc j) right))) =
          IsPermutation-append_right merged _ _ (IsPermutation-middle (drop i left) y (drop (suc j) right)) in
          record {
            left_in = so_far.left_in;
            right_in = j_in;
            left_later = subst (AreSorted key) (sym (append_assoc merged (y ∷ []) (drop i left))) later;
            right_later = subst (AreSorted key) (sym (append_assoc merged (y ∷ []) (drop (suc j) right))) down;
            moves = subst (IsPermutation (left ++ right)) (sym (append_assoc merged (y ∷ []) (drop i left ++ drop (suc j) right)))
                (IsPermutation-trans (left ++ right) (merged ++ (drop i left ++ (y ∷ drop (suc j) right))) (merged ++ (y ∷ (drop i left ++ drop (suc j) right))) (subst M there so_far.moves) back);
          }

    module _ (d e : X) (i_in : i < length left) (j_in : j < length right) where
      pub merging-left : key_lt (key (get_or left i d)) (key (get_or right j e)) ≡ true → IsMerging key left right (i + 1) j (merged ++ get_or left i d ∷ [])
      merging-left lt =
          let next : i + 1 ≡ suc i = omega arith in
          let P : ℕ → Type 0 = λ n. IsMerging key left right n j (merged ++ get_or left i d ∷ []) in
          subst P (sym next) (with_left (get_or left i d) (get_or right j e) (drop-cons left i d i_in) (drop-cons right j e j_in) lt (omega arith))

      pub merging-right : key_lt (key (get_or left i d)) (key (get_or right j e)) ≡ false → IsMerging key left right i (j + 1) (merged ++ get_or right j e ∷ [])
      merging-right not_lt =
          let next : j + 1 ≡ suc j = omega arith in
          let P : ℕ → Type 0 = λ n. IsMerging key left right i n (merged ++ get_or right j e ∷ []) in
          subst P (sym next) (with_right (get_or left i d) (get_or right j e) (drop-cons left i d i_in) (drop-cons right j e j_in) not_lt (omega arith))

    -- once one list is used up, all that is left comes last
    pub merging-end : (i < length left → j < length right → ⊥) → AreSorted key (merged ++ (drop i left ++ drop j right))
    merging-end none =
        elim (ltb i (length left)) as (λ b. ltb i (length left) ≡ b → AreSorted key (merged ++ (drop i left ++ drop j right))) [
          | true ↦ λ is.
              let P : List X → Type 0 = λ vs. AreSorted key (merged ++ vs) in
              let used = drop_all j right (ltb-false j (length right) (false_from_ne_true _ (λ more. none (ltb-true _ _ is) (ltb-true _ _ more)))) in
              subst P (sym (ap (λ vs. drop i left ++ vs) used ∙ append-nil (drop i left))) so_far.left_later
          | false ↦ λ is.
              let P : List X → Type 0 = λ vs. AreSorted key (merged ++ vs) in
              subst P (sym (ap (λ vs. vs ++ drop j right) (drop_all i left (ltb-false _ _ is)))) so_far.right_later
        ] refl

-- one key comes before another one at another place
lt-by-place : (a b : Key) → a.rank < 2 ^ 32 → a.dest < 2 ^ 32 → b.rank < 2 ^ 32 → b.dest < 2 ^ 32 → place a < place b → key_lt a b ≡ true
lt-by-place a b a_rank a_dest b_rank b_dest lt = key_lt-tests a b ∙ grind (arith, nat_tests)

pub key_lt-by-place : (a b : Key) → a.rank < 2 ^ 32 → a.dest < 2 ^ 32 → b.rank < 2 ^ 32 → b.dest < 2 ^ 32 → place a ≢ place b → nat_lt (place a) (place b) ≡ key_lt a b
key_lt-by-place a b a_rank a_dest b_rank b_dest apart =
    elim (ltb (place a) (place b)) as (λ less. ltb (place a) (place b) ≡ less → less ≡ key_lt a b) [
      | true ↦ λ is. sym (lt-by-place a b a_rank a_dest b_rank b_dest (ltb-true _ _ is))
      | false ↦ λ is.
          let le = ltb-false (place a) (place b) is in
          sym (key_lt-turned b a (lt-by-place b a b_rank b_dest a_rank a_dest (omega arith)))
    ] refl

-- heads of two lists that are merged, the second with its parts so much further on
module _ (left right : List RecordHead) (by i j : ℕ) (merged : List RecordHead) (so_far : IsMerging head_key left (map (shifted by) right) i j merged) where
  module _ (d e : RecordHead) (i_in : i < length left) (j_in : j < length right) where
    there : get_or (map (shifted by) right) j e ≡ shifted by (get_or right j e)
    there = get_or-map (shifted by) right j e e j_in

    longer : j < length (map (shifted by) right)
    longer = subst (λ n. j < n) (sym (length-map right (shifted by))) j_in

    pub heads-left : key_lt (get_or left i d).key (get_or right j e).key ≡ true → IsMerging head_key left (map (shifted by) right) (i + 1) j (merged ++ get_or left i d ∷ [])
    heads-left lt =
        let P : RecordHead → Type 0 = λ head. key_lt (get_or left i d).key head.key ≡ true in
        merging-left head_key left (map (shifted by) right) i j merged so_far d e i_in longer (subst P (sym there) lt)

    pub heads-right : key_lt (get_or left i d).key (get_or right j e).key ≡ false → IsMerging head_key left (map (shifted by) right) i (j + 1) (merged ++ shifted by (get_or right j e) ∷ [])
    heads-right not_lt =
        let P : RecordHead → Type 0 = λ head. key_lt (get_or left i d).key head.key ≡ false in
        let Q : RecordHead → Type 0 = λ head. IsMerging head_key left (map (shifted by) right) i (j + 1) (merged ++ head ∷ []) in
        subst Q there (merging-right head_key left (map (shifted by) right) i j merged so_far d e i_in longer (subst P (sym there) not_lt))

    pub heads-chosen : (is_left : Bool) → is_left ≡ key_lt (get_or left i d).key (get_or right j e).key
        → IsMerging head_key left (map (shifted by) right) (i + from_bool is_left) (j + from_bool (not is_left)) (merged ++ (if is_left then get_or left i d else shifted by (get_or right j e)) ∷ [])
    heads-chosen is_left =
        elim is_left as (λ b. b ≡ key_lt (get_or left i d).key (get_or right j e).key
        → IsMerging head_key left (map (shifted by) right) (i + from_bool b) (j + from_bool (not b)) (merged ++ (if b then get_or left i d else shifted by (get_or right j e)) ∷ [])) [
          | true ↦ λ is.
              let P : ℕ → Type 0 = λ n. IsMerging head_key left (map (shifted by) right) (i + 1) n (merged ++ get_or left i d ∷ []) in
              let same : j ≡ j + 0 = omega arith in
              subst P same (heads-left (sym is))
          | false ↦ λ is.
              let P : ℕ → Type 0 = λ n. IsMerging head_key left (map (shifted by) right) n (j + 1) (merged ++ shifted by (get_or right j e) ∷ []) in
              let same : i ≡ i + 0 = omega arith in
              subst P same (heads-right (sym is))
        ]

  -- once one list is used up
  pub heads-end : (i < length left → j < length right → ⊥) → AreSorted head_key (merged ++ (drop i left ++ map (shifted by) (drop j right)))
  heads-end none =
      let P : List RecordHead → Type 0 = λ rest. AreSorted head_key (merged ++ (drop i left ++ rest)) in
      subst P (drop-map (shifted by) j right)
      (merging-end head_key left (map (shifted by) right) i j merged so_far (λ i_in j_in. none i_in (subst (λ n. j < n) (length-map right (shifted by)) j_in)))

  pub heads-moved : IsPermutation (left ++ map (shifted by) right) (merged ++ (drop i left ++ map (shifted by) (drop j right)))
  heads-moved =
      let P : List RecordHead → Type 0 = λ rest. IsPermutation (left ++ map (shifted by) right) (merged ++ (drop i left ++ rest)) in
      subst P (drop-map (shifted by) j right) so_far.moves

-- heads whose parts stay where they are
pub put-by-none : (heads : List RecordHead) → map (shifted 0) heads ≡ heads
put-by-none [] = refl
put-by-none (head ∷ heads) =
    let same : head.start + 0 ≡ head.start = omega arith in
    let first : shifted 0 head ≡ head = ap (λ n. record head { start = n }) same in
    ap (λ h. h ∷ map (shifted 0) heads) first ∙ ap (λ hs. head ∷ hs) (put-by-none heads)

-- a head that stands for none
abbrev pub blank : RecordHead
blank = record { key = record { stamp = 0; rank = 0; dest = 0; src = 0; serial = 0 }; start = 0; count = 0 }

-- one of two is chosen
pub chosen-once : (is_left : Bool) → from_bool is_left + from_bool (not is_left) ≡ 1
chosen-once true = refl
chosen-once false = refl
