-- Elements that are put behind others, one after another.
use Rattle.std.proofs.Common.{◌≡◌, ℕ, ◌+◌, ◌<◌, ◌≤◌, List, [], ◌∷◌, ◌++◌, length, get_or, take, sym, ap, ◌∙◌, arith, append_assoc, length-append, length-take}
use Rattle.std.proofs.lemmas.List.{take_all, take_more}

module _ {X : Type 0} (was now all : List X) (i : ℕ) where
  -- there is room for those that are left
  pub room-left : (len was_len room was_room : ℕ) → now ≡ was ++ take i all → len ≡ length now → was_len ≡ length was → room ≡ was_room → was_len + length all ≤ was_room → i < length all → len < room
  room-left len was_len room was_room is len_is was_is room_is enough some =
      let one = ap length is in
      let two = length-append was (take i all) in
      let three = length-take i all in
      omega arith

  pub all-put : now ≡ was ++ take i all → length all ≤ i → now ≡ was ++ all
  all-put is end = is ∙ ap (λ xs. was ++ xs) (take_all i all end)

pub one-more : {X : Type 0} (was now now' all : List X) (i : ℕ) (d : X) → i < length all → now ≡ was ++ take i all → now' ≡ now ++ get_or all i d ∷ [] → now' ≡ was ++ take (i + 1) all
one-more was now now' all i d some is pushed =
    pushed
    ∙ ap (λ xs. xs ++ get_or all i d ∷ []) is
    ∙ append_assoc was (take i all) (get_or all i d ∷ [])
    ∙ ap (λ xs. was ++ xs) (sym (take_more all i d some))
