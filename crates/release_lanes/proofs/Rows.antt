-- Lists, and lists of lists, of which one place changes.
use Rattle.std.proofs.Common.{◌≡◌, ◌≢◌, ◌⊎◌, inl, inr, ⊎_elim, ℕ, zero, suc, ◌+◌, ◌<◌, List, [], ◌∷◌, ◌++◌, map, length, take, drop, get_or, set, sym, ap, ◌∙◌, refl, arith}
use Rattle.std.specs.Prelude.{Option, None, Some, IfSome, option_to_list, slice_get}
use Rattle.std.specs.List.{range_with_len}
use Rattle.std.proofs.lemmas.List.{map-set, get_or-map, get_or-set_other, map_push, length-map, take_at}
use Rattle.std.proofs.lemmas.Bool.{cases_eq}
use Rattle.std.proofs.lemmas.Option.{same_Some}
use Rattle.std.proofs.lemmas.List.FromFn.{map-range_with_len_more}
use Rattle.release_lanes.specs.Lanes.{AddsOne, list_at, lane_at}

-- lists that agree under a function agree there at each place
pub same_at : {A B : Type 0} (f : A → B) (xs ys : List A) (k : ℕ) (d : A) → map f xs ≡ map f ys → f (get_or xs k d) ≡ f (get_or ys k d)
same_at f [] [] k d e = refl
same_at f [] (y ∷ ys) k d e = cc
same_at f (x ∷ xs) [] k d e = cc
same_at f (x ∷ xs) (y ∷ ys) zero d e = cc
same_at f (x ∷ xs) (y ∷ ys) (suc k) d e = same_at f xs ys k d cc

pub same_length : {A B : Type 0} (f : A → B) (xs ys : List A) → map f xs ≡ map f ys → length xs ≡ length ys
same_length f xs ys e = sym (length-map xs f) ∙ ap length e ∙ length-map ys f

-- a row of the rows that a function gives
pub row_at : {A B : Type 0} (f : A → List B) (xs : List A) (rows : List (List B)) (k : ℕ) (d : A) → k < length xs → map f xs ≡ rows → get_or rows k [] ≡ f (get_or xs k d)
row_at f xs rows k d within e = ap (λ l. get_or l k []) (sym e) ∙ get_or-map f xs k d [] within

-- one more element of a list that goes by the places
pub mapped_more : {A B : Type 0} (f : A → B) (g : ℕ → B) (xs : List A) (x : A) (k : ℕ) → map f xs ≡ map g (range_with_len 0 k) → f x ≡ g k → map f (xs ++ x ∷ []) ≡ map g (range_with_len 0 (k + 1))
mapped_more f g xs x k e at =
    map_push f xs x ∙ ap (λ l. l ++ f x ∷ []) e ∙ ap (λ b. map g (range_with_len 0 k) ++ b ∷ []) at ∙ sym (map-range_with_len_more g 0 k k (omega arith))

-- what `take` finds in a slot, and what it leaves
pub slot_held : {T : Type 0} (slots : List (Option T)) (to : ℕ) (r y : Option T) → to < length slots → y ≡ get_or slots to y → r ≡ y
    → IfSome r (λ x. list_at (map option_to_list slots) to ≡ x ∷ [])
slot_held slots to None y within at same = tt
slot_held slots to (Some x) y within at same = get_or-map option_to_list slots to y [] within ∙ ap option_to_list (sym at ∙ sym same)

pub slot_emptied : {T : Type 0} (slots : List (Option T)) (to : ℕ) (after : Option T) → after ≡ None
    → map option_to_list (set slots to after) ≡ set (map option_to_list slots) to []
slot_emptied slots to after none = map-set option_to_list slots to after ∙ ap (λ o. set (map option_to_list slots) to (option_to_list o)) none

-- of rows, one place of one row becomes x
pub lane_at_other_row : {T : Type 0} (rows : List (List (List T))) (row : List (List T)) (from i j : ℕ) → i ≢ from → lane_at (set rows from row) i j ≡ lane_at rows i j
lane_at_other_row rows row from i j other = ap (λ r. list_at r j) (get_or-set_other rows from i row [] other)

pub lane_at_other_place : {T : Type 0} (rows : List (List (List T))) (x : List T) (from to i j : ℕ) → j ≢ to
    → lane_at (set rows from (set (get_or rows from []) to x)) i j ≡ lane_at rows i j
lane_at_other_place [] x from to i j other = refl
lane_at_other_place (r ∷ rows) x zero to zero j other = get_or-set_other r to j x [] other
lane_at_other_place (r ∷ rows) x zero to (suc i) j other = refl
lane_at_other_place (r ∷ rows) x (suc from) to zero j other = refl
lane_at_other_place (r ∷ rows) x (suc from) to (suc i) j other = lane_at_other_place rows x from to i j other

-- a place that has an item is within
pub within_row : {T : Type 0} (rows : List (List T)) (to : ℕ) (x : T) (xs : List T) → list_at rows to ≡ x ∷ xs → to < length rows
within_row [] to x xs e = cc
within_row (r ∷ rows) zero x xs e = omega arith
within_row (r ∷ rows) (suc to) x xs e = let less = within_row rows to x xs e in omega arith

emptied_at : {T : Type 0} (row : List (List T)) (to : ℕ) → list_at (set row to []) to ≡ []
emptied_at [] to = refl
emptied_at (x ∷ row) zero = refl
emptied_at (x ∷ row) (suc to) = emptied_at row to

pub lane_at_emptied : {T : Type 0} (rows : List (List (List T))) (from to : ℕ) → lane_at (set rows from (set (get_or rows from []) to [])) from to ≡ []
lane_at_emptied [] from to = refl
lane_at_emptied (r ∷ rows) zero to = emptied_at r to
lane_at_emptied (r ∷ rows) (suc from) to = lane_at_emptied rows from to

pub emptied_falls : {T : Type 0} (rows : List (List (List T))) (from to i j : ℕ)
    → (lane_at (set rows from (set (get_or rows from []) to [])) i j ≡ []) ⊎ (lane_at (set rows from (set (get_or rows from []) to [])) i j ≡ lane_at rows i j)
emptied_falls rows from to i j =
    ⊎_elim
    (λ (same : i ≡ from).
    ⊎_elim
    (λ (alike : j ≡ to). inl (rw (same, alike) (lane_at_emptied rows from to)))
    (λ (other : j ≡ to → ⊥). inr (lane_at_other_place rows [] from to i j other))
    (cases_eq j to))
    (λ (other : i ≡ from → ⊥). inr (lane_at_other_row rows _ from i j other))
    (cases_eq i from)

filled_at : {T : Type 0} (slots : List (Option T)) (to : ℕ) (x : T) → slice_get slots to ≡ Some None
    → list_at (map option_to_list (set slots to (Some x))) to ≡ list_at (map option_to_list slots) to ++ x ∷ []
filled_at [] to x free = cc
filled_at (s ∷ slots) zero x free = let none : s ≡ None = same_Some s None free in rw none
filled_at (s ∷ slots) (suc to) x free = filled_at slots to x free

-- what a post leaves of the slots
pub slot_filled : {T : Type 0} (slots : List (Option T)) (to : ℕ) (x : T) → slice_get slots to ≡ Some None
    → AddsOne (λ k. list_at (map option_to_list slots) k) (λ k. list_at (map option_to_list (set slots to (Some x))) k) to x
slot_filled slots to x free = (
  filled_at slots to x free,
  λ other ne. ap (λ l. list_at l other) (map-set option_to_list slots to (Some x)) ∙ get_or-set_other (map option_to_list slots) to other (x ∷ []) [] ne,
)

pub slice_get_set_other : {A : Type 0} (xs : List A) (k j : ℕ) (x : A) → j ≢ k → slice_get (set xs k x) j ≡ slice_get xs j
slice_get_set_other [] k j x ne = refl
slice_get_set_other (y ∷ xs) zero zero x ne = absurd (ne refl)
slice_get_set_other (y ∷ xs) zero (suc j) x ne = refl
slice_get_set_other (y ∷ xs) (suc k) zero x ne = refl
slice_get_set_other (y ∷ xs) (suc k) (suc j) x ne = slice_get_set_other xs k j x (λ e. ne (ap suc e))

-- a list that was lent whole, after a change that keeps it as long
pub lent_whole : {A B : Type 0} (f : A → B) (xs mid : List A) (n : ℕ) → n ≡ length xs → map f mid ≡ map f xs → take n (mid ++ drop (length mid) xs) ≡ mid
lent_whole f xs mid n count same = let long = same_length f mid xs same in take_at mid (drop (length mid) xs) n (omega arith)
