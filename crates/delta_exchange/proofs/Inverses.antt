-- The inverse of one change, done on the cells that the change left: it fits, finds room, and gives back the cells, the spares and the change.
use Rattle.std.proofs.Common.{◌≡◌, ℕ, ◌+◌, ◌-◌, ◌<◌, List, [], ◌∷◌, ◌++◌, length, get_or, take, drop, refl, ap, ◌∙◌, arith}
use Rattle.std.proofs.Math.ListN.{set}
use Rattle.std.proofs.lemmas.List.{set-set, set-get_or, get_or-set_same, length-set, length-append}
use Rattle.std.proofs.lemmas.Bool.Decides.{nat_tests}
use Rattle.std.proofs.lemmas.Grind.{common_steps}
use Rattle.delta_exchange.specs.Changes.{CellData, line_of, Fits, cells_after, inverse_of, flipped, with_flipped}
use Rattle.delta_exchange.specs.Spares.{FindsRoom, spare_after}
use Rattle.delta_exchange.specs.declared.change.Change.{Change}
use Rattle.delta_exchange.specs.declared.change.Change.TheVariants.{Set, Push, Pop, Unpush, Unpop, Flip}

-- an element that is put back
set_back : {A : Type 0} (xs : List A) (at : ℕ) (x d : A) → set (set xs at x) at (get_or xs at d) ≡ xs
set_back xs at x d = set-set xs at x (get_or xs at d) ∙ set-get_or xs at d

first_and_rest : (xs : List ℕ) → 0 < length xs → get_or xs 0 0 ∷ drop 1 xs ≡ xs
first_and_rest [] some = absurd (omega arith)
first_and_rest (x ∷ xs) some = refl

front_and_last : (xs : List ℕ) → 0 < length xs → take (length xs - 1) xs ++ get_or xs (length xs - 1) 0 ∷ [] ≡ xs
front_and_last xs some = grind (arith, common_steps)

front_of_pushed : (xs : List ℕ) (x : ℕ) → take (length (xs ++ x ∷ []) - 1) (xs ++ x ∷ []) ≡ xs
front_of_pushed xs x = grind (arith, common_steps)

last_of_pushed : (xs : List ℕ) (x : ℕ) → get_or (xs ++ x ∷ []) (length (xs ++ x ∷ []) - 1) 0 ≡ x
last_of_pushed xs x = grind (arith, common_steps)

flipped_twice : (value : ℕ) → flipped (flipped value) ≡ value
unfolding flipped
flipped_twice value = grind (arith, nat_tests)

-- a value that is flipped twice
flip_back : (xs : List ℕ) (place : ℕ) → place < length xs → with_flipped (with_flipped xs place) place ≡ xs
flip_back xs place lt =
    rw (get_or-set_same xs place (flipped (get_or xs place 0)) 0 lt, flipped_twice) (set_back xs place _ 0)

-- a line that is put back
line_back : (lines : List (List ℕ)) (at : ℕ) (changed same : List ℕ) → same ≡ get_or lines at [] → set (set lines at changed) at same ≡ lines
line_back lines at changed same is = rw is (set_back lines at changed [])

pub cells_back : (change : Change) (cells : CellData) → Fits change cells → cells_after (inverse_of change cells) (cells_after change cells) ≡ cells
cells_back (Set word value) cells fits = ap (λ words. record cells { words = words }) (set_back cells.words word value 0)
cells_back (Push line value) cells fits =
    let pushed = line_of cells line ++ value ∷ [] in
    let here : get_or (set cells.lines line pushed) line [] ≡ pushed = get_or-set_same cells.lines line pushed [] fits in
    ap (λ lines. record cells { lines = lines }) (rw here (line_back cells.lines line _ _ (front_of_pushed (line_of cells line) value)))
cells_back (Pop line) cells fits =
    let popped = drop 1 (line_of cells line) in
    let here : get_or (set cells.lines line popped) line [] ≡ popped = get_or-set_same cells.lines line popped [] fits.0 in
    ap (λ lines. record cells { lines = lines }) (rw here (line_back cells.lines line _ _ (first_and_rest (line_of cells line) fits.1)))
cells_back (Unpush line) cells fits =
    let popped = take (length (line_of cells line) - 1) (line_of cells line) in
    let here : get_or (set cells.lines line popped) line [] ≡ popped = get_or-set_same cells.lines line popped [] fits.0 in
    ap (λ lines. record cells { lines = lines }) (rw here (line_back cells.lines line _ _ (front_and_last (line_of cells line) fits.1)))
cells_back (Unpop line value) cells fits =
    let pushed = value ∷ line_of cells line in
    let here : get_or (set cells.lines line pushed) line [] ≡ pushed = get_or-set_same cells.lines line pushed [] fits in
    ap (λ lines. record cells { lines = lines }) (rw here (line_back cells.lines line _ _ refl))
cells_back (Flip line place) cells fits =
    let turned = with_flipped (line_of cells line) place in
    let here : get_or (set cells.lines line turned) line [] ≡ turned = get_or-set_same cells.lines line turned [] fits.0 in
    ap (λ lines. record cells { lines = lines }) (rw here (line_back cells.lines line _ _ (flip_back (line_of cells line) place fits.1)))

pub change_back : (change : Change) (cells : CellData) → Fits change cells → inverse_of (inverse_of change cells) (cells_after change cells) ≡ change
change_back (Set word value) cells fits = ap (λ old. Set word old) (get_or-set_same cells.words word value 0 fits)
change_back (Push line value) cells fits =
    let pushed = line_of cells line ++ value ∷ [] in
    let here : get_or (set cells.lines line pushed) line [] ≡ pushed = get_or-set_same cells.lines line pushed [] fits in
    ap (λ last. Push line last) (rw here (last_of_pushed (line_of cells line) value))
change_back (Pop line) cells fits = refl
change_back (Unpush line) cells fits = refl
change_back (Unpop line value) cells fits =
    let pushed = value ∷ line_of cells line in
    let here : get_or (set cells.lines line pushed) line [] ≡ pushed = get_or-set_same cells.lines line pushed [] fits in
    ap (λ first. Unpop line first) (rw here refl)
change_back (Flip line place) cells fits = refl

still_there : (lines : List (List ℕ)) (at : ℕ) (line : List ℕ) → at < length lines → at < length (set lines at line)
still_there lines at line lt = rw length-set lt

not_empty : (lines : List (List ℕ)) (at : ℕ) (line : List ℕ) → at < length lines → 0 < length line → 0 < length (get_or (set lines at line) at [])
not_empty lines at line lt some = rw (get_or-set_same lines at line [] lt) some

pub inverse_fits : (change : Change) (cells : CellData) → Fits change cells → Fits (inverse_of change cells) (cells_after change cells)
inverse_fits (Set word value) cells fits = rw length-set fits
inverse_fits (Push line value) cells fits = (still_there cells.lines line _ fits, not_empty cells.lines line _ fits (rw length-append (omega arith)))
inverse_fits (Pop line) cells fits = still_there cells.lines line _ fits.0
inverse_fits (Unpush line) cells fits = still_there cells.lines line _ fits.0
inverse_fits (Unpop line value) cells fits = (still_there cells.lines line _ fits, not_empty cells.lines line _ fits (omega arith))
inverse_fits (Flip line place) cells fits =
    let turned = with_flipped (line_of cells line) place in
    let here : get_or (set cells.lines line turned) line [] ≡ turned = get_or-set_same cells.lines line turned [] fits.0 in
    (still_there cells.lines line _ fits.0, rw (here, length-set) fits.1)

risen : (spare : List ℕ) (at : ℕ) → at < length spare → 0 < get_or (set spare at (get_or spare at 0 + 1)) at 0
risen spare at lt = rw (get_or-set_same spare at (get_or spare at 0 + 1) 0 lt) (omega arith)

pub inverse_finds_room : (change : Change) (cells : CellData) (spare : List ℕ) → length spare ≡ length cells.lines → Fits change cells → FindsRoom (inverse_of change cells) (spare_after change spare)
inverse_finds_room (Set word value) cells spare spares fits = tt
inverse_finds_room (Push line value) cells spare spares fits = tt
inverse_finds_room (Pop line) cells spare spares fits = risen spare line (omega (arith, fits.0))
inverse_finds_room (Unpush line) cells spare spares fits = risen spare line (omega (arith, fits.0))
inverse_finds_room (Unpop line value) cells spare spares fits = tt
inverse_finds_room (Flip line place) cells spare spares fits = tt

risen_and_fallen : (spare : List ℕ) (at : ℕ) → at < length spare → set (set spare at (get_or spare at 0 + 1)) at (get_or (set spare at (get_or spare at 0 + 1)) at 0 - 1) ≡ spare
risen_and_fallen spare at lt =
    let same : get_or spare at 0 + 1 - 1 ≡ get_or spare at 0 = omega arith in
    rw (get_or-set_same spare at (get_or spare at 0 + 1) 0 lt, same) (set_back spare at _ 0)

fallen_and_risen : (spare : List ℕ) (at : ℕ) → at < length spare → 0 < get_or spare at 0 → set (set spare at (get_or spare at 0 - 1)) at (get_or (set spare at (get_or spare at 0 - 1)) at 0 + 1) ≡ spare
fallen_and_risen spare at lt some =
    let same : get_or spare at 0 - 1 + 1 ≡ get_or spare at 0 = omega arith in
    rw (get_or-set_same spare at (get_or spare at 0 - 1) 0 lt, same) (set_back spare at _ 0)

pub spare_back : (change : Change) (cells : CellData) (spare : List ℕ) → length spare ≡ length cells.lines → Fits change cells → FindsRoom change spare → spare_after (inverse_of change cells) (spare_after change spare) ≡ spare
spare_back (Set word value) cells spare spares fits finds = refl
spare_back (Push line value) cells spare spares fits finds = fallen_and_risen spare line (omega (arith, fits)) finds
spare_back (Pop line) cells spare spares fits finds = risen_and_fallen spare line (omega (arith, fits.0))
spare_back (Unpush line) cells spare spares fits finds = risen_and_fallen spare line (omega (arith, fits.0))
spare_back (Unpop line value) cells spare spares fits finds = fallen_and_risen spare line (omega (arith, fits)) finds
spare_back (Flip line place) cells spare spares fits finds = refl
