-- Changes exchanged from the last to the first, as a loop does: the change below `at`, and what is left.
use Rattle.std.proofs.Common.{◌≡◌, ℕ, ◌+◌, ◌<◌, ◌≤◌, List, [], ◌∷◌, ◌++◌, length, get_or, take, drop, reverse, refl, ap, arith}
use Rattle.std.proofs.Math.ListN.{set}
use Rattle.std.proofs.lemmas.List.{take_more, reverse-append, append_assoc, append-nil, drop-set, take-set, take_all, drop_all}
use Rattle.std.proofs.lemmas.Grind.{reverse_onto}
use Rattle.delta_exchange.specs.Changes.{CellData, Fits, cells_after, inverse_of, AllFit, cells_after_all, inverses_of}
use Rattle.delta_exchange.specs.Spares.{FindsRoom, spare_after, spare_after_all, AllFindRoom}
use Rattle.delta_exchange.specs.declared.change.Change.{Change}

last_first : (changes : List Change) (k at : ℕ) (d : Change) → k + 1 ≡ at → at ≤ length changes → reverse (take at changes) ≡ get_or changes k d ∷ reverse (take k changes)
last_first changes k at d next within =
    let lt : k < length changes = omega arith in
    rw (← next, take_more changes k d lt, reverse-append) refl

pub last_fits : (changes : List Change) (k at : ℕ) (d : Change) (cells : CellData) → k + 1 ≡ at → at ≤ length changes → AllFit (reverse (take at changes)) cells
    → Fits (get_or changes k d) cells × AllFit (reverse (take k changes)) (cells_after (get_or changes k d) cells)
unfolding AllFit
last_fits changes k at d cells next within h = rw (last_first changes k at d next within) at h

pub last_room : (changes : List Change) (k at : ℕ) (d : Change) (spare : List ℕ) → k + 1 ≡ at → at ≤ length changes → AllFindRoom (reverse (take at changes)) spare
    → FindsRoom (get_or changes k d) spare × AllFindRoom (reverse (take k changes)) (spare_after (get_or changes k d) spare)
unfolding AllFindRoom
last_room changes k at d spare next within h = rw (last_first changes k at d next within) at h

pub last_cells : (changes : List Change) (k at : ℕ) (d : Change) (cells : CellData) → k + 1 ≡ at → at ≤ length changes
    → cells_after_all (reverse (take k changes)) (cells_after (get_or changes k d) cells) ≡ cells_after_all (reverse (take at changes)) cells
unfolding cells_after_all
last_cells changes k at d cells next within = rw (last_first changes k at d next within) refl

pub last_spare : (changes : List Change) (k at : ℕ) (d : Change) (spare : List ℕ) → k + 1 ≡ at → at ≤ length changes
    → spare_after_all (reverse (take k changes)) (spare_after (get_or changes k d) spare) ≡ spare_after_all (reverse (take at changes)) spare
unfolding spare_after_all
last_spare changes k at d spare next within = rw (last_first changes k at d next within) refl

pub inverse_last : (change : Change) (rest : List Change) (cells : CellData) → reverse (inverses_of (change ∷ rest) cells) ≡ reverse (inverses_of rest (cells_after change cells)) ++ inverse_of change cells ∷ []
unfolding inverses_of
inverse_last change rest cells = reverse_onto (inverses_of rest (cells_after change cells)) (inverse_of change cells) []

-- an inverse written at its change's place
pub last_inverse : (changes : List Change) (k at : ℕ) (d new : Change) (cells : CellData) → k + 1 ≡ at → at ≤ length changes → new ≡ inverse_of (get_or changes k d) cells
    → reverse (inverses_of (reverse (take k changes)) (cells_after (get_or changes k d) cells)) ++ drop k (set changes k new) ≡ reverse (inverses_of (reverse (take at changes)) cells) ++ drop at changes
last_inverse changes k at d new cells next within is =
    let lt : k < length changes = omega arith in
    rw (last_first changes k at d next within, inverse_last, append_assoc, ← is, drop-set changes k new lt, next) refl

pub front_of_set : (changes : List Change) (at : ℕ) (new : Change) → reverse (take at (set changes at new)) ≡ reverse (take at changes)
front_of_set changes at new = ap reverse (take-set changes at new)

-- before the first turn all are left
pub all_left : (changes : List Change) → reverse (take (length changes) changes) ≡ reverse changes
all_left changes = ap reverse (take_all (length changes) changes (omega arith))

pub none_done : (changes inverses : List Change) → inverses ++ drop (length changes) changes ≡ inverses
none_done changes inverses = rw (drop_all (length changes) changes (omega arith), append-nil) refl

-- after the last turn none is left
pub cells_at_start : (changes : List Change) (at : ℕ) (cells : CellData) → at ≡ 0 → cells_after_all (reverse (take at changes)) cells ≡ cells
unfolding cells_after_all
cells_at_start changes at cells none = rw none refl

pub spare_at_start : (changes : List Change) (at : ℕ) (spare : List ℕ) → at ≡ 0 → spare_after_all (reverse (take at changes)) spare ≡ spare
unfolding spare_after_all
spare_at_start changes at spare none = rw none refl

pub inverses_at_start : (changes : List Change) (at : ℕ) (cells : CellData) → at ≡ 0 → reverse (inverses_of (reverse (take at changes)) cells) ++ drop at changes ≡ changes
unfolding inverses_of
inverses_at_start changes at cells none = rw none refl
