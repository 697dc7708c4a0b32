-- Changes done from the first to the last, as a loop does: the change at its index, and what is left.
use Rattle.std.proofs.Common.{◌≡◌, ℕ, ◌+◌, ◌<◌, ◌≤◌, List, ◌++◌, length, get_or, take, drop, refl, ap, sym, ◌∙◌, arith}
use Rattle.std.proofs.Math.ListN.{set}
use Rattle.std.proofs.lemmas.List.{drop_more, drop_all, take_all, append-nil, append_assoc, take_more_set, drop-set-lt, drop-drop}
use Rattle.delta_exchange.specs.Changes.{CellData, Fits, cells_after, inverse_of, AllFit, cells_after_all, inverses_of}
use Rattle.delta_exchange.specs.Spares.{FindsRoom, spare_after, spare_after_all, HaveRoom}
use Rattle.delta_exchange.proofs.Room.{first_room}
use Rattle.delta_exchange.specs.declared.change.Change.{Change}

pub next_fits : (changes : List Change) (at : ℕ) (d : Change) (cells : CellData) → at < length changes → AllFit (drop at changes) cells
    → Fits (get_or changes at d) cells × AllFit (drop (at + 1) changes) (cells_after (get_or changes at d) cells)
unfolding AllFit
next_fits changes at d cells lt h = rw (drop_more changes at d lt) at h

pub next_room : (changes : List Change) (at : ℕ) (d : Change) (spare : List ℕ) → at < length changes → HaveRoom (drop at changes) spare
    → FindsRoom (get_or changes at d) spare × HaveRoom (drop (at + 1) changes) (spare_after (get_or changes at d) spare)
next_room changes at d spare lt h = first_room (get_or changes at d) (drop (at + 1) changes) spare (rw (drop_more changes at d lt) at h)

pub next_cells : (changes : List Change) (at : ℕ) (d : Change) (cells : CellData) → at < length changes
    → cells_after_all (drop (at + 1) changes) (cells_after (get_or changes at d) cells) ≡ cells_after_all (drop at changes) cells
unfolding cells_after_all
next_cells changes at d cells lt = rw (drop_more changes at d lt) refl

pub next_spare : (changes : List Change) (at : ℕ) (d : Change) (spare : List ℕ) → at < length changes
    → spare_after_all (drop (at + 1) changes) (spare_after (get_or changes at d) spare) ≡ spare_after_all (drop at changes) spare
unfolding spare_after_all
next_spare changes at d spare lt = rw (drop_more changes at d lt) refl

-- an inverse written at its change's place
pub next_inverse : (changes : List Change) (at : ℕ) (d new : Change) (cells : CellData) → at < length changes → new ≡ inverse_of (get_or changes at d) cells
    → take (at + 1) (set changes at new) ++ inverses_of (drop (at + 1) changes) (cells_after (get_or changes at d) cells) ≡ take at changes ++ inverses_of (drop at changes) cells
unfolding inverses_of
next_inverse changes at d new cells lt is =
    rw (take_more_set changes at new lt, append_assoc, drop_more changes at d lt, is) refl

pub rest_of_set : (changes : List Change) (at : ℕ) (new : Change) → drop (at + 1) (set changes at new) ≡ drop (at + 1) changes
rest_of_set changes at new = drop-set-lt (at + 1) changes at new (omega arith)

pub next_rest : (changes before : List Change) (at : ℕ) → drop at changes ≡ drop at before → drop (at + 1) changes ≡ drop (at + 1) before
next_rest changes before at same = sym (drop-drop 1 at changes) ∙ ap (drop 1) same ∙ drop-drop 1 at before

pub cells_at_end : (changes : List Change) (at : ℕ) (cells : CellData) → length changes ≤ at → cells_after_all (drop at changes) cells ≡ cells
unfolding cells_after_all
cells_at_end changes at cells le = rw (drop_all at changes le) refl

pub spare_at_end : (changes : List Change) (at : ℕ) (spare : List ℕ) → length changes ≤ at → spare_after_all (drop at changes) spare ≡ spare
unfolding spare_after_all
spare_at_end changes at spare le = rw (drop_all at changes le) refl

pub inverses_at_end : (changes : List Change) (at : ℕ) (cells : CellData) → length changes ≤ at → take at changes ++ inverses_of (drop at changes) cells ≡ changes
unfolding inverses_of
inverses_at_end changes at cells le = rw (drop_all at changes le, take_all at changes le, append-nil) refl
