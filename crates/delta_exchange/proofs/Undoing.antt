-- Undoing the inverses of a list of changes.
use Rattle.std.proofs.Common.{◌≡◌, ℕ, zero, suc, List, [], ◌∷◌, take, drop, reverse, refl, ap, sym, ◌∙◌}
use Rattle.std.proofs.lemmas.List.{reverse-append, take-append-drop}
use Rattle.delta_exchange.specs.Changes.{CellData, cells_after, inverse_of, AllFit, cells_after_all, inverses_of}
use Rattle.delta_exchange.specs.Spares.{spare_after, AllFindRoom, spare_after_all}
use Rattle.delta_exchange.specs.Undoing.{UndoRestores, view_after_all, CanBeDone, UndoingRestores, UndoingTheLastRestores, UndoingTheFirstRestores}
use Rattle.delta_exchange.specs.Views.{CellsView}
use Rattle.delta_exchange.specs.declared.change.Change.{Change}
use Rattle.delta_exchange.proofs.Inverses.{cells_back, change_back, inverse_fits, inverse_finds_room, spare_back}
use Rattle.delta_exchange.proofs.Lists.{cells_after_all_append, spare_after_all_append, inverses_of_append, all_fit_append, all_find_room_append, first_fit, last_fit, first_find_room, last_find_room, length_spare_after, length_lines_after, length_spare_after_all, length_lines_after_all}
use Rattle.delta_exchange.proofs.Backwards.{inverse_last}

view_after : Change → CellsView → CellsView
view_after change cells = record { contents = cells_after change cells.contents; spare = spare_after change cells.spare }

rest_can_be_done : (change : Change) (rest : List Change) (cells : CellsView) → CanBeDone (change ∷ rest) cells → CanBeDone rest (view_after change cells)
unfolding AllFit AllFindRoom view_after
rest_can_be_done change rest cells can = (length_spare_after change cells.spare ∙ can.0 ∙ sym (length_lines_after change cells.contents), can.1.1, can.2.1)

-- a list undone, and then one change more
one_more : (change : Change) (rest : List Change) (cells : CellsView) → CanBeDone (change ∷ rest) cells
    → UndoRestores (inverses_of rest (cells_after change cells.contents)) (view_after_all rest (view_after change cells)) rest (view_after change cells)
    → UndoRestores (inverses_of (change ∷ rest) cells.contents) (view_after_all (change ∷ rest) cells) (change ∷ rest) cells
unfolding AllFit AllFindRoom view_after cells_after_all spare_after_all inverses_of
one_more change rest cells can undone =
    let before = reverse (inverses_of rest (cells_after change cells.contents)) in
    let inverse = inverse_of change cells.contents in
    let last = inverse_last change rest cells.contents in
    record {
      fit = rw last (all_fit_append before (inverse ∷ []) _ undone.fit (rw undone.contents (inverse_fits change cells.contents can.1.0, tt)));
      room = rw last (all_find_room_append before (inverse ∷ []) _ undone.room (rw undone.spare (inverse_finds_room change cells.contents cells.spare can.0 can.1.0, tt)));
      contents = rw (last, cells_after_all_append, undone.contents) (cells_back change cells.contents can.1.0);
      spare = rw (last, spare_after_all_append, undone.spare) (spare_back change cells.contents cells.spare can.0 can.1.0 can.2.0);
      originals = rw (last, inverses_of_append, undone.contents, reverse-append, undone.originals, change_back change cells.contents can.1.0) refl;
    }

pub undoing_restores : UndoingRestores
unfolding AllFit AllFindRoom view_after cells_after_all spare_after_all inverses_of
undoing_restores [] cells can = record { fit = tt; room = tt; contents = refl; spare = refl; originals = refl }
undoing_restores (change ∷ rest) cells can = one_more change rest cells can (undoing_restores rest (view_after change cells) (rest_can_be_done change rest cells can))

pub undoing_the_last_restores : UndoingTheLastRestores
undoing_the_last_restores first last cells can =
    rw (cells_after_all_append, spare_after_all_append)
    (undoing_restores last (view_after_all first cells)
    (length_spare_after_all first cells.spare ∙ can.0 ∙ sym (length_lines_after_all first cells.contents), last_fit first last cells.contents can.1, last_find_room first last cells.spare can.2))

pub undoing_the_first_restores : UndoingTheFirstRestores
undoing_the_first_restores first last cells can = undoing_restores first cells (can.0, first_fit first last cells.contents can.1, first_find_room first last cells.spare can.2)

drop_inverses : (kept : ℕ) (changes : List Change) (cells : CellData) → drop kept (inverses_of changes cells) ≡ inverses_of (drop kept changes) (cells_after_all (take kept changes) cells)
unfolding inverses_of cells_after_all
drop_inverses zero changes cells = refl
drop_inverses (suc kept) [] cells = refl
drop_inverses (suc kept) (change ∷ rest) cells = drop_inverses kept rest (cells_after change cells)

-- what undoing restores, told of what a call left
pub undone_after : (changes inverses : List Change) (before after : CellsView) → CanBeDone changes before
    → after.contents ≡ cells_after_all changes before.contents → after.spare ≡ spare_after_all changes before.spare → inverses ≡ inverses_of changes before.contents
    → UndoRestores inverses after changes before
undone_after changes inverses before after can contents spare made =
    let law = undoing_restores changes before can in
    record {
      fit = rw (made, contents) law.fit;
      room = rw (made, spare) law.room;
      contents = rw (made, contents) law.contents;
      spare = rw (made, spare) law.spare;
      originals = rw (made, contents) law.originals;
    }

pub last_undone_after : (changes inverses : List Change) (before after : CellsView) → CanBeDone changes before
    → after.contents ≡ cells_after_all changes before.contents → after.spare ≡ spare_after_all changes before.spare → inverses ≡ inverses_of changes before.contents
    → (kept : ℕ) → UndoRestores (drop kept inverses) after (drop kept changes) (view_after_all (take kept changes) before)
last_undone_after changes inverses before after can contents spare made kept =
    let whole = take-append-drop kept changes in
    let law = undoing_the_last_restores (take kept changes) (drop kept changes) before (rw whole can) in
    let is = ap (drop kept) made ∙ drop_inverses kept changes before.contents in
    let contents' = contents ∙ sym (ap (λ all. cells_after_all all before.contents) whole) in
    let spare' = spare ∙ sym (ap (λ all. spare_after_all all before.spare) whole) in
    record {
      fit = rw (is, contents') law.fit;
      room = rw (is, spare') law.room;
      contents = rw (is, contents') law.contents;
      spare = rw (is, spare') law.spare;
      originals = rw (is, contents') law.originals;
    }
