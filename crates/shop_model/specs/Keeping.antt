-- Changes that fit cells and leave some for which a fact holds, one list of changes after another.
use Rattle.std.proofs.Common.{List, [], ◌∷◌, ◌++◌, subst, sym}
use Rattle.delta_exchange.proofs.Lists.{all_fit_append, cells_after_all_append}
use Rattle.delta_exchange.specs.declared.change.Change.{Change}
use Rattle.delta_exchange.specs.Changes.{CellData, Fits, AllFit, cells_after, cells_after_all}

pub record Keeps (Holds : CellData → Type 0) (changes : List Change) (cells : CellData) : Type 0 where
  pub fits : AllFit changes cells
  pub after : Holds (cells_after_all changes cells)

pub keeps_none : (P : CellData → Type 0) (cells : CellData) → P cells → Keeps P [] cells
unfolding AllFit cells_after_all
keeps_none P cells h = record { fits = tt; after = h }

pub keeps_one : (P : CellData → Type 0) (change : Change) (cells : CellData) → Fits change cells → P (cells_after change cells)
    → Keeps P (change ∷ []) cells
unfolding AllFit cells_after_all
keeps_one P change cells fits h = record { fits = (fits, tt); after = h }

pub keeps_then : (P Q : CellData → Type 0) (first last : List Change) (cells : CellData) → Keeps P first cells
    → ((c : CellData) → P c → Keeps Q last c)
    → Keeps Q (first ++ last) cells
keeps_then P Q first last cells a b =
    let c = b (cells_after_all first cells) a.after in
    record {
      fits = all_fit_append first last cells a.fits c.fits;
      after = subst Q (sym (cells_after_all_append first last cells)) c.after;
    }
