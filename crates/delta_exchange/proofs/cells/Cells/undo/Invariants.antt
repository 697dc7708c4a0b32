use Rattle.std.proofs.Common.{◌≡◌, ◌≤◌, ◌++◌, length, take, drop, reverse}
use Rattle.delta_exchange.specs.Changes.{AllFit, cells_after_all, inverses_of}
use Rattle.delta_exchange.specs.Spares.{AllFindRoom, spare_after_all, HasSpares}
use Rattle.delta_exchange.proofs.cells.Cells.undo.Given as goal

abbrev pub invariant-loop-at : goal.invariant-loop-at
invariant-loop-at l =
    record {
      spares : HasSpares l.self;
      within : l.at ≤ length l.changes;
      fit : AllFit (reverse (take l.at l.changes)) l.self.contents;
      room : AllFindRoom (reverse (take l.at l.changes)) l.self.spare;
      cells : cells_after_all (reverse (take l.at l.changes)) l.self.contents ≡ cells_after_all (reverse l.initial.changes) l.initial.self.contents;
      spare : spare_after_all (reverse (take l.at l.changes)) l.self.spare ≡ spare_after_all (reverse l.initial.changes) l.initial.self.spare;
      made : reverse (inverses_of (reverse (take l.at l.changes)) l.self.contents) ++ drop l.at l.changes ≡ reverse (inverses_of (reverse l.initial.changes) l.initial.self.contents);
    }
