use Rattle.std.proofs.Common.{◌≡◌, drop}
use Rattle.delta_exchange.specs.Changes.{AllFit, cells_after_all}
use Rattle.delta_exchange.specs.Spares.{HaveRoom, spare_after_all, HasSpares}
use Rattle.delta_exchange.proofs.cells.Cells.make.Given as goal

abbrev pub invariant-loop-change : goal.invariant-loop-change
invariant-loop-change l =
    record {
      spares : HasSpares l.self;
      fit : AllFit (drop l.change-index l.changes) l.self.contents;
      room : HaveRoom (drop l.change-index l.changes) l.self.spare;
      cells : cells_after_all (drop l.change-index l.changes) l.self.contents ≡ cells_after_all l.changes l.initial.self.contents;
      spare : spare_after_all (drop l.change-index l.changes) l.self.spare ≡ spare_after_all l.changes l.initial.self.spare;
    }
