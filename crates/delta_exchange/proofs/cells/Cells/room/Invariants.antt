use Rattle.std.proofs.Common.{◌≡◌, ◌<◌, ◌≤◌, ℕ, take, get_or}
use Rattle.delta_exchange.specs.Spares.{room_for, NoneFell}
use Rattle.delta_exchange.proofs.cells.Cells.room.Given as goal

abbrev pub invariant-loop-change : goal.invariant-loop-change
invariant-loop-change l =
    record {
      same : l.self.contents ≡ l.initial.self.contents;
      fell : NoneFell l.initial.self.spare l.self.spare;
      room : (line : ℕ) → 0 < room_for (take l.change-index l.changes) line → room_for l.changes line ≤ get_or l.self.spare line 0;
    }
