use Rattle.std.proofs.Common.{◌<◌, ◌∙◌, sym, length, arith}
use Rattle.delta_exchange.specs.declared.change.Change.TheVariants.{Set}
use Rattle.delta_exchange.proofs.Forwards.{next_fits, next_room, next_cells, next_spare, cells_at_end, spare_at_end}
use Rattle.delta_exchange.proofs.cells.Cells.make.Goals as goal

pub exchange-requires-clause-fits : goal.exchange-requires-clause-fits
exchange-requires-clause-fits c =
    (next_fits c.args.changes.now c.loop-change.change-index (Set 0 0) _ (omega arith) c.loop-change.invariant.fit).0

pub exchange-requires-clause-room : goal.exchange-requires-clause-room
exchange-requires-clause-room c =
    (next_room c.args.changes.now c.loop-change.change-index (Set 0 0) _ (omega arith) c.loop-change.invariant.room).0

pub loop-change-preserved : goal.loop-change-preserved
loop-change-preserved c =
    let changes = c.args.changes.now in
    let at = c.loop-change.change-index in
    let i = c.loop-change.invariant in
    let lt : c.loop-change.change-index < length c.args.changes.now = omega arith in
    let done = c.exchange.ensures in
    record {
      spares = done.spares;
      fit = rw done.cells (next_fits changes at (Set 0 0) _ lt i.fit).1;
      room = rw done.spare (next_room changes at (Set 0 0) _ lt i.room).1;
      cells = rw done.cells (next_cells changes at (Set 0 0) _ lt ∙ i.cells);
      spare = rw done.spare (next_spare changes at (Set 0 0) _ lt ∙ i.spare);
    }

pub returns-clause-cells : goal.returns-clause-cells
returns-clause-cells c =
    sym (cells_at_end c.args.changes.now c.loop-change.change-index _ (omega arith)) ∙ c.loop-change.invariant.cells

pub returns-clause-spare : goal.returns-clause-spare
returns-clause-spare c =
    sym (spare_at_end c.args.changes.now c.loop-change.change-index _ (omega arith)) ∙ c.loop-change.invariant.spare
