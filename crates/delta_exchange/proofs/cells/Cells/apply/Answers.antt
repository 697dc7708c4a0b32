use Rattle.std.proofs.Common.{◌<◌, ◌∙◌, sym, length, arith}
use Rattle.std.proofs.lemmas.List.{length-map}
use Rattle.delta_exchange.specs.declared.change.Change.TheVariants.{Set}
use Rattle.delta_exchange.proofs.Forwards.{next_fits, next_room, next_cells, next_spare, next_inverse, next_rest, rest_of_set, cells_at_end, spare_at_end, inverses_at_end}
use Rattle.delta_exchange.proofs.Room.{room_is_enough}
use Rattle.delta_exchange.proofs.Undoing.{undone_after, last_undone_after}
use Rattle.delta_exchange.proofs.cells.Cells.apply.Goals as goal

pub exchange-requires-clause-fits : goal.exchange-requires-clause-fits
exchange-requires-clause-fits c =
    (next_fits c.loop-change.changes c.loop-change.change-index (Set 0 0) _ (omega arith) c.loop-change.invariant.fit).0

pub exchange-requires-clause-room : goal.exchange-requires-clause-room
exchange-requires-clause-room c =
    (next_room c.loop-change.changes c.loop-change.change-index (Set 0 0) _ (omega arith) c.loop-change.invariant.room).0

pub loop-change-preserved : goal.loop-change-preserved
loop-change-preserved c =
    let changes = c.loop-change.changes in
    let at = c.loop-change.change-index in
    let i = c.loop-change.invariant in
    let lt : c.loop-change.change-index < length c.loop-change.changes = omega arith in
    let done = c.exchange.ensures in
    record {
      spares = done.spares;
      rest = rest_of_set changes at _ ∙ next_rest changes c.args.changes.now at i.rest;
      fit = rw (rest_of_set changes at _, done.cells) (next_fits changes at (Set 0 0) _ lt i.fit).1;
      room = rw (rest_of_set changes at _, done.spare) (next_room changes at (Set 0 0) _ lt i.room).1;
      cells = rw (rest_of_set changes at _, done.cells) (next_cells changes at (Set 0 0) _ lt ∙ i.cells);
      spare = rw (rest_of_set changes at _, done.spare) (next_spare changes at (Set 0 0) _ lt ∙ i.spare);
      made = rw (rest_of_set changes at _, done.cells) (next_inverse changes at (Set 0 0) _ _ lt done.change ∙ i.made);
    }

pub returns-clause-cells : goal.returns-clause-cells
returns-clause-cells c =
    sym (cells_at_end c.loop-change.changes c.loop-change.change-index _ (omega arith)) ∙ c.loop-change.invariant.cells

pub returns-clause-spare : goal.returns-clause-spare
returns-clause-spare c =
    sym (spare_at_end c.loop-change.changes c.loop-change.change-index _ (omega arith)) ∙ c.loop-change.invariant.spare

pub returns-clause-changes : goal.returns-clause-changes
returns-clause-changes c =
    sym (inverses_at_end c.loop-change.changes c.loop-change.change-index _ (omega arith)) ∙ c.loop-change.invariant.made

pub returns-clause-undo : goal.returns-clause-undo
returns-clause-undo c =
    undone_after c.args.changes.now c.loop-change.changes c.args.self.now c.loop-change.self
    (rw (← c.self.view_is) (simp length-map), c.requires.fit, room_is_enough _ _ c.requires.room) (returns-clause-cells c) (returns-clause-spare c) (returns-clause-changes c)

pub returns-clause-undo_last : goal.returns-clause-undo_last
returns-clause-undo_last c =
    last_undone_after c.args.changes.now c.loop-change.changes c.args.self.now c.loop-change.self
    (rw (← c.self.view_is) (simp length-map), c.requires.fit, room_is_enough _ _ c.requires.room) (returns-clause-cells c) (returns-clause-spare c) (returns-clause-changes c)
