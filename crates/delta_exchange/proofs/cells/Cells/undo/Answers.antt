use Rattle.std.proofs.Common.{◌≡◌, ◌+◌, ◌-◌, ◌∙◌, sym, refl, arith}
use Rattle.std.proofs.lemmas.List.{length-set, length-map}
use Rattle.delta_exchange.specs.declared.change.Change.TheVariants.{Set}
use Rattle.delta_exchange.proofs.Backwards.{last_fits, last_room, last_cells, last_spare, last_inverse, front_of_set, all_left, none_done, cells_at_start, spare_at_start, inverses_at_start}
use Rattle.delta_exchange.proofs.cells.Cells.undo.Goals as goal

pub loop-at-init : goal.loop-at-init
loop-at-init c =
    record {
      spares = rw (← c.self.view_is) (simp length-map);
      within = omega arith;
      fit = rw (all_left c.args.changes.now) c.requires.fit;
      room = rw (all_left c.args.changes.now) c.requires.room;
      cells = rw (all_left c.args.changes.now) refl;
      spare = rw (all_left c.args.changes.now) refl;
      made = rw (all_left c.args.changes.now, none_done) refl;
    }

pub exchange-requires-clause-fits : goal.exchange-requires-clause-fits
exchange-requires-clause-fits c =
    let i = c.loop-at.invariant in
    (last_fits c.loop-at.changes (c.loop-at.at - 1) c.loop-at.at (Set 0 0) _ (omega arith) i.within i.fit).0

pub exchange-requires-clause-room : goal.exchange-requires-clause-room
exchange-requires-clause-room c =
    let i = c.loop-at.invariant in
    (last_room c.loop-at.changes (c.loop-at.at - 1) c.loop-at.at (Set 0 0) _ (omega arith) i.within i.room).0

pub loop-at-preserved : goal.loop-at-preserved
loop-at-preserved c =
    let changes = c.loop-at.changes in
    let at = c.loop-at.at in
    let i = c.loop-at.invariant in
    let next : at - 1 + 1 ≡ at = omega arith in
    let done = c.exchange.ensures in
    record {
      spares = done.spares;
      within = rw length-set (omega arith);
      fit = rw (front_of_set changes (at - 1) _, done.cells) (last_fits changes (at - 1) at (Set 0 0) _ next i.within i.fit).1;
      room = rw (front_of_set changes (at - 1) _, done.spare) (last_room changes (at - 1) at (Set 0 0) _ next i.within i.room).1;
      cells = rw (front_of_set changes (at - 1) _, done.cells) (last_cells changes (at - 1) at (Set 0 0) _ next i.within ∙ i.cells);
      spare = rw (front_of_set changes (at - 1) _, done.spare) (last_spare changes (at - 1) at (Set 0 0) _ next i.within ∙ i.spare);
      made = rw (front_of_set changes (at - 1) _, done.cells) (last_inverse changes (at - 1) at (Set 0 0) _ _ next i.within done.change ∙ i.made);
    }

pub returns-clause-cells : goal.returns-clause-cells
returns-clause-cells c =
    sym (cells_at_start c.loop-at.changes c.loop-at.at _ (omega arith)) ∙ c.loop-at.invariant.cells

pub returns-clause-spare : goal.returns-clause-spare
returns-clause-spare c =
    sym (spare_at_start c.loop-at.changes c.loop-at.at _ (omega arith)) ∙ c.loop-at.invariant.spare

pub returns-clause-changes : goal.returns-clause-changes
returns-clause-changes c =
    sym (inverses_at_start c.loop-at.changes c.loop-at.at _ (omega arith)) ∙ c.loop-at.invariant.made
