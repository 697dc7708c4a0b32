-- What the nodes show once all is undone.
use Rattle.std.proofs.Common.{refl}
use Rattle.cycle_core.proofs.saving.state_of.Goals as goal

pub pending_of-requires-after_bounds : goal.pending_of-requires-after_bounds
pending_of-requires-after_bounds g c lifetimes outlives = c.requires.differ c.undo_all.new.nodes c.undo_all.ensures

pub objects_of-requires-clause-nodes : goal.objects_of-requires-clause-nodes
objects_of-requires-clause-nodes g c lifetimes outlives = c.requires.nodes c.pending_of.new.nodes (record { mids = c.undo_all.new.nodes; undone = c.undo_all.ensures; same = c.pending_of.ensures.same })

pub objects_of-requires-clause-homes : goal.objects_of-requires-clause-homes
objects_of-requires-clause-homes g c lifetimes outlives = c.requires.placed

pub returns-in_err-pending-clause-read : goal.returns-in_err-pending-clause-read
returns-in_err-pending-clause-read g c = record { mids = c.undo_all.new.nodes; undone = c.undo_all.ensures; same = c.pending_of.ensures.same }

pub returns-in_err-objects-clause-read : goal.returns-in_err-objects-clause-read
returns-in_err-objects-clause-read g c = record { mids = c.undo_all.new.nodes; undone = c.undo_all.ensures; same = c.pending_of.ensures.same }

pub returns-clause-read : goal.returns-clause-read
returns-clause-read g c = record { mids = c.undo_all.new.nodes; undone = c.undo_all.ensures; same = c.pending_of.ensures.same }

pub returns-clause-state : goal.returns-clause-state
returns-clause-state g c = record {
  read = record { mids = c.undo_all.new.nodes; undone = c.undo_all.ensures; same = c.pending_of.ensures.same };
  states = c.in_ok-objects.ensures;
  pending = c.in_ok-pending.ensures.pending;
  count_is = refl;
}
