use Rattle.std.proofs.Common.{◌∙◌, ap}
use Rattle.speedes_queue.specs.Queues.{pending_of}
use Rattle.speedes_queue.proofs.QueueLemmas.{fresh_differ, run_ascending, run_differs, run_room, merged_is, orderly-merged}
use Rattle.speedes_queue.proofs.queue.Queue.merge.Goals as goal

pub take_sorted-run-requires-clause-distinct : goal.take_sorted-run-requires-clause-distinct
take_sorted-run-requires-clause-distinct c = fresh_differ _ _ _ c.self.invariant

pub add-requires-clause-ascending : goal.add-requires-clause-ascending
add-requires-clause-ascending c = run_ascending _ _ _ _ c.self.invariant c.take_sorted-run.ensures.chain

pub add-requires-clause-distinct : goal.add-requires-clause-distinct
add-requires-clause-distinct c = run_differs _ _ _ _ c.self.invariant c.take_sorted-run.ensures.chain

pub add-requires-clause-room : goal.add-requires-clause-room
add-requires-clause-room c = run_room _ _ _ _ c.self.invariant c.take_sorted-run.ensures.chain

pub invariant_of-self : goal.invariant_of-self
invariant_of-self c =
    orderly-merged _ _ _ _ _ _ c.self.invariant (c.add.ensures ∙ merged_is _ _ _ _ c.self.invariant c.take_sorted-run.ensures.chain) c.take_sorted-run.ensures.events

pub returns-clause-primary : goal.returns-clause-primary
returns-clause-primary c = c.add.ensures ∙ merged_is _ _ _ _ c.self.invariant c.take_sorted-run.ensures.chain ∙ ap pending_of c.self.view_is

pub returns-clause-orderly : goal.returns-clause-orderly
returns-clause-orderly c =
    orderly-merged _ _ _ _ _ _ c.self.invariant (c.add.ensures ∙ merged_is _ _ _ _ c.self.invariant c.take_sorted-run.ensures.chain) c.take_sorted-run.ensures.events
