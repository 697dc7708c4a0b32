use Rattle.std.proofs.Common.{subst}
use Rattle.tick_queue.specs.Near.{LosesFirst}
use Rattle.tick_queue.specs.Queues.{QueueView}
use Rattle.tick_queue.proofs.QueueLemmas.{first_gone, first_gone_pending, pending_of}
use Rattle.tick_queue.proofs.queue.TickQueue.drop_first.Goals as goal

pub invariant_of-self : goal.invariant_of-self
invariant_of-self c = first_gone c.self.inside.near c.drop_first.new.self c.self.inside.levels.tick c.self.inside.levels.events c.self.invariant c.drop_first.ensures

pub returns-clause-pending : goal.returns-clause-pending
returns-clause-pending c =
    let P : QueueView → Type 0 = λ v. LosesFirst v.pending (pending_of c.drop_first.new.self c.self.inside.levels.events) in
    subst P c.self.view_is (first_gone_pending c.self.inside.near c.drop_first.new.self c.self.inside.levels.events c.drop_first.ensures)
