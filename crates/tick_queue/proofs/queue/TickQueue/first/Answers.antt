use Rattle.std.proofs.Common.{subst}
use Rattle.std.specs.Prelude.{IfSome}
use Rattle.tick_queue.specs.Near.{StartsWith}
use Rattle.tick_queue.specs.Queues.{QueueView}
use Rattle.tick_queue.proofs.QueueLemmas.{starts_if}
use Rattle.tick_queue.proofs.queue.TickQueue.first.Goals as goal

pub returns-clause-some : goal.returns-clause-some
returns-clause-some c =
    let P : QueueView → Type 0 = λ v. IfSome c.first.result (λ event. StartsWith v.pending event.now) in
    subst P c.self.view_is (starts_if c.self.inside.near c.self.inside.levels.events c.first.result c.first.ensures.some)
