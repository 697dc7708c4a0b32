use Rattle.std.proofs.Common.{◌<◌, drop, subst}
use Rattle.std.specs.Prelude.{IfSome, OnSome}
use Rattle.tick_queue.specs.Near.{StartsWith}
use Rattle.tick_queue.specs.Queues.{QueueView}
use Rattle.tick_queue.proofs.QueueLemmas.{starts_behind_if, at_hand_if}
use Rattle.tick_queue.proofs.queue.TickQueue.after_first.Goals as goal

pub returns-clause-some : goal.returns-clause-some
returns-clause-some c =
    let P : QueueView → Type 0 = λ v. IfSome c.after_first.result (λ event. StartsWith (drop c.args.k v.pending) event.now) in
    subst P c.self.view_is (starts_behind_if c.self.inside.near c.self.inside.levels.events c.args.k c.after_first.result c.after_first.ensures.some)

pub returns-clause-at_hand : goal.returns-clause-at_hand
returns-clause-at_hand c =
    let P : QueueView → Type 0 = λ v. OnSome c.after_first.result (c.args.k < v.at_hand) in
    subst P c.self.view_is (at_hand_if c.self.inside.near c.args.k c.after_first.result c.after_first.ensures.some)
