use Rattle.std.proofs.Common.{subst, arith}
use Rattle.tick_queue.specs.Queues.{IsSettled}
use Rattle.one_thread.specs.Engines.{Course}
use Rattle.one_thread.proofs.course.Course.settle.Goals as goal

pub returns-then-not-pauses-clause-settled : goal.returns-then-not-pauses-clause-settled
returns-then-not-pauses-clause-settled c =
    let P : Course → Type 0 = λ v. IsSettled v.queue in
    subst P c.self.view_is (λ none. absurd (omega (arith, c.if-not-pauses.ensures)))
