use Rattle.std.proofs.Common.{◌≡◌, ◌^◌, ◌<◌, List, length, sym, ap, ◌∙◌, subst, arith}
use Rattle.std.specs.Prelude.{OnOk}
use Rattle.model_core.specs.declared.event.Event.{Event}
use Rattle.key_order.specs.Ascending.{key_of}
use Rattle.key_order.proofs.KeyLemmas.{Differ-back}
use Rattle.tick_queue.specs.Levels.{HasLeft}
use Rattle.tick_queue.specs.Queues.{QueueView, AreInOrder}
use Rattle.tick_queue.proofs.QueueLemmas.{pending_of, settled_order, settled_pending, settled_hand, settled_left, all_left}
use Rattle.tick_queue.proofs.queue.TickQueue.settle.Goals as goal

pub refill-requires : goal.refill-requires
refill-requires c = Differ-back key_of c.self.inside.near c.self.inside.levels.events c.self.invariant.distinct

pub invariant_of-self : goal.invariant_of-self
invariant_of-self c =
    let few : length c.self.inside.levels.events < 2 ^ 60 = omega (arith, c.self.invariant.few) in
    settled_order c.refill.result c.self.inside.levels c.refill.new.levels c.refill.new.self (Differ-back key_of c.self.inside.near c.self.inside.levels.events c.self.invariant.distinct) few
    c.refill.ensures.ok c.refill.ensures.err c.refill.ensures.left

pub returns-then-is_empty-clause-pending : goal.returns-then-is_empty-clause-pending
returns-then-is_empty-clause-pending c =
    let few : length c.self.inside.levels.events < 2 ^ 60 = omega (arith, c.self.invariant.few) in
    let P : QueueView → Type 0 = λ v. OnOk c.refill.result (pending_of c.refill.new.self c.refill.new.levels.events ≡ v.pending) in
    subst P c.self.view_is
    (settled_pending c.refill.result c.self.inside.levels c.refill.new.levels c.self.inside.near c.refill.new.self (c.is_empty.ensures.0 c.if-is_empty.true)
    (Differ-back key_of c.self.inside.near c.self.inside.levels.events c.self.invariant.distinct) few c.refill.ensures.ok)

pub returns-then-is_empty-clause-settled : goal.returns-then-is_empty-clause-settled
returns-then-is_empty-clause-settled c = settled_hand c.refill.result c.self.inside.levels c.refill.new.levels c.refill.new.self c.refill.ensures.ok

pub returns-then-is_empty-clause-left : goal.returns-then-is_empty-clause-left
returns-then-is_empty-clause-left c =
    let P : QueueView → Type 0 = λ v. HasLeft v.pending (pending_of c.refill.new.self c.refill.new.levels.events) in
    subst P c.self.view_is
    (settled_left c.self.inside.levels c.refill.new.levels c.self.inside.near c.refill.new.self c.refill.result (c.is_empty.ensures.0 c.if-is_empty.true) c.refill.ensures.ok c.refill.ensures.err c.refill.ensures.left)

pub invariant_of-self-2 : goal.invariant_of-self-2
invariant_of-self-2 c =
    let P : List Event → Type 0 = λ es. AreInOrder es c.self.inside.levels.tick c.self.inside.levels.events in
    subst P (sym c.go_on.ensures) c.self.invariant

pub returns-clause-left : goal.returns-clause-left
returns-clause-left c =
    all_left c.args.self.now.pending (pending_of c.go_on.new.self c.self.inside.levels.events)
    (ap (λ es. pending_of es c.self.inside.levels.events) c.go_on.ensures ∙ ap (λ (v : QueueView). v.pending) c.self.view_is)
