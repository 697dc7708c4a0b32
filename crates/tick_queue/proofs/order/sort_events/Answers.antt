use Rattle.std.proofs.Common.{rules, arith}
use Rattle.event_key.specs.Keys.{key_lt, key_cmp}
use Rattle.model_core.specs.declared.event.Event.{Event}
use Rattle.std.proofs.lemmas.List.Sorted.{answers_always}
use Rattle.key_order.specs.Pending.{in_order}
use Rattle.key_order.proofs.InOrder.{in_order_by_sort}
use Rattle.tick_queue.proofs.OrderLemmas.{numbered_if}
use Rattle.tick_queue.proofs.order.sort_events.Goals as goal

pub returns : goal.returns
unfolding key_lt key_cmp
returns c =
    let old = c.args.events.now.items in
    let new = c.sort_unstable_by_key.new.self.items in
    numbered_if c.number.result new (in_order old) c.number.new.places.items c.len.result (omega (arith, c.len.ensures))
    (in_order_by_sort _ _ c.requires c.sort_unstable_by_key.ensures.permutation
    (c.sort_unstable_by_key.ensures.sorted (λ (e : Event). e.key) (answers_always _ _ _ (λ f a r g h. search rules))))
    c.number.ensures
