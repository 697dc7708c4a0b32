-- One initial event more.
use Rattle.std.proofs.Common.{◌++◌, ◌∷◌, [], length, map, sym, ap, ◌∙◌, arith}
use Rattle.std.specs.List.{range_with_len}
use Rattle.std.proofs.lemmas.List.FromFn.{map-range_with_len_more}
use Rattle.model_core.specs.declared.event.Event.{Event}
use Rattle.sim_spec.specs.State.{start_event}
use Rattle.key_order.specs.Pending.{enqueue_all, in_order}
use Rattle.key_order.proofs.EnqueueLemmas.{length-enqueue}
use Rattle.tick_queue.specs.Queues.{QueueView}
use Rattle.one_thread.proofs.QueueLemmas.{new_key, one_event_more, none_below, in_order_more}
use Rattle.one_thread.proofs.beginning.first_events.Goals as goal

pub loop-i-init : goal.loop-i-init
unfolding enqueue_all
loop-i-init g c =
    let none = ap (λ (q : QueueView). q.pending) c.in_ok-reserve.ensures ∙ c.in_ok-queue.ensures.pending in
    let long = ap length none in
    record {
      pending_is = none;
      serials = none_below 4294967295 0 _ none;
      len = long;
    }

pub push-requires-clause-new_key : goal.push-requires-clause-new_key
push-requires-clause-new_key g c =
    let is = c.first_event.ensures in
    new_key c.first_event.result 4294967295 c.loop-i.i c.loop-i.queue.pending (ap (λ (e : Event). e.key.src) is) (ap (λ (e : Event). e.key.serial) is) c.loop-i.invariant.serials

pub loop-i-preserved : goal.loop-i-preserved
loop-i-preserved g c =
    let is = c.first_event.ensures in
    let m = g.M.Model.meaning c.args.model.now in
    let more = c.in_ok-push.ensures.pending in
    let long = ap length more ∙ length-enqueue c.first_event.result c.loop-i.queue.pending in
    record {
      pending_is = in_order_more (map (start_event m) (range_with_len 0 c.loop-i.i)) c.first_event.result c.loop-i.queue.pending c.push.new.self.pending c.loop-i.invariant.pending_is more
          ∙ ap in_order ((λ i. map (start_event m) (range_with_len 0 c.loop-i.i) ++ is i ∷ []) ∙ sym (map-range_with_len_more (start_event m) 0 c.loop-i.i c.loop-i.i (omega arith)));
      serials = one_event_more 4294967295 c.loop-i.i c.first_event.result c.loop-i.queue.pending c.push.new.self.pending more (ap (λ (e : Event). e.key.serial) is) c.loop-i.invariant.serials;
      len = omega arith;
    }
