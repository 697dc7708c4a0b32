-- The sends so far are pending, and the next one has a key of its own.
use Rattle.std.proofs.Common.{length, arith, ap, ◌∙◌}
use Rattle.model_core.specs.declared.event.Send.{Send}
use Rattle.model_core.specs.declared.event.Event.{Event}
use Rattle.event_firing.proofs.SendLemmas.{chain_at, ranged_more}
use Rattle.key_order.proofs.EnqueueLemmas.{length-enqueue}
use Rattle.one_thread.proofs.QueueLemmas.{new_key, one_event_more, sent_more, least_more, sent_all, least_all}
use Rattle.one_thread.proofs.sending.send_all.Goals as goal

abbrev none : Send
none = record { dest = 0; delay = 0; kind = 0; a = 0; b = 0; rank = 0 }

pub sent_event-requires-clause-stepping : goal.sent_event-requires-clause-stepping
sent_event-requires-clause-stepping c = (chain_at c.args.cause.now.stamp c.args.sends.now c.loop-send.send-index none c.loop-send-test.true c.loop-send.invariant.stepping).0

pub push-requires-clause-new_key : goal.push-requires-clause-new_key
push-requires-clause-new_key c =
    new_key c.sent_event.result c.args.cause.now.dest c.loop-send.next_serial c.loop-send.queue.pending
    (ap (λ (e : Event). e.key.src) c.sent_event.ensures) (ap (λ (e : Event). e.key.serial) c.sent_event.ensures) c.loop-send.invariant.serials

pub loop-send-preserved : goal.loop-send-preserved
loop-send-preserved c =
    let i = c.loop-send.send-index in
    let sends = c.args.sends.now in
    let cause = c.args.cause.now in
    let serial = c.loop-send.next_serial in
    let pending = c.loop-send.queue.pending in
    let more = c.in_ok-push.ensures.pending in
    let long = ap length more ∙ length-enqueue c.sent_event.result pending in
    record {
      ranged = (c.loop-send.invariant.ranged.0, ranged_more c.loop-send.invariant.ranged.0 sends i c.loop-send-test.true c.loop-send.invariant.ranged.1);
      stepping = (chain_at cause.stamp sends i none c.loop-send-test.true c.loop-send.invariant.stepping).1;
      count = omega arith;
      pending_is = sent_more cause.stamp cause.dest serial sends i none c.sent_event.result pending c.push.new.self.pending _ c.loop-send-test.true c.sent_event.ensures more c.loop-send.invariant.pending_is;
      least_is = least_more cause.stamp cause.dest serial sends i none c.sent_event.result c.loop-send.queue.fresh_least c.push.new.self.fresh_least _ c.loop-send-test.true c.sent_event.ensures
          c.in_ok-push.ensures.fresh_least c.loop-send.invariant.least_is;
      serials = one_event_more cause.dest serial c.sent_event.result pending c.push.new.self.pending more (ap (λ (e : Event). e.key.serial) c.sent_event.ensures) c.loop-send.invariant.serials;
      len = omega arith;
    }

pub returns-clause-pending : goal.returns-clause-pending
returns-clause-pending c =
    sent_all c.args.cause.now.stamp c.args.cause.now.dest c.loop-send.next_serial c.args.sends.now c.loop-send.send-index c.loop-send.queue.pending _ c.loop-send-test.false c.loop-send.invariant.pending_is

pub returns-clause-fresh_least : goal.returns-clause-fresh_least
returns-clause-fresh_least c =
    least_all c.args.cause.now.stamp c.args.cause.now.dest c.loop-send.next_serial c.args.sends.now c.loop-send.send-index c.loop-send.queue.fresh_least _ c.loop-send-test.false c.loop-send.invariant.least_is
