-- Event by event the queue is parted.
use Rattle.std.proofs.Common.{◌+◌, length, refl, sym, ap, ◌∙◌, arith, ◌≡◌, ℕ, suc, ◌<◌, ◌^◌}
use Rattle.model_core.specs.declared.event.Event.{Event}
use Rattle.speedes_queue.specs.Queues.{QueueView}
use Rattle.node_core.proofs.FireMarks.{room-popped}
use Rattle.node_core.proofs.MovingWaits.{part-other, part-own, parted-back, parted-own, parted-up}
use Rattle.node_core.proofs.QueueFacts.{length-pending}
use Rattle.node_core.proofs.waiting.take_events.Goals as goal

-- one that was popped fits beside its like
one-fits : (own others all left was primary fresh : ℕ) → own + others + all ≡ was → all ≡ suc left → was ≡ primary + fresh → primary + fresh < 2 ^ 60 → own + 1 < 2 ^ 60
one-fits own others all left was primary fresh count first long few = omega arith

other-fits : (own others all left was primary fresh : ℕ) → own + others + all ≡ was → all ≡ suc left → was ≡ primary + fresh → primary + fresh < 2 ^ 60 → others + 1 < 2 ^ 60
other-fits own others all left was primary fresh count first long few = omega arith

pub push_back-requires : goal.push_back-requires
push_back-requires c =
    one-fits _ _ _ _ _ _ _ c.loop-event.invariant.count (ap length c.in-Some.ensures.least) (length-pending c.args.queue.now) c.len-orderly.ensures.orderly.few

pub loop-event-preserved-then-get-object : goal.loop-event-preserved-then-get-object
loop-event-preserved-then-get-object c =
    part-own c.loop-event.invariant c.in-Some.ensures.least (room-popped _ _ _ c.in-Some.ensures.ahead c.in-Some.ensures.merged)
    c.push_back.new.self (sym (ap (λ (e : Event). e.key.dest) c.get.ensures) ∙ c.if-get-object.true) c.push_back.ensures

pub push_back-requires-else-get-object : goal.push_back-requires-else-get-object
push_back-requires-else-get-object c =
    other-fits _ _ _ _ _ _ _ c.loop-event.invariant.count (ap length c.in-Some.ensures.least) (length-pending c.args.queue.now) c.len-orderly.ensures.orderly.few

pub loop-event-preserved : goal.loop-event-preserved
loop-event-preserved c =
    part-other c.loop-event.invariant c.in-Some.ensures.least (room-popped _ _ _ c.in-Some.ensures.ahead c.in-Some.ensures.merged)
    c.push_back-else-get-object.new.self (λ same. c.if-get-object.false (ap (λ (e : Event). e.key.dest) c.get.ensures ∙ same)) c.push_back-else-get-object.ensures

pub give_back-requires-clause-ascending : goal.give_back-requires-clause-ascending
give_back-requires-clause-ascending c =
    parted-up c.loop-event.invariant (c.in_default.ensures.none.0 refl) c.len-orderly.ensures.orderly

pub give_back-requires-clause-room : goal.give_back-requires-clause-room
give_back-requires-clause-room c =
    let few = c.len-orderly.ensures.orderly.few in
    let long = length-pending c.args.queue.now in
    let count = c.loop-event.invariant.count in
    let same = c.in_default.ensures.unchanged in
    let a = ap (λ (q : QueueView). length q.primary + length q.fresh) same in
    let left = length-pending c.loop-event.queue in
    omega arith

pub returns-clause-own : goal.returns-clause-own
returns-clause-own c = parted-own c.loop-event.invariant (c.in_default.ensures.none.0 refl)

pub returns-clause-rest : goal.returns-clause-rest
returns-clause-rest c =
    parted-back c.loop-event.invariant (c.in_default.ensures.none.0 refl) c.len-orderly.ensures.orderly
    c.pop.new.self c.give_back.new.self c.in_default.ensures.unchanged c.give_back.ensures.primary c.give_back.ensures.fresh
