-- Event by event the first is taken and read, and all go back together.
use Rattle.std.proofs.Common.{◌∙◌, ◌++◌, ◌∷◌, [], length, refl, sym, ap, subst, arith, ◌≡◌, ℕ, suc, ◌+◌, ◌<◌, ◌≤◌, ◌^◌}
use Rattle.key_order.specs.Ascending.{IsAscending}
use Rattle.key_order.specs.Pending.{enqueue_all}
use Rattle.node_core.proofs.FireMarks.{room-popped}
use Rattle.node_core.proofs.QueueFacts.{length-pending}
use Rattle.node_core.proofs.ReadFacts.{pending-up, reading-all, reading-back, reading-few, reading-more, reading-new, reading-start}
use Rattle.node_core.proofs.waiting.put_all.Goals as goal

-- there is room for those that are left
still-room : (len longer all left room same : ℕ) → len + all ≤ room → all ≡ suc left → longer ≡ len + 1 → same ≡ room → longer + left ≤ same
still-room len longer all left room same enough first longer_is same_is = omega arith

-- one fits beside those in hand
one-fits : (hand all left was primary fresh : ℕ) → hand + all ≡ was → all ≡ suc left → was ≡ primary + fresh → primary + fresh < 2 ^ 60 → hand + 1 < 2 ^ 60
one-fits hand all left was primary fresh count first long few = omega arith

-- all that were taken fit again
all-fit : (hand now was left_primary left_fresh end_primary end_fresh primary fresh : ℕ) → hand + now ≡ was → now ≡ left_primary + left_fresh → end_primary ≡ left_primary → end_fresh ≡ left_fresh → was ≡ primary + fresh → primary + fresh < 2 ^ 60
    → hand + end_primary + end_fresh < 2 ^ 60
all-fit hand now was left_primary left_fresh end_primary end_fresh primary fresh count left same_primary same_fresh long few = omega arith

pub loop-event-init : goal.loop-event-init
loop-event-init c = record {
  reading = reading-start c.args.queue.now c.args.into.now.items c.new-hand.result c.reserve.new.self.items c.new-hand.ensures c.in_ok-reserve.ensures.items;
  room = (let R : ℕ → Type 0 = λ n. c.reserve.new.self.len + n ≤ c.reserve.new.self.cap in subst R (c.len.ensures.len ∙ sym (length-pending c.args.queue.now)) c.in_ok-reserve.ensures.ok);
}

pub loop-event-preserved : goal.loop-event-preserved
loop-event-preserved c = record {
  reading = reading-more c.args.queue.now c.args.into.now.items c.loop-event.queue c.pop.new.self c.loop-event.hand c.push_back.new.self c.loop-event.into.items c.push_reserved.new.self.items c.in-Some.event
      c.loop-event.invariant.reading c.in-Some.ensures.least (room-popped c.loop-event.queue c.pop.new.self c.in-Some.event c.in-Some.ensures.ahead c.in-Some.ensures.merged) c.push_back.ensures
      (c.push_reserved.ensures.items ∙ ap (λ e. c.loop-event.into.items ++ e ∷ []) c.get.ensures);
  room = still-room _ _ _ _ _ _ c.loop-event.invariant.room (ap length c.in-Some.ensures.least) c.push_reserved.ensures.len c.push_reserved.ensures.capacity;
}

pub push_back-requires : goal.push_back-requires
push_back-requires c =
    let few = reading-few c.args.queue.now c.args.into.now.items c.loop-event.queue c.loop-event.hand c.loop-event.into.items c.loop-event.invariant.reading in
    one-fits _ _ _ _ _ _ few (ap length c.in-Some.ensures.least) (length-pending c.args.queue.now) c.len.ensures.orderly.few

-- no event is left in the queue
pub give_back-requires-clause-ascending : goal.give_back-requires-clause-ascending
give_back-requires-clause-ascending c =
    let empty = c.in_default.ensures.none.0 refl in
    let all = reading-all c.args.queue.now c.args.into.now.items c.loop-event.queue c.loop-event.hand c.loop-event.into.items c.loop-event.invariant.reading empty.0 empty.1 in
    subst IsAscending (sym all) (pending-up c.args.queue.now c.len.ensures.orderly)

pub give_back-requires-clause-new_keys : goal.give_back-requires-clause-new_keys
give_back-requires-clause-new_keys c =
    let empty = c.in_default.ensures.none.0 refl in
    let same = c.in_default.ensures.unchanged in
    reading-new c.pop.new.self c.loop-event.hand (ap (λ q. q.primary) same ∙ empty.0) (ap (λ q. q.fresh) same ∙ empty.1)

pub give_back-requires-clause-room : goal.give_back-requires-clause-room
give_back-requires-clause-room c =
    let same = c.in_default.ensures.unchanged in
    let primary = ap (λ q. length q.primary) same in
    let fresh = ap (λ q. length q.fresh) same in
    let few = reading-few c.args.queue.now c.args.into.now.items c.loop-event.queue c.loop-event.hand c.loop-event.into.items c.loop-event.invariant.reading in
    all-fit _ _ _ _ _ _ _ _ _ few (length-pending c.loop-event.queue) primary fresh (length-pending c.args.queue.now) c.len.ensures.orderly.few

pub returns-clause-ok : goal.returns-clause-ok
returns-clause-ok c =
    let empty = c.in_default.ensures.none.0 refl in
    c.loop-event.invariant.reading.read_is
    ∙ ap (λ es. c.args.into.now.items ++ es) (reading-all c.args.queue.now c.args.into.now.items c.loop-event.queue c.loop-event.hand c.loop-event.into.items c.loop-event.invariant.reading empty.0 empty.1)

pub returns-clause-same : goal.returns-clause-same
returns-clause-same c =
    let empty = c.in_default.ensures.none.0 refl in
    let same = c.in_default.ensures.unchanged in
    reading-back c.args.queue.now c.args.into.now.items c.loop-event.queue c.loop-event.hand c.loop-event.into.items c.loop-event.invariant.reading empty.0 empty.1 c.give_back.new.self
    (pending-up c.args.queue.now c.len.ensures.orderly) (c.give_back.ensures.primary ∙ ap (λ q. enqueue_all c.loop-event.hand q.primary) same) (c.give_back.ensures.fresh ∙ ap (λ q. q.fresh) same)
