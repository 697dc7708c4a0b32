use Rattle.std.proofs.Common.{◌∙◌, arith}
use Rattle.std.proofs.lemmas.List.Sorted.{IsPermutation-trans}
use Rattle.key_order.specs.Joined.{joined}
use Rattle.tick_queue.proofs.SpreadLemmas.{spreads_move, front_begins}
use Rattle.tick_queue.proofs.spread.spread.Goals as goal

pub slot_for-to-requires : goal.slot_for-to-requires
slot_for-to-requires c = (front_begins c.args.now c.args.slot c.loop-event.slots.slots c.in-Some.event.now c.loop-event.invariant.spreads c.in-Some.ensures.some).0

pub loop-event-smaller : goal.loop-event-smaller
loop-event-smaller c =
    let step = spreads_move c.args.now c.args.slot c.slot_for-to.result c.loop-event.slots.slots c.move_front.new.self.slots c.in-Some.event.now c.loop-event.invariant.spreads c.in-Some.ensures.some c.move_front.ensures.long c.move_front.ensures.moves c.slot_for-to.ensures.slot c.slot_for-to.ensures.at in
    omega (arith, step.fewer)

pub loop-event-preserved : goal.loop-event-preserved
loop-event-preserved c =
    let step = spreads_move c.args.now c.args.slot c.slot_for-to.result c.loop-event.slots.slots c.move_front.new.self.slots c.in-Some.event.now c.loop-event.invariant.spreads c.in-Some.ensures.some c.move_front.ensures.long c.move_front.ensures.moves c.slot_for-to.ensures.slot c.slot_for-to.ensures.at in
    record {
      spreads = step.spreads;
      events = IsPermutation-trans (joined c.args.slots.now.slots) (joined c.loop-event.slots.slots) (joined c.move_front.new.self.slots) c.loop-event.invariant.events step.events;
      spare = c.move_front.ensures.spare ∙ c.loop-event.invariant.spare;
    }
