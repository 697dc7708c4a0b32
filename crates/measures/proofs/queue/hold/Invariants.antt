use Rattle.speedes_queue.specs.Serials.{HasSerialsBelow}
use Rattle.measures.proofs.queue.hold.Given as goal

abbrev pub invariant-loop-serial : goal.invariant-loop-serial
invariant-loop-serial l = HasSerialsBelow l.serial l.queue

abbrev pub invariant-loop-serial-2 : goal.invariant-loop-serial-2
invariant-loop-serial-2 l = HasSerialsBelow l.serial l.queue
