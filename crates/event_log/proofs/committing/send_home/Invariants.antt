-- What is left goes behind what is there.
use Rattle.std.proofs.Common.{length}
use Rattle.event_log.proofs.TellFacts.{AreLeft}
use Rattle.event_log.proofs.committing.send_home.Given as goal

abbrev pub invariant-loop-message : goal.invariant-loop-message
invariant-loop-message l = AreLeft l.homes l.fn.messages l.fn.out.items l.messages l.out.items

abbrev pub decreases-loop-message : goal.decreases-loop-message
decreases-loop-message l = length l.messages
