-- None is there yet.
use Rattle.event_key.specs.declared.stamp.TheConstants.{NO_STAMP}
use Rattle.object_log.proofs.PileLemmas.{told-none}
use Rattle.object_log.proofs.pile.Pile.reserve.Goals as goal

pub invariant_of-self-in_ok-with_capacity-in-None-2 : goal.invariant_of-self-in_ok-with_capacity-in-None-2
invariant_of-self-in_ok-with_capacity-in-None-2 c = told-none NO_STAMP _ c.in_ok-with_capacity-in-None.ensures.items
