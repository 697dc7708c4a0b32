-- The first of the best so far.
use Rattle.object_moves.specs.Loads.{least_of}
use Rattle.object_moves.proofs.LoadLemmas.{IsFirstUpto}
use Rattle.object_moves.proofs.balance.emptiest.Given as goal

abbrev pub invariant-loop-number : goal.invariant-loop-number
invariant-loop-number g l = IsFirstUpto least_of l.fn.world.nodes l.number l.found
