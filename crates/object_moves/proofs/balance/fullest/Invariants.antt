-- The first of the best so far.
use Rattle.object_moves.specs.Loads.{most_of}
use Rattle.object_moves.proofs.LoadLemmas.{IsFirstUpto}
use Rattle.object_moves.proofs.balance.fullest.Given as goal

abbrev pub invariant-loop-number : goal.invariant-loop-number
invariant-loop-number g l = IsFirstUpto most_of l.fn.world.nodes l.number l.found
