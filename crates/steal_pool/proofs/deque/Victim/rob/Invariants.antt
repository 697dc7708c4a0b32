use Rattle.std.proofs.Common.{◌≡◌}
use Rattle.crossbeam_deque.specs.Handles.{IsPassOf, stealer_deque, view}
use Rattle.steal_pool.specs.Turns.{Does}
use Rattle.steal_pool.proofs.deque.Victim.rob.Given as goal

abbrev pub invariant-loop : goal.invariant-loop
invariant-loop g l = record {
  deque : stealer_deque l.self-inside.stealer ≡ l.fn.self.deque;
  pass : IsPassOf (stealer_deque l.self-inside.stealer) l.self-inside.pass;
  does : Does g.T.Turn.turned l.fn.self.knows (view l.self-inside.pass) l.fn.done.items l.done.items;
}
