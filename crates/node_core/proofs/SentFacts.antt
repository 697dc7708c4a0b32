-- How many events a log has sent, where no event of it sends more than eight.
use Rattle.std.proofs.Common.{◌+◌, ◌*◌, ◌≤◌, List, [], ◌∷◌, length, arith}
use Rattle.std.specs.List.{AllByRecursion as Each}
use Rattle.sim_spec.specs.Firing.{ObjectState}
use Rattle.object_log.specs.Dones.{Done}
use Rattle.object_log.specs.Logs.{undone}

-- what an object has sent, from what it had before its processed events
pub sent-bound : (s : ObjectState) (ds : List Done) → Each (λ (d : Done). length d.sends ≤ 8) ds → s.sent ≤ (undone s ds).sent + 8 * length ds
unfolding undone
sent-bound s [] few = omega arith
sent-bound s (d ∷ ds) few = let more = sent-bound s ds few.1 in let own = few.0 in omega arith
