use Rattle.std.proofs.Common.{subst}
use Rattle.node_team.specs.Readiness.{IsReady}
use Rattle.node_team.proofs.team.Team.new.Goals as goal

pub invariant_of-result : goal.invariant_of-result
invariant_of-result g c awake = subst (λ n. IsReady g.L.Lanes.nodes g.L.Lanes.are_at_rest n c.in_ok-kept.kept) c.nodes.ensures c.in_ok-kept.ensures
