use Rattle.std.proofs.Common.{ap, subst, sym}
use Rattle.node_team.specs.Readiness.{IsReady}
use Rattle.node_team.proofs.CycleLemmas.{ready-after}
use Rattle.node_team.proofs.team.Team.cycle.Goals as goal

pub invariant_of-self : goal.invariant_of-self
invariant_of-self g c awake =
    let many = ap (λ h. h.nodes) (sym c.cycle.ensures.made.homes) in
    subst (λ n. IsReady g.L.Lanes.nodes g.L.Lanes.are_at_rest n c.cycle.new.kept) many (ready-after _ c.cycle.result c.cycle.new.world.is_spent c.cycle.ensures.ready c.cycle.ensures.spent awake)
