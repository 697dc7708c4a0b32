use Rattle.node_team.proofs.CycleLemmas.{closed-if}
use Rattle.node_team.proofs.closing.close_together.Goals as goal

pub returns-clause-closed : goal.returns-clause-closed
returns-clause-closed g c =
    closed-if g.M.Model.meaning c.args.setting.now.ahead c.args.world.now c.advance_world.new.world c.close_cycle.new.self c.in_ok-advance_world.ensures.run c.in_ok-advance_world.ensures.world
    (λ s at. c.in_ok-advance_world.ensures.stands s at) c.close_cycle.ensures.world c.close_cycle.ensures.works (λ s at. c.close_cycle.ensures.stands s at) c.close_cycle.result c.close_cycle.ensures.closed
