use Rattle.std.proofs.Common.{length, refl, arith}
use Rattle.std.proofs.lemmas.Option.{slice_get_read, slice_get_within}
use Rattle.node_team.specs.Teams.{IsFloorOf}
use Rattle.cycle_core.proofs.PlaceLemmas.{each-more}
use Rattle.node_team.proofs.LeastFloor.{past-lower}
use Rattle.node_team.proofs.SeatingLemmas.{floor-lower}
use Rattle.node_team.proofs.floor.floor_of.Goals as goal

pub loop-node-preserved : goal.loop-node-preserved
loop-node-preserved g c =
    let lower = c.lower_floor-floor.ensures.lower in
    let before = c.loop-node.invariant.0 in
    let here = slice_get_read c.args.nodes.now (length c.args.nodes.now) c.loop-node.node-index c.node-item.result refl (omega arith) c.node-item.is in (
      omega arith,
      each-more (λ number n. IsFloorOf (g.M.Model.meaning n.model) c.lower_floor-floor.result n) c.args.nodes.now c.loop-node.node-index c.node-item.result
          here
          (λ number n below at. floor-lower (g.M.Model.meaning n.model) n c.lower_floor-floor.result c.loop-node.floor lower (c.loop-node.invariant.1 number n below at))
          (λ object at. c.lower_floor-floor.ensures.floor object at),
      past-lower g.M.Model.meaning c.args.nodes.now c.args.end c.loop-node.floor c.lower_floor-floor.result c.loop-node.node-index c.node-item.result here
          c.loop-node.invariant.2 c.lower_floor-floor.ensures.least,
    )

pub returns-clause-floor : goal.returns-clause-floor
returns-clause-floor g c number n at object here = c.loop-node.invariant.1 number n (let lt = slice_get_within c.args.nodes.now number n at in omega arith) at object here
