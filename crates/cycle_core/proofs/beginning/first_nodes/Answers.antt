use Rattle.std.specs.Arc.{arc_value}
use Rattle.cycle_core.proofs.StartLemmas.{nodes-more}
use Rattle.cycle_core.proofs.beginning.first_nodes.Goals as goal

pub loop-number-preserved : goal.loop-number-preserved
loop-number-preserved g c = (
  nodes-more (g.M.Model.meaning (arc_value c.args.model.now)) (arc_value c.args.model.now) c.args.terms (arc_value c.args.homes.now) c.loop-number.number c.loop-number.nodes.items c.push_reserved.new.self.items c.in_ok-first_node.field-0
      c.loop-number.invariant.0 c.in_ok-first_node.ensures.made c.in_ok-first_node.ensures.new c.push_reserved.ensures.items,
  rw c.push_reserved.ensures.capacity c.loop-number.invariant.1,
)
