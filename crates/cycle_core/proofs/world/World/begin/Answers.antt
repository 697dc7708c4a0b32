-- A world at the start.
use Rattle.std.proofs.Common.{sym, subst, ap, ◌∙◌}
use Rattle.std.proofs.lemmas.Result.{IfOk-weaker}
use Rattle.sim_spec.specs.State.{initial_state}
use Rattle.cycle_core.specs.Starts.{ArePlaced, ArePlacedBy}
use Rattle.cycle_core.proofs.world.World.begin.Goals as goal

pub nodes_at_start-requires-after_bounds : goal.nodes_at_start-requires-after_bounds
nodes_at_start-requires-after_bounds g c lifetimes outlives =
    subst (λ v. ArePlaced (g.M.Model.meaning v) c.in_ok-homes.homes.value) c.deref.ensures c.in_ok-homes.ensures.placed

pub opened-requires-after_bounds : goal.opened-requires-after_bounds
opened-requires-after_bounds g c lifetimes outlives = (initial_state (g.M.Model.meaning c.args.model.value), c.in_ok-nodes.ensures)

pub returns-clause-stands : goal.returns-clause-stands
returns-clause-stands g c = c.opened.ensures.stands (initial_state (g.M.Model.meaning c.args.model.value)) c.in_ok-nodes.ensures

pub returns-clause-model : goal.returns-clause-model
returns-clause-model g c = c.opened.ensures.model

pub returns-clause-terms : goal.returns-clause-terms
returns-clause-terms g c = c.opened.ensures.terms

pub returns-clause-nodes : goal.returns-clause-nodes
returns-clause-nodes g c = IfOk-weaker c.opened.result _ _ (λ w is. ap (λ h. h.nodes) is ∙ c.in_ok-homes.ensures.nodes) c.opened.ensures.homes

pub returns-clause-placed : goal.returns-clause-placed
returns-clause-placed g c = IfOk-weaker c.opened.result _ _ (λ w is. subst (ArePlacedBy c.args.placement) (sym is) (λ object below. c.in_ok-homes.ensures.by object below)) c.opened.ensures.homes

pub returns-clause-new : goal.returns-clause-new
returns-clause-new g c = c.opened.ensures.new
