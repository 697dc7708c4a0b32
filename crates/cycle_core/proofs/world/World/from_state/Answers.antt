-- A world at a state.
use Rattle.std.proofs.Common.{ℕ, ◌∙◌, sym, ap, subst}
use Rattle.std.proofs.lemmas.Result.{IfOk-weaker}
use Rattle.cycle_core.specs.Starts.{ArePlaced, ArePlacedBy, CanBegin, world_with}
use Rattle.cycle_core.proofs.world.World.from_state.Goals as goal

pub nodes_of_state-requires-clause-placed : goal.nodes_of_state-requires-clause-placed
nodes_of_state-requires-clause-placed g c lifetimes outlives =
    subst (λ v. ArePlaced (g.M.Model.meaning v) c.in_ok-homes.homes.value) c.deref.ensures c.in_ok-homes.ensures.placed

pub nodes_of_state-requires-clause-lawful : goal.nodes_of_state-requires-clause-lawful
nodes_of_state-requires-clause-lawful g c lifetimes outlives = c.requires.lawful

pub opened-requires-after_bounds : goal.opened-requires-after_bounds
opened-requires-after_bounds g c lifetimes outlives =
    let made = c.in_ok-nodes in
    let B : ℕ → Type 0 = λ count. CanBegin g.M.Model.meaning (world_with c.args.model.value c.args.terms c.in_ok-homes.homes.value made.nodes.items count) made.parcels.items c.args.state in
    (c.args.state, subst B (sym (ap (λ s. s.count) c.state.view_is)) c.in_ok-nodes.ensures)

pub returns-clause-stands : goal.returns-clause-stands
returns-clause-stands g c =
    let made = c.in_ok-nodes in
    let B : ℕ → Type 0 = λ count. CanBegin g.M.Model.meaning (world_with c.args.model.value c.args.terms c.in_ok-homes.homes.value made.nodes.items count) made.parcels.items c.args.state in
    c.opened.ensures.stands c.args.state (subst B (sym (ap (λ s. s.count) c.state.view_is)) c.in_ok-nodes.ensures)

pub returns-clause-model : goal.returns-clause-model
returns-clause-model g c = c.opened.ensures.model

pub returns-clause-terms : goal.returns-clause-terms
returns-clause-terms g c = c.opened.ensures.terms

pub returns-clause-nodes : goal.returns-clause-nodes
returns-clause-nodes g c = IfOk-weaker c.opened.result _ _ (λ w is. ap (λ h. h.nodes) is ∙ c.in_ok-homes.ensures.nodes) c.opened.ensures.homes

pub returns-clause-placed : goal.returns-clause-placed
returns-clause-placed g c = IfOk-weaker c.opened.result _ _ (λ w is. subst (ArePlacedBy c.args.placement) (sym is) (λ object below. c.in_ok-homes.ensures.by object below)) c.opened.ensures.homes

pub returns-clause-new : goal.returns-clause-new
returns-clause-new g c = c.opened.ensures.new
