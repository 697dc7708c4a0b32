-- What the logs have.
use Rattle.std.proofs.Common.{◌≡◌, ap, ◌∙◌, subst, sym}
use Rattle.sim_spec.specs.Firing.{ObjectState}
use Rattle.node_core.specs.Nodes.{IsHere, log_at}
use Rattle.node_core.specs.Stores.{StoreView}
use Rattle.node_core.proofs.ShownFacts.{if-shown, state-here}
use Rattle.node_core.proofs.store.Store.cells.Goals as goal

pub cells-requires : goal.cells-requires
cells-requires c = let H : StoreView → Type 0 = λ s. IsHere s.logs c.args.object in state-here c.self.inside.logs c.args.object (subst H (sym c.self.view_is) c.requires)

pub returns : goal.returns
returns c =
    let H : StoreView → Type 0 = λ s. IsHere s.logs c.args.object in
    let P : ObjectState → Type 0 = λ s. c.cells.result.now.contents ≡ s.cells in
    if-shown c.self.inside.logs c.tells.ensures.sound c.tells.ensures.inside P c.args.object (subst H (sym c.self.view_is) c.requires) c.cells.ensures
    ∙ ap (λ (s : StoreView). (log_at s.logs c.args.object).state.cells) c.self.view_is
