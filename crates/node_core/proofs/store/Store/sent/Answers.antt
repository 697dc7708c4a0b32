-- What the logs have.
use Rattle.std.proofs.Common.{◌≡◌, ap, ◌∙◌, subst, sym}
use Rattle.sim_spec.specs.Firing.{ObjectState}
use Rattle.node_core.specs.Nodes.{IsHere, log_at}
use Rattle.node_core.specs.Stores.{StoreView}
use Rattle.node_core.proofs.ShownFacts.{if-shown, state-here}
use Rattle.node_core.proofs.store.Store.sent.Goals as goal

pub sent-requires : goal.sent-requires
sent-requires c = let H : StoreView → Type 0 = λ s. IsHere s.logs c.args.object in state-here c.self.inside.logs c.args.object (subst H (sym c.self.view_is) c.requires)

pub returns : goal.returns
returns c =
    let H : StoreView → Type 0 = λ s. IsHere s.logs c.args.object in
    let P : ObjectState → Type 0 = λ s. c.sent.result ≡ s.sent in
    if-shown c.self.inside.logs c.tells.ensures.sound c.tells.ensures.inside P c.args.object (subst H (sym c.self.view_is) c.requires) c.sent.ensures
    ∙ ap (λ (s : StoreView). (log_at s.logs c.args.object).state.sent) c.self.view_is
