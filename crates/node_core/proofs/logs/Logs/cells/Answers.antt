-- The object stands at its place.
use Rattle.std.proofs.Common.{◌≡◌, ap}
use Rattle.sim_spec.specs.Firing.{ObjectState}
use Rattle.node_core.specs.Logged.{LogsView}
use Rattle.node_core.proofs.LoggedFacts.{noted-state}
use Rattle.node_core.proofs.logs.Logs.cells.Goals as goal

pub returns : goal.returns
returns c =
    let P : ObjectState → Type 0 = λ s. c.cells.result.now.contents ≡ s.cells in
    let found = c.cells.ensures in
    noted-state _ c.self.inside.log c.self.inside.places.items c.args.object c.index.result.now found.0 P c.args.self.now.log c.self.invariant
    (ap (λ (l : LogsView). l.log) c.self.view_is) c.requires c.tells.ensures.sound.apart c.index.ensures found.1 found.2
