-- Changes that fit name lines that are there.
use Rattle.std.proofs.Common.{sym, subst}
use Rattle.delta_exchange.specs.Changes.{AllFit}
use Rattle.delta_exchange.proofs.Room.{fitting_names_lines}
use Rattle.sim_spec.specs.Firing.{ObjectState}
use Rattle.event_firing.proofs.object.Object.take_effect.Goals as goal

pub room-requires : goal.room-requires
room-requires c =
    let Q : ObjectState → Type 0 = λ o. AllFit c.args.changes.now o.cells in
    fitting_names_lines c.args.changes.now c.self.inside.cells.contents (subst Q (sym c.self.view_is) c.requires.fits)
