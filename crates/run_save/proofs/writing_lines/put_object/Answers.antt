-- The cells, and what was sent.
use Rattle.std.proofs.Common.{subst}
use Rattle.sim_spec.specs.Firing.{ObjectState}
use Rattle.run_save.specs.SavedLaws.{FitsObject}
use Rattle.run_save.proofs.writing_lines.put_object.Goals as goal

pub returns-clause-fits : goal.returns-clause-fits
returns-clause-fits c =
    let o : ObjectState = record { cells = c.object.inside.cells.contents; sent = c.object.inside.sent } in
    let fits : FitsObject o = record { cells = c.in_ok-put_cells.ensures.fits; sent = c.in_ok-put_field.ensures.fits } in
    subst (λ (s : ObjectState). FitsObject s) c.object.view_is fits
