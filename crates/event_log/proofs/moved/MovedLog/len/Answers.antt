-- Each item is an event.
use Rattle.std.proofs.Common.{length, ap, arith}
use Rattle.std.proofs.lemmas.List.{length-map}
use Rattle.object_log.specs.Carrying.{Placed}
use Rattle.event_log.specs.Items.{placed, placed_of}
use Rattle.event_log.specs.Moves.{MovedLogView}
use Rattle.event_log.proofs.moved.MovedLog.len.Goals as goal

pub returns : goal.returns
returns c =
    let es = c.self.inside.items.items in
    let one = length-map (placed es) (λ (p : Placed). p.done) in
    let two = length-map es placed_of in
    let view = ap (λ (m : MovedLogView). length m.log.done) c.self.view_is in
    omega (arith, c.len.ensures)
