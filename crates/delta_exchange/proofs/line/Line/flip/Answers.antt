-- The value read is the line's at the place.
use Rattle.std.proofs.Common.{refl}
use Rattle.std.proofs.lemmas.List.{get_or_read}
use Rattle.delta_exchange.proofs.line.Line.flip.Goals as goal

pub returns : goal.returns
returns c =
    let line = c.self.inside in
    let within = rw (← c.self.view_is) at c.requires in
    let read = get_or_read line.queue.items c.args.place c.index-value.result.now within c.index-value.ensures 0 in
    rw (← c.self.view_is, c.flipped.ensures, read) refl
