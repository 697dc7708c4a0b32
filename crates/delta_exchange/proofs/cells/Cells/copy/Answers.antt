-- The parts of each line, seen through the line that was made of it.
use Rattle.std.proofs.Common.{refl}
use Rattle.std.proofs.lemmas.Simd.{map-map}
use Rattle.delta_exchange.proofs.cells.Cells.copy.Goals as goal

pub returns-clause-contents : goal.returns-clause-contents
returns-clause-contents c = rw (c.in_ok-lines.ensures, c.in_ok-words.ensures, map-map, c.deref.ensures.value, ← c.self.view_is) refl

pub returns-clause-spare : goal.returns-clause-spare
returns-clause-spare c = rw (c.in_ok-lines.ensures, map-map, c.deref.ensures.value, ← c.self.view_is, map-map) refl
