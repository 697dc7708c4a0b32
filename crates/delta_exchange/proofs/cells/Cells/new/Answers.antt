-- The parts of each line, seen through the line that was made of it.
use Rattle.std.proofs.lemmas.Simd.{map-map}
use Rattle.delta_exchange.proofs.cells.Cells.new.Goals as goal

pub returns-clause-lines : goal.returns-clause-lines
returns-clause-lines c = rw (c.in_ok-lines.ensures, map-map)

pub returns-clause-spare : goal.returns-clause-spare
returns-clause-spare c = rw (c.in_ok-lines.ensures, map-map)
