use Rattle.std.proofs.Common.{◌≡◌, map, take}
use Rattle.delta_exchange.specs.Views.{LineView, unspared}
use Rattle.delta_exchange.proofs.cells.copies_of.Given as goal

abbrev pub invariant-loop-line : goal.invariant-loop-line
invariant-loop-line l = l.copies.items ≡ map (λ (line : LineView). unspared line.values) (take l.line-index l.lines)
