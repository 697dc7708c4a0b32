use Rattle.std.proofs.Common.{◌≡◌, ◌+◌, length}
use Rattle.shop_model.specs.Starts.{starts_below}
use Rattle.shop_model.proofs.starts.add_class_starts.Given as goal

abbrev pub invariant-loop-place : goal.invariant-loop-place
invariant-loop-place l = l.starts.items ≡ starts_below l.stations l.classes (length l.stations + l.place)
