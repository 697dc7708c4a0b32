use Rattle.std.proofs.Common.{◌≡◌, List}
use Rattle.shop_model.specs.declared.class.Class.{Class}
use Rattle.shop_model.specs.Starts.{starts_below}
use Rattle.shop_model.proofs.starts.station_starts.Given as goal

abbrev pub invariant-loop-number : goal.invariant-loop-number
invariant-loop-number l = (classes : List Class) → l.starts.items ≡ starts_below l.stations classes l.number
