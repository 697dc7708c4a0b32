use Rattle.std.proofs.Common.{◌≡◌, ◌++◌, drop, length, map}
use Rattle.shop_text.specs.ShopTexts.{with_levels}
use Rattle.shop_text.proofs.body.with_levels.Given as goal

abbrev pub invariant-loop-station : goal.invariant-loop-station
invariant-loop-station l =
    l.levelled.items ++ map (with_levels l.classes) (drop (length l.yielded) l.fn.stations.items) ≡ map (with_levels l.classes) l.fn.stations.items
