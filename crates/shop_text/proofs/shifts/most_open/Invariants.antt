use Rattle.std.proofs.Common.{◌≡◌, drop}
use Rattle.shop_model.specs.ShopParts.{most_open}
use Rattle.shop_text.proofs.shifts.most_open.Given as goal

abbrev pub invariant-loop-shift : goal.invariant-loop-shift
invariant-loop-shift l = most_open l.most (drop l.shift-index l.shifts) ≡ most_open l.servers l.shifts
