use Rattle.std.proofs.Common.{◌≡◌, ◌-◌, drop}
use Rattle.shop_text.specs.LawTexts.{rising}
use Rattle.shop_text.proofs.laws.rising.Given as goal

abbrev pub invariant-loop-at : goal.invariant-loop-at
invariant-loop-at l = rising l.item (drop (l.at - 1) l.bounds) ≡ rising l.item l.bounds
