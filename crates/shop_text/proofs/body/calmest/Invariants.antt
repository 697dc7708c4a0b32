use Rattle.std.proofs.Common.{◌≡◌, drop}
use Rattle.std.specs.Prelude.{max}
use Rattle.std.specs.List.{fold}
use Rattle.shop_model.specs.declared.class.Class.{Class}
use Rattle.shop_model.specs.ShopParts.{calmest}
use Rattle.shop_text.proofs.body.calmest.Given as goal

abbrev pub invariant-loop-class : goal.invariant-loop-class
invariant-loop-class l =
    fold (λ priority (class : Class). max priority class.priority) l.priority (drop l.class-index l.classes) ≡ calmest l.classes
