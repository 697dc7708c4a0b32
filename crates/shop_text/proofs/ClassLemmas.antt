-- Classes that were read, with one more.
use Rattle.std.proofs.Common.{◌≡◌, List, [], ◌∷◌, ◌++◌, refl, ap}
use Rattle.shop_text.specs.declared.named.NamedClass.{NamedClass}
use Rattle.shop_text.specs.ClassTexts.{ClassText}
use Rattle.shop_text.specs.Views.{class_text, class_texts}

pub texts-push : (named : List NamedClass) (more : NamedClass) → class_texts (named ++ more ∷ []) ≡ class_texts named ++ class_text more ∷ []
texts-push [] more = refl
texts-push (class ∷ named) more = ap (λ (texts : List ClassText). class_text class ∷ texts) (texts-push named more)
