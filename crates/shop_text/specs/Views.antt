-- What the code keeps of a class that was read, in the words of the definitions.
use Rattle.std.specs.Prelude.{ℕ, List, map}
use Rattle.shop_text.specs.declared.named.NamedClass.{NamedClass}
use Rattle.text_fields.specs.Directories.{finder}
use Rattle.text_fields.specs.Checks.{Checked}
use Rattle.text_fields.specs.Fields.{each_of}
use Rattle.text_fields.specs.Names.{Finder}
use Rattle.shop_model.specs.declared.class.Class.{Class}
use Rattle.shop_text.specs.ClassTexts.{ClassText}
use Rattle.shop_text.specs.LinkedRoutes.{linked_class}

abbrev pub class_text : NamedClass → ClassText
class_text named = record { class = named.class; route = named.route.items; labels = finder named.labels }

abbrev pub class_texts : List NamedClass → List ClassText
class_texts named = map class_text named

-- pass two over these
abbrev pub linked_named : Finder → ℕ → List NamedClass → Checked (List Class)
linked_named find first named = each_of (λ at class. linked_class find at (class_text class)) first named
