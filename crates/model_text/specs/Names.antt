-- Objects as a text tells of them, and what stands at a name.
use Rattle.std.specs.Prelude.{ℕ, not, List}
use Rattle.queue_models.specs.declared.kind.ItemOver.{ItemOver}
use Rattle.queue_models.specs.declared.kind.KindOver.{KindOver}
use Rattle.queue_models.specs.Kinds.{is_source}
use Rattle.text_fields.specs.declared.directory.Place.{Place}
use Rattle.text_fields.specs.Names.{Finder, place_from}

-- an object as a text tells of it: those to which it sends are given by their names
abbrev pub NamedKind : Type 0
NamedKind = KindOver (List ℕ)

abbrev pub NamedItem : Type 0
NamedItem = ItemOver (List ℕ)

-- jobs go to every object but a source
abbrev pub place_of : ℕ → NamedItem → Place
place_of number object = record { number = number; takes_links = not (is_source object.kind) }

-- objects are numbered from 0 on, in their order
abbrev pub place_in : List NamedItem → Finder
place_in objects = place_from (λ object. object.name) place_of 0 objects
