-- That the parts of a network are in range has one proof at most.
use Rattle.std.specs.Prelude.{List, ℕ}
use Rattle.queue_models.specs.declared.kind.KindOver.{KindOver}
use Rattle.queue_models.specs.declared.kind.KindOver.TheVariants.{Source}
use Rattle.queue_models.specs.Objects.{Item, NetworkParts}
use Rattle.queue_models.specs.Kinds.{IsKind}
use Rattle.queue_models.specs.Parts.{IsLink, IsNetwork}
use denote.Struct.Props.{props}

IsKind-prop : (objects : List Item) (kind : KindOver ℕ) → IsProp (IsKind (IsLink objects) kind)
IsKind-prop objects (Source source) = hlevel props
IsKind-prop objects other = hlevel props

pub IsNetwork-prop : (p : NetworkParts) → IsProp (IsNetwork p)
IsNetwork-prop p = hlevel (props, IsKind-prop)
