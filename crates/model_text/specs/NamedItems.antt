-- The numbers of an object that was read lie within their bounds.
use Rattle.std.specs.Prelude.{ℕ, ◌≤◌, ◌||◌, not, IsTrue, List}
use Rattle.event_key.specs.declared.key.TheConstants.{MOST_RANK}
use Rattle.queue_models.specs.Kinds.{is_station, IsKind}
use Rattle.text_fields.specs.Names.{is_name}
use Rattle.model_text.specs.Names.{NamedItem}

-- any name may stand for an object, until it is looked for
abbrev pub AnyName : List ℕ → Type 0
AnyName name = Unit {0}

pub record IsNamedItem (object : NamedItem) : Type 0 where
  pub named : IsTrue (is_name object.name)
  pub in_range : IsKind AnyName object.kind
  pub rank : object.rank ≤ MOST_RANK
  pub traced : IsTrue (not object.trace || is_station object.kind)
